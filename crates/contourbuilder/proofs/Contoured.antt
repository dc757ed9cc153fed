-- From the pass, the packing and the owners to the contract of contours: what contour_rings leaves, with the records' classes and owners in place of bare ones.
-- Assumes nothing.
use mathlib.Core.Path.{◌≡◌, refl, sym, ◌∙◌, ap, ap₂, subst}
use mathlib.Core.Bool.{false}
use mathlib.Core.List.{List, ◌++◌}
use Prim.Native.Nat.{ℕ, min, ◌+◌, ◌*◌, ◌≤◌}
use native.Mathlib.Omega.{arith}
use lib.Ieee.{Float}
use lib.ListN.{length, get_or, take, drop, replicate, length-append, length-drop}
use lib.Seq.{length-take-le, take_at}
use Rattle.error.specs.declared.Refusal.{Refusal}
use Rattle.scope.specs.declared.Level.{Level}
use Rattle.error.specs.declared.Refusal.TheVariants.{PointsShort, DirectoryShort}
use Rattle.scope.specs.Terrain.{Sheet, above_at, terrain}
use Rattle.scope.specs.Stitching.{Line}
use Rattle.scope.specs.Drawing.{segment_count, ring_count, rings_of}
use Rattle.scope.specs.Room.{open_words, link_words, point_words, directory_words}
use Rattle.scope.specs.Tables.{written, packed_points, short_of, bare_by, contour_records}
use Rattle.machine.proofs.Built.{links-kept, packed-points-fill-their-room, short-records-length}
use Rattle.packing.specs.Cleared.{cleared}
use Rattle.extents.specs.Records.{record_count}
use Rattle.regions.specs.Regions.{contour_by}
use Rattle.spreading.proofs.Laws.{written_over}
use Rattle.isoringbuilder.specs.Verdict.{Verdict, refused, passes, room_verdict, output_verdict}
use Rattle.isoringbuilder.specs.Answers.{output_after, built}
use Rattle.isoringbuilder.specs.Pass.{stitched_tables, Passed, Packed}
use Rattle.isoringbuilder.specs.declared.Drawing.{Drawing}
use Rattle.isoringbuilder.proofs.Limits.{outside, segments-fit, peak-fits, points-fit}
use Rattle.isoringbuilder.proofs.Laws.{Done, BuiltAs, refused-facts, rings-refused, short-done}
use Rattle.contourbuilder.specs.Contours.{ContoursBuilt}
use Rattle.contourbuilder.specs.Owning.{records_by, Ownable, owned_directory, OwnersFound}
use Rattle.contourbuilder.proofs.Laid.{Laid, rings-are, workable}
use Rattle.contourbuilder.proofs.Lengths.{contour-length}
use Rattle.contourbuilder.proofs.Sizes.{bare-count, fours, rings-drawn, points-are}
use Rattle.bands.proofs.Stitched.{few-segments}
use Rattle.bands.proofs.Reports.{both-fit}
use Rattle.std.specs.Prelude.{Result, Ok, Err}

-- words that were written stand in front
pub written-front : (words table : List ℕ) (n : ℕ) → n ≡ length words → (n ≤ length (written words table)) × (take n (written words table) ≡ words)
unfolding written
written-front words table n e =
    (omega (arith, length-append words (drop (length words) table)), take_at words (drop (length words) table) n (sym e))

-- clearing asks only for the length and the words past the need
pub cleared-same : (words : ℕ) (table table' : List ℕ) → length table' ≡ length table → drop words table' ≡ drop words table → cleared table' words ≡ cleared table words
unfolding cleared
cleared-same words table table' long past = ap₂ (λ (n : ℕ) (l : List ℕ). replicate (min words n) 0 ++ l) long past

module _ (values : List Float) (level : Level) (dx dy : ℕ) (lines links : List ℕ) where
  abbrev A : Sheet
  A = terrain (above_at level) values dx dy

  pub contours-refused : (answer : Result Drawing Refusal) (why : Refusal) → answer ≡ Err why → (lines' links' : List ℕ) → Passed values level dx dy lines links answer lines' links' → (points directory : List ℕ)
      → ContoursBuilt values level dx dy lines links points directory (Err why) lines' links' points directory
  unfolding output_after
  contours-refused answer why is lines' links' k points directory =
      let rings = rings-refused values level dx dy lines links answer why is lines' links' k points directory in
      let facts = refused-facts values level dx dy lines links answer why is lines' links' k in
      record {
        answers = rings.answers;
        lines_are = rings.lines_are;
        links-are = rings.links-are;
        points-are = rings.points-are;
        directory-is = ap (λ (v : Verdict). output_after v (output_verdict A dx dy (length points) (length directory)) (contour_records (rings_of A dx dy)) directory) (sym facts.0);
      }

  module _ (drawing : Drawing) (lines₁ links₁ : List ℕ) (done : Done values level dx dy lines links drawing lines₁ links₁) (points directory : List ℕ) (answer : Result ℕ Refusal) (points' directory₁ : List ℕ)
      (packed : Packed drawing dx links₁ points directory answer points' directory₁)
      (words : ℕ) (words-need : words ≡ link_words drawing.segments) (filled : ℕ) (filled-need : filled ≡ point_words drawing.segments drawing.rings) where
    -- what packing leaves here
    bare : BuiltAs values level dx dy lines links (packed_points (rings_of A dx dy)) (bare_by short_of 0 0 (rings_of A dx dy)) points directory answer (cleared lines₁ (open_words dx drawing.peak)) (cleared links₁ (link_words drawing.segments)) points' directory₁
    bare = short-done values level dx dy lines links drawing lines₁ links₁ done points directory answer points' directory₁ packed

    abbrev outputs : Verdict
    outputs = output_verdict A dx dy (length points) (length directory)

    words_are : words ≡ link_words (segment_count A dx dy)
    words_are = words-need ∙ ap (λ (d : Drawing). link_words d.segments) done.is-drawing

    filled_is : filled ≡ length (packed_points (rings_of A dx dy))
    filled_is = filled-need ∙ ap (λ (d : Drawing). point_words d.segments d.rings) done.is-drawing ∙ sym (packed-points-fill-their-room A (outside values level dx dy done.sized))

    abbrev front : List ℕ
    front = take filled points'

    links-long : link_words (segment_count A dx dy) ≤ length links₁
    links-long =
        let sized = done.sized in
        let kept = links-kept A (outside values level dx dy sized) lines links done.lines_fit done.links-fit (segments-fit values level dx dy sized) (peak-fits values level dx dy sized) in
        subst (λ (l : List ℕ). link_words (segment_count A dx dy) ≤ length l) (sym done.links-are) (unfold stitched_tables in kept.0)

    -- the answer and the outputs, by the verdict on the outputs
    module _ (is : outputs ≡ passes) where
      answer-is : answer ≡ Ok (ring_count A dx dy)
      unfolding built
      answer-is = bare.answers ∙ ap₂ (λ (v w : Verdict). built v w A dx dy) done.is-passes is

      points-written : points' ≡ written (packed_points (rings_of A dx dy)) points
      unfolding output_after
      points-written = bare.points-are ∙ ap₂ (λ (v w : Verdict). output_after v w (packed_points (rings_of A dx dy)) points) done.is-passes is

      directory-written : directory₁ ≡ written (bare_by short_of 0 0 (rings_of A dx dy)) directory
      unfolding output_after
      directory-written = bare.directory-is ∙ ap₂ (λ (v w : Verdict). output_after v w (bare_by short_of 0 0 (rings_of A dx dy)) directory) done.is-passes is

      bare-length : length (bare_by short_of 0 0 (rings_of A dx dy)) ≡ 4 * ring_count A dx dy
      bare-length = short-records-length A (outside values level dx dy done.sized)

      room-here : directory_words (ring_count A dx dy) ≤ length directory₁
      unfolding output_verdict room_verdict written
      room-here =
          let fits = both-fit PointsShort DirectoryShort (length points) (point_words (segment_count A dx dy) (ring_count A dx dy)) (length directory) (directory_words (ring_count A dx dy)) is in
          let short : List ℕ = bare_by short_of 0 0 (rings_of A dx dy) in
          omega (arith, fits.1, ap length directory-written, length-append short (drop (length short) directory), length-drop (length short) directory)

      filled-there : (filled ≤ length points') × (front ≡ packed_points (rings_of A dx dy))
      filled-there = rw points-written (written-front (packed_points (rings_of A dx dy)) points filled filled_is)

      laid : Laid (rings_of A dx dy) front directory₁
      unfolding written ring_count record_count
      laid = record {
        points-are = filled-there.1;
        records-there = omega (arith, ap length directory-written, bare-length, length-append (bare_by short_of 0 0 (rings_of A dx dy)) (drop (length (bare_by short_of 0 0 (rings_of A dx dy))) directory));
        counts-are = λ r h. ap (λ (l : List ℕ). get_or l (4 * r + 1) 0) directory-written ∙ bare-count 0 0 (rings_of A dx dy) (drop (length (bare_by short_of 0 0 (rings_of A dx dy))) directory) r h;
      }

      ownable-here : Ownable (Ok (ring_count A dx dy)) words links₁ filled points' directory₁
      unfolding Ownable ring_count link_words
      ownable-here =
          let sized = done.sized in
          let long : words ≤ length links₁ = omega (arith, words_are, links-long) in (
            long,
            filled-there.0,
            workable laid (rings-drawn values level dx dy sized)
                (omega (arith, fours values level dx dy sized, few-segments values level dx dy sized))
                (omega (arith, points-are values level dx dy sized, points-fit values level dx dy sized))
                (take words links₁)
                (omega (arith, length-take-le words links₁ long, words_are, fours values level dx dy sized)),
            room-here,
          )

      owned-here : owned_directory false (Ok (ring_count A dx dy)) front directory₁ ≡ written (contour_records (rings_of A dx dy)) directory
      unfolding owned_directory records_by contour_by contour_records ring_count
      owned-here =
          ap (λ (rings : List Line). written (contour_records rings) directory₁) (rings-are laid)
          ∙ ap (written (contour_records (rings_of A dx dy))) directory-written
          ∙ written_over (contour_records (rings_of A dx dy)) (bare_by short_of 0 0 (rings_of A dx dy)) directory (omega (arith, contour-length (rings_of A dx dy), bare-length))

    module _ (why : Refusal) (is : outputs ≡ refused why) where
      answer-refused : answer ≡ Err why
      unfolding built
      answer-refused = bare.answers ∙ ap₂ (λ (v w : Verdict). built v w A dx dy) done.is-passes is

      directory-spared : directory₁ ≡ directory
      unfolding output_after
      directory-spared = bare.directory-is ∙ ap₂ (λ (v w : Verdict). output_after v w (bare_by short_of 0 0 (rings_of A dx dy)) directory) done.is-passes is

    pub ownable : Ownable answer words links₁ filled points' directory₁
    unfolding Ownable
    ownable = by outputs refl
      where
        by : (v : Verdict) → outputs ≡ v → Ownable answer words links₁ filled points' directory₁
        by passes e = subst (λ (a : Result ℕ Refusal). Ownable a words links₁ filled points' directory₁) (sym (answer-is e)) (ownable-here e)
        by (refused why) e = subst (λ (a : Result ℕ Refusal). Ownable a words links₁ filled points' directory₁) (sym (answer-refused why e)) tt

    directory-owned : owned_directory false answer front directory₁ ≡ output_after passes outputs (contour_records (rings_of A dx dy)) directory
    unfolding owned_directory output_after
    directory-owned = by outputs refl
      where
        by : (v : Verdict) → outputs ≡ v → owned_directory false answer front directory₁ ≡ output_after passes outputs (contour_records (rings_of A dx dy)) directory
        by passes e =
            ap (λ (a : Result ℕ Refusal). owned_directory false a front directory₁) (answer-is e) ∙ owned-here e
            ∙ sym (ap (λ (v : Verdict). output_after passes v (contour_records (rings_of A dx dy)) directory) e)
        by (refused why) e =
            ap (λ (a : Result ℕ Refusal). owned_directory false a front directory₁) (answer-refused why e) ∙ directory-spared why e
            ∙ sym (ap (λ (v : Verdict). output_after passes v (contour_records (rings_of A dx dy)) directory) e)

    pub contours-done : (links₂ directory' : List ℕ) → OwnersFound false answer words links₁ links₂ filled points' directory₁ directory'
        → (lines' links' : List ℕ) → lines' ≡ cleared lines₁ (open_words dx drawing.peak) → links' ≡ cleared links₂ words
        → ContoursBuilt values level dx dy lines links points directory answer lines' links' points' directory'
    contours-done links₂ directory' found lines' links' lines-cleared links-cleared = record {
      answers = bare.answers;
      lines_are = lines-cleared ∙ bare.lines_are;
      links-are =
          links-cleared ∙ cleared-same words links₁ links₂ found.as_long found.past-stays
          ∙ ap (cleared links₁) words-need ∙ bare.links-are;
      points-are = bare.points-are;
      directory-is =
          found.directory-is ∙ directory-owned
          ∙ ap (λ (v : Verdict). output_after v outputs (contour_records (rings_of A dx dy)) directory) (sym done.is-passes);
    }

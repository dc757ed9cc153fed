-- From a band's passes, its packing and its owners to the contract of isobands. Assumes nothing.
use mathlib.Core.Path.{◌≡◌, refl, sym, ◌∙◌, ap, ap₂, subst}
use mathlib.Core.Bool.{true}
use mathlib.Core.List.{List, [], ◌∷◌, ◌++◌, append_assoc}
use Prim.Native.Nat.{ℕ, max, ◌+◌, ◌-◌, ◌*◌, ◌≤◌, ◌<◌}
use native.Mathlib.Decide.{dec_lt}
use native.Mathlib.Omega.{arith}
use lib.Ieee.{Float}
use lib.ListN.{length, get_or, take, drop, length-append, length-drop, get_or-append}
use lib.Seq.{sets, length-take-le, drop_at, drop-drop, get_or-append-add}
use Rattle.error.specs.declared.Refusal.{Refusal}
use Rattle.error.specs.declared.Refusal.TheVariants.{PointsShort, DirectoryShort}
use Rattle.scope.specs.Limits.{record_stride}
use Rattle.scope.specs.declared.Level.{Level}
use Rattle.scope.specs.Terrain.{Sheet, above_at, terrain}
use Rattle.scope.specs.Stitching.{Line}
use Rattle.scope.specs.Drawing.{segment_count, ring_count, rings_of, peak}
use Rattle.scope.specs.Room.{open_words, link_words, point_words, directory_words, band_open_words, band_link_words, band_point_words, band_directory_words}
use Rattle.scope.specs.Tables.{written, packed_points, short_of, record_of, bare_by, band_points, band_records}
use Rattle.scope.specs.Band.{band_order}
use Rattle.laws.proofs.Total.{total-append}
use Rattle.laws.proofs.Conservation.{Each}
use Rattle.machine.specs.Machine.{Tables}
use Rattle.machine.specs.Walk.{walk_points, walk_records}
use Rattle.machine.proofs.Built.{packed-points-fill-their-room, short-records-length}
use Rattle.packing.specs.Cleared.{cleared}
use Rattle.packing.proofs.Laws.{stores-from-the-start, cleared-is-zeroed}
use Rattle.extents.specs.Records.{record_count}
use Rattle.regions.specs.Regions.{counted_rings, sorted_by, Workable}
use Rattle.spreading.proofs.Laws.{written_over}
use Rattle.grid.specs.Grid.{Sized}
use Rattle.isoringbuilder.specs.Verdict.{Verdict, refused, passes, after_grid}
use Rattle.isoringbuilder.specs.Answers.{work_after, output_after}
use Rattle.isoringbuilder.specs.Pass.{stitched_tables, pass_table, packed}
use Rattle.isoringbuilder.proofs.Limits.{outside}
use Rattle.bands.specs.Bands.{band_verdict, band_room, band_outputs, band_built, BuiltOver}
use Rattle.bands.specs.Passing.{after_upper, band_drawing, BandPassed, stored_from, BandPacked}
use Rattle.bands.specs.declared.BandDrawing.{BandDrawing}
use Rattle.bands.proofs.Stitched.{StitchedOver, stitched-over, few-segments}
use Rattle.bands.proofs.Passes.{open-needs, link-needs}
use Rattle.bands.proofs.Reports.{both-fit, BandDone, band-refused, two, lines_long, links-long, lines-past, links-past, open-words-are, link-words-are}
use Rattle.contourbuilder.specs.Owning.{records_by, Ownable, owned_directory, OwnersFound}
use Rattle.contourbuilder.proofs.Lengths.{packed-both, band-length}
use Rattle.contourbuilder.proofs.Laid.{Drawn, Laid, rings-are, workable}
use Rattle.contourbuilder.proofs.Sizes.{bare-count, fours, rings-drawn, points-are}
use Rattle.contourbuilder.proofs.Contoured.{written-front, cleared-same}
use Rattle.std.specs.Prelude.{Result, Ok, Err}

-- ---- two runs of words

-- words stored behind the room of others, and these in front of them
two-sets : (front back table : List ℕ) (place : ℕ) → length front ≡ place → length front + length back ≤ length table → sets (stored_from place back table) 0 front ≡ written (front ++ back) table
unfolding stored_from written
two-sets front back table place e h =
    let before : length (take place table) ≡ place = length-take-le place table (omega arith) in
    let rest : length back ≤ length (drop place table) = omega (arith, length-drop place table) in
    let behind : sets (drop place table) 0 back ≡ back ++ drop (length back) (drop place table) = stores-from-the-start (drop place table) back rest in
    let whole : List ℕ = take place table ++ (back ++ drop (length back) (drop place table)) in
    let past : place + length back ≡ length (front ++ back) = omega (arith, length-append front back) in
    ap (λ (l : List ℕ). sets (take place table ++ l) 0 front) behind
    ∙ stores-from-the-start whole front (omega (arith, length-append (take place table) (back ++ drop (length back) (drop place table))))
    ∙ ap (λ (l : List ℕ). front ++ l) (drop_at (take place table) (back ++ drop (length back) (drop place table)) (length front) (before ∙ sym e))
    ∙ ap (λ (l : List ℕ). front ++ (back ++ l)) (drop-drop (length back) place table ∙ ap (λ (n : ℕ). drop n table) past)
    ∙ sym (append_assoc front back (drop (length (front ++ back)) table))

-- ---- two sets of rings

each_both : (P : Line → Type 0) (lower upper : List Line) → Each P lower → Each P upper → Each P (lower ++ upper)
each_both P [] upper e f = f
each_both P (ring ∷ lower) upper e f = (e.0, each_both P lower upper e.1 f)

-- the counts in two runs of bare records
both-counts : (lower upper : List Line) (past : List ℕ) → length (bare_by short_of 0 0 lower) ≡ 4 * length lower → (r : ℕ) → r < length (lower ++ upper)
    → get_or ((bare_by short_of 0 0 lower ++ bare_by short_of 0 0 upper) ++ past) (4 * r + 1) 0 ≡ length (get_or (lower ++ upper) r [])
both-counts lower upper past long r h = by (dec_lt r (length lower))
  where
    order : (bare_by short_of 0 0 lower ++ bare_by short_of 0 0 upper) ++ past ≡ bare_by short_of 0 0 lower ++ (bare_by short_of 0 0 upper ++ past)
    order = append_assoc (bare_by short_of 0 0 lower) (bare_by short_of 0 0 upper) past

    by : Dec (r < length lower) → get_or ((bare_by short_of 0 0 lower ++ bare_by short_of 0 0 upper) ++ past) (4 * r + 1) 0 ≡ length (get_or (lower ++ upper) r [])
    by (yes below) =
        ap (λ (l : List ℕ). get_or l (4 * r + 1) 0) order ∙ bare-count 0 0 lower (bare_by short_of 0 0 upper ++ past) r below ∙ ap length (sym (get_or-append lower upper [] r below))
    by (no over) =
        let s : ℕ = r - length lower in
        let split : r ≡ length lower + s = omega arith in
        let at : 4 * r + 1 ≡ length (bare_by short_of 0 0 lower) + (4 * s + 1) = omega arith in
        ap (λ (l : List ℕ). get_or l (4 * r + 1) 0) order
        ∙ ap (λ (i : ℕ). get_or (bare_by short_of 0 0 lower ++ (bare_by short_of 0 0 upper ++ past)) i 0) at
        ∙ get_or-append-add (bare_by short_of 0 0 lower) (bare_by short_of 0 0 upper ++ past) (4 * s + 1) 0
        ∙ bare-count 0 0 upper past s (omega (arith, length-append lower upper))
        ∙ ap length (sym (ap (λ (i : ℕ). get_or (lower ++ upper) i []) split ∙ get_or-append-add lower upper s []))

-- a band's records are those of its rings, one set after the other, in their order
same-records : (lower upper : List Line) → sorted_by record_of (lower ++ upper) ≡ band_records lower upper
unfolding sorted_by band_records band_order
same-records lower upper = refl

-- ---- from the passes to the contract

-- a build of a refused fit
pub isobands-unfit : (fit : Result (Unit {0}) Refusal) (why : Refusal) → fit ≡ Err why → (L U : Sheet) (dx dy : ℕ) (lines links points directory : List ℕ)
    → BuiltOver fit L U dx dy lines links points directory (Err why) lines links points directory
unfolding band_verdict after_grid band_built work_after output_after
isobands-unfit fit why e L U dx dy lines links points directory =
    subst (λ (f : Result (Unit {0}) Refusal). BuiltOver f L U dx dy lines links points directory (Err why) lines links points directory) (sym e)
    (record { answers = refl; lines_are = refl; links-are = refl; points-are = refl; directory-is = refl })

module _ (values : List Float) (lower upper : Level) (dx dy : ℕ) (lines links : List ℕ) where
  abbrev L : Sheet
  L = terrain (above_at lower) values dx dy

  abbrev U : Sheet
  U = terrain (above_at upper) values dx dy

  pub isobands-refused : (answer : Result BandDrawing Refusal) (why : Refusal) → answer ≡ Err why → (lines' links' marks' : List ℕ) → BandPassed values lower upper dx dy lines links answer lines' links' marks'
      → (points directory : List ℕ) → BuiltOver (Ok tt) L U dx dy lines links points directory (Err why) lines' links' points directory
  unfolding band_built work_after output_after
  isobands-refused answer why is lines' links' marks' k points directory =
      let facts = band-refused values lower upper dx dy lines links answer why is lines' links' marks' k in
      let w : Verdict = band_outputs L U dx dy (length points) (length directory) in
      record {
        answers = ap (λ (v : Verdict). band_built v w L U dx dy) (sym facts.0);
        lines_are = facts.1 ∙ ap (λ (v : Verdict). work_after v (band_open_words dx (peak L dx dy) (peak U dx dy)) lines) (sym facts.0);
        links-are = facts.2 ∙ ap (λ (v : Verdict). work_after v (band_link_words (segment_count L dx dy) (segment_count U dx dy)) links) (sym facts.0);
        points-are = ap (λ (v : Verdict). output_after v w (band_points (rings_of L dx dy) (rings_of U dx dy)) points) (sym facts.0);
        directory-is = ap (λ (v : Verdict). output_after v w (band_records (rings_of L dx dy) (rings_of U dx dy)) directory) (sym facts.0);
      }

  module _ (sized : Sized (length values) dx dy) {drawing : BandDrawing} {lines₁ links₁ : List ℕ} (done : BandDone values lower upper dx dy lines links drawing lines₁ links₁)
      (points directory : List ℕ) (answer : Result ℕ Refusal) (lines₂ links₂ points' directory₁ : List ℕ)
      (packs : BandPacked (terrain (above_at lower) values dx dy) dx dy drawing lines₁ links₁ points directory answer lines₂ links₂ points' directory₁)
      (filled : ℕ) (filled-need : filled ≡ band_point_words drawing.lower_segments drawing.lower_rings drawing.upper_segments drawing.upper_rings) where
    abbrev outputs : Verdict
    outputs = band_outputs L U dx dy (length points) (length directory)

    abbrev open-need : ℕ
    open-need = band_open_words dx (peak L dx dy) (peak U dx dy)

    abbrev link-need : ℕ
    link-need = band_link_words (segment_count L dx dy) (segment_count U dx dy)

    abbrev last : Tables
    last = after_upper L U dx dy lines links

    abbrev again : Tables
    again = stitched_tables L dx dy lines₁ links₁

    -- the lower set, stitched once more
    three : StitchedOver L dx dy lines₁ links₁ again
    three =
        stitched-over values lower dx dy sized lines₁ links₁
        (omega (arith, (open-needs dx (peak L dx dy) (peak U dx dy)).0, done.lines_fit, lines_long values lower upper dx dy lines links sized done))
        (omega (arith, (link-needs (segment_count L dx dy) (segment_count U dx dy)).0, done.links-fit, links-long values lower upper dx dy lines links sized done))

    -- the drawing's numbers are the sets'
    room-is : band_room drawing.lower_segments drawing.lower_rings drawing.upper_segments drawing.upper_rings (length points) (length directory) ≡ outputs
    unfolding band_outputs band_drawing
    room-is = ap (λ (d : BandDrawing). band_room d.lower_segments d.lower_rings d.upper_segments d.upper_rings (length points) (length directory)) done.is-drawing

    rings-are-both : drawing.lower_rings + drawing.upper_rings ≡ ring_count L dx dy + ring_count U dx dy
    unfolding band_drawing
    rings-are-both = ap (λ (d : BandDrawing). d.lower_rings + d.upper_rings) done.is-drawing

    -- what the walks along the links store
    upper-points : walk_points dx links₁ drawing.head drawing.head drawing.upper_segments ≡ packed_points (rings_of U dx dy)
    unfolding band_drawing
    upper-points =
        ap₂ (λ (l : List ℕ) (d : BandDrawing). walk_points dx l d.head d.head d.upper_segments) done.links-are done.is-drawing
        ∙ (two values lower upper dx dy lines links sized done).points-are

    upper-records : walk_records links₁ 0 0 drawing.head drawing.upper_segments ≡ bare_by short_of 0 0 (rings_of U dx dy)
    unfolding band_drawing
    upper-records =
        ap₂ (λ (l : List ℕ) (d : BandDrawing). walk_records l 0 0 d.head d.upper_segments) done.links-are done.is-drawing
        ∙ (two values lower upper dx dy lines links sized done).records-are

    lower-points : walk_points dx again.links again.progress.head again.progress.head drawing.lower_segments ≡ packed_points (rings_of L dx dy)
    unfolding band_drawing
    lower-points =
        ap (λ (d : BandDrawing). walk_points dx again.links again.progress.head again.progress.head d.lower_segments) done.is-drawing ∙ three.points-are

    lower-records : walk_records again.links 0 0 again.progress.head drawing.lower_segments ≡ bare_by short_of 0 0 (rings_of L dx dy)
    unfolding band_drawing
    lower-records =
        ap (λ (d : BandDrawing). walk_records again.links 0 0 again.progress.head d.lower_segments) done.is-drawing ∙ three.records-are

    -- how long they are
    lower-words : length (packed_points (rings_of L dx dy)) ≡ point_words (segment_count L dx dy) (ring_count L dx dy)
    lower-words = packed-points-fill-their-room L (outside values lower dx dy sized)

    upper-words : length (packed_points (rings_of U dx dy)) ≡ point_words (segment_count U dx dy) (ring_count U dx dy)
    upper-words = packed-points-fill-their-room U (outside values upper dx dy sized)

    lower-length : length (bare_by short_of 0 0 (rings_of L dx dy)) ≡ 4 * ring_count L dx dy
    lower-length = short-records-length L (outside values lower dx dy sized)

    upper-length : length (bare_by short_of 0 0 (rings_of U dx dy)) ≡ 4 * ring_count U dx dy
    upper-length = short-records-length U (outside values upper dx dy sized)

    filled_is : filled ≡ length (packed_points (rings_of L dx dy) ++ packed_points (rings_of U dx dy))
    unfolding band_drawing band_point_words
    filled_is =
        let sets-are : filled ≡ band_point_words (segment_count L dx dy) (ring_count L dx dy) (segment_count U dx dy) (ring_count U dx dy) =
        filled-need ∙ ap (λ (d : BandDrawing). band_point_words d.lower_segments d.lower_rings d.upper_segments d.upper_rings) done.is-drawing in
        omega (arith, sets-are, length-append (packed_points (rings_of L dx dy)) (packed_points (rings_of U dx dy)), lower-words, upper-words)

    abbrev front : List ℕ
    front = take filled points'

    point-place : length (packed_points (rings_of L dx dy)) ≡ point_words drawing.lower_segments drawing.lower_rings
    unfolding band_drawing
    point-place = lower-words ∙ sym (ap (λ (d : BandDrawing). point_words d.lower_segments d.lower_rings) done.is-drawing)

    record-place : length (bare_by short_of 0 0 (rings_of L dx dy)) ≡ 4 * drawing.lower_rings
    unfolding band_drawing
    record-place = lower-length ∙ sym (ap (λ (d : BandDrawing). 4 * d.lower_rings) done.is-drawing)

    module _ (is : outputs ≡ passes) where
      room : (band_point_words (segment_count L dx dy) (ring_count L dx dy) (segment_count U dx dy) (ring_count U dx dy) ≤ length points) × (band_directory_words (ring_count L dx dy) (ring_count U dx dy) ≤ length directory)
      unfolding band_outputs band_room
      room = both-fit PointsShort DirectoryShort (length points) (band_point_words (segment_count L dx dy) (ring_count L dx dy) (segment_count U dx dy) (ring_count U dx dy)) (length directory) (band_directory_words (ring_count L dx dy) (ring_count U dx dy)) is

      answer-is : answer ≡ Ok (ring_count L dx dy + ring_count U dx dy)
      unfolding packed
      answer-is = packs.answers ∙ ap₂ packed (room-is ∙ is) rings-are-both

      points-written : points' ≡ written (packed_points (rings_of L dx dy) ++ packed_points (rings_of U dx dy)) points
      unfolding pass_table band_point_words
      points-written =
          packs.points-are
          ∙ ap (λ (v : Verdict). pass_table v points (sets (stored_from (point_words drawing.lower_segments drawing.lower_rings) (walk_points dx links₁ drawing.head drawing.head drawing.upper_segments) points) 0
          (walk_points dx again.links again.progress.head again.progress.head drawing.lower_segments))) (room-is ∙ is)
          ∙ ap₂ (λ (back front : List ℕ). sets (stored_from (point_words drawing.lower_segments drawing.lower_rings) back points) 0 front) upper-points lower-points
          ∙ two-sets (packed_points (rings_of L dx dy)) (packed_points (rings_of U dx dy)) points (point_words drawing.lower_segments drawing.lower_rings) point-place (omega (arith, room.0, lower-words, upper-words))

      directory-written : directory₁ ≡ written (bare_by short_of 0 0 (rings_of L dx dy) ++ bare_by short_of 0 0 (rings_of U dx dy)) directory
      unfolding pass_table band_directory_words directory_words record_stride
      directory-written =
          packs.directory-is
          ∙ ap (λ (v : Verdict). pass_table v directory (sets (stored_from (4 * drawing.lower_rings) (walk_records links₁ 0 0 drawing.head drawing.upper_segments) directory) 0
          (walk_records again.links 0 0 again.progress.head drawing.lower_segments))) (room-is ∙ is)
          ∙ ap₂ (λ (back front : List ℕ). sets (stored_from (4 * drawing.lower_rings) back directory) 0 front) upper-records lower-records
          ∙ two-sets (bare_by short_of 0 0 (rings_of L dx dy)) (bare_by short_of 0 0 (rings_of U dx dy)) directory (4 * drawing.lower_rings) record-place (omega (arith, room.1, lower-length, upper-length))

      abbrev rings : List Line
      rings = rings_of L dx dy ++ rings_of U dx dy

      abbrev records : List ℕ
      records = bare_by short_of 0 0 (rings_of L dx dy) ++ bare_by short_of 0 0 (rings_of U dx dy)

      rings-length : length rings ≡ ring_count L dx dy + ring_count U dx dy
      unfolding ring_count
      rings-length = length-append (rings_of L dx dy) (rings_of U dx dy)

      records-length : length records ≡ 4 * length rings
      records-length = omega (arith, length-append (bare_by short_of 0 0 (rings_of L dx dy)) (bare_by short_of 0 0 (rings_of U dx dy)), lower-length, upper-length, rings-length)

      room-here : directory_words (ring_count L dx dy + ring_count U dx dy) ≤ length directory₁
      unfolding band_directory_words written
      room-here = omega (arith, room.1, ap length directory-written, length-append records (drop (length records) directory), length-drop (length records) directory)

      filled-there : (filled ≤ length points') × (front ≡ packed_points (rings_of L dx dy) ++ packed_points (rings_of U dx dy))
      filled-there = rw points-written (written-front (packed_points (rings_of L dx dy) ++ packed_points (rings_of U dx dy)) points filled filled_is)

      laid : Laid rings front directory₁
      unfolding written ring_count record_count
      laid = record {
        points-are = filled-there.1 ∙ sym (packed-both (rings_of L dx dy) (rings_of U dx dy));
        records-there = omega (arith, ap length directory-written, records-length, length-append records (drop (length records) directory));
        counts-are = λ r h.
            ap (λ (l : List ℕ). get_or l (4 * r + 1) 0) directory-written
            ∙ both-counts (rings_of L dx dy) (rings_of U dx dy) (drop (length records) directory) lower-length r h;
      }

      ownable-here : (words : ℕ) → words ≡ link-need → length links₂ ≡ length links → Ownable (Ok (ring_count L dx dy + ring_count U dx dy)) words links₂ filled points' directory₁
      unfolding Ownable band_link_words link_words
      ownable-here words need long₂ =
          let long : words ≤ length links₂ = omega (arith, need, long₂, done.links-fit) in
          let four = fours values lower dx dy sized in
          let four' = fours values upper dx dy sized in
          let few = few-segments values lower dx dy sized in
          let few' = few-segments values upper dx dy sized in (
            long,
            filled-there.0,
            subst (λ (n : ℕ). Workable front directory₁ (take words links₂) n) rings-length
                (workable laid (each_both Drawn (rings_of L dx dy) (rings_of U dx dy) (rings-drawn values lower dx dy sized) (rings-drawn values upper dx dy sized))
                (omega (arith, rings-length, four, four', few, few'))
                (omega (arith, total-append length (rings_of L dx dy) (rings_of U dx dy), points-are values lower dx dy sized, points-are values upper dx dy sized, four, four', few, few'))
                (take words links₂)
                (omega (arith, length-take-le words links₂ long, rings-length, four, four', need))),
            room-here,
          )

      owned-here : owned_directory true (Ok (ring_count L dx dy + ring_count U dx dy)) front directory₁ ≡ written (band_records (rings_of L dx dy) (rings_of U dx dy)) directory
      unfolding owned_directory records_by
      owned-here =
          ap (λ (n : ℕ). written (sorted_by record_of (counted_rings front directory₁ 0 n)) directory₁) (sym rings-length)
          ∙ ap (λ (l : List Line). written (sorted_by record_of l) directory₁) (rings-are laid)
          ∙ ap₂ written (same-records (rings_of L dx dy) (rings_of U dx dy)) directory-written
          ∙ written_over (band_records (rings_of L dx dy) (rings_of U dx dy)) records directory
          (omega (arith, band-length (rings_of L dx dy) (rings_of U dx dy), records-length, length-append (rings_of L dx dy) (rings_of U dx dy)))

    module _ (why : Refusal) (is : outputs ≡ refused why) where
      answer-refused : answer ≡ Err why
      unfolding packed
      answer-refused = packs.answers ∙ ap (λ (v : Verdict). packed v (drawing.lower_rings + drawing.upper_rings)) (room-is ∙ is)

    -- the work tables, whichever way the packing went
    table_kept : (need : ℕ) (table table₁ new table₂ : List ℕ) (v : Verdict) → table₂ ≡ pass_table v table₁ new → length table₁ ≡ length table → drop need table₁ ≡ drop need table
        → length new ≡ length table₁ → drop need new ≡ drop need table₁ → (length table₂ ≡ length table) × (drop need table₂ ≡ drop need table)
    unfolding pass_table
    table_kept need table table₁ new table₂ (refused why) e a b c d = (ap length e ∙ a, ap (drop need) e ∙ b)
    table_kept need table table₁ new table₂ passes e a b c d = (ap length e ∙ c ∙ a, ap (drop need) e ∙ d ∙ b)

    abbrev room-verdict : Verdict
    room-verdict = band_room drawing.lower_segments drawing.lower_rings drawing.upper_segments drawing.upper_rings (length points) (length directory)

    lines-kept : (length lines₂ ≡ length lines) × (drop open-need lines₂ ≡ drop open-need lines)
    lines-kept =
        table_kept open-need lines lines₁ again.lines lines₂ room-verdict packs.lines_are (lines_long values lower upper dx dy lines links sized done) (lines-past values lower upper dx dy lines links sized done)
        three.lines_long (three.lines-past open-need (open-needs dx (peak L dx dy) (peak U dx dy)).0)

    links-kept : (length links₂ ≡ length links) × (drop link-need links₂ ≡ drop link-need links)
    links-kept =
        table_kept link-need links links₁ again.links links₂ room-verdict packs.links-are (links-long values lower upper dx dy lines links sized done) (links-past values lower upper dx dy lines links sized done)
        three.links-long (three.links-past link-need (link-needs (segment_count L dx dy) (segment_count U dx dy)).0)

    -- the answer and the outputs, by the verdict on the outputs
    answers-are : (v : Verdict) → outputs ≡ v → answer ≡ band_built passes outputs L U dx dy
    unfolding band_built
    answers-are passes e = answer-is e ∙ sym (ap (λ (v : Verdict). band_built passes v L U dx dy) e)
    answers-are (refused why) e = answer-refused why e ∙ sym (ap (λ (v : Verdict). band_built passes v L U dx dy) e)

    points-out : (v : Verdict) → outputs ≡ v → points' ≡ output_after passes outputs (band_points (rings_of L dx dy) (rings_of U dx dy)) points
    unfolding output_after band_points pass_table
    points-out passes e =
        points-written e ∙ ap (λ (l : List ℕ). written l points) (sym (packed-both (rings_of L dx dy) (rings_of U dx dy)))
        ∙ sym (ap (λ (v : Verdict). output_after passes v (band_points (rings_of L dx dy) (rings_of U dx dy)) points) e)
    points-out (refused why) e =
        packs.points-are
        ∙ ap (λ (v : Verdict). pass_table v points (sets (stored_from (point_words drawing.lower_segments drawing.lower_rings) (walk_points dx links₁ drawing.head drawing.head drawing.upper_segments) points) 0
        (walk_points dx again.links again.progress.head again.progress.head drawing.lower_segments))) (room-is ∙ e)
        ∙ sym (ap (λ (v : Verdict). output_after passes v (band_points (rings_of L dx dy) (rings_of U dx dy)) points) e)

    directory-spared : (why : Refusal) → outputs ≡ refused why → directory₁ ≡ directory
    unfolding pass_table
    directory-spared why e =
        packs.directory-is
        ∙ ap (λ (v : Verdict). pass_table v directory (sets (stored_from (4 * drawing.lower_rings) (walk_records links₁ 0 0 drawing.head drawing.upper_segments) directory) 0
        (walk_records again.links 0 0 again.progress.head drawing.lower_segments))) (room-is ∙ e)

    directory-out : (v : Verdict) → outputs ≡ v → owned_directory true answer front directory₁ ≡ output_after passes outputs (band_records (rings_of L dx dy) (rings_of U dx dy)) directory
    unfolding output_after owned_directory
    directory-out passes e =
        ap (λ (a : Result ℕ Refusal). owned_directory true a front directory₁) (answer-is e) ∙ owned-here e
        ∙ sym (ap (λ (v : Verdict). output_after passes v (band_records (rings_of L dx dy) (rings_of U dx dy)) directory) e)
    directory-out (refused why) e =
        ap (λ (a : Result ℕ Refusal). owned_directory true a front directory₁) (answer-refused why e) ∙ directory-spared why e
        ∙ sym (ap (λ (v : Verdict). output_after passes v (band_records (rings_of L dx dy) (rings_of U dx dy)) directory) e)

    module _ (words most : ℕ) (words_are : words ≡ link_words most) (most-is : most ≡ max drawing.lower_segments drawing.upper_segments) where
      need-is : words ≡ link-need
      need-is = words_are ∙ ap link_words most-is ∙ link-words-are values lower upper dx dy lines links sized done

      pub band-ownable : Ownable answer words links₂ filled points' directory₁
      unfolding Ownable
      band-ownable = by outputs refl
        where
          by : (v : Verdict) → outputs ≡ v → Ownable answer words links₂ filled points' directory₁
          by passes e = subst (λ (a : Result ℕ Refusal). Ownable a words links₂ filled points' directory₁) (sym (answer-is e)) (ownable-here e words need-is links-kept.0)
          by (refused why) e = subst (λ (a : Result ℕ Refusal). Ownable a words links₂ filled points' directory₁) (sym (answer-refused why e)) tt

      pub isobands-done : (links₃ directory' : List ℕ) → OwnersFound true answer words links₂ links₃ filled points' directory₁ directory' → (lines' links' : List ℕ) → lines' ≡ cleared lines₂ (open_words dx drawing.peak) → links' ≡ cleared links₃ words
          → BuiltOver (Ok tt) L U dx dy lines links points directory answer lines' links' points' directory'
      unfolding work_after
      isobands-done links₃ directory' found lines' links' el ek =
          record {
            answers = answers-are outputs refl ∙ ap (λ (v : Verdict). band_built v outputs L U dx dy) (sym done.is-passes);
            lines_are =
                el ∙ ap (cleared lines₂) (open-words-are values lower upper dx dy lines links sized done)
                ∙ cleared-is-zeroed open-need lines lines₂ (omega (arith, done.lines_fit, lines-kept.0)) lines-kept.1
                ∙ ap (λ (v : Verdict). work_after v open-need lines) (sym done.is-passes);
            links-are =
                ek ∙ cleared-same words links₂ links₃ found.as_long found.past-stays ∙ ap (cleared links₂) need-is
                ∙ cleared-is-zeroed link-need links links₂ (omega (arith, done.links-fit, links-kept.0)) links-kept.1
                ∙ ap (λ (v : Verdict). work_after v link-need links) (sym done.is-passes);
            points-are = points-out outputs refl ∙ ap (λ (v : Verdict). output_after v outputs (band_points (rings_of L dx dy) (rings_of U dx dy)) points) (sym done.is-passes);
            directory-is = found.directory-is ∙ directory-out outputs refl ∙ ap (λ (v : Verdict). output_after v outputs (band_records (rings_of L dx dy) (rings_of U dx dy)) directory) (sym done.is-passes);
          }

-- From the pass and the packing to the contracts of the second report and contour_rings, and to that of any build whose points or records are other words of
-- the same rings. Assumes nothing.
use mathlib.Core.Path.{◌≡◌, refl, sym, ◌∙◌, ap, subst}
use mathlib.Core.Bool.{Bool, true, false, cond}
use mathlib.Core.List.{List}
use Prim.Native.Nat.{ℕ, ◌+◌, ◌*◌, ◌≤◌}
use native.Mathlib.Omega.{arith}
use lib.Dec.{ltb}
use lib.Ieee.{Float}
use lib.ListN.{length, drop}
use lib.Seq.{sets}
use borrow.Author.Tests.{ltb-false}
use Rattle.error.specs.declared.Refusal.{Refusal}
use Rattle.error.specs.declared.Refusal.TheVariants.{OpenShort, LinksShort}
use Rattle.scope.specs.declared.Level.{Level}
use Rattle.scope.specs.Terrain.{Sheet, above_at, terrain}
use Rattle.scope.specs.Drawing.{segment_count, ring_count, rings_of, peak}
use Rattle.scope.specs.Limits.{record_stride}
use Rattle.scope.specs.Room.{open_words, link_words, point_count, point_words, directory_words}
use Rattle.scope.specs.Tables.{zeroed, written, packed_points, short_of, bare_by, bare_records}
use Rattle.laws.proofs.Edges.{Outside}
use Rattle.machine.specs.Machine.{Tables}
use Rattle.machine.specs.Walk as walk
use Rattle.machine.specs.Walk.{walk_words, walk_points, walk_records}
use Rattle.machine.proofs.Built.{points-found, records-found, lines-kept, links-kept, packed-points-fill-their-room, records-fill-their-room, short-records-length}
use Rattle.packing.specs.Cleared.{cleared}
use Rattle.packing.proofs.Laws.{stores-from-the-start, cleared-is-zeroed}
use Rattle.spreading.proofs.Laws.{bare-written}
use Rattle.grid.specs.Grid.{grid_fit, Sized}
use Rattle.grid.proofs.Laws.{a-grid-that-fits-is-sized}
use Rattle.isoringbuilder.specs.Verdict.{Verdict, refused, passes, after_grid, work_verdict, room_verdict, output_verdict}
use Rattle.isoringbuilder.specs.Answers.{work_after, output_after, reported, built, above, on_entry, on_outputs, SecondReported, RingsBuilt}
use Rattle.isoringbuilder.specs.Pass.{stitched_tables, passed, pass_table, packed, spread_out, Passed, Packed, PackedWhole}
use Rattle.isoringbuilder.specs.declared.Drawing.{Drawing}
use Rattle.isoringbuilder.proofs.Limits.{outside, segments-fit, points-fit, peak-fits, columns-fit, rows_fit}
use Rattle.isoringbuilder.proofs.Packing.{PackedAs, short_records, of-packed}
use Rattle.std.specs.Prelude.{Result, Ok, Err}

-- a verdict that passes: the grid fits, and so do both tables
record Fitting (fit : Result (Unit {0}) Refusal) (m need n need' : ℕ) : Type 0 where
  grid : fit ≡ Ok tt
  first : need ≤ m
  second : need' ≤ n

fitting : (fit : Result (Unit {0}) Refusal) (m need n need' : ℕ) → after_grid fit (cond (ltb m need) (refused OpenShort) (cond (ltb n need') (refused LinksShort) passes)) ≡ passes → Fitting fit m need n need'
unfolding after_grid
fitting (Err why) m need n need' e = absurd (let z : ◌≡◌ {A = ℕ} 0 1 = cc in omega arith)
fitting (Ok _) m need n need' e = by (ltb m need) (ltb n need') refl refl e
  where
    by : (a b : Bool) → ltb m need ≡ a → ltb n need' ≡ b → cond a (refused OpenShort) (cond b (refused LinksShort) passes) ≡ passes → Fitting (Ok tt) m need n need'
    by true b ea eb k = absurd (let z : ◌≡◌ {A = ℕ} 0 1 = cc in omega arith)
    by false true ea eb k = absurd (let z : ◌≡◌ {A = ℕ} 0 1 = cc in omega arith)
    by false false ea eb k = record { grid = refl; first = ltb-false m need ea; second = ltb-false n need' eb }

module _ (values : List Float) (level : Level) (dx dy : ℕ) (lines links : List ℕ) where
  abbrev A : Sheet
  A = terrain (above_at level) values dx dy

  abbrev verdict : Verdict
  verdict = work_verdict (terrain (above_at level) values dx dy) (length values) dx dy (length lines) (length links)

  abbrev stitched : Tables
  stitched = stitched_tables (terrain (above_at level) values dx dy) dx dy lines links

  -- what is known after a pass that was done
  pub record Done (drawing : Drawing) (lines' links' : List ℕ) : Type 0 where
    pub is-passes : work_verdict (terrain (above_at level) values dx dy) (length values) dx dy (length lines) (length links) ≡ passes
    pub is-drawing : drawing ≡ record {
      segments = segment_count (terrain (above_at level) values dx dy) dx dy;
      peak = peak (terrain (above_at level) values dx dy) dx dy;
      rings = ring_count (terrain (above_at level) values dx dy) dx dy;
      head = (stitched_tables (terrain (above_at level) values dx dy) dx dy lines links).progress.head;
    }
    pub lines_are : lines' ≡ (stitched_tables (terrain (above_at level) values dx dy) dx dy lines links).lines
    pub links-are : links' ≡ (stitched_tables (terrain (above_at level) values dx dy) dx dy lines links).links
    pub sized : Sized (length values) dx dy
    pub lines_fit : open_words dx (peak (terrain (above_at level) values dx dy) dx dy) ≤ length lines
    pub links-fit : link_words (segment_count (terrain (above_at level) values dx dy) dx dy) ≤ length links

  pub done-facts : (answer : Result Drawing Refusal) (drawing : Drawing) → answer ≡ Ok drawing → (lines' links' : List ℕ) → Passed values level dx dy lines links answer lines' links' → Done drawing lines' links'
  unfolding passed pass_table
  done-facts answer drawing is lines' links' k = by verdict refl (sym is ∙ k.answers) k.lines_are k.links-are
    where
      by : (v : Verdict) → verdict ≡ v → Ok drawing ≡ passed v A dx dy stitched → lines' ≡ pass_table v lines stitched.lines → links' ≡ pass_table v links stitched.links → Done drawing lines' links'
      by (refused why) e a b c = absurd (let z : ◌≡◌ {A = ℕ} 0 1 = cc in omega arith)
      by passes e a b c =
          let fits : Fitting (grid_fit (length values) dx dy) (length lines) (open_words dx (peak A dx dy)) (length links) (link_words (segment_count A dx dy)) =
          fitting (grid_fit (length values) dx dy) (length lines) (open_words dx (peak A dx dy)) (length links) (link_words (segment_count A dx dy)) (unfold work_verdict in e) in
          record {
            is-passes = e;
            is-drawing = cc;
            lines_are = b;
            links-are = c;
            sized = a-grid-that-fits-is-sized (length values) dx dy fits.grid;
            lines_fit = fits.first;
            links-fit = fits.second;
          }

  -- what is known after a refused pass
  pub refused-facts : (answer : Result Drawing Refusal) (why : Refusal) → answer ≡ Err why → (lines' links' : List ℕ) → Passed values level dx dy lines links answer lines' links' → (verdict ≡ refused why) × (lines' ≡ lines) × (links' ≡ links)
  unfolding passed pass_table
  refused-facts answer why is lines' links' k = by verdict refl (sym is ∙ k.answers) k.lines_are k.links-are
    where
      by : (v : Verdict) → verdict ≡ v → Err why ≡ passed v A dx dy stitched → lines' ≡ pass_table v lines stitched.lines → links' ≡ pass_table v links stitched.links → (verdict ≡ refused why) × (lines' ≡ lines) × (links' ≡ links)
      by (refused other) e a b c = (e ∙ ap refused (same a), b, c)
        where
          same : ◌≡◌ {A = Result Drawing Refusal} (Err why) (Err other) → other ≡ why
          same q = cc
      by passes e a b c = absurd (let z : ◌≡◌ {A = ℕ} 0 1 = cc in omega arith)

  -- what a build answers and leaves, where these are the words of its points and of its records
  pub record BuiltAs {Word : Type 0} (words : List Word) (records : List ℕ) (points : List Word) (directory : List ℕ) (answer : Result ℕ Refusal) (lines' links' : List ℕ) (points' : List Word) (directory' : List ℕ) : Type 0 where
    pub answers : answer ≡ built (on_entry values level dx dy lines links) (on_outputs values level dx dy points directory) (above values level dx dy) dx dy
    pub lines_are : lines' ≡ work_after (on_entry values level dx dy lines links) (open_words dx (peak (above values level dx dy) dx dy)) lines
    pub links-are : links' ≡ work_after (on_entry values level dx dy lines links) (link_words (segment_count (above values level dx dy) dx dy)) links
    pub points-are : points' ≡ output_after (on_entry values level dx dy lines links) (on_outputs values level dx dy points directory) words points
    pub directory-is : directory' ≡ output_after (on_entry values level dx dy lines links) (on_outputs values level dx dy points directory) records directory

  rings-built : {points directory : List ℕ} {answer : Result ℕ Refusal} {lines' links' points' directory' : List ℕ} → BuiltAs (packed_points (rings_of A dx dy)) (bare_records 0 0 (rings_of A dx dy)) points directory answer lines' links' points' directory'
      → RingsBuilt values level dx dy lines links points directory answer lines' links' points' directory'
  rings-built b = record { answers = b.answers; lines_are = b.lines_are; links-are = b.links-are; points-are = b.points-are; directory-is = b.directory-is }

  pub build-refused : (answer : Result Drawing Refusal) (why : Refusal) → answer ≡ Err why → (lines' links' : List ℕ) → Passed values level dx dy lines links answer lines' links' → {Word : Type 0} (words : List Word) (records : List ℕ) (points : List Word) (directory : List ℕ)
      → BuiltAs words records points directory (Err why) lines' links' points directory
  unfolding built work_after output_after
  build-refused answer why is lines' links' k words records points directory =
      let facts = refused-facts answer why is lines' links' k in
      record {
        answers = ap (λ (v : Verdict). built v (output_verdict A dx dy (length points) (length directory)) A dx dy) (sym facts.0);
        lines_are = facts.1 ∙ ap (λ (v : Verdict). work_after v (open_words dx (peak A dx dy)) lines) (sym facts.0);
        links-are = facts.2 ∙ ap (λ (v : Verdict). work_after v (link_words (segment_count A dx dy)) links) (sym facts.0);
        points-are = ap (λ (v : Verdict). output_after v (output_verdict A dx dy (length points) (length directory)) words points) (sym facts.0);
        directory-is = ap (λ (v : Verdict). output_after v (output_verdict A dx dy (length points) (length directory)) records directory) (sym facts.0);
      }

  pub rings-refused : (answer : Result Drawing Refusal) (why : Refusal) → answer ≡ Err why → (lines' links' : List ℕ) → Passed values level dx dy lines links answer lines' links' → (points directory : List ℕ)
      → RingsBuilt values level dx dy lines links points directory (Err why) lines' links' points directory
  rings-refused answer why is lines' links' k points directory = rings-built (build-refused answer why is lines' links' k (packed_points (rings_of A dx dy)) (bare_records 0 0 (rings_of A dx dy)) points directory)

  pub report-refused : (answer : Result Drawing Refusal) (why : Refusal) → answer ≡ Err why → (lines' links' : List ℕ) → Passed values level dx dy lines links answer lines' links' → SecondReported values level dx dy lines links (Err why) lines' links'
  unfolding reported work_after
  report-refused answer why is lines' links' k =
      let facts = refused-facts answer why is lines' links' k in
      record {
        answers = ap (λ (v : Verdict). reported v A dx dy) (sym facts.0);
        lines_are = facts.1 ∙ ap (λ (v : Verdict). work_after v (open_words dx (peak A dx dy)) lines) (sym facts.0);
        links-are = facts.2 ∙ ap (λ (v : Verdict). work_after v (link_words (segment_count A dx dy)) links) (sym facts.0);
      }

  module _ (drawing : Drawing) (lines' links' : List ℕ) (done : Done drawing lines' links') where
    out-there : Outside (terrain (above_at level) values dx dy) dx dy
    out-there = outside values level dx dy done.sized

    lines-zeroed : cleared lines' (open_words dx (peak A dx dy)) ≡ zeroed (open_words dx (peak A dx dy)) lines
    lines-zeroed =
        let kept = lines-kept A out-there lines links done.lines_fit done.links-fit (segments-fit values level dx dy done.sized) (peak-fits values level dx dy done.sized) in
        ap (λ (l : List ℕ). cleared l (open_words dx (peak A dx dy))) done.lines_are
        ∙ unfold stitched_tables in cleared-is-zeroed (open_words dx (peak A dx dy)) lines stitched.lines kept.0 kept.1

    links-zeroed : cleared links' (link_words (segment_count A dx dy)) ≡ zeroed (link_words (segment_count A dx dy)) links
    links-zeroed =
        let kept = links-kept A out-there lines links done.lines_fit done.links-fit (segments-fit values level dx dy done.sized) (peak-fits values level dx dy done.sized) in
        ap (λ (l : List ℕ). cleared l (link_words (segment_count A dx dy))) done.links-are
        ∙ unfold stitched_tables in cleared-is-zeroed (link_words (segment_count A dx dy)) links stitched.links kept.0 kept.1

    pub reported-done : SecondReported values level dx dy lines links
        (Ok (record { segments = drawing.segments; rings = drawing.rings; peak = drawing.peak; points = drawing.segments + drawing.rings }))
        (cleared lines' (open_words dx drawing.peak)) (cleared links' (link_words drawing.segments))
    unfolding reported work_after point_count
    reported-done = record {
      answers =
          ap (λ (d : Drawing). Ok (record { segments = d.segments; rings = d.rings; peak = d.peak; points = d.segments + d.rings })) done.is-drawing
          ∙ ap (λ (v : Verdict). reported v A dx dy) (sym done.is-passes);
      lines_are =
          ap (λ (d : Drawing). cleared lines' (open_words dx d.peak)) done.is-drawing ∙ lines-zeroed
          ∙ ap (λ (v : Verdict). work_after v (open_words dx (peak A dx dy)) lines) (sym done.is-passes);
      links-are =
          ap (λ (d : Drawing). cleared links' (link_words d.segments)) done.is-drawing ∙ links-zeroed
          ∙ ap (λ (v : Verdict). work_after v (link_words (segment_count A dx dy)) links) (sym done.is-passes);
    }

    -- the walks along the links store what document 01 writes
    points-walked : walk_points dx stitched.links stitched.progress.head stitched.progress.head (segment_count A dx dy) ≡ packed_points (rings_of A dx dy)
    unfolding stitched_tables
    points-walked =
        points-found A out-there lines links done.lines_fit done.links-fit (segments-fit values level dx dy done.sized) (peak-fits values level dx dy done.sized)
        (columns-fit values level dx dy done.sized) (rows_fit values level dx dy done.sized)

    records-walked : walk_records stitched.links 0 0 stitched.progress.head (segment_count A dx dy) ≡ bare_by short_of 0 0 (rings_of A dx dy)
    unfolding stitched_tables
    records-walked =
        records-found A out-there lines links done.lines_fit done.links-fit (segments-fit values level dx dy done.sized) (peak-fits values level dx dy done.sized)
        (points-fit values level dx dy done.sized)

    short-room : length (bare_by short_of 0 0 (rings_of A dx dy)) ≤ directory_words (ring_count A dx dy)
    unfolding directory_words record_stride
    short-room = omega (arith, short-records-length A out-there)

    -- records that were written without areas, spread out
    spread-after : (v : Verdict) (answer : Result ℕ Refusal) (points directory points' short : List ℕ) → answer ≡ built passes v A dx dy → points' ≡ output_after passes v (packed_points (rings_of A dx dy)) points
        → short ≡ output_after passes v (bare_by short_of 0 0 (rings_of A dx dy)) directory → spread_out answer points' short ≡ output_after passes v (bare_records 0 0 (rings_of A dx dy)) directory
    unfolding spread_out built output_after ring_count
    spread-after (refused why) answer points directory points' short is points-are short-is = rw is short-is
    spread-after passes answer points directory points' short is points-are short-is =
        rw (is, short-is)
        (bare-written (rings_of A dx dy) points' (drop (length (packed_points (rings_of A dx dy))) points) directory (points-are ∙ (unfold written in refl))
        (omega (arith, short-records-length A out-there, records-fill-their-room A out-there, six)))
      where
        six : directory_words (length (rings_of A dx dy)) ≡ 6 * length (rings_of A dx dy)
        six = unfold directory_words record_stride in refl

    abbrev drawn : Drawing
    drawn = record { segments = segment_count A dx dy; peak = peak A dx dy; rings = ring_count A dx dy; head = stitched.progress.head }

    -- packing by any words of a link's point, which the walk along the links lays out as these words that fill their room, and any records that have room
    module _ {Word : Type 0} (of-link : List ℕ → ℕ → List Word) (words : List Word)
        (walked : walk_words (of-link stitched.links) stitched.links stitched.progress.head stitched.progress.head (segment_count A dx dy) ≡ words)
        (full : length words ≡ point_words (segment_count A dx dy) (ring_count A dx dy))
        (of-rings : List ℕ → Drawing → List ℕ) (records : List ℕ) (recorded : of-rings stitched.links drawn ≡ records) (room : length records ≤ directory_words (ring_count A dx dy))
        (points : List Word) (directory : List ℕ) where
      -- what packing answers and leaves, with the pass's numbers in place of the drawing's
      with-numbers : (answer : Result ℕ Refusal) (points' : List Word) (directory' : List ℕ) → PackedAs of-link of-rings drawing links' points directory answer points' directory'
          → PackedAs of-link of-rings drawn stitched.links points directory answer points' directory'
      with-numbers answer points' directory' k =
          subst (λ (d : Drawing). PackedAs of-link of-rings d stitched.links points directory answer points' directory') done.is-drawing
          (subst (λ (l : List ℕ). PackedAs of-link of-rings drawing l points directory answer points' directory') done.links-are k)

      answered : (v : Verdict) → packed v (ring_count A dx dy) ≡ built passes v A dx dy
      unfolding packed built
      answered (refused why) = refl
      answered passes = refl

      points-out : (a b : Bool) → ltb (length points) (point_words (segment_count A dx dy) (ring_count A dx dy)) ≡ a → ltb (length directory) (directory_words (ring_count A dx dy)) ≡ b
          → pass_table (room_verdict (segment_count A dx dy) (ring_count A dx dy) (length points) (length directory)) points (sets points 0 (walk_words (of-link stitched.links) stitched.links stitched.progress.head stitched.progress.head (segment_count A dx dy)))
          ≡ output_after passes (output_verdict A dx dy (length points) (length directory)) words points
      unfolding output_verdict room_verdict pass_table output_after written
      points-out true b ea eb = rw ea
      points-out false true ea eb = rw (ea, eb)
      points-out false false ea eb =
          rw (ea, eb, walked)
          (stores-from-the-start points words (omega (arith, full, ltb-false (length points) (point_words (segment_count A dx dy) (ring_count A dx dy)) ea)))

      directory-out : (a b : Bool) → ltb (length points) (point_words (segment_count A dx dy) (ring_count A dx dy)) ≡ a → ltb (length directory) (directory_words (ring_count A dx dy)) ≡ b
          → pass_table (room_verdict (segment_count A dx dy) (ring_count A dx dy) (length points) (length directory)) directory (sets directory 0 (of-rings stitched.links drawn))
          ≡ output_after passes (output_verdict A dx dy (length points) (length directory)) records directory
      unfolding output_verdict room_verdict pass_table output_after written
      directory-out true b ea eb = rw ea
      directory-out false true ea eb = rw (ea, eb)
      directory-out false false ea eb =
          rw (ea, eb, recorded)
          (stores-from-the-start directory records (omega (arith, room, ltb-false (length directory) (directory_words (ring_count A dx dy)) eb)))

      pub build-done : (answer : Result ℕ Refusal) (points' : List Word) (directory' : List ℕ) → PackedAs of-link of-rings drawing links' points directory answer points' directory'
          → BuiltAs words records points directory answer (cleared lines' (open_words dx drawing.peak)) (cleared links' (link_words drawing.segments)) points' directory'
      unfolding work_after output_verdict
      build-done answer points' directory' k =
          let n = with-numbers answer points' directory' k in
          record {
            answers = n.answers ∙ answered (room_verdict (segment_count A dx dy) (ring_count A dx dy) (length points) (length directory)) ∙ ap (λ (v : Verdict). built v (output_verdict A dx dy (length points) (length directory)) A dx dy) (sym done.is-passes);
            lines_are =
                ap (λ (d : Drawing). cleared lines' (open_words dx d.peak)) done.is-drawing ∙ lines-zeroed
                ∙ ap (λ (v : Verdict). work_after v (open_words dx (peak A dx dy)) lines) (sym done.is-passes);
            links-are =
                ap (λ (d : Drawing). cleared links' (link_words d.segments)) done.is-drawing ∙ links-zeroed
                ∙ ap (λ (v : Verdict). work_after v (link_words (segment_count A dx dy)) links) (sym done.is-passes);
            points-are =
                n.points-are ∙ points-out (ltb (length points) (point_words (segment_count A dx dy) (ring_count A dx dy))) (ltb (length directory) (directory_words (ring_count A dx dy))) refl refl
                ∙ ap (λ (v : Verdict). output_after v (output_verdict A dx dy (length points) (length directory)) words points) (sym done.is-passes);
            directory-is =
                n.directory-is ∙ directory-out (ltb (length points) (point_words (segment_count A dx dy) (ring_count A dx dy))) (ltb (length directory) (directory_words (ring_count A dx dy))) refl refl
                ∙ ap (λ (v : Verdict). output_after v (output_verdict A dx dy (length points) (length directory)) records directory) (sym done.is-passes);
          }

    -- what packing leaves, whose records have no areas
    pub short-done : (points directory : List ℕ) (answer : Result ℕ Refusal) (points' directory' : List ℕ) → Packed drawing dx links' points directory answer points' directory'
        → BuiltAs (packed_points (rings_of A dx dy)) (bare_by short_of 0 0 (rings_of A dx dy)) points directory answer
        (cleared lines' (open_words dx drawing.peak)) (cleared links' (link_words drawing.segments)) points' directory'
    short-done points directory answer points' directory' k =
        build-done (walk.point_words dx) (packed_points (rings_of A dx dy)) points-walked (packed-points-fill-their-room A out-there)
        short_records (bare_by short_of 0 0 (rings_of A dx dy)) records-walked short-room points directory answer points' directory' (of-packed k)

    -- and once they are spread out
    pub built-done : (points directory : List ℕ) (answer : Result ℕ Refusal) (points' directory' : List ℕ) → PackedWhole drawing dx links' points directory answer points' directory'
        → RingsBuilt values level dx dy lines links points directory answer
        (cleared lines' (open_words dx drawing.peak)) (cleared links' (link_words drawing.segments)) points' directory'
    built-done points directory answer points' directory' k =
        let short = short-done points directory answer points' k.short k.packed in
        record {
          answers = short.answers;
          lines_are = short.lines_are;
          links-are = short.links-are;
          points-are = short.points-are;
          directory-is =
              k.spread
              ∙ spread-after (output_verdict A dx dy (length points) (length directory)) answer points directory points' k.short
              (short.answers ∙ ap (λ (v : Verdict). built v (output_verdict A dx dy (length points) (length directory)) A dx dy) done.is-passes)
              (short.points-are ∙ ap (λ (v : Verdict). output_after v (output_verdict A dx dy (length points) (length directory)) (packed_points (rings_of A dx dy)) points) done.is-passes)
              (short.directory-is ∙ ap (λ (v : Verdict). output_after v (output_verdict A dx dy (length points) (length directory)) (bare_by short_of 0 0 (rings_of A dx dy)) directory) done.is-passes)
              ∙ ap (λ (v : Verdict). output_after v (output_verdict A dx dy (length points) (length directory)) (bare_records 0 0 (rings_of A dx dy)) directory) (sym done.is-passes);
        }

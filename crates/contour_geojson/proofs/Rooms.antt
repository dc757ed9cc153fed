-- The program's tables have room for every terrain that it reads: with sides up to 32, H is 17 at most, S no more than the pairs of neighbours, which are 2,112,
-- and four times R no more than S; and a text has 18 bytes a point, 4 a ring and 40 at most. So no build and no writing is refused. Assumes nothing.
use mathlib.Core.Path.{◌≡◌, sym, ◌∙◌, ap}
use mathlib.Core.Bool.{false}
use mathlib.Core.List.{List, [], append-nil}
use Prim.Native.Nat.{ℕ, suc, ◌≤◌}
use native.Mathlib.Nat.{mul-le-mul}
use native.Mathlib.Omega.{arith}
use lib.Ieee.{Float}
use lib.ListN.{length, drop}
use Rattle.error.specs.declared.Refusal.{Refusal}
use Rattle.scope.specs.Limits.{side_limit, record_stride, no_owner}
use Rattle.scope.specs.declared.Level.{Level}
use Rattle.scope.specs.Terrain.{Sheet, above_at, terrain}
use Rattle.scope.specs.Stitching.{Line}
use Rattle.scope.specs.Drawing.{segment_count, ring_count, rings_of, peak}
use Rattle.scope.specs.Room.{open_words, link_words, point_count, point_words, directory_words}
use Rattle.scope.specs.Tables.{written, packed_points, contour_records}
use Rattle.scope.specs.GeoJson.{ring_set_refused, geo_json_text}
use Rattle.scope.specs.Program.{program_side, contour_text}
use Rattle.laws.proofs.Edges.{Outside}
use Rattle.laws.proofs.Laws.{the-peak-is-low, points-are-segments-and-rings}
use Rattle.laws.proofs.Bounds.{segments-are-no-more-than-pairs}
use Rattle.grid.specs.Grid.{Sized, grid_fit}
use Rattle.grid.proofs.Laws.{a-right-count-fits}
use Rattle.scan.proofs.Samples.{terrain-outside}
use Rattle.ringset.proofs.Laws.{sound}
use Rattle.readable.proofs.Laws.{contour-passes}
use Rattle.readable.proofs.Past.{text-without-what-is-behind}
use Rattle.readable.proofs.Counts.{counts-are-points}
use Rattle.geotext.proofs.Bounds.{text-is-short}
use Rattle.contourbuilder.specs.Contours.{ContoursBuilt}
use Rattle.contourbuilder.proofs.Sizes.{fours}
use Rattle.contour.proofs.Results.{given}
use Rattle.contour.proofs.Theorems.{contours-constructed, contours-exactly}
use Rattle.contour.proofs.Checked.{grid-rings-fit}
use Rattle.contour_geojson.specs.Drawing.{text_room, Small, Roomy, Writable, Stands}
use Rattle.std.specs.Prelude.{Result, Ok, Err}

module _ (values : List Float) (level : Level) (dx dy : ℕ) (small : Small values dx dy) where
  abbrev A : Sheet
  A = terrain (above_at level) values dx dy

  abbrev rings : List Line
  rings = rings_of A dx dy

  outside : Outside A dx dy
  outside = terrain-outside (above_at level) values dx dy

  fits : grid_fit (length values) dx dy ≡ Ok tt
  unfolding program_side side_limit
  fits = sym (a-right-count-fits (length values) dx dy small.some-columns (omega (arith, small.columns)) small.some-rows (omega (arith, small.rows)) small.all-values)

  sized : Sized (length values) dx dy
  unfolding program_side side_limit
  sized = record { columns = omega (arith, small.columns); rows = omega (arith, small.rows); filled = small.all-values }

  -- ---- S, R and H

  pub peak-within : peak A dx dy ≤ 17
  unfolding program_side
  peak-within = omega (arith, the-peak-is-low A outside, small.columns)

  pub segments-within : segment_count A dx dy ≤ 2112
  unfolding program_side
  segments-within =
      let dx-low : dx ≤ 32 = small.columns in
      let dy-low : dy ≤ 32 = small.rows in
      let more-columns : suc dx ≤ 33 = omega arith in
      let more_rows : suc dy ≤ 33 = omega arith in
      omega (arith, segments-are-no-more-than-pairs A outside, mul-le-mul dx-low more_rows, mul-le-mul dy-low more-columns)

  pub rings-within : ring_count A dx dy ≤ 528
  rings-within = omega (arith, segments-within, fours values level dx dy sized)

  -- ---- the text

  passes-nine : ring_set_refused (packed_points rings) (contour_records rings) (length rings) ≡ false
  passes-nine = rw (append-nil (packed_points rings), append-nil (contour_records rings)) at (contour-passes rings (grid-rings-fit values level dx dy fits) [] [])

  pub text-within : length (contour_text A dx dy) ≤ text_room
  unfolding contour_text ring_count no_owner
  text-within =
      omega (
        arith,
        text-is-short (packed_points rings) (contour_records rings) (length rings) passes-nine (omega (arith, rings-within)),
        rw (append-nil (contour_records rings)) at (counts-are-points rings []),
        points-are-segments-and-rings A outside,
        segments-within,
        rings-within,
      )

  -- ---- a build over tables that have the room

  module _ {lines links points directory text : List ℕ} (room : Roomy lines links points directory text) {answer : Result ℕ Refusal} {lines' links' points' directory' : List ℕ}
      (k : ContoursBuilt values level dx dy lines links points directory answer lines' links' points' directory') where
    pub all-rings : answer ≡ Ok (ring_count A dx dy)
    unfolding open_words link_words point_count point_words directory_words record_stride program_side
    all-rings =
        (contours-exactly values level dx dy lines links points directory k).1.given-exactly.0 (
          (fits, omega (arith, room.lines-room, peak-within, small.columns), omega (arith, room.links-room, segments-within)),
          omega (arith, room.points-room, segments-within, rings-within),
          omega (arith, room.directory-room, rings-within),
        )

    pub no-refusal : {why : Refusal} {X : Type 0} → answer ≡ Err why → X
    no-refusal e = absurd (let z : ◌≡◌ {A = ℕ} 0 1 = cc all-rings in omega arith)

    tables-are : (ring_set_refused points' directory' (ring_count A dx dy) ≡ false) × (geo_json_text points' directory' (ring_count A dx dy) ≡ contour_text A dx dy)
    unfolding contour_text ring_count written
    tables-are =
        let g = given (ring_count A dx dy) all-rings (contours-constructed values level dx dy lines links points directory k) in
        let pp = drop (length (packed_points rings)) points in
        let pd = drop (length (contour_records rings)) directory in
        rw (g.points-are, g.directory-is)
        (contour-passes rings (grid-rings-fit values level dx dy fits) pp pd, text-without-what-is-behind (packed_points rings) (contour_records rings) (length rings) (sound (packed_points rings) (contour_records rings) (length rings) passes-nine) pp pd)

    module _ {n : ℕ} (is : answer ≡ Ok n) where
      rings-are : n ≡ ring_count A dx dy
      rings-are = let e : Ok n ≡ Ok (ring_count A dx dy) = sym is ∙ all-rings in cc

      pub text-is-the-contours : geo_json_text points' directory' n ≡ contour_text A dx dy
      text-is-the-contours = ap (geo_json_text points' directory') rings-are ∙ tables-are.1

      pub set-is-writable : Writable points' directory' n text
      set-is-writable = record {
        passes-nine = ap (ring_set_refused points' directory') rings-are ∙ tables-are.0;
        room = omega (arith, ap length text-is-the-contours, text-within, room.text-room);
      }

      pub contour-stands : {m : ℕ} {text' : List ℕ} → Stands (geo_json_text points' directory' n) text m text' → Stands (contour_text A dx dy) text m text'
      contour-stands s = rw text-is-the-contours at s

-- The definitions tried on document 01's worked examples: of the 3 by 3 frame with nothing in its centre, ring 0 is a hole of ring 1, and of the row 0 4 at the
-- threshold 1 the vertex (1, 0.5) moves to (0.75, 0.5). Computed in one statement. Assumes nothing.
use mathlib.Core.Path.{◌≡◌, refl}
use mathlib.Core.Bool.{false, xor}
use mathlib.Core.List.{List, [], ◌∷◌, map}
use Prim.Native.Nat.{ℕ}
use lib.Ieee as Ieee
use lib.Ieee.{Float}
use lib.IntN.{negsuc}
use Rattle.error.specs.declared.Refusal.TheVariants.{BadDimension, BadRingSet, NotThere}
use Rattle.scope.specs.Limits.{side_limit, coordinate_limit, point_limit, record_stride, no_owner}
use Rattle.scope.specs.Cells.{same_point}
use Rattle.scope.specs.Area.{points, twist, twists, last_of, area, positive, twos_complement, low_word, high_word, any_above}
use Rattle.scope.specs.Containment.{is_zero, below, below_fraction, collinear, between, on_pair, left_of_crossing, flips, signed, walk, point_against, decide, ring_against, not_outside}
use Rattle.scope.specs.Contour.{takes, owner_from, fates_by, contour_classes, contour_fates}
use Rattle.scope.specs.Smoothing.{whole, half, real_of, sample_at, moves}
use Rattle.scope.specs.Room.{directory_words}
use Rattle.scope.specs.GeoJson.{first_at, count_at, class_at, owner_at, area_low_at, area_high_at, words_in, ring_words_at, ring_at, directory_short, range_outside, count_out, coordinate_over, unclosed, area_off, class_out, is_polygon, is_hole, owned_by_another, owned_by_none, record_refused, any_below, ring_set_refused}
use Rattle.grid.specs.Grid.{bad_side, bad_count, grid_fit}
use Rattle.smoothing.specs.Coordinates.{fraction, moved_by, coordinate_moves, vertex_moves}
use Rattle.smoothing.specs.declared.Coordinate.TheVariants as coordinate-is
use Rattle.deciding.specs.Decisions.{decided_by, decision_from, decision_of}
use Rattle.deciding.specs.declared.Decision.TheVariants as decision-is
use Rattle.explaining.specs.declared.RingFate.TheVariants as fate-is
use Rattle.explaining.specs.Fates.{rings_from, rings_in, told, fate_told, fate_answer, polygon_answer}
use Rattle.explaining.specs.Vertices.{in_grid, midway_in_row, midway_in_column, midway, vertex_of_ring, vertex_there, vertex_told, on_grid, vertex_answer}
use Rattle.std.specs.Prelude.{Ok, Err}

-- the frame's rings, ring 0 first
pub frame_points : List ℕ
frame_points =
    3 ∷ 4 ∷ 2 ∷ 3 ∷ 3 ∷ 2 ∷ 4 ∷ 3 ∷ 3 ∷ 4
    ∷ 6 ∷ 5 ∷ 6 ∷ 3 ∷ 6 ∷ 1 ∷ 5 ∷ 0 ∷ 3 ∷ 0 ∷ 1 ∷ 0 ∷ 0 ∷ 1 ∷ 0 ∷ 3 ∷ 0 ∷ 5 ∷ 1 ∷ 6 ∷ 3 ∷ 6 ∷ 5 ∷ 6 ∷ 6 ∷ 5
    ∷ []

-- records that say of both rings that they are dropped, which number 9 lets pass; the areas are -4 and 68
pub frame_records : List ℕ
frame_records = 0 ∷ 5 ∷ 1 ∷ 4294967295 ∷ 4294967292 ∷ 4294967295 ∷ 5 ∷ 13 ∷ 1 ∷ 4294967295 ∷ 68 ∷ 0 ∷ []

pub row_points : List ℕ
row_points = 4 ∷ 1 ∷ 3 ∷ 0 ∷ 2 ∷ 1 ∷ 3 ∷ 2 ∷ 4 ∷ 1 ∷ []

pub row_records : List ℕ
row_records = 0 ∷ 5 ∷ 0 ∷ 0 ∷ 4 ∷ 0 ∷ []

pub row_values : List Float
row_values = map whole (0 ∷ 4 ∷ [])

-- 0.25 is 1 · 2 ^ -2
pub the-frame-and-the-row :
    (fate_answer frame_points frame_records 2 0 ≡ Ok (fate-is.Hole 1 (decision-is.Inside 0)))
    × (fate_answer frame_points frame_records 2 1 ≡ Ok fate-is.Polygon)
    × (fate_answer frame_points frame_records 2 2 ≡ Err NotThere)
    × (fate_answer frame_points [] 2 2 ≡ Err BadRingSet)
    × (polygon_answer frame_points frame_records 2 0 1 ≡ Ok (decision-is.Outside 0))
    × (polygon_answer frame_points frame_records 2 1 1 ≡ Ok decision-is.Undecided)
    × (vertex_answer row_values (whole 1) 2 1 row_points row_records 1 0 2
    ≡ Ok (record { x = coordinate-is.Moved (Ieee.fin false 1 (negsuc 1)); y = coordinate-is.Stayed }))
    × (vertex_answer row_values (whole 1) 2 2 row_points [] 1 0 2 ≡ Err BadDimension)
unfolding frame_points frame_records row_points row_records row_values side_limit coordinate_limit point_limit record_stride no_owner same_point points twist twists last_of area positive twos_complement low_word high_word any_above is_zero below below_fraction collinear between on_pair left_of_crossing flips signed walk point_against decide ring_against not_outside takes owner_from fates_by contour_classes contour_fates whole half real_of sample_at moves directory_words first_at count_at class_at owner_at area_low_at area_high_at words_in ring_words_at ring_at directory_short range_outside count_out coordinate_over unclosed area_off class_out is_polygon is_hole owned_by_another owned_by_none record_refused any_below ring_set_refused bad_side bad_count grid_fit fraction moved_by coordinate_moves vertex_moves decided_by decision_from decision_of rings_from rings_in told fate_told fate_answer polygon_answer in_grid midway_in_row midway_in_column midway vertex_of_ring vertex_there vertex_told on_grid vertex_answer xor Ieee.of_int Ieee.sub Ieee.add Ieee.div Ieee.is_nan
the-frame-and-the-row = (refl, refl, refl, refl, refl, refl, refl, refl)

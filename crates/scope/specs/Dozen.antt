-- The proved dozen: document 01's table of twelve, its results computed over the definitions, under one statement. Assumes nothing.
use Rattle.std.specs.Prelude.{ℕ, ◌≡◌, refl, false, List, [], ◌∷◌, map, Float, ℤ, pos, negsuc, neg_ℤ, get_or}
use Rattle.std.proofs.Math.Bool.{xor}
use Rattle.std.specs.Float.Ieee as Ieee
use Rattle.std.specs.Float.{nan}
use Rattle.scope.specs.Terrain.{Sheet, is_above, above_at, at_least, sheet, terrain}
use Rattle.scope.specs.Cells.{Point, number_of, cell_number, same_point, point_of, case_table, drawn, placed, cell_segments}
use Rattle.scope.specs.Stitching.{Line, starts_at, ends_at, find, without, nothing, close, join, append, prepend, start, stitch_at, stitch, stitch_all}
use Rattle.scope.specs.Drawing.{along, down, up_to, with_cell, segments_after, drawing_after, open_after, rings_after, segments_of, rings_of, segment_count, ring_count, higher, peak}
use Rattle.scope.specs.Area.{twist, twists, last_of, area, positive}
use Rattle.scope.specs.Containment.{Answer, outside, boundary, is_zero, below, below_fraction, collinear, between, on_pair, left_of_crossing, flips, signed, walk, point_against, decide, ring_against, not_outside}
use Rattle.scope.specs.Contour.{Fate, polygon, hole, dropped, takes, owner_from, fates_by, contour_classes, contour_fates}
use Rattle.scope.specs.Band.{sort_key, numbered_from, insert, sorted, band_order, order_rings, takers, classes_from, band_fates}
use Rattle.scope.specs.Smoothing.{whole, half, real_of, moved, sample_at, moves, Vertex, smoothed}

-- a row's result, of the kind that the row speaks of
pub data Result : Type 0 where
  rings : List Line → Result
  numbers : List ℕ → Result
  areas : List ℤ → Result
  answers : List Answer → Result
  fates : List Fate → Result
  vertex : Float → Float → Result

abbrev at : ℕ → ℕ → Point
at x y = record { x = x; y = y }

-- the rings of values at a threshold, and their S, R and H
rings_at : List Float → Float → ℕ → ℕ → List Line
rings_at values t dx dy = rings_of (terrain (above_at (at_least t)) values dx dy) dx dy

counts_at : List Float → Float → ℕ → ℕ → List ℕ
counts_at values t dx dy =
    let A : Sheet = terrain (above_at (at_least t)) values dx dy in
    segment_count A dx dy ∷ ring_count A dx dy ∷ peak A dx dy ∷ []

-- a band's rings in its order
band_rings : List Float → Float → Float → ℕ → ℕ → List Line
band_rings values low high dx dy = order_rings (band_order (rings_at values low dx dy) (rings_at values high dx dy))

diagonal : List Float
diagonal = map whole (0 ∷ 1 ∷ 1 ∷ 0 ∷ [])

frame : List Float
frame = map whole (1 ∷ 1 ∷ 1 ∷ 1 ∷ 0 ∷ 1 ∷ 1 ∷ 1 ∷ 1 ∷ [])

peaked : List Float
peaked = map whole (1 ∷ 1 ∷ 1 ∷ 1 ∷ 2 ∷ 1 ∷ 1 ∷ 1 ∷ 1 ∷ [])

one : Line
one = at 2 1 ∷ at 1 0 ∷ at 0 1 ∷ at 1 2 ∷ at 2 1 ∷ []

moving : Vertex
moving = smoothed (map whole (0 ∷ 4 ∷ [])) (whole 1) 2 1 (at 2 1)

pub computed : List Result
computed =
    rings (rings_at (whole 1 ∷ []) (whole 1) 1 1)
    ∷ areas (area one ∷ [])
    ∷ numbers (counts_at (nan ∷ []) (whole 1) 1 1)
    ∷ rings (rings_at diagonal (whole 1) 2 2)
    ∷ numbers (counts_at diagonal (whole 1) 2 2)
    ∷ rings (get_or (rings_at frame (whole 1) 3 3) 0 [] ∷ [])
    ∷ areas (map area (rings_at frame (whole 1) 3 3))
    ∷ fates (contour_fates (rings_at frame (whole 1) 3 3))
    ∷ answers (point_against one (at 8 1) ∷ point_against one (at 8 2) ∷ [])
    ∷ fates (band_fates (band_rings (whole 1 ∷ []) (whole 1) (whole 1) 1 1))
    ∷ fates (band_fates (band_rings peaked (whole 1) (whole 2) 3 3))
    ∷ vertex moving.x moving.y
    ∷ []

pub stated : List Result
stated =
    rings ((at 2 1 ∷ at 1 0 ∷ at 0 1 ∷ at 1 2 ∷ at 2 1 ∷ []) ∷ [])
    ∷ areas (pos 4 ∷ [])
    ∷ numbers (0 ∷ 0 ∷ 0 ∷ [])
    ∷ rings ((at 4 1 ∷ at 3 0 ∷ at 2 1 ∷ at 3 2 ∷ at 4 1 ∷ []) ∷ (at 2 3 ∷ at 1 2 ∷ at 0 3 ∷ at 1 4 ∷ at 2 3 ∷ []) ∷ [])
    ∷ numbers (8 ∷ 2 ∷ 2 ∷ [])
    ∷ rings ((at 3 4 ∷ at 2 3 ∷ at 3 2 ∷ at 4 3 ∷ at 3 4 ∷ []) ∷ [])
    ∷ areas (neg_ℤ (pos 4) ∷ pos 68 ∷ [])
    ∷ fates (hole 1 ∷ polygon ∷ [])
    ∷ answers (boundary ∷ outside ∷ [])
    ∷ fates (dropped ∷ dropped ∷ [])
    ∷ fates (hole 1 ∷ polygon ∷ [])
    -- 0.75 is 3 · 2 ^ -2, and 0.5 is 1 · 2 ^ -1
    ∷ vertex (Ieee.fin false 3 (negsuc 1)) (Ieee.fin false 1 (negsuc 0))
    ∷ []

pub the-dozen : computed ≡ stated
unfolding computed stated rings_at counts_at band_rings diagonal frame peaked one moving is_above above_at sheet terrain number_of cell_number same_point point_of case_table drawn placed cell_segments starts_at ends_at find without nothing close join append prepend start stitch_at stitch stitch_all along down up_to with_cell segments_after drawing_after open_after rings_after segments_of rings_of segment_count ring_count higher peak twist twists last_of area positive is_zero below below_fraction collinear between on_pair left_of_crossing flips signed walk point_against decide ring_against not_outside takes owner_from fates_by contour_classes contour_fates sort_key numbered_from insert sorted band_order order_rings takers classes_from band_fates whole half real_of moved sample_at moves smoothed xor Ieee.le Ieee.of_int Ieee.add Ieee.sub Ieee.mul Ieee.div
the-dozen = refl

-- What smoothing is said to do to a vertex is what it does: the coordinates that the moves come to are those of the smoothed vertex, so those of a line before it is
-- placed. Assumes nothing.
use mathlib.Core.Path.{◌≡◌, refl, ap₂}
use mathlib.Core.Bool.{Bool, true, false, cond}
use mathlib.Core.List.{List}
use Prim.Native.Nat.{ℕ}
use lib.Ieee.{Float, nan, inf, fin, is_nan, binary64, add, sub}
use Rattle.scope.specs.Cells.{Point}
use Rattle.scope.specs.Smoothing.{half, real_of, moved, moves, smoothed}
use Rattle.smoothing.specs.declared.Coordinate.TheVariants.{Stayed}
use Rattle.smoothing.specs.Coordinates.{fraction, moved_by, coordinate_moves, vertex_moves, coordinate_by, vertex_by}

-- a sum with what is not a number is none
add-nan : (x : Float) → add binary64 x nan ≡ nan
unfolding add
add-nan nan = refl
add-nan (inf s) = refl
add-nan (fin s m e) = refl

moved-by : (doubled : ℕ) (f : Float) → coordinate_by doubled (moved_by f) ≡ sub binary64 (add binary64 (real_of doubled) f) half
unfolding coordinate_by moved_by is_nan sub add
moved-by doubled nan = rw add-nan
moved-by doubled (inf s) = refl
moved-by doubled (fin s m e) = refl

coordinate-explained : (side doubled : ℕ) (t v0 v1 : Float) →
    coordinate_by doubled (coordinate_moves side doubled (fraction t v0 v1)) ≡ cond (moves side doubled) (moved t v0 v1 (real_of doubled)) (real_of doubled)
unfolding coordinate_moves coordinate_by fraction moved
coordinate-explained side doubled t v0 v1 = by (moves side doubled)
  where
    by : (b : Bool) → coordinate_by doubled (cond b (moved_by (fraction t v0 v1)) Stayed) ≡ cond b (moved t v0 v1 (real_of doubled)) (real_of doubled)
    by true = moved-by doubled (fraction t v0 v1)
    by false = refl

pub vertex-explained : (values : List Float) (t : Float) (dx dy : ℕ) (p : Point) → vertex_by p (vertex_moves values t dx dy p) ≡ smoothed values t dx dy p
unfolding vertex_by vertex_moves smoothed
vertex-explained values t dx dy p = ap₂ (λ (x y : Float). record { x = x; y = y }) (coordinate-explained dx p.x t _ _) (coordinate-explained dy p.y t _ _)

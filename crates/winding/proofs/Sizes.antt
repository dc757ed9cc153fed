-- How large an area can be. Of a ring whose coordinates are within the limit each point adds at most the limit squared to either of two sums, and the area is
-- the difference of these; so the area of a ring with no more points than are allowed fits 64 bits. Assumes nothing.
use mathlib.Core.Path.{◌≡◌, refl, ap, ◌∙◌}
use mathlib.Core.Bool.{false}
use mathlib.Core.List.{List, [], ◌∷◌}
use Prim.Native.Nat.{ℕ, ◌+◌, ◌*◌, ◌≤◌, ◌^◌}
use native.Mathlib.Nat.{mul-le-mul}
use native.Mathlib.Omega.{arith}
use lib.Dec.{ltb}
use lib.IntN.{ℤ, ◌+ℤ◌}
use lib.ListN.{length}
use mir.Syntax.{w64}
use mir.Val.{SFits}
use borrow.Author.Tests.{ltb-false}
use Rattle.scope.specs.Limits.{coordinate_limit, point_limit}
use Rattle.scope.specs.Cells.{Point}
use Rattle.scope.specs.Stitching.{Line}
use Rattle.scope.specs.Area.{points, twist, twists, last_of, area, any_above}
use Rattle.laws.proofs.Tests.{neither}
use Rattle.laws.proofs.Conservation.{Each}
use Rattle.area.proofs.Differences.{diff, add-diff, diff-range}

-- both coordinates are within the limit
abbrev pub Low : Point → Type 0
Low p = (p.x ≤ coordinate_limit) × (p.y ≤ coordinate_limit)

-- the points of words none of which is above the limit
pub points-low : (ws : List ℕ) → any_above coordinate_limit ws ≡ false → Each Low (points ws)
unfolding any_above points
points-low [] e = tt
points-low (x ∷ []) e = tt
points-low (x ∷ y ∷ ws) e =
    let one = neither (ltb coordinate_limit x) (any_above coordinate_limit (y ∷ ws)) e in
    let two = neither (ltb coordinate_limit y) (any_above coordinate_limit ws) one.1 in
    ((ltb-false coordinate_limit x one.0, ltb-false coordinate_limit y two.0), points-low ws two.1)

-- two words a point
pub points-half : (ws : List ℕ) → 2 * length (points ws) ≤ length ws
unfolding points
points-half [] = omega arith
points-half (x ∷ []) = omega arith
points-half (x ∷ y ∷ ws) = omega (arith, points-half ws)

last-low : (p : Point) (l : Line) → Low p → Each Low l → Low (last_of p l)
unfolding last_of
last-low p [] low each = low
last-low p (q ∷ l) low each = last-low q l each.0 each.1

-- the difference of two sums to which each of n points adds at most the limit squared
record Small (z : ℤ) (n : ℕ) : Type 0 where
  gained : ℕ
  lost : ℕ
  is : z ≡ diff gained lost
  gained-small : gained ≤ 2 ^ 26 * n
  lost-small : lost ≤ 2 ^ 26 * n

product_small : (a b : ℕ) → a ≤ coordinate_limit → b ≤ coordinate_limit → a * b ≤ 2 ^ 26
unfolding coordinate_limit
product_small a b ha hb = mul-le-mul ha hb

twists-small : (p : Point) (l : Line) → Low p → Each Low l → Small (twists p l) (length l)
unfolding twists twist
twists-small p [] low each = record { gained = 0; lost = 0; is = refl; gained-small = omega arith; lost-small = omega arith }
twists-small p (q ∷ l) low each =
    let rest = twists-small q l each.0 each.1 in
    record {
      gained = p.y * q.x + rest.gained;
      lost = p.x * q.y + rest.lost;
      is = ap (λ (z : ℤ). twist p q +ℤ z) rest.is ∙ add-diff (p.y * q.x) (p.x * q.y) rest.gained rest.lost;
      gained-small = omega (arith, product_small p.y q.x low.1 each.0.0, rest.gained-small);
      lost-small = omega (arith, product_small p.x q.y low.0 each.0.1, rest.lost-small);
    }

area_small : (l : Line) → Each Low l → Small (area l) (length l)
unfolding area
area_small [] each = record { gained = 0; lost = 0; is = refl; gained-small = omega arith; lost-small = omega arith }
area_small (p ∷ l) each = twists-small (last_of p l) (p ∷ l) (last-low p l each.0 each.1) each

-- the area of a ring that number 9 lets pass
pub area-fits : (l : Line) → Each Low l → length l ≤ point_limit → SFits w64 (area l)
unfolding point_limit
area-fits l each few =
    let small = area_small l each in
    record { sfits = rw small.is (diff-range (2 ^ 63) small.gained small.lost (omega (arith, small.gained-small)) (omega (arith, small.lost-small))) }

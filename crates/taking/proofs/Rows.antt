-- A pair of points whose rows both lie before a point's row, or both after it, neither holds the point nor flips its sign. Assumes nothing.
use mathlib.Core.Path.{◌≡◌}
use mathlib.Core.Bool.{true, false, ◌&&◌}
use mathlib.Core.Logic.{◌⊎◌, inl, inr}
use Prim.Native.Nat.{ℕ}
use lib.Dec.{ltb}
use borrow.Author.Tests.{ltb-true}
use Rattle.scope.specs.Cells.{Point}
use Rattle.scope.specs.Containment.{on_pair, flips}
use Rattle.laws.proofs.Ends.{and_left, and_right}
use Rattle.nearness.proofs.Holding.{Past, over, under, either, is_false, none-by-rows}
use Rattle.nearness.proofs.Flipping.{flips-by-rows}
use Rattle.taking.specs.Places.{beside}

past-beside : (ay by y : ℕ) → beside ay by y ≡ true → Past ay by y
unfolding beside
past-beside ay by y e = from (either (ltb ay y && ltb by y) (ltb y ay && ltb y by) e)
  where
    from : (ltb ay y && ltb by y ≡ true) ⊎ (ltb y ay && ltb y by ≡ true) → Past ay by y
    from (inl h) = over (ltb-true ay y (and_left (ltb ay y) (ltb by y) h)) (ltb-true by y (and_right (ltb ay y) (ltb by y) h))
    from (inr h) = under (ltb-true y ay (and_left (ltb y ay) (ltb y by) h)) (ltb-true y by (and_right (ltb y ay) (ltb y by) h))

pub passed_over : (a b p : Point) → beside a.y b.y p.y ≡ true → (on_pair a b p ≡ false) × (flips a b p ≡ false)
passed_over a b p e =
    let past = past-beside a.y b.y p.y e in
    (is_false (on_pair a b p) (none-by-rows a b p past), flips-by-rows a b p past)

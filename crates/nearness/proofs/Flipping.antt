-- When a pair of points flips a point's sign: past both ends by Y, never; past both by X, exactly where the pair straddles the point's row and the point
-- lies on the left. The crossing abscissa is a mean of the ends' X, weighted by Y. Assumes nothing.
use mathlib.Core.Path.{◌≡◌, refl, ◌∙◌}
use mathlib.Core.Bool.{Bool, true, false, ◌&&◌, xor}
use Prim.Native.Nat.{ℕ, ◌+◌, ◌*◌, ◌-◌, ◌<◌, ◌≤◌}
use native.Mathlib.Omega.{arith}
use lib.Dec.{ltb}
use borrow.Author.Tests.{ltb-true, ltb-false, lt-ltb, le-ltb}
use Rattle.scope.specs.Cells.{Point}
use Rattle.scope.specs.Containment.{left_of_crossing, flips}
use Rattle.area.proofs.Crossing.{around, left_is}
use Rattle.nearness.proofs.Weights.{mix-below, mix-more, by_rows}
use Rattle.nearness.proofs.Holding.{Past, over, under}

-- whether a point past both ends lies on the left
abbrev pub on_left : {m n k : ℕ} → Past m n k → Bool
on_left (over s t) = false
on_left (under s t) = true

-- the two sums, where the pair straddles the row of the point downwards
module _ (a b p : Point) (h : a.y ≤ p.y) (i : p.y < b.y) where
  u : ℕ
  u = b.y - p.y

  v : ℕ
  v = p.y - a.y

  sums : around p b a + (u * a.x + v * b.x) ≡ around a b p + (u + v) * p.x
  unfolding u v
  sums = by_rows a b p u v (omega arith) (omega arith)

  sums-right : a.x ≤ p.x → b.x ≤ p.x → around a b p ≤ around p b a
  sums-right s t = omega (arith, sums, mix-below u v a.x b.x p.x s t)

  sums-left : p.x < a.x → p.x < b.x → around p b a < around a b p
  unfolding u
  sums-left s t = omega (arith, sums, mix-more u v a.x b.x p.x s t (omega arith))

-- the sums from the other end
around-back : (a b p : Point) → around p a b ≡ around a b p
unfolding around
around-back a b p = omega arith

module _ (a b p : Point) where
  -- the pair straddles the row of the point
  crossing-down : (s : Past a.x b.x p.x) → a.y ≤ p.y → p.y < b.y → left_of_crossing a b p ≡ on_left s
  crossing-down s h i = left_is a b p ∙ rw (le-ltb b.y a.y (omega arith)) (from s)
    where
      from : (s : Past a.x b.x p.x) → ltb (around p b a) (around a b p) ≡ on_left s
      from (over s t) = le-ltb (around p b a) (around a b p) (sums-right a b p h i (omega arith) (omega arith))
      from (under s t) = lt-ltb (around p b a) (around a b p) (sums-left a b p h i s t)

  crossing-up : (s : Past a.x b.x p.x) → b.y ≤ p.y → p.y < a.y → left_of_crossing a b p ≡ on_left s
  crossing-up s h i =
      left_is a b p ∙ rw (lt-ltb b.y a.y (omega arith), ← around-back a b p, around-back b a p) (from s)
    where
      from : (s : Past a.x b.x p.x) → ltb (around p a b) (around b a p) ≡ on_left s
      from (over s t) = le-ltb (around p a b) (around b a p) (sums-right b a p h i (omega arith) (omega arith))
      from (under s t) = lt-ltb (around p a b) (around b a p) (sums-left b a p h i t s)

  -- past both ends by X
  pub flips-by-columns : (s : Past a.x b.x p.x) → flips a b p ≡ xor (ltb p.y a.y) (ltb p.y b.y) && on_left s
  unfolding flips xor
  flips-by-columns s = from (ltb p.y a.y) refl (ltb p.y b.y) refl
    where
      from : (t : Bool) → ltb p.y a.y ≡ t → (u : Bool) → ltb p.y b.y ≡ u → xor t u && left_of_crossing a b p ≡ xor t u && on_left s
      from true e true f = refl
      from true e false f = crossing-up s (ltb-false p.y b.y f) (ltb-true p.y a.y e)
      from false e true f = crossing-down s (ltb-false p.y a.y e) (ltb-true p.y b.y f)
      from false e false f = refl

  -- past both ends by Y
  pub flips-by-rows : Past a.y b.y p.y → flips a b p ≡ false
  unfolding flips xor
  flips-by-rows (over s t) = rw (le-ltb p.y a.y (omega arith), le-ltb p.y b.y (omega arith)) refl
  flips-by-rows (under s t) = rw (lt-ltb p.y a.y s, lt-ltb p.y b.y t) refl

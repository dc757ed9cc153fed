-- Two numbers, each taken some times, against a third that is taken as often as both; and the two sums of collinearity, for a point between the ends by X
-- or by Y, as such a comparison. A product of sums is taken apart, and every product that is left is monotone. Assumes nothing.
use mathlib.Core.Path.{◌≡◌}
use Prim.Native.Nat.{ℕ, suc, ◌+◌, ◌*◌, ◌<◌, ◌≤◌}
use native.Mathlib.Nat.{add-mul, mul-add, mul-suc, mul-le-mul_left, le_of_mul-le-mul_left}
use native.Mathlib.Omega.{arith}
use Rattle.scope.specs.Cells.{Point}
use Rattle.area.proofs.Crossing.{around}
use Rattle.area.proofs.Differences.{Split, more, less, split}

module _ (u v s t m : ℕ) where
  -- neither number is above the third
  pub mix-below : s ≤ m → t ≤ m → u * s + v * t ≤ (u + v) * m
  mix-below hs ht = omega (arith, add-mul u v m, mul-le-mul_left u hs, mul-le-mul_left v ht)

  -- both are below it
  pub mix-less : s < m → t < m → 0 < u + v → u * s + v * t < (u + v) * m
  mix-less hs ht some = omega (arith, add-mul u v m, mul-suc u s, mul-suc v t, mul-le-mul_left u hs, mul-le-mul_left v ht)

  -- both are above it
  pub mix-more : m < s → m < t → 0 < u + v → (u + v) * m < u * s + v * t
  mix-more hs ht some = omega (arith, add-mul u v m, mul-suc u m, mul-suc v m, mul-le-mul_left u hs, mul-le-mul_left v ht)

-- two numbers, one taken more often than the other: as much either way only if they are equal
pub balanced : (m n s t : ℕ) → m < n → n * t + m * s ≡ m * t + n * s → s ≡ t
balanced m n s t h e = from (split m n)
  where
    from : Split m n → s ≡ t
    from (more k f) = absurd (omega arith)
    from (less k f) =
        let even : suc k * s ≡ suc k * t = omega (arith, rw f at e, add-mul m (suc k) t, add-mul m (suc k) s) in
        let below : s ≤ t = le_of_mul-le-mul_left {k = suc k} (omega arith) (omega arith) in
        let above : t ≤ s = le_of_mul-le-mul_left {k = suc k} (omega arith) (omega arith) in
        omega arith

module _ (a b p : Point) (u v : ℕ) where
  -- p is v to the right of a, and b is u to the right of p
  pub by-columns : p.x ≡ a.x + v → b.x ≡ a.x + v + u → around p b a + (u + v) * p.y ≡ around a b p + (u * a.y + v * b.y)
  unfolding around
  by-columns e f = rw (e, f) (simp (add-mul) (omega arith))

  -- p is v below a, and b is u below p
  pub by_rows : p.y ≡ a.y + v → b.y ≡ a.y + v + u → around p b a + (u * a.x + v * b.x) ≡ around a b p + (u + v) * p.x
  unfolding around
  by_rows e f = rw (e, f) (simp (add-mul, mul-add) (omega arith))

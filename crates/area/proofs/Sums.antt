-- The two running sums of an area: their difference and what the points not passed add is the area, and each stays small.
-- Each turn moves one point from what is left into the sums. Assumes nothing.
use mathlib.Core.Path.{◌≡◌, sym, ap, ◌∙◌}
use mathlib.Core.List.{List}
use Prim.Native.Nat.{ℕ, ◌+◌, ◌*◌, ◌<◌, ◌≤◌, ◌/◌, ◌%◌, ◌^◌}
use native.Mathlib.Omega.{arith}
use lib.IntN.{◌+ℤ◌, +ℤ_assoc, +ℤ_idl, +ℤ_idr}
use lib.ListN.{length, drop}
use Rattle.scope.specs.Area.{points, area, twist, twists}
use Rattle.scope.specs.Cells.{Point}
use Rattle.area.proofs.Differences.{diff, add-diff}
use Rattle.area.proofs.Words.{ring, point_at, last_point, next-point, no-point}

-- the sums before the point of number i, the point `last` standing before it: with what is left they make the area, and a point adds less than 2 ^ 32 to each
pub record Sums (ws : List ℕ) (last : Point) (gained lost i : ℕ) : Type 0 where
  pub even : length ws % 2 ≡ 0
  pub within : i ≤ length ws / 2
  pub gained-small : gained ≤ 2 ^ 32 * i
  pub lost-small : lost ≤ 2 ^ 32 * i
  pub total : area (points ws) ≡ diff gained lost +ℤ twists last (points (drop (2 * i) ws))

-- nothing is passed, and the last point stands before the first
pub sums-begin : (ws : List ℕ) → length ws % 2 ≡ 0 → 0 < length ws → Sums ws (last_point ws) 0 0 0
unfolding area
sums-begin ws e h =
    let r = ring ws e h in
    record {
      even = e;
      within = omega arith;
      gained-small = omega arith;
      lost-small = omega arith;
      total = rw (r.are, r.last) (sym (+ℤ_idl _));
    }

-- the next point is passed
pub sums_next : {ws : List ℕ} {last next : Point} {gained lost i : ℕ} → Sums ws last gained lost i → i < length ws / 2 → next ≡ point_at ws i →
    {p q : ℕ} → (p ≡ last.y * next.x) × (p < 2 ^ 32) → (q ≡ last.x * next.y) × (q < 2 ^ 32) →
    Sums ws next (gained + p) (lost + q) (i + 1)
unfolding twists twist
sums_next {ws} {last} {next} {gained} {lost} {i} s h is {p} {q} hp hq =
    record {
      even = s.even;
      within = omega arith;
      gained-small = omega arith;
      lost-small = omega arith;
      total = s.total ∙ rw (next-point ws i h, ← is, ← hp.0, ← hq.0) (sym (+ℤ_assoc (diff gained lost) (diff p q) _) ∙ ap (λ z. z +ℤ twists next (points (drop (2 * (i + 1)) ws))) (add-diff gained lost p q));
    }

-- all points are passed
pub sums-end : {ws : List ℕ} {last : Point} {gained lost i : ℕ} → Sums ws last gained lost i → length ws / 2 ≤ i → area (points ws) ≡ diff gained lost
unfolding points twists
sums-end {ws} {last} {gained} {lost} {i} s h = s.total ∙ rw (no-point ws i s.even h) (+ℤ_idr (diff gained lost))

-- How many segments a grid can draw: no more than it has neighbouring pairs with a sample of the grid. S is the number of pairs that differ, and of a row or
-- between two rows no more differ than stand there, those outside the grid left out. Assumes nothing.
use mathlib.Core.Path.{◌≡◌, ap₂}
use mathlib.Core.Bool.{false}
use Prim.Native.Nat.{ℕ, zero, suc, ◌+◌, ◌*◌, ◌≤◌}
use native.Mathlib.Omega.{arith}
use Rattle.scope.specs.Terrain.{Sheet}
use Rattle.scope.specs.Drawing.{segment_count}
use Rattle.scope.specs.Pairs.{differ, pairs_along, pairs_between, pairs_of_rows, pairs_of_sheet}
use Rattle.laws.proofs.Edges.{Outside}
use Rattle.laws.proofs.Sums.{sum_first, sum-last, sum-at-most, sum-nothing}
use Rattle.laws.proofs.Laws.{at_most_one, segments-are-the-pairs}

module _ (A : Sheet) {dx dy : ℕ} (out : Outside A dx dy) where
  along-few : (r : ℕ) → pairs_along A r 0 (suc dx) ≤ suc dx
  unfolding pairs_along
  along-few r = sum-at-most (λ i. differ (A i r) (A (suc i) r)) (λ i. at_most_one (A i r) (A (suc i) r)) 0 (suc dx)

  -- between two rows the first and the last pair lie outside
  between-few : (r : ℕ) → pairs_between A r 0 (suc (suc dx)) ≤ dx
  unfolding pairs_between
  between-few r =
      omega (
        arith,
        sum-last term (suc dx),
        sum_first term 0 dx,
        ap₂ differ (out.no-column-before r) (out.no-column-before (suc r)),
        ap₂ differ (out.no-column-after (suc dx) r (omega arith)) (out.no-column-after (suc dx) (suc r) (omega arith)),
        sum-at-most term (λ i. at_most_one (A i r) (A i (suc r))) 1 dx,
      )
    where
      term : ℕ → ℕ
      term i = differ (A i r) (A i (suc r))

  none-along : (r : ℕ) → ((i : ℕ) → A i r ≡ false) → pairs_along A r 0 (suc dx) ≡ 0
  unfolding pairs_along
  none-along r none = sum-nothing (λ i. differ (A i r) (A (suc i) r)) (λ i. ap₂ differ (none i) (none (suc i))) 0 (suc dx)

  rows_few : (r : ℕ) → pairs_of_rows A dx r ≤ r * (dx + suc dx)
  unfolding pairs_of_rows
  rows_few zero = omega (arith, none-along 0 out.no-row-before)
  rows_few (suc r) = omega (arith, rows_few r, between-few r, along-few (suc r))

  pub segments-are-no-more-than-pairs : segment_count A dx dy ≤ dx * suc dy + dy * suc dx
  unfolding pairs_of_sheet pairs_of_rows
  segments-are-no-more-than-pairs =
      omega (
        arith,
        segments-are-the-pairs A out,
        rows_few dy,
        between-few dy,
        none-along (suc dy) (λ i. out.no-row-after i (suc dy) (omega arith)),
      )

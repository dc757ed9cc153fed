-- Sums over a run of numbers that leave some out, and the number of the ring at each record. Assumes nothing.
use mathlib.Core.Path.{◌≡◌, sym, ap}
use Prim.Native.Nat.{ℕ, zero, suc, ◌≤◌, ◌<◌}
use native.Mathlib.Omega.{arith}
use native.Mathlib.Decide.{ℕ_discrete}
use Rattle.scope.specs.Pairs.{sum_from}
use Rattle.laws.proofs.Sums.{sum-last}
use Rattle.extents.specs.Records.{Permutes}
use Rattle.extents.proofs.Permutes.{taken-somewhere}

module _ (g : ℕ → ℕ) where
  -- numbers that weigh nothing are passed over
  pub sum_over : (i j : ℕ) → i ≤ j → ((k : ℕ) → i ≤ k → k < j → g k ≡ 0) → sum_from g 0 j ≡ sum_from g 0 i
  sum_over i zero h none = let e : i ≡ zero = omega arith in rw e
  sum_over i (suc j) h none = by (ℕ_discrete i (suc j)) (λ sooner. sum_over i j sooner (λ k from below. none k from (omega arith)))
    where
      by : Dec (i ≡ suc j) → (i ≤ j → sum_from g 0 j ≡ sum_from g 0 i) → sum_from g 0 (suc j) ≡ sum_from g 0 i
      by (yes e) before = ap (sum_from g 0) (sym e)
      by (no ne) before =
          let sooner : i ≤ j = omega arith in
          omega (arith, sum-last g j, none j sooner (omega arith), before sooner)

-- the number of the ring at a record
pub number_of : (f : ℕ → ℕ) (n : ℕ) → Permutes f n → (r : ℕ) → r < n → (i : ℕ) × (i < n) × (f i ≡ r)
number_of f n permutes r h = let there = taken-somewhere f n permutes r h in (there.place, there.below, there.takes)

-- Sums over a run of numbers: the first of them, one more at the end, all of them nothing, none above 1, two runs one after the other, and terms that agree along a run.
-- Assumes nothing.
use mathlib.Core.Path.{◌≡◌, refl, sym, ◌∙◌, ap}
use Prim.Native.Nat.{ℕ, zero, suc, ◌+◌, ◌≤◌, ◌<◌}
use native.Mathlib.Nat.{add-zero, zero-add, add-suc, suc-add}
use native.Mathlib.Omega.{arith}
use Rattle.scope.specs.Pairs.{sum_from}

module _ (f : ℕ → ℕ) where
  pub sum_first : (i k : ℕ) → sum_from f i (suc k) ≡ f i + sum_from f (suc i) k
  unfolding sum_from
  sum_first i k = refl

  last-from : (i k : ℕ) → sum_from f i (suc k) ≡ sum_from f i k + f (i + k)
  unfolding sum_from
  last-from i zero = omega (arith, ap f (add-zero i))
  last-from i (suc k) = omega (arith, last-from (suc i) k, ap f (suc-add i k ∙ sym (add-suc i k)))

  pub sum-last : (k : ℕ) → sum_from f 0 (suc k) ≡ sum_from f 0 k + f k
  sum-last k = omega (arith, last-from 0 k, ap f (zero-add k))

  pub sum-nothing : ((i : ℕ) → f i ≡ 0) → (i k : ℕ) → sum_from f i k ≡ 0
  unfolding sum_from
  sum-nothing none i zero = refl
  sum-nothing none i (suc k) = omega (arith, none i, sum-nothing none (suc i) k)

  pub sum-at-most : ((i : ℕ) → f i ≤ 1) → (i k : ℕ) → sum_from f i k ≤ k
  unfolding sum_from
  sum-at-most one i zero = omega arith
  sum-at-most one i (suc k) = omega (arith, one i, sum-at-most one (suc i) k)

  sum-split : (i k m : ℕ) → sum_from f i (k + m) ≡ sum_from f i k + sum_from f (i + k) m
  unfolding sum_from
  sum-split i zero m = rw (zero-add m, zero-add (sum_from f (i + 0) m), add-zero i)
  sum-split i (suc k) m = rw (suc-add k m) (omega (arith, sum-split (suc i) k m, ap (λ (n : ℕ). sum_from f n m) (suc-add i k ∙ sym (add-suc i k))))

  pub sum-in-two : (m k n : ℕ) → n ≡ m + k → sum_from f 0 n ≡ sum_from f 0 m + sum_from f m k
  sum-in-two m k n e = ap (sum_from f 0) e ∙ sum-split 0 m k ∙ ap (λ (i : ℕ). sum_from f 0 m + sum_from f i k) (zero-add m)

pub sum_agrees : (f g : ℕ → ℕ) (i k : ℕ) → ((j : ℕ) → i ≤ j → j < i + k → f j ≡ g j) → sum_from f i k ≡ sum_from g i k
unfolding sum_from
sum_agrees f g i zero same = refl
sum_agrees f g i (suc k) same = omega (arith, same i (omega arith) (omega arith), sum_agrees f g (suc i) k (λ j low high. same j (omega arith) (omega arith)))

pub sum-of-nothing : (f : ℕ → ℕ) (i k : ℕ) → ((j : ℕ) → i ≤ j → j < i + k → f j ≡ 0) → sum_from f i k ≡ 0
sum-of-nothing f i k none = sum_agrees f (λ j. 0) i k none ∙ sum-nothing (λ j. 0) (λ j. refl) i k

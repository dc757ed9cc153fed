-- Sums over the numbers below n: equal terms, terms that are sums, a double sum the other way round, and a sum of one term. Assumes nothing.
use mathlib.Core.Path.{◌≡◌, refl, sym, ap, ap₂, ◌∙◌}
use mathlib.Core.Bool.{Bool, true, false, cond}
use mathlib.Core.List.{[], ◌∷◌}
use Prim.Native.Nat.{ℕ, zero, suc, ◌+◌, ◌*◌, ◌≤◌, ◌<◌}
use native.Mathlib.Decide.{ℕ_discrete, dec_lt}
use native.Mathlib.Omega.{arith}
use Rattle.scope.specs.Cells.{when}
use Rattle.scope.specs.Pairs.{sum_from}
use Rattle.scope.specs.GeoJson.{numbers_of}
use Rattle.laws.proofs.Total.{total, total-append}
use Rattle.laws.proofs.Sums.{sum-last, sum-nothing, sum_agrees, sum-of-nothing}

pub sum_same : (f g : ℕ → ℕ) (n : ℕ) → ((k : ℕ) → k < n → f k ≡ g k) → sum_from f 0 n ≡ sum_from g 0 n
sum_same f g n same = sum_agrees f g 0 n (λ k low high. same k (omega arith))

pub sum_both : (f g : ℕ → ℕ) (n : ℕ) → sum_from (λ k. f k + g k) 0 n ≡ sum_from f 0 n + sum_from g 0 n
unfolding sum_from
sum_both f g zero = omega arith
sum_both f g (suc n) = omega (arith, sum-last (λ k. f k + g k) n, sum-last f n, sum-last g n, sum_both f g n)

-- columns and rows
pub sum-exchanged : (f : ℕ → ℕ → ℕ) (m n : ℕ) → sum_from (λ k. sum_from (f k) 0 n) 0 m ≡ sum_from (λ h. sum_from (λ k. f k h) 0 m) 0 n
unfolding sum_from
sum-exchanged f zero n = sym (sum-nothing (λ h. 0) (λ h. refl) 0 n)
sum-exchanged f (suc m) n =
    sum-last (λ k. sum_from (f k) 0 n) m
    ∙ ap (λ (s : ℕ). s + sum_from (f m) 0 n) (sum-exchanged f m n)
    ∙ sym (sum_both (λ h. sum_from (λ k. f k h) 0 m) (f m) n)
    ∙ sum_same (λ h. sum_from (λ k. f k h) 0 m + f m h) (λ h. sum_from (λ k. f k h) 0 (suc m)) n (λ h below. sym (sum-last (λ k. f k h) m))

pub sum-of-none : (f : ℕ → ℕ) (n : ℕ) → ((k : ℕ) → k < n → f k ≡ 0) → sum_from f 0 n ≡ 0
sum-of-none f n none = sum-of-nothing f 0 n (λ k low high. none k (omega arith))

-- all but one term are nothing
pub sum-of-one : (f : ℕ → ℕ) (j : ℕ) → ((k : ℕ) → (k ≡ j → ⊥) → f k ≡ 0) → (n : ℕ) → j < n → sum_from f 0 n ≡ f j
sum-of-one f j others zero h = absurd (omega arith)
sum-of-one f j others (suc n) h = sum-last f n ∙ by (ℕ_discrete n j) (sum-of-one f j others n)
  where
    by : Dec (n ≡ j) → (j < n → sum_from f 0 n ≡ f j) → sum_from f 0 n + f n ≡ f j
    by (yes e) before = omega (arith, ap f e, sum-of-none f n (λ k below. others k (λ same. omega (arith, e, below, same))))
    by (no ne) before = omega (arith, others n ne, before (omega (arith, ne)))

pub sum-within : (f : ℕ → ℕ) (m n : ℕ) → m ≤ n → sum_from f 0 m ≤ sum_from f 0 n
sum-within f m zero h = let same : m ≡ 0 = omega arith in rw same (omega arith)
sum-within f m (suc n) h = by (dec_lt n m) (sum-within f m n)
  where
    by : Dec (n < m) → (m ≤ n → sum_from f 0 m ≤ sum_from f 0 n) → sum_from f 0 m ≤ sum_from f 0 (suc n)
    by (yes above) before = let same : m ≡ suc n = omega arith in rw same (omega arith)
    by (no below) before = omega (arith, sum-last f n, before (omega (arith, below)))

pub sum-bounded : (f : ℕ → ℕ) (b n : ℕ) → ((k : ℕ) → k < n → f k ≤ b) → sum_from f 0 n ≤ n * b
unfolding sum_from
sum-bounded f b zero each = omega arith
sum-bounded f b (suc n) each = omega (arith, sum-last f n, each n (omega arith), sum-bounded f b n (λ k h. each k (omega (arith, h))))

-- a sum that counts or does not
pub sum-when : (f : ℕ → ℕ) (b : Bool) (n : ℕ) → when (sum_from f 0 n) b ≡ sum_from (λ k. when (f k) b) 0 n
sum-when f true n = refl
sum-when f false n = sym (sum-nothing (λ k. 0) (λ k. refl) 0 n)

-- over the numbers that pass a test
pub numbers-total : (test : ℕ → Bool) (w : ℕ → ℕ) (n : ℕ) → total w (numbers_of test n) ≡ sum_from (λ k. when (w k) (test k)) 0 n
unfolding numbers_of total sum_from
numbers-total test w zero = refl
numbers-total test w (suc n) =
    total-append w (numbers_of test n) (cond (test n) (n ∷ []) [])
    ∙ ap₂ (λ (a b : ℕ). a + b) (numbers-total test w n) (last (test n))
    ∙ sym (sum-last (λ k. when (w k) (test k)) n)
  where
    last : (b : Bool) → total w (cond b (n ∷ []) []) ≡ when (w n) b
    last true = omega arith
    last false = refl

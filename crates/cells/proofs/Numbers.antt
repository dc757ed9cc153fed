-- Rules over numbers in a row: what a list made by a rule holds at each place, and a test that antt computes at each number of a list passes at
-- any number that is one of them. Assumes nothing.
use mathlib.Core.Path.{◌≡◌, sym, subst⁻¹}
use mathlib.Core.Bool.{Bool, true, ◌&&◌, ◌||◌}
use mathlib.Core.List.{List, [], ◌∷◌}
use mathlib.Core.Logic.{inl, inr, ⊎_elim}
use Prim.Native.Nat.{ℕ, zero, suc, ◌+◌, ◌≤◌, ◌<◌}
use native.Mathlib.Nat.{add-zero, zero-add, suc-add, add-suc, eq-or-lt_of_le, le_of_suc-le-suc}
use native.Mathlib.Omega.{arith}
use lib.Dec.{T}
use lib.ListN.{get_or}
use mir.Facts.{and_yes, or_yes}
use mir.Val.{has_key}
use types.Run.{OneOf, hit}

-- what the rule gives at n numbers in a row, the first of them l
abbrev pub made {ℓ} : {X : Type ℓ} → (ℕ → X) → ℕ → ℕ → List X
made rule l zero = []
made rule l (suc n) = rule l ∷ made rule (suc l) n

made-from {ℓ} : {X : Type ℓ} (rule : ℕ → X) (l n k : ℕ) (past : X) → k < n → get_or (made rule l n) k past ≡ rule (l + k)
made-from rule l zero k past h = absurd (omega arith)
made-from rule l (suc n) zero past h = rw (add-zero l)
made-from rule l (suc n) (suc k) past h = rw (made-from rule (suc l) n k past (le_of_suc-le-suc h), suc-add l k, add-suc l k)

pub made_at {ℓ} : {X : Type ℓ} (rule : ℕ → X) (n k : ℕ) (past : X) → k < n → get_or (made rule 0 n) k past ≡ rule k
made_at rule n k past h = rw (made-from rule 0 n k past h, zero-add k)

-- the test passes at each number of the list
abbrev pub all : (ℕ → Bool) → List ℕ → Bool
all test [] = true
all test (k ∷ ks) = test k && all test ks

-- n numbers in a row, the first of them l
abbrev pub row : ℕ → ℕ → List ℕ
row l n = made (λ k. k) l n

pub among : (test : ℕ → Bool) (ks : List ℕ) → T (all test ks) → (k : ℕ) → OneOf ks k → T (test k)
among test [] t k h = absurd h
among test (k₀ ∷ []) t k h = subst⁻¹ (λ (m : ℕ). T (test m)) h (and_yes (test k₀) true t).0
among test (k₀ ∷ k₁ ∷ ks) t k (inl e) = subst⁻¹ (λ (m : ℕ). T (test m)) e (and_yes (test k₀) (all test (k₁ ∷ ks)) t).0
among test (k₀ ∷ k₁ ∷ ks) t k (inr h) = among test (k₁ ∷ ks) (and_yes (test k₀) (all test (k₁ ∷ ks)) t).1 k h

in_row : (l n k : ℕ) → l ≤ k → k < l + n → OneOf (row l n) k
in_row l zero k a b = omega arith
in_row l (suc zero) k a b = omega arith
in_row l (suc (suc n)) k a b =
    ⊎_elim (λ e. inl (sym e)) (λ h. inr (in_row (suc l) (suc n) k h (omega arith))) (eq-or-lt_of_le a)

pub within : (test : ℕ → Bool) (l n : ℕ) → T (all test (row l n)) → (k : ℕ) → l ≤ k → k < l + n → T (test k)
within test l n t k a b = among test (row l n) t k (in_row l n k a b)

-- the test passes, or the number is one of two lists of keys
abbrev pub left_or : List ℕ → List ℕ → (ℕ → Bool) → ℕ → Bool
left_or ks ks' test k = has_key ks k || (has_key ks' k || test k)

pub within-left : (ks ks' : List ℕ) (test : ℕ → Bool) (l n : ℕ) →
    T (all (left_or ks ks' test) (row l n)) →
    (k : ℕ) →
    l ≤ k →
    k < l + n →
    (OneOf ks k → ⊥) →
    (OneOf ks' k → ⊥) →
    T (test k)
within-left ks ks' test l n t k a b miss miss' =
    ⊎_elim (λ u. absurd (miss (hit ks k u)))
    (λ v. ⊎_elim (λ u. absurd (miss' (hit ks' k u))) (λ u. u) (or_yes (has_key ks' k) (test k) v))
    (or_yes (has_key ks k) (has_key ks' k || test k) (within (left_or ks ks' test) l n t k a b))

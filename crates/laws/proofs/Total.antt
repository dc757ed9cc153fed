-- Sums of a measure over a list: what a store, an append and a removal do to them. Every law of stitching is an instance for some measure.
-- Assumes nothing.
use mathlib.Core.Path.{◌≡◌, refl, ◌∙◌, ap}
use mathlib.Core.Bool.{Bool, true, false, cond}
use mathlib.Core.List.{List, [], ◌∷◌, ◌++◌}
use Prim.Native.Nat.{ℕ, zero, suc, ◌+◌, ◌-◌, ◌≤◌, ◌<◌}
use native.Mathlib.Nat.{le_of_suc-le-suc, not-suc-le-zero, suc_inj}
use native.Mathlib.Omega.{arith}
use native.Mathlib.Decide.{ℕ_discrete}
use lib.ListN.{length, get_or, set, take, length-set}
use lib.Seq.{get_or-set_same, get_or-set_other}
use Rattle.scope.specs.Cells.{when}
use Rattle.scope.specs.Stitching.{Line, find, without}

module _ {X : Type 0} (w : X → ℕ) where
  unfoldable pub total : List X → ℕ
  total [] = 0
  total (x ∷ xs) = w x + total xs

  pub total-append : (xs ys : List X) → total (xs ++ ys) ≡ total xs + total ys
  unfolding total
  total-append [] ys = omega arith
  total-append (x ∷ xs) ys = omega (arith, total-append xs ys)

  pub total-set : (xs : List X) (i : ℕ) (x d : X) → i < length xs → total (set xs i x) + w (get_or xs i d) ≡ total xs + w x
  unfolding total
  total-set [] i x d h = absurd (not-suc-le-zero h)
  total-set (y ∷ xs) zero x d h = omega arith
  total-set (y ∷ xs) (suc i) x d h = omega (arith, total-set xs i x d (le_of_suc-le-suc h))

  pub total-at : (xs : List X) (i : ℕ) (d : X) → i < length xs → w (get_or xs i d) ≤ total xs
  unfolding total
  total-at [] i d h = absurd (not-suc-le-zero h)
  total-at (y ∷ xs) zero d h = omega arith
  total-at (y ∷ xs) (suc i) d h = omega (arith, total-at xs i d (le_of_suc-le-suc h))

  -- two places count both
  pub total-two : (xs : List X) (i j : ℕ) (d : X) → i < length xs → j < length xs → (j ≡ i → ⊥) → w (get_or xs i d) + w (get_or xs j d) ≤ total xs
  unfolding total
  total-two [] i j d hi hj ne = absurd (not-suc-le-zero hi)
  total-two (x ∷ xs) zero zero d hi hj ne = absurd (ne refl)
  total-two (x ∷ xs) zero (suc j) d hi hj ne = omega (arith, total-at xs j d (le_of_suc-le-suc hj))
  total-two (x ∷ xs) (suc i) zero d hi hj ne = omega (arith, total-at xs i d (le_of_suc-le-suc hi))
  total-two (x ∷ xs) (suc i) (suc j) d hi hj ne = omega (arith, total-two xs i j d (le_of_suc-le-suc hi) (le_of_suc-le-suc hj) (λ e. ne (ap suc e)))

  pub total-take : (xs : List X) (n : ℕ) (d : X) → length xs ≡ suc n → total (take n xs) + w (get_or xs n d) ≡ total xs
  unfolding total
  total-take [] n d h = absurd (omega arith)
  total-take (x ∷ []) zero d h = omega arith
  total-take (x ∷ []) (suc n) d h = absurd (omega arith)
  total-take (x ∷ y ∷ xs) zero d h = absurd (omega arith)
  total-take (x ∷ y ∷ xs) (suc n) d h = omega (arith, total-take (y ∷ xs) n d (suc_inj h))

  -- a line that goes takes its own measure with it, whichever line moves into its place
  pub total-moved : (xs : List X) (n i : ℕ) (d : X) → length xs ≡ suc n → i < length xs → total (take n (set xs i (get_or xs n d))) + w (get_or xs i d) ≡ total xs
  total-moved xs n i d h hi =
      omega (arith, total-take (set xs i (get_or xs n d)) n d (length-set xs i (get_or xs n d) ∙ h), ap w (moved (ℕ_discrete n i)), total-set xs i (get_or xs n d) d hi)
    where
      moved : Dec (n ≡ i) → get_or (set xs i (get_or xs n d)) n d ≡ get_or xs n d
      moved (yes e) = ap (λ (k : ℕ). get_or (set xs i (get_or xs n d)) k d) e ∙ get_or-set_same xs i (get_or xs n d) d hi
      moved (no ne) = get_or-set_other xs i n (get_or xs n d) d ne

pub total-without : (w : Line → ℕ) (ls : List Line) (i : ℕ) → i < length ls → total w (without ls i) + w (get_or ls i []) ≡ total w ls
unfolding without
total-without w [] i h = absurd (not-suc-le-zero h)
total-without w (l ∷ ls) i h = rw (counted (length ls)) (total-moved w (l ∷ ls) (length ls) i [] refl h)
  where
    counted : (n : ℕ) → suc n - 1 ≡ n
    counted n = omega arith

-- 1 for what passes a test
abbrev pub tally : {X : Type 0} → (X → Bool) → X → ℕ
tally test x = when 1 (test x)

pub found : (test : Line → Bool) (ls : List Line) → find test ls < length ls → test (get_or ls (find test ls) []) ≡ true
unfolding find
found test [] h = absurd (not-suc-le-zero h)
found test (l ∷ ls) h = at (test l) refl (found test ls) h
  where
    at : (b : Bool) → test l ≡ b → (find test ls < length ls → test (get_or ls (find test ls) []) ≡ true) → cond b 0 (suc (find test ls)) < suc (length ls) → test (get_or (l ∷ ls) (cond b 0 (suc (find test ls))) []) ≡ true
    at true e ih k = e
    at false e ih k = ih (le_of_suc-le-suc k)

pub found-counts : (test : Line → Bool) (ls : List Line) → find test ls < length ls → 1 ≤ total (tally test) ls
found-counts test ls h = omega (arith, total-at (tally test) ls (find test ls) [] h, ap (when 1) (found test ls h))

pub not_found : (test : Line → Bool) (ls : List Line) → length ls ≤ find test ls → total (tally test) ls ≡ 0
unfolding find total
not_found test [] h = refl
not_found test (l ∷ ls) h = at (test l) refl (not_found test ls) h
  where
    at : (b : Bool) → test l ≡ b → (length ls ≤ find test ls → total (tally test) ls ≡ 0) → suc (length ls) ≤ cond b 0 (suc (find test ls)) → when 1 b + total (tally test) ls ≡ 0
    at true e ih k = absurd (not-suc-le-zero k)
    at false e ih k = omega (arith, ih (le_of_suc-le-suc k))

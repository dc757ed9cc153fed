-- Numbers below n that are taken in some order: none is n or above, none is taken twice, each is taken, and the way back takes them in some order too.
-- Each law weighs the numbers by a test, 1 where it holds, and compares the two sums. Assumes nothing.
use mathlib.Core.Path.{◌≡◌, refl, sym, ◌∙◌, ap}
use mathlib.Core.Bool.{Bool, true, false}
use Prim.Native.Nat.{ℕ, zero, suc, ◌+◌, ◌≤◌, ◌<◌}
use native.Mathlib.Decide.{ℕ_discrete, dec_lt}
use native.Mathlib.Omega.{arith}
use lib.Dec.{eqb, leb}
use borrow.Author.Tests.{eq-eqb, ne_eqb, eqb-true, le-leb, lt-leb}
use Rattle.scope.specs.Cells.{when}
use Rattle.scope.specs.Pairs.{sum_from}
use Rattle.laws.proofs.Sums.{sum_agrees, sum-of-nothing}
use Rattle.extents.specs.Records.{Permutes}

-- ---- sums over a run of numbers

module _ (f : ℕ → ℕ) where
  -- one number of the run
  pub sum_one : (i k j : ℕ) → i ≤ j → j < i + k → f j ≤ sum_from f i k
  unfolding sum_from
  sum_one i zero j h h' = absurd (omega arith)
  sum_one i (suc k) j h h' = from (sum_one (suc i) k j) (ℕ_discrete i j)
    where
      from : (suc i ≤ j → j < suc i + k → f j ≤ sum_from f (suc i) k) → Dec (i ≡ j) → f j ≤ f i + sum_from f (suc i) k
      from later (yes e) = omega (arith, ap f e)
      from later (no ne) = omega (arith, later (omega arith) (omega arith))

  -- two numbers of the run
  pub sum-two : (i k j l : ℕ) → i ≤ j → j < l → l < i + k → f j + f l ≤ sum_from f i k
  unfolding sum_from
  sum-two i zero j l h h' h'' = absurd (omega arith)
  sum-two i (suc k) j l h h' h'' = from (λ q. sum-two (suc i) k j l q h') (ℕ_discrete i j)
    where
      from : (suc i ≤ j → l < suc i + k → f j + f l ≤ sum_from f (suc i) k) → Dec (i ≡ j) → f j + f l ≤ f i + sum_from f (suc i) k
      from later (yes e) = omega (arith, ap f e, sum_one (suc i) k l (omega arith) (omega arith))
      from later (no ne) = omega (arith, later (omega arith) (omega arith))

-- 1 at one number
abbrev at : ℕ → ℕ → ℕ
at i k = when 1 (eqb k i)

at-itself : (i : ℕ) → at i i ≡ 1
at-itself i = rw (eq-eqb i i refl)

at_other : (i k : ℕ) → (k ≡ i → ⊥) → at i k ≡ 0
at_other i k ne = rw (ne_eqb k i ne)

-- over a run with that number in it, the sum is 1
counted-once : (i j k : ℕ) → j ≤ i → i < j + k → sum_from (at i) j k ≡ 1
unfolding sum_from
counted-once i j zero h h' = absurd (omega arith)
counted-once i j (suc k) h h' = from (counted-once i (suc j) k) (ℕ_discrete j i)
  where
    from : (suc j ≤ i → i < suc j + k → sum_from (at i) (suc j) k ≡ 1) → Dec (j ≡ i) → at i j + sum_from (at i) (suc j) k ≡ 1
    from later (yes e) =
        omega (arith, at-itself i, ap (at i) e, sum-of-nothing (at i) (suc j) k (λ l hl hl'. at_other i l (λ q. omega arith)))
    from later (no ne) = omega (arith, at_other i j ne, later (omega arith) (omega arith))

-- ---- a number that passes a test

-- a number below n that passes the test
record Found (test : ℕ → Bool) (n : ℕ) : Type 0 where
  place : ℕ
  below : place < n
  passes : test place ≡ true

-- where the tests sum to more than nothing, one holds
found : (test : ℕ → Bool) (i k : ℕ) → 1 ≤ sum_from (λ j. when 1 (test j)) i k → Found test (i + k)
unfolding sum_from
found test i zero h = absurd (omega arith)
found test i (suc k) h = from (found test (suc i) k) (test i) refl
  where
    from : (1 ≤ sum_from (λ j. when 1 (test j)) (suc i) k → Found test (suc i + k)) → (b : Bool) → test i ≡ b → Found test (i + suc k)
    from later true e = record { place = i; below = omega arith; passes = e }
    from later false e =
        let rest = later (omega (arith, ap (when 1) e)) in
        record { place = rest.place; below = omega arith; passes = rest.passes }

-- ---- the laws

-- the place at which a number is taken
pub record TakenAt (f : ℕ → ℕ) (n i : ℕ) : Type 0 where
  pub place : ℕ
  pub below : place < n
  pub takes : f place ≡ i

module _ (f : ℕ → ℕ) (n : ℕ) (p : Permutes f n) where
  -- what is taken is below n
  pub taken-below : (k : ℕ) → k < n → f k < n
  unfolding Permutes
  taken-below k h = from (dec_lt (f k) n)
    where
      beyond : ℕ → ℕ
      beyond i = when 1 (leb n i)

      from : Dec (f k < n) → f k < n
      from (yes h') = h'
      from (no h') = absurd (omega (arith, p beyond, none, one, ap (when 1) (le-leb n (f k) (omega arith))))
        where
          none : sum_from beyond 0 n ≡ 0
          none = sum-of-nothing beyond 0 n (λ j l l'. rw (lt-leb n j (omega arith)))

          one : beyond (f k) ≤ sum_from (λ j. beyond (f j)) 0 n
          one = sum_one (λ j. beyond (f j)) 0 n k (omega arith) (omega arith)

  -- a number is taken once
  pub taken-once : (k l : ℕ) → k < n → l < n → f k ≡ f l → k ≡ l
  unfolding Permutes
  taken-once k l h h' e = from (dec_lt k l) (dec_lt l k)
    where
      weight : ℕ → ℕ
      weight i = at (f k) (f i)

      total : sum_from weight 0 n ≡ 1
      total = p (at (f k)) ∙ counted-once (f k) 0 n (omega arith) (omega (arith, taken-below k h))

      both : weight k + weight l ≡ 2
      both = omega (arith, at-itself (f k), ap (at (f k)) e)

      from : Dec (k < l) → Dec (l < k) → k ≡ l
      from (yes q) d = absurd (omega (arith, total, both, sum-two weight 0 n k l (omega arith) q (omega arith)))
      from (no q) (yes q') = absurd (omega (arith, total, both, sum-two weight 0 n l k (omega arith) q' (omega arith)))
      from (no q) (no q') = omega arith

  -- each number below n is taken
  pub taken-somewhere : (i : ℕ) → i < n → TakenAt f n i
  unfolding Permutes
  taken-somewhere i h =
      let total : sum_from (λ k. at i (f k)) 0 n ≡ 1 = p (at i) ∙ counted-once i 0 n (omega arith) (omega arith) in
      let here = found (λ k. eqb (f k) i) 0 n (omega (arith, total)) in
      record { place = here.place; below = omega (arith, here.below); takes = eqb-true _ _ here.passes }

  -- the way back takes the numbers in some order too
  pub back-permutes : (g : ℕ → ℕ) → ((k : ℕ) → k < n → g (f k) ≡ k) → Permutes g n
  unfolding Permutes
  back-permutes g back w =
      sym (p (λ i. w (g i))) ∙ sum_agrees (λ k. w (g (f k))) w 0 n (λ k h h'. ap w (back k (omega arith)))

-- How many other rings take a ring, as a sum over the records and then over the numbers of the rings; and the search that goes through the numbers, passes
-- over those that do not take the ring, and keeps whether the sum so far is even. Assumes nothing.
use mathlib.Core.Path.{◌≡◌, refl, sym, ap, ◌∙◌}
use mathlib.Core.Bool.{Bool, true, false, cond, not, xor, ◌&&◌}
use mathlib.Core.List.{List}
use Prim.Native.Nat.{ℕ, zero, suc, ◌+◌, ◌%◌, ◌≤◌, ◌<◌}
use native.Mathlib.Numerals.{add-one}
use native.Mathlib.Omega.{arith}
use native.Mathlib.Decide.{ℕ_discrete}
use lib.Dec.{eqb}
use borrow.Author.Tests.{eq-eqb, ne_eqb, eqb-true, eqb-false}
use Rattle.scope.specs.Cells.{when}
use Rattle.scope.specs.Pairs.{sum_from}
use Rattle.scope.specs.Contour.{takes}
use Rattle.scope.specs.Band.{takers}
use Rattle.laws.proofs.Sums.{sum-last}
use Rattle.extents.specs.Records.{record_ring, record_rings, Permutes}
use Rattle.owners.specs.Searched.{takes_other, evenly_taken}
use Rattle.owners.proofs.Ranks.{sum_over}

module _ (points directory : List ℕ) (at : ℕ) where
  counts-one : (other taken : Bool) → cond other 0 (when 1 taken) ≡ when 1 (not other && taken)
  counts-one true taken = refl
  counts-one false taken = refl

  takers-sum : (k n : ℕ) →
      takers at k (record_rings points directory k n) (record_ring points directory at) ≡ sum_from (λ r. when 1 (takes_other points directory at r)) k n
  unfolding takers record_rings sum_from takes_other
  takers-sum k zero = refl
  takers-sum k (suc n) =
      omega (arith, counts-one (eqb at k) (takes (record_ring points directory k) (record_ring points directory at)), takers-sum (suc k) n)

  -- the rings that take the ring, counted by their numbers
  pub takers-by-number : (rank : ℕ → ℕ) (n : ℕ) → Permutes rank n →
      takers at 0 (record_rings points directory 0 n) (record_ring points directory at) ≡ sum_from (λ i. when 1 (takes_other points directory at (rank i))) 0 n
  unfolding Permutes
  takers-by-number rank n permutes = takers-sum 0 n ∙ sym (permutes (λ r. when 1 (takes_other points directory at r)))

-- one more makes an even number odd, and an odd one even
one_more : (m k : ℕ) (even here : Bool) → even ≡ eqb (m % 2) 0 → k ≡ m + when 1 here → xor even here ≡ eqb (k % 2) 0
unfolding xor
one_more m k true true e f = sym (ne_eqb (k % 2) 0 (λ q. omega (arith, eqb-true (m % 2) 0 (sym e))))
one_more m k true false e f = sym (eq-eqb (k % 2) 0 (omega (arith, eqb-true (m % 2) 0 (sym e))))
one_more m k false true e f = sym (eq-eqb (k % 2) 0 (by (ℕ_discrete (m % 2) 0)))
  where
    by : Dec (m % 2 ≡ 0) → k % 2 ≡ 0
    by (yes q) = absurd (eqb-false (m % 2) 0 (sym e) q)
    by (no ne) = omega arith
one_more m k false false e f = sym (ne_eqb (k % 2) 0 (λ q. eqb-false (m % 2) 0 (sym e) (omega arith)))

-- whether an even number of the numbers below i pass the test
pub record EvenTo (test : ℕ → Bool) (i : ℕ) (even : Bool) : Type 0 where
  pub so_far : even ≡ eqb (sum_from (λ k. when 1 (test k)) 0 i % 2) 0

module _ (test : ℕ → Bool) where
  abbrev passing : ℕ → ℕ
  passing i = sum_from (λ k. when 1 (test k)) 0 i

  passed_over : (i j : ℕ) → i ≤ j → ((k : ℕ) → i ≤ k → k < j → test k ≡ false) → passing j ≡ passing i
  passed_over i j h none = sum_over (λ k. when 1 (test k)) i j h (λ k from below. ap (when 1) (none k from below))

  pub even-begin : EvenTo test 0 true
  unfolding sum_from
  even-begin = record { so_far = refl }

  -- numbers that do not pass are passed over
  pub even-over : {i : ℕ} {even : Bool} (j : ℕ) → EvenTo test i even → i ≤ j → ((k : ℕ) → i ≤ k → k < j → test k ≡ false) → EvenTo test j even
  even-over {i} j s h none = record { so_far = rw (passed_over i j h none) s.so_far }

  -- a number is looked at
  pub even-seen : {i : ℕ} {even : Bool} → EvenTo test i even → EvenTo test (i + 1) (xor even (test i))
  even-seen {i} {even} s =
      record {
        so_far =
            one_more (passing i) (passing (i + 1)) even (test i) s.so_far
            (omega (arith, ap passing (add-one i), sum-last (λ k. when 1 (test k)) i));
      }

-- all rings are looked at
pub even-end : (points directory : List ℕ) (at : ℕ) (rank : ℕ → ℕ) (n : ℕ) → Permutes rank n → (i : ℕ) (even : Bool) →
    EvenTo (λ k. takes_other points directory at (rank k)) i even → i ≡ n →
    even ≡ evenly_taken points directory n at
unfolding evenly_taken
even-end points directory at rank n permutes i even s e =
    s.so_far ∙ rw (e, takers-by-number points directory at rank n permutes)

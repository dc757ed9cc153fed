-- The owner of a ring as the least record that may own it, and the search that goes through the numbers of the rings and keeps the least so far. A number that
-- no search beats stands for its record's word, also where that is the word of no owner. Assumes nothing.
use mathlib.Core.Path.{◌≡◌, refl, sym, ap, subst, ◌∙◌}
use mathlib.Core.Logic.{◌⊎◌, inl, inr}
use mathlib.Core.Bool.{Bool, true, false, cond, ◌&&◌, true≢false}
use mathlib.Core.List.{List}
use Prim.Native.Nat.{ℕ, zero, suc, ◌+◌, ◌≤◌, ◌<◌}
use native.Mathlib.Omega.{arith}
use native.Mathlib.Decide.{ℕ_discrete, dec_lt}
use lib.Dec.{ltb}
use borrow.Author.Tests.{ltb-true, ltb-false}
use Rattle.scope.specs.Limits.{no_owner}
use Rattle.scope.specs.Contour.{Fate, hole, owner_from, owner_word}
use Rattle.extents.specs.Records.{record_ring, record_rings, record_classes, Permutes}
use Rattle.owners.specs.Searched.{may_own, first_taker}
use Rattle.owners.proofs.Ranks.{number_of}

-- of n records from k on none below best passes the test, and best is one that passes or the word of no owner
record LeastOf (test : ℕ → Bool) (k n best : ℕ) : Type 0 where
  beats : (r : ℕ) → k ≤ r → r < k + n → test r ≡ true → (best ≤ r) × (r ≤ no_owner)
  stands : (best ≡ no_owner) ⊎ ((k ≤ best) × (best < k + n) × (test best ≡ true))

-- the first record does not pass, so the others decide
least-rest : {test : ℕ → Bool} {k n best : ℕ} → LeastOf test k (suc n) best → test k ≡ false → LeastOf test (suc k) n best
least-rest {test} {k} {n} {best} l e =
    record { beats = λ r from below passes. l.beats r (omega arith) (omega arith) passes; stands = by l.stands (ℕ_discrete k best) }
  where
    by : (best ≡ no_owner) ⊎ ((k ≤ best) × (best < k + suc n) × (test best ≡ true)) → Dec (k ≡ best) →
        (best ≡ no_owner) ⊎ ((suc k ≤ best) × (best < suc k + n) × (test best ≡ true))
    by (inl none) d = inl none
    by (inr one) (yes q) = absurd (true≢false (sym one.2 ∙ ap test (sym q) ∙ e))
    by (inr one) (no ne) = inr (omega (arith, one.0), omega (arith, one.1), one.2)

-- the first record passes, so it is the least
least_first : {test : ℕ → Bool} {k n best : ℕ} → LeastOf test k (suc n) best → test k ≡ true → k ≡ best
least_first {test} {k} {n} {best} l e = by l.stands
  where
    beaten : (best ≤ k) × (k ≤ no_owner)
    beaten = l.beats k (omega arith) (omega arith) e

    by : (best ≡ no_owner) ⊎ ((k ≤ best) × (best < k + suc n) × (test best ≡ true)) → k ≡ best
    by (inl none) = omega (arith, beaten)
    by (inr one) = omega (arith, beaten, one.0)

module _ (points directory : List ℕ) (at : ℕ) where
  owner-least : (k n best : ℕ) → LeastOf (may_own points directory at) k n best →
      owner_word at (owner_from k (record_classes directory k n) (record_rings points directory k n) (record_ring points directory at)) ≡ best
  unfolding record_classes record_rings owner_from owner_word may_own
  owner-least k zero best l = by l.stands
    where
      by : (best ≡ no_owner) ⊎ ((k ≤ best) × (best < k + zero) × (may_own points directory at best ≡ true)) → no_owner ≡ best
      by (inl none) = sym none
      by (inr one) = absurd (omega (arith, one.0, one.1))
  owner-least k (suc n) best l = by (may_own points directory at k) refl _ (owner-least (suc k) n best)
    where
      by : (b : Bool) → may_own points directory at k ≡ b → (rest : Fate) → (LeastOf (may_own points directory at) (suc k) n best → owner_word at rest ≡ best) →
          owner_word at (cond b (hole k) rest) ≡ best
      by true e rest later = least_first l e
      by false e rest later = later (least-rest l e)

-- of the records of the numbers below i none below best passes the test, and best is one of n records that passes or the word of no owner
pub record LeastTo (test : ℕ → Bool) (rank : ℕ → ℕ) (n i best : ℕ) : Type 0 where
  pub beats : (k : ℕ) → k < i → test (rank k) ≡ true → (best ≤ rank k) × (rank k ≤ no_owner)
  pub stands : (best ≡ no_owner) ⊎ ((best < n) × (test best ≡ true))

module _ (test : ℕ → Bool) (rank : ℕ → ℕ) (n : ℕ) where
  -- what is known of the numbers so far, of one number more
  one-beaten : (best best' i : ℕ) → ((k : ℕ) → k < i → test (rank k) ≡ true → (best ≤ rank k) × (rank k ≤ no_owner)) → best' ≤ best →
      (test (rank i) ≡ true → (best' ≤ rank i) × (rank i ≤ no_owner)) → (k : ℕ) → k < i + 1 → test (rank k) ≡ true → (best' ≤ rank k) × (rank k ≤ no_owner)
  one-beaten best best' i before less here k below passes = by (ℕ_discrete k i)
    where
      by : Dec (k ≡ i) → (best' ≤ rank k) × (rank k ≤ no_owner)
      by (yes q) =
          subst (λ (k' : ℕ). (best' ≤ rank k') × (rank k' ≤ no_owner)) (sym q) (here (ap (λ (k' : ℕ). test (rank k')) (sym q) ∙ passes))
      by (no ne) = let beaten = before k (omega arith) passes in (omega (arith, beaten.0), beaten.1)

  -- numbers that do not pass are passed over
  pub least-over : (i j best : ℕ) → LeastTo test rank n i best → ((k : ℕ) → i ≤ k → k < j → test (rank k) ≡ false) → LeastTo test rank n j best
  least-over i j best l none = record { beats = beaten; stands = l.stands }
    where
      by : (k : ℕ) → k < j → test (rank k) ≡ true → Dec (k < i) → (best ≤ rank k) × (rank k ≤ no_owner)
      by k below passes (yes sooner) = l.beats k sooner passes
      by k below passes (no later) = absurd (true≢false (sym passes ∙ none k (omega arith) below))

      beaten : (k : ℕ) → k < j → test (rank k) ≡ true → (best ≤ rank k) × (rank k ≤ no_owner)
      beaten k below passes = by k below passes (dec_lt k i)

  pub least-begin : LeastTo test rank n 0 no_owner
  least-begin = record { beats = λ k below passes. absurd (omega arith); stands = inl refl }

  -- a number is looked at
  pub least-seen : (i best best' : ℕ) → LeastTo test rank n i best → rank i < n → rank i ≤ no_owner →
      best' ≡ cond (ltb (rank i) best && test (rank i)) (rank i) best → LeastTo test rank n (i + 1) best'
  least-seen i best best' l below fits e = by (ltb (rank i) best) (test (rank i)) refl refl e
    where
      by : (less passes : Bool) → ltb (rank i) best ≡ less → test (rank i) ≡ passes → best' ≡ cond (less && passes) (rank i) best →
          LeastTo test rank n (i + 1) best'
      by true true f g q =
          record {
            beats = one-beaten best best' i l.beats (omega (arith, ltb-true (rank i) best f)) (λ passes. (omega arith, fits));
            stands = inr (omega arith, ap test q ∙ g);
          }
      by true false f g q =
          record {
            beats = one-beaten best best' i l.beats (omega arith) (λ passes. absurd (true≢false (sym passes ∙ g)));
            stands = rw q l.stands;
          }
      by false passes f g q =
          record {
            beats = one-beaten best best' i l.beats (omega arith) (λ passes. (omega (arith, ltb-false (rank i) best f), fits));
            stands = rw q l.stands;
          }

-- all rings are looked at
pub least-end : (points directory : List ℕ) (at : ℕ) (rank : ℕ → ℕ) (n : ℕ) → Permutes rank n → (i best : ℕ) →
    LeastTo (may_own points directory at) rank n i best → i ≡ n →
    best ≡ first_taker points directory n at
unfolding first_taker
least-end points directory at rank n permutes i best l e =
    sym (owner-least points directory at 0 n best (record { beats = all-beaten; stands = by l.stands }))
  where
    all-beaten : (r : ℕ) → 0 ≤ r → r < 0 + n → may_own points directory at r ≡ true → (best ≤ r) × (r ≤ no_owner)
    all-beaten r from below passes =
        let number = number_of rank n permutes r (omega arith) in
        subst (λ (r' : ℕ). (best ≤ r') × (r' ≤ no_owner)) number.2
        (l.beats number.0 (omega (arith, number.1)) (ap (may_own points directory at) number.2 ∙ passes))

    by : (best ≡ no_owner) ⊎ ((best < n) × (may_own points directory at best ≡ true)) →
        (best ≡ no_owner) ⊎ ((0 ≤ best) × (best < 0 + n) × (may_own points directory at best ≡ true))
    by (inl none) = inl none
    by (inr one) = inr (omega arith, omega (arith, one.0), one.1)

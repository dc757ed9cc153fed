-- A test of the numbers below n: one that some number passes, and one that none passes. Assumes nothing.
use mathlib.Core.Path.{◌≡◌, refl, sym, ◌∙◌}
use mathlib.Core.Bool.{Bool, true, false}
use Prim.Native.Nat.{ℕ, zero, suc, ◌<◌}
use native.Mathlib.Numerals.{add-one}
use Rattle.std.proofs.Common.{zero-add}
use native.Mathlib.Omega.{arith}
use lib.ListN.{length, get_or}
use borrow.Author.Count.{below_none, below_more}
use Rattle.std.specs.Bool.{MatchBool}
use Rattle.std.specs.List.{range_with_len, HoldsAt, AllWithin}
use Rattle.std.proofs.lemmas.List.FromFn.{length-range_with_len, get_or-range_with_len}
use Rattle.scope.specs.GeoJson.{any_below}
use Rattle.laws.proofs.Tests.{neither}

-- a test that no number below n passes, fails at each of them
pub none_below : (test : ℕ → Bool) (n : ℕ) → any_below test n ≡ false → (k : ℕ) → k < n → test k ≡ false
unfolding any_below
none_below test zero e = below_none _
none_below test (suc n) e =
    let both = neither (any_below test n) (test n) e in
    rw (← add-one n) (below_more _ n (none_below test n both.0) both.1)

-- one that a number below n passes, some number below n passes
pub some_below : (test : ℕ → Bool) (n k : ℕ) → k < n → test k ≡ true → true ≡ any_below test n
some_below test n k h e = by (any_below test n) refl
  where
    by : (b : Bool) → any_below test n ≡ b → true ≡ b
    by true f = refl
    by false f = sym e ∙ none_below test n f k h

-- a test that each number below n fails
none_passes : (test : ℕ → Bool) (n : ℕ) → ((k : ℕ) → k < n → test k ≡ false) → any_below test n ≡ false
unfolding any_below
none_passes test zero each = refl
none_passes test (suc n) each = rw (none_passes test n (λ k h. each k (omega arith)), each n (omega arith))

-- what is found where the numbers below n are asked in turn
pub any-asked : (test : ℕ → Bool) (n : ℕ) (r : Bool) →
    MatchBool r ((k : ℕ) × (k < length (range_with_len 0 n)) × HoldsAt (λ i. test i ≡ true) (range_with_len 0 n) k)
    (AllWithin (λ i. test i ≡ false) (range_with_len 0 n) 0 (length (range_with_len 0 n))) → r ≡ any_below test n
any-asked test n true found =
    let h : found.0 < n = omega (arith, found.1, length-range_with_len 0 n) in
    let at : get_or (range_with_len 0 n) found.0 0 ≡ found.0 = get_or-range_with_len 0 n found.0 0 h ∙ zero-add found.0 in
    some_below test n found.0 h (rw at at (found.2 0))
any-asked test n false none =
    sym (none_passes test n (λ k h. rw (get_or-range_with_len 0 n k 0 h ∙ zero-add k) at (none k 0 (omega arith) (omega (arith, length-range_with_len 0 n)))))

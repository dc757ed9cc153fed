-- The sign of an area and its size, as the machine finds them: a number below 0 is taken from -1 and 1 is added to what is left. By cases on the sign.
-- Assumes nothing.
use mathlib.Core.Path.{◌≡◌, refl}
use mathlib.Core.Bool.{true, false, true≢false}
use Prim.Native.Nat.{ℕ, suc, ◌+◌, ◌-◌, ◌<◌, ◌^◌}
use native.Mathlib.Numerals.{add-one}
use native.Mathlib.Omega.{arith}
use lib.Dec.{T}
use lib.IntN.{ℤ, pos, negsuc, ◌-ℤ◌, nat_abs}
use lib.Signed.{lt_z, non_neg}
use borrow.Author.Tests.{ltb-true, le-ltb}
use mir.Syntax.{w64}
use mir.Val.{Fits, SFits}
use Rattle.scope.specs.Area.{positive}

-- above 0 is positive
pub above_zero : (z : ℤ) → lt_z (pos 0) z ≡ positive z
unfolding positive
above_zero (pos n) = refl
above_zero (negsuc n) = refl

-- a number that is not below 0
pub not-below : (z : ℤ) → lt_z z (pos 0) ≡ false → SFits w64 z → T (non_neg z) × Fits w64 (nat_abs z)
not-below (pos n) h f = (tt, record { fits = omega (arith, f.sfits) })
not-below (negsuc n) h f = absurd (true≢false h)

-- a number below 0, taken from -1: what is left fits, is not below 0, and is one less than the size
pub record Flipped (z : ℤ) : Type 0 where
  pub left_over : ℕ
  pub few : left_over < 2 ^ 63
  pub is-left : negsuc 0 -ℤ z ≡ pos left_over
  pub one_less : left_over + 1 ≡ nat_abs z

pub below-flipped : (z : ℤ) → lt_z z (pos 0) ≡ true → SFits w64 z → Flipped z
below-flipped (pos n) h f = absurd (omega (arith, ltb-true n 0 h))
below-flipped (negsuc n) h f = record { left_over = n; few = f.sfits; is-left = rw (le-ltb (suc n) 1 (omega arith), less); one_less = add-one n }
  where
    less : suc n - 1 ≡ n
    less = omega arith

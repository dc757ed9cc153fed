-- A float by its bits, where the code must not ask for the bits of what is not a number: the bits of such a float, and which bits are no number's.
-- Assumes nothing.
use mathlib.Core.Path.{◌≡◌, refl, sym, subst, ◌∙◌}
use mathlib.Core.Bool.{true}
use Prim.Native.Nat.{ℕ, ◌*◌, ◌%◌, ◌<◌}
use lib.Dec.{T}
use lib.Ieee.{Float, nan, inf, fin, binary64, ones, hid, top, is_nan, of_bits, to_bits}
use lib.Ieee.Bits.{nan_bits_is, nan_bits_above}
use borrow.Author.Tests.{lt-ltb}

none-alone : (x : Float) → is_nan x ≡ true → nan ≡ x
unfolding is_nan
none-alone nan e = refl
none-alone (inf s) e = absurd (subst T (sym e) tt)
none-alone (fin s m e') e = absurd (subst T (sym e) tt)

-- a float that is no number has the bits that stand for all of these
pub bits-of-none : (x : Float) → is_nan x ≡ true → 9221120237041090560 ≡ to_bits binary64 x
unfolding to_bits
bits-of-none x e = rw (← none-alone x e)

-- bits above infinity's, the sign left out, are no number's
pub float-of-none : (bits : ℕ) → ones binary64 * hid binary64 < bits % top binary64 → nan ≡ of_bits binary64 bits
float-of-none bits l = none-alone (of_bits binary64 bits) (sym (nan_bits_is binary64 bits) ∙ nan_bits_above binary64 bits ∙ lt-ltb _ _ l)

-- `rowstate::float_of` meets its contract: bits above infinity's, the sign left out, are no number's, and others are some number's. Assumes nothing.
use Prim.Native.Nat.{◌*◌, ◌%◌}
use mathlib.Core.Bool.{Bool, not}
use mathlib.Core.Path.{sym, subst, ◌∙◌}
use lib.Dec.{T}
use lib.Ieee.{binary64, ones, hid, top, div, of_bits}
use lib.Ieee.Bits.{nan_bits_above}
use borrow.Author.Tests.{le-ltb}
use Rattle.rowstate.proofs.Floats.{float-of-none}
use Rattle.rowstate.proofs.float_of.Goals as goal

pub returns-then-bits-gt-INFINITE : goal.returns-then-bits-gt-INFINITE
unfolding div of_bits
returns-then-bits-gt-INFINITE c = float-of-none c.args.bits c.if-bits-gt-INFINITE.true

pub float_from_bits-result : goal.float_from_bits-result
float_from_bits-result c =
    let n = c.args.bits in
    subst (λ (b : Bool). T (not b)) (sym (nan_bits_above binary64 n ∙ le-ltb (ones binary64 * hid binary64) (n % top binary64) c.if-bits-gt-INFINITE.false)) tt

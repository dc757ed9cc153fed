-- `replay::tables::float_of` is safe: a pattern that is not above infinity's, the sign left out, is no NaN's. Assumes nothing.
use Rattle.std.proofs.Common.{◌*◌, ◌%◌, Bool, not, T, sym, ◌∙◌, subst, le-ltb}
use lib.Ieee.{binary64, ones, hid, top}
use lib.Ieee.Bits.{nan_bits_above}
use Rattle.replay.proofs.tables.float_of.Goals as goal

pub float_from_bits-result : goal.float_from_bits-result
float_from_bits-result c =
    let n = c.args.pattern in
    subst (λ (b : Bool). T (not b)) (sym (nan_bits_above binary64 n ∙ le-ltb (ones binary64 * hid binary64) (n % top binary64) c.if-pattern-gt-INFINITE.false)) tt

-- `rowstate::bits_of` meets its contract: a float that is no number has the bits of all of these. Assumes nothing.
use mathlib.Core.Path.{sym, ◌∙◌}
use Rattle.rowstate.proofs.Floats.{bits-of-none}
use Rattle.rowstate.proofs.bits_of.Goals as goal

pub returns-then-is_nan : goal.returns-then-is_nan
returns-then-is_nan c = bits-of-none c.args.x (sym c.is_nan.ensures.value ∙ c.if-is_nan.true)

-- `smoothing::real_of` meets its contract: the code's product is the definition's, and 0.5 by its bits is the definition's half. Assumes nothing.
use mathlib.Core.Path.{ap}
use lib.Ieee.{Float, of_bits, mul, binary64}
use Rattle.scope.specs.Smoothing.{whole, half, real_of}
use Rattle.smoothing.proofs.real_of.Goals as goal

pub returns : goal.returns
unfolding of_bits whole half real_of
returns c = ap (λ (x : Float). mul binary64 x half) c.from.ensures

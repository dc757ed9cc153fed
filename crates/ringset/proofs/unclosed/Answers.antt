-- `ringset::unclosed` meets its contract: the last point is that of the last two words. Assumes nothing.
use native.Mathlib.Omega.{arith}
use Rattle.ringset.proofs.Words.{unclosed-by-words}
use Rattle.ringset.proofs.unclosed.Goals as goal

pub returns : goal.returns
returns c =
    unclosed-by-words c.args.words.now (omega arith) (omega arith)

-- `words::set_bits` meets its contract: at first the whole word is left. Assumes nothing.
use Rattle.words.proofs.Places.{all-left}
use Rattle.words.proofs.set_bits.Goals as goal

pub returns : goal.returns
returns c = all-left c.args.word

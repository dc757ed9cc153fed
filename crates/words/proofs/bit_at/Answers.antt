-- `words::bit_at` meets its contract: a shift to the right is a quotient. Assumes nothing.
use borrow.Author.Rules.{rules}
use Rattle.words.specs.Bits.{bit_at}
use Rattle.words.proofs.bit_at.Goals as goal

pub returns : goal.returns
unfolding bit_at
returns c = search rules

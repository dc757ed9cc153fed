-- `words::one_left` meets its contract: what is left of the word is below 2 ^ 63, so its double and one fit. Assumes nothing.
use borrow.Author.Rules.{rules}
use Rattle.words.specs.Bits.{moved_in}
use Rattle.words.proofs.one_left.Goals as goal

pub returns : goal.returns
unfolding moved_in
returns c = search rules

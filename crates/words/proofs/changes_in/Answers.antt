-- `words::changes_in` meets its contract: the code's operations are the definition's. Assumes nothing.
use borrow.Author.Rules.{rules}
use Rattle.words.specs.Panes.{changes_in}
use Rattle.words.proofs.changes_in.Goals as goal

pub returns : goal.returns
unfolding changes_in
returns c = search rules

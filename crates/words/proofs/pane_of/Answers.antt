-- `words::pane_of` meets its contract: the two left words are the definition's by `one_left`'s contract. Assumes nothing.
use Rattle.words.specs.Panes.{pane_of}
use Rattle.words.proofs.pane_of.Goals as goal

pub returns : goal.returns
unfolding pane_of
returns c = rw (c.one_left-2.ensures, c.one_left.ensures)

-- `telling::vertex_word` meets its contract: each arm is the definition's. Assumes nothing.
use Rattle.telling.specs.Outputs.{no_vertex, vertex_word}
use Rattle.telling.proofs.vertex_word.Goals as goal

pub returns-in-Inside : goal.returns-in-Inside
unfolding vertex_word
returns-in-Inside c = rw c.in-Inside.is

pub returns-in-Outside : goal.returns-in-Outside
unfolding vertex_word
returns-in-Outside c = rw c.in-Outside.is

pub returns-in-Undecided : goal.returns-in-Undecided
unfolding vertex_word no_vertex
returns-in-Undecided c = rw c.in-Undecided.is

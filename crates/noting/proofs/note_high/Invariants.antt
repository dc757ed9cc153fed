-- `noting::note_high` meets its contract. The loop's invariant is `HighWalked`: the records so far hold the high parts of their keys. Assumes nothing.
use Rattle.noting.proofs.High.{HighWalked}
use Rattle.noting.proofs.note_high.Given as goal

abbrev pub invariant-loop-r : goal.invariant-loop-r
invariant-loop-r l = HighWalked l.points l.initial.directory l.n l.directory l.r

-- `reading::read_rest` meets its contract. The loop's invariant is `Begun`: what is left gives what the whole does. Assumes nothing.
use Rattle.reading.proofs.Places.{Begun}
use Rattle.reading.proofs.read_rest.Given as goal

abbrev pub invariant-loop-at : goal.invariant-loop-at
invariant-loop-at l = Begun l.text l.from l.begun l.end l.value l.at

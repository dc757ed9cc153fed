-- `reading::read_values` meets its contract. The loop's invariant is `Walked`: the numbers so far stand in the table, and they and what is left give what
-- the whole does. Assumes nothing.
use Rattle.reading.proofs.Walks.{Walked}
use Rattle.reading.proofs.read_values.Given as goal

abbrev pub invariant-loop-k : goal.invariant-loop-k
invariant-loop-k l = Walked l.text l.from l.dx l.count l.initial.values l.at l.column l.k l.values

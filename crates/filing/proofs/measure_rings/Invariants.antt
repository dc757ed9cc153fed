-- `filing::measure_rings` meets its contract. The loop's invariant is `MeasuredTo`: the extents of the rings so far stand by number.
-- Assumes nothing.
use Rattle.filing.proofs.Measures.{MeasuredTo}
use Rattle.filing.proofs.measure_rings.Given as goal

abbrev pub invariant-loop-i : goal.invariant-loop-i
invariant-loop-i l = MeasuredTo l.points l.directory l.initial.table l.n l.table l.i

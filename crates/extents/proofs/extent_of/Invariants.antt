-- `extents::extent_of` meets its contract. The loop's invariant is `Growing`: the extent, grown by the points that are left, is what is asked.
-- Assumes nothing.
use Rattle.extents.proofs.Growing.{Growing}
use Rattle.extents.proofs.extent_of.Given as goal

abbrev pub invariant-loop-k : goal.invariant-loop-k
invariant-loop-k l = Growing l.points l.fn.span.first l.fn.span.count l.e l.k

-- `filing::rank_rings` meets its contract. The loop's invariant is `RankedTo`: the records so far stand at their numbers.
-- Assumes nothing.
use Rattle.filing.proofs.Ranks.{RankedTo}
use Rattle.filing.proofs.rank_rings.Given as goal

abbrev pub invariant-loop-r : goal.invariant-loop-r
invariant-loop-r l = RankedTo l.directory l.initial.table l.n l.table l.r

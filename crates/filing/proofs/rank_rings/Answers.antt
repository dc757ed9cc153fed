-- `filing::rank_rings` meets its contract. The loop's invariant is `RankedTo`: the records so far stand at their numbers.
-- Assumes nothing.
use Rattle.extents.specs.Records.{record_number}
use Rattle.filing.proofs.Ranks.{ranked-begin, ranked-room, ranked-next, ranked-end}
use Rattle.filing.proofs.rank_rings.Goals as goal

pub loop-r-init : goal.loop-r-init
loop-r-init c = ranked-begin c.requires

pub bounds-table-ranks : goal.bounds-table-ranks
unfolding record_number
bounds-table-ranks c = ranked-room c.loop-r.invariant c.loop-r-test.true

pub loop-r-preserved : goal.loop-r-preserved
unfolding record_number
loop-r-preserved c = ranked-next c.loop-r.invariant c.loop-r-test.true

pub returns : goal.returns
returns c = ranked-end c.loop-r.invariant c.loop-r-test.false

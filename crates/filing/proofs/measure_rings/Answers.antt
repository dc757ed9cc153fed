-- `filing::measure_rings` meets its contract. The loop's invariant is `MeasuredTo`: the extents of the rings so far stand by number.
-- Assumes nothing.
use Rattle.filing.proofs.Measures.{measured-begin, measured-asks, measured-next, measured-end}
use Rattle.filing.proofs.measure_rings.Goals as goal

pub loop-i-init : goal.loop-i-init
loop-i-init c = measured-begin c.requires

pub measure_ring-requires : goal.measure_ring-requires
measure_ring-requires c = measured-asks c.loop-i.invariant c.loop-i-test.true

pub loop-i-preserved : goal.loop-i-preserved
loop-i-preserved c =
    measured-next c.loop-i.invariant c.loop-i-test.true c.measure_ring.ensures

pub returns : goal.returns
returns c = measured-end c.loop-i.invariant c.loop-i-test.false

-- `noting::note_high` meets its contract. The loop's invariant is `HighWalked`: the records so far hold the high parts of their keys. Assumes nothing.
use Rattle.noting.proofs.High.{high-begin, high-asks, high-next, high_end}
use Rattle.noting.proofs.note_high.Goals as goal

pub loop-r-init : goal.loop-r-init
loop-r-init c = high-begin c.requires

pub put_high-requires : goal.put_high-requires
put_high-requires c = high-asks c.loop-r.invariant c.loop-r-test.true

pub loop-r-preserved : goal.loop-r-preserved
loop-r-preserved c =
    high-next c.loop-r.invariant c.loop-r-test.true c.put_high.ensures

pub shape_of-directory : goal.shape_of-directory
shape_of-directory c = c.loop-r.invariant.so_far.as_long

pub returns : goal.returns
returns c = high_end c.loop-r.invariant c.loop-r-test.false

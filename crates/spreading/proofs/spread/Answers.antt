-- `spreading::spread` meets its contract. The loop's invariant is `SpreadTo`: the records from k on are spread out. Assumes nothing.
use native.Mathlib.Omega.{arith}
use Rattle.spreading.proofs.Stores.{spread-begin, spread-next, spread_end}
use Rattle.spreading.proofs.spread.Goals as goal

pub loop-k-init : goal.loop-k-init
loop-k-init c = (c.requires.0, spread-begin _ _ _ c.requires.1)

pub loop-k-preserved : goal.loop-k-preserved
loop-k-preserved c =
    let inv = c.loop-k.invariant in
    (inv.0, spread-next inv.1 _ (omega arith) c.spread_record.ensures)

pub returns : goal.returns
returns c = spread_end c.loop-k.invariant.1 c.loop-k-test.false

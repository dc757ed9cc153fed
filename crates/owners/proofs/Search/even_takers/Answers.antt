-- `owners::Search::even_takers` meets its contract. The loop's invariant is `Counting`: of the numbers so far, looked at or passed over, an even number take the ring
-- or an odd one. Assumes nothing.
use mathlib.Core.Bool.{xor}
use Rattle.owners.proofs.Searches.{found-below, counting-begin, counting-next, counting-end}
use Rattle.owners.proofs.Search.even_takers.Goals as goal

pub loop-i-init : goal.loop-i-init
loop-i-init c =
    rw c.into_iter-i-iterator.ensures.into_iter_gives (counting-begin c.requires c.rank_at-at.ensures c.near-i-items.ensures)

pub other_takes-even-requires : goal.other_takes-even-requires
other_takes-even-requires c =
    let inv = c.loop-i.invariant in
    (found-below inv.for-ring c.in-Some.ensures.steps.3.1, inv.for-ring.ranked.below)

pub loop-i-preserved : goal.loop-i-preserved
unfolding xor
loop-i-preserved c =
    let found = c.in-Some.ensures.steps in
    counting-next c.loop-i.invariant (found.0, found.1, found.2) found.3.0 found.3.2 c.other_takes-even.ensures

pub returns : goal.returns
returns c = counting-end c.loop-i.invariant c.in-None.ensures.steps.3

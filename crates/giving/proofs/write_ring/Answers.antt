-- `giving::write_ring` meets its contract. The loop's invariant is `RingLeft`: storing the points of the links not yet walked, and then the ring's end, leaves
-- what is asked; so does stopping at the points' end. Assumes nothing.
use native.Mathlib.Omega.{arith}
use borrow.Author.Rules.{rules}
use Rattle.giving.proofs.Walks.{ring-begins, ring-room, ring-stops, ring-next, ring-ends}
use Rattle.giving.proofs.write_ring.Goals as goal

pub loop-i-init : goal.loop-i-init
loop-i-init c = ring-begins _ _ _ _ _ _ _

pub shape_of-points-then-points-place : goal.shape_of-points-then-points-place
shape_of-points-then-points-place c = ring-room _ _ _ _ _ _ _ c.loop-i.invariant

pub returns-then-points-place : goal.returns-then-points-place
returns-then-points-place c = ring-stops _ _ _ _ _ _ _ c.loop-i.invariant c.if-points-place.true

pub loop-i-preserved : goal.loop-i-preserved
loop-i-preserved c =
    ring-next _ _ _ _ _ _ _ c.loop-i.invariant (omega arith) c.link_point.ensures c.put_index.ensures
    c.next_link-k.ensures

pub shape_of-points : goal.shape_of-points
shape_of-points c =
    search (rules, ring-room _ _ _ _ _ _ _ c.loop-i.invariant)

pub returns : goal.returns
returns c =
    ring-ends _ _ _ _ _ _ _ c.loop-i.invariant (omega arith) c.put_index-2.ensures c.link_point-2.ensures
    c.put_index-3.ensures

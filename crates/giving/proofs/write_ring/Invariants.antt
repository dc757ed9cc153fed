-- `giving::write_ring` meets its contract. The loop's invariant is `RingLeft`: storing the points of the links not yet walked, and then the ring's end, leaves
-- what is asked; so does stopping at the points' end. Assumes nothing.
use Rattle.giving.proofs.Walks.{RingLeft}
use Rattle.giving.proofs.write_ring.Given as goal

abbrev pub invariant-loop-i : goal.invariant-loop-i
invariant-loop-i l = RingLeft l.dx l.links l.first l.size l.end l.initial.points l.at l.points l.k l.i

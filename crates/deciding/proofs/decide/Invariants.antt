-- `deciding::decide` meets its contract. The loop's invariant is `Left`: the vertices that are not passed come to what all do. A vertex in the row of the outer
-- ring's first point answers 0, and for any other the pairs of neighbours answer. Assumes nothing.
use Rattle.extents.specs.Points.{ring_in}
use Rattle.deciding.proofs.Laws.{Left}
use Rattle.deciding.proofs.decide.Given as goal

abbrev pub invariant-loop-v : goal.invariant-loop-v
invariant-loop-v l = Left (ring_in l.points l.fn.outer.first l.fn.outer.count) l.points l.fn.ring.first l.fn.ring.count l.v

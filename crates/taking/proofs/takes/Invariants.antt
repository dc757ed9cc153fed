-- `taking::takes` meets its contract. The loop's invariant is `Passed`: the vertices that are not passed answer as all do. Assumes nothing.
use Prim.Native.Nat.{◌+◌}
use Rattle.extents.specs.Points.{ring_in}
use Rattle.taking.proofs.Walks.{Passed}
use Rattle.taking.proofs.takes.Given as goal

abbrev pub invariant-loop-v : goal.invariant-loop-v
invariant-loop-v l = Passed (ring_in l.points l.fn.outer.first l.fn.outer.count) (ring_in l.points l.fn.tested.first l.fn.tested.count) l.points (l.fn.tested.first + l.fn.tested.count) l.v

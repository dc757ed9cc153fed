-- `taking::Packed::along_near` meets its contract. The loop's invariant is `Gone`: the pairs that are neither passed over nor walked answer as all do. The measure
-- is what is left of them. Assumes nothing.
use Prim.Native.Nat.{◌-◌}
use Rattle.area.specs.Points.{meant}
use Rattle.taking.proofs.Passing.{Gone}
use Rattle.taking.proofs.Packed.along_near.Given as goal

abbrev pub invariant-loop-k : goal.invariant-loop-k
invariant-loop-k l = Gone l.fn.self.points.now l.fn.self.table.now l.ladder l.from l.last (meant l.p) l.inside l.within l.k

abbrev pub decreases-loop-k : goal.decreases-loop-k
decreases-loop-k l = l.last - l.k

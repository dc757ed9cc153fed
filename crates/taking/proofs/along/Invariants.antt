-- `taking::along` meets its contract. The loop's invariant is `Along`: the pairs that are not passed answer as all do. Assumes nothing.
use Rattle.area.specs.Points.{meant}
use Rattle.taking.proofs.Walks.{Along}
use Rattle.taking.proofs.along.Given as goal

abbrev pub invariant-loop-k : goal.invariant-loop-k
invariant-loop-k l = Along l.points l.from l.to (meant l.p) l.inside l.within l.k

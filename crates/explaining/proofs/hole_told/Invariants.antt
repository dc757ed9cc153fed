-- `explaining::hole_told` meets its contract. The loop's invariant is `Sought`: the rings that are not passed give the owner that all do. Assumes nothing.
use Rattle.scope.specs.GeoJson.{ring_at}
use Rattle.explaining.proofs.Owners.{Sought}
use Rattle.explaining.proofs.hole_told.Given as goal

abbrev pub invariant-loop-k : goal.invariant-loop-k
invariant-loop-k l = Sought l.set.points.now l.set.directory.now (ring_at l.set.points.now l.set.directory.now l.ring) l.set.rings l.k

-- `packing::write_rings` meets its contract. The loop's invariant is `PointsLeft` with `RecordsLeft`: storing the points and the records of the links not yet
-- walked leaves what is asked. Assumes nothing.
use Prim.Native.Nat.{◌-◌}
use lib.IntN.{ℤ}
use Rattle.machine.specs.Walk.{point_words}
use Rattle.packing.proofs.Walks.{PointsLeft}
use Rattle.packing.proofs.Walks.{RecordsLeft, short_words}
use Rattle.packing.proofs.write_rings.Given as goal

abbrev pub invariant-loop : goal.invariant-loop
invariant-loop l = PointsLeft (point_words l.dx l.links) l.links l.initial.points l.head l.count l.points l.walk.first l.walk.k l.walk.at (l.count - l.counter) ×
    ((a : ℤ) × RecordsLeft short_words 4 0 l.links l.initial.directory l.head l.count l.directory l.walk.first l.walk.first_point l.walk.size a l.walk.k l.walk.record_at (l.count - l.counter))

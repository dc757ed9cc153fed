-- `plotting::write_lines` meets its contract. The loop's invariant is `PointsLeft` with `RecordsLeft`: storing the points and the records of the links not yet
-- walked leaves what is asked, the number is the ring's area so far, and the point is where the link starts. Assumes nothing.
use mathlib.Core.Path.{◌≡◌}
use Prim.Native.Nat.{◌-◌, ◌^◌, ◌<◌}
use lib.IntN.{ℤ}
use Rattle.scope.specs.Area.{twos_complement}
use Rattle.machine.specs.Walk.{start_point, measured_words}
use Rattle.packing.proofs.Walks.{PointsLeft}
use Rattle.packing.proofs.Walks.{RecordsLeft}
use Rattle.smoothing.specs.Values.{placing_of}
use Rattle.plotting.specs.Plot.{point_of, vertex_at}
use Rattle.plotting.proofs.write_lines.Given as goal

abbrev pub invariant-loop : goal.invariant-loop
invariant-loop l = (l.count < 2 ^ 32) ×
    PointsLeft (vertex_at l.plot.smooth l.plot.values.now l.plot.level.threshold l.plot.dx l.plot.dy (placing_of l.plot.placement) l.links) l.links l.initial.points l.head l.count l.points l.walk.first l.walk.k l.walk.at (l.count - l.counter) ×
    ((a : ℤ) × (l.area ≡ twos_complement a) × RecordsLeft measured_words 6 l.plot.dx l.links l.initial.directory l.head l.count l.directory l.walk.first l.walk.first_point l.walk.size a l.walk.k l.walk.record_at (l.count - l.counter)) ×
    (point_of l.point ≡ start_point l.plot.dx l.links l.walk.k)

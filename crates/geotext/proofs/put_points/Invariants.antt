-- `geotext::put_points` meets its contract. The loop's invariant is `PointsLeft`: so many points are left, in the order in which they are written.
-- Assumes nothing.
use Rattle.geotext.proofs.Rings.{PointsLeft}
use Rattle.geotext.proofs.put_points.Given as goal

abbrev pub invariant-loop-left : goal.invariant-loop-left
invariant-loop-left l = PointsLeft l.ring l.back l.initial.text l.at l.text l.place l.left

-- `extents::extent_of` meets its contract. The loop's invariant is `Growing`: the extent, grown by the points that are left, is what is asked.
-- Assumes nothing.
use mathlib.Core.Path.{ap}
use native.Mathlib.Omega.{arith}
use Rattle.area.specs.Points.{meant}
use Rattle.extents.specs.Points.{point_in}
use Rattle.extents.specs.Extents.{no_extent}
use Rattle.extents.proofs.Growing.{growing-begin, growing-next, growing-end}
use Rattle.extents.proofs.extent_of.Goals as goal

pub loop-k-init : goal.loop-k-init
unfolding no_extent
loop-k-init c = growing-begin _ _ _ (λ i. let fits = c.type_inv.points i in omega arith)

pub loop-k-preserved : goal.loop-k-preserved
unfolding point_in
loop-k-preserved c =
    rw (c.with_point-e.ensures, ap meant c.point_at.ensures) (growing-next c.loop-k.invariant (omega arith))

pub returns : goal.returns
returns c = growing-end c.loop-k.invariant (omega arith)

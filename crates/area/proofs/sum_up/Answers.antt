-- `area::sum_up` meets its contract. The loop's invariant is `Summing`. Assumes nothing.
use mathlib.Core.Path.{ap}
use native.Mathlib.Omega.{arith}
use Rattle.scope.specs.Limits.{coordinate_limit}
use Rattle.area.specs.Points.{meant}
use Rattle.area.proofs.Sums.{sums-end}
use Rattle.area.proofs.Words.{point_at}
use Rattle.area.proofs.Summing.{summing-begin, summing-next, none_left}
use Rattle.area.proofs.sum_up.Goals as goal

pub loop-i-init : goal.loop-i-init
unfolding point_at
loop-i-init c = let pre = c.requires in summing-begin _ pre.0 pre.1 pre.2 (ap meant c.point_at-last.ensures)

pub loop-i-preserved : goal.loop-i-preserved
unfolding coordinate_limit point_at
loop-i-preserved c =
    summing-next c.loop-i.invariant c.loop-i-test.true (ap meant c.point_at-next.ensures) c.product-gained.ensures c.product-lost.ensures

pub returns : goal.returns
returns c =
    let inv = c.loop-i.invariant in
    let left = c.loop-i-test.false in
    record {
      over-is = none_left inv left;
      area-is = sums-end inv.sums left;
      gained-small = omega arith;
      lost-small = omega arith;
    }

-- `trying::try_cell` meets its contract: each arm tries the strokes that the case table has for its numbers, and the numbers that are left have none. Assumes nothing.
use native.Mathlib.Omega.{arith}
use Rattle.scope.specs.Limits.{side_limit}
use Rattle.trying.proofs.ByNumber.{one-tried, cross-tried, two-tried, zero-tried, past-tried}
use Rattle.trying.proofs.try_cell.Goals as goal

pub overflow_add-dx : goal.overflow_add-dx
unfolding side_limit
overflow_add-dx c = omega (arith, c.requires.0)

pub returns-in-5 : goal.returns-in-5
returns-in-5 c = cross-tried _ _ _ _ c.in-5.is c.try_cross.ensures c.after_cell.ensures

pub returns-in-10 : goal.returns-in-10
returns-in-10 c =
    two-tried _ _ _ _ c.in-10.is c.stroke_at.ensures c.stroke_at-in-10.ensures c.try_stroke-one.ensures
    c.try_stroke.ensures c.after_cell-in-10.ensures

pub returns-in-1-to-14 : goal.returns-in-1-to-14
returns-in-1-to-14 c =
    one-tried _ _ _ _ (omega arith) (omega arith) (omega arith) (omega arith) c.first_stroke.ensures
    c.try_stroke-in-1-to-14.ensures c.after_cell-in-1-to-14.ensures

pub returns-in_default : goal.returns-in_default
returns-in_default c = zero-tried _ _ _ _ (omega arith)

pub returns-in_default-2 : goal.returns-in_default-2
returns-in_default-2 c = past-tried _ _ _ _ (omega arith)

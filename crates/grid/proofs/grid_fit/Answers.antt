-- `grid::grid_fit` meets its contract: each of its tests is one that refuses, and past them the grid fits. Assumes nothing.
use native.Mathlib.Nat.{mul-le-mul}
use native.Mathlib.Omega.{arith}
use Rattle.scope.specs.Limits.{side_limit}
use Rattle.grid.proofs.Laws.{no-columns-are-refused, too-many-columns-are-refused, no-rows-are-refused, too-many-rows-are-refused, a-wrong-count-is-refused, a-right-count-fits}
use Rattle.grid.proofs.grid_fit.Goals as goal

pub returns-then-dx-eq0 : goal.returns-then-dx-eq0
returns-then-dx-eq0 c = no-columns-are-refused _ _ _ (omega arith)

pub returns-then-dx-gt-SIDE_LIMIT : goal.returns-then-dx-gt-SIDE_LIMIT
unfolding side_limit
returns-then-dx-gt-SIDE_LIMIT c = too-many-columns-are-refused _ _ _ (omega arith)

pub returns-then-dy-eq0 : goal.returns-then-dy-eq0
returns-then-dy-eq0 c = no-rows-are-refused _ _ _ (omega arith)

pub returns-then-dy-gt-SIDE_LIMIT : goal.returns-then-dy-gt-SIDE_LIMIT
unfolding side_limit
returns-then-dy-gt-SIDE_LIMIT c = too-many-rows-are-refused _ _ _ (omega arith)

pub overflow_mul-dx : goal.overflow_mul-dx
overflow_mul-dx c = omega (arith, mul-le-mul c.if-dx-gt-SIDE_LIMIT.false c.if-dy-gt-SIDE_LIMIT.false)

pub returns-then-count-dx : goal.returns-then-count-dx
unfolding side_limit
returns-then-count-dx c = a-wrong-count-is-refused _ _ _ (omega arith) (omega arith) (omega arith) (omega arith) (λ e. omega arith)

pub returns : goal.returns
unfolding side_limit
returns c = a-right-count-fits _ _ _ (omega arith) (omega arith) (omega arith) (omega arith) (omega arith)

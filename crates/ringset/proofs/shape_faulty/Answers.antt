-- `ringset::shape_faulty` meets its contract: each test is one of the definition's, and the part of the points is the record's words. Assumes nothing.
use native.Mathlib.Omega.{arith}
use Rattle.scope.specs.Limits.{point_limit}
use Rattle.ringset.proofs.Judged.{too_few, too_many, outside, too-high, not-closed, another-area, class-decides}
use Rattle.ringset.proofs.shape_faulty.Goals as goal

pub returns-then-count-lt4 : goal.returns-then-count-lt4
returns-then-count-lt4 c = too_few _ _ (omega arith)

pub returns-then-count-gt-POINT_LIMIT : goal.returns-then-count-gt-POINT_LIMIT
unfolding point_limit
returns-then-count-gt-POINT_LIMIT c = too_many _ _ (omega arith) (omega arith)

pub returns-then-points-end : goal.returns-then-points-end
returns-then-points-end c = outside _ _ (omega arith)

pub returns-then-found : goal.returns-then-found
unfolding point_limit
returns-then-found c = too-high _ _ (omega arith) (omega arith) (omega arith) c.measure-found.ensures c.if-found.true

pub returns-then-unclosed : goal.returns-then-unclosed
unfolding point_limit
returns-then-unclosed c =
    not-closed _ _ (omega arith) (omega arith) (omega arith) c.measure-found.ensures c.if-found.false c.unclosed.ensures c.if-unclosed.true

pub returns-then-area_differs : goal.returns-then-area_differs
unfolding point_limit
returns-then-area_differs c =
    another-area _ _ (omega arith) (omega arith) (omega arith) c.measure-found.ensures c.if-found.false c.unclosed.ensures c.if-unclosed.false
    c.area_differs.ensures c.if-area_differs.true

pub returns : goal.returns
unfolding point_limit
returns c =
    class-decides _ _ (omega arith) (omega arith) (omega arith) c.measure-found.ensures c.if-found.false c.unclosed.ensures c.if-unclosed.false
    c.area_differs.ensures c.if-area_differs.false

-- `deciding::decide` meets its contract. The loop's invariant is `Left`: the vertices that are not passed come to what all do. A vertex in the row of the outer
-- ring's first point answers 0, and for any other the pairs of neighbours answer. Assumes nothing.
use mathlib.Core.Path.{sym, ap, ◌∙◌}
use Rattle.scope.specs.Containment.{outside, boundary, inside}
use Rattle.area.specs.Points.{meant}
use Rattle.extents.specs.Points.{point_in}
use Rattle.area.specs.Answers.{place_of}
use Rattle.taking.proofs.Walks.{placed}
use Rattle.deciding.proofs.Laws.{left-begin, left-next, left-inside, left-outside, left-none, in-first-row, by-neighbours}
use Rattle.deciding.proofs.decide.Goals as goal

pub loop-v-init : goal.loop-v-init
loop-v-init c = left-begin _ _ _ _

pub loop-v-preserved-then-p-row : goal.loop-v-preserved-then-p-row
unfolding point_in
loop-v-preserved-then-p-row c =
    let is = ap meant c.point_at-p.ensures in
    left-next c.loop-v.invariant c.loop-v-test.true is (in-first-row c.requires.0 _ (rw c.point_at-row.ensures at c.if-p-row.true))

pub loop-v-preserved : goal.loop-v-preserved
unfolding place_of point_in
loop-v-preserved c =
    let answered = by-neighbours c.requires.0 _ (rw c.point_at-row.ensures at c.if-p-row.false) ∙ placed _ boundary (sym c.along-place.ensures ∙ c.in-Boundary.is) in
    left-next c.loop-v.invariant c.loop-v-test.true (ap meant c.point_at-p.ensures) answered

pub returns-in-Inside : goal.returns-in-Inside
unfolding place_of point_in
returns-in-Inside c =
    let answered = by-neighbours c.requires.0 _ (rw c.point_at-row.ensures at c.if-p-row.false) ∙ placed _ inside (sym c.along-place.ensures ∙ c.in-Inside.is) in
    left-inside c.loop-v.invariant c.loop-v-test.true (ap meant c.point_at-p.ensures) answered

pub returns-in-Outside : goal.returns-in-Outside
unfolding place_of point_in
returns-in-Outside c =
    let answered = by-neighbours c.requires.0 _ (rw c.point_at-row.ensures at c.if-p-row.false) ∙ placed _ outside (sym c.along-place.ensures ∙ c.in-Outside.is) in
    left-outside c.loop-v.invariant c.loop-v-test.true (ap meant c.point_at-p.ensures) answered

pub returns : goal.returns
returns c = left-none c.loop-v.invariant c.loop-v-test.false

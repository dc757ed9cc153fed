-- `taking::takes` meets its contract. The loop's invariant is `Passed`: the vertices that are not passed answer as all do. Assumes nothing.
use mathlib.Core.Path.{◌≡◌, refl, sym, ap, ◌∙◌}
use mathlib.Core.Bool.{true, false}
use Prim.Native.Nat.{◌-◌, ◌+◌}
use native.Mathlib.Omega.{arith}
use Rattle.scope.specs.Containment.{outside, boundary, inside, signed, not_outside}
use Rattle.scope.specs.Contour.{takes}
use Rattle.area.specs.Points.{meant}
use Rattle.extents.specs.Points.{point_in}
use Rattle.area.specs.Answers.{place_of}
use Rattle.taking.proofs.Walks.{passed-next, decided, none-decided, placed}
use Rattle.taking.proofs.takes.Goals as goal

pub loop-v-init : goal.loop-v-init
loop-v-init c =
    let e : c.args.tested.first + c.args.tested.count - c.args.tested.first ≡ c.args.tested.count = omega arith in
    record { left = rw e refl }

pub loop-v-preserved : goal.loop-v-preserved
unfolding place_of point_in
loop-v-preserved c =
    passed-next c.loop-v.invariant c.loop-v-test.true (ap meant c.point_at-p.ensures) (placed _ boundary (sym c.against-place.ensures ∙ c.in-Boundary.is))

pub returns-in-Inside : goal.returns-in-Inside
unfolding takes not_outside signed place_of point_in
returns-in-Inside c =
    let answer = placed _ inside (sym c.against-place.ensures ∙ c.in-Inside.is) in
    sym (ap not_outside (decided c.loop-v.invariant c.loop-v-test.true (ap meant c.point_at-p.ensures) true answer))

pub returns-in-Outside : goal.returns-in-Outside
unfolding takes not_outside signed place_of point_in
returns-in-Outside c =
    let answer = placed _ outside (sym c.against-place.ensures ∙ c.in-Outside.is) in
    sym (ap not_outside (decided c.loop-v.invariant c.loop-v-test.true (ap meant c.point_at-p.ensures) false answer))

pub returns : goal.returns
unfolding takes not_outside
returns c = sym (ap not_outside (none-decided c.loop-v.invariant c.loop-v-test.false))

-- `taking::along` meets its contract. The loop's invariant is `Along`: the pairs that are not passed answer as all do. Assumes nothing.
use mathlib.Core.Path.{refl, sym, ap, ◌∙◌}
use mathlib.Core.Bool.{xor}
use Rattle.area.specs.Points.{meant}
use Rattle.extents.specs.Points.{point_in}
use Rattle.area.specs.Answers.{place_of}
use Rattle.taking.proofs.Walks.{along-held, along-next, along-beside, along-end}
use Rattle.taking.proofs.along.Goals as goal

pub loop-k-init : goal.loop-k-init
loop-k-init c = record { left = refl }

pub loop-k-preserved-then-beside : goal.loop-k-preserved-then-beside
unfolding point_in
loop-k-preserved-then-beside c =
    along-beside c.loop-k.invariant c.loop-k-test.true (ap meant c.point_at-a.ensures) (ap meant c.point_at-b.ensures) c.beside.ensures c.if-beside.true

pub returns-then-on_pair : goal.returns-then-on_pair
unfolding place_of point_in
returns-then-on_pair c =
    let held = along-held c.loop-k.invariant c.loop-k-test.true (ap meant c.point_at-a.ensures) (ap meant c.point_at-b.ensures) c.on_pair.ensures c.if-on_pair.true in
    sym (ap place_of held)

pub loop-k-preserved : goal.loop-k-preserved
unfolding xor point_in
loop-k-preserved c =
    along-next c.loop-k.invariant c.loop-k-test.true (ap meant c.point_at-a.ensures) (ap meant c.point_at-b.ensures) c.on_pair.ensures c.if-on_pair.false c.flips-within.ensures

pub returns : goal.returns
returns c = c.by_sign.ensures ∙ sym (ap place_of (along-end c.loop-k.invariant c.loop-k-test.false))

-- `taking::Packed::against` meets its contract: the ring's first pair answers, or the others do, which `along` or `along_near` walks. Assumes nothing.
use mathlib.Core.Path.{sym, ap, ◌∙◌}
use Rattle.area.specs.Points.{meant}
use Rattle.extents.specs.Points.{point_in}
use Rattle.area.specs.Answers.{place_of}
use Rattle.taking.proofs.Walks.{first-held, first-passed}
use Rattle.taking.proofs.Passing.{ring-stretch}
use Rattle.taking.proofs.Packed.against.Goals as goal

pub returns-then-on_pair : goal.returns-then-on_pair
unfolding place_of point_in
returns-then-on_pair c =
    let held = rw (ap meant c.point_at-a.ensures, ap meant c.point_at-b.ensures) at c.on_pair.ensures in
    sym (ap place_of (first-held c.args.self.now.points.now c.args.ring.first c.args.ring.count _ c.requires.some held c.if-on_pair.true))

-- past the first pair the others answer
pub returns-then-count-le64 : goal.returns-then-count-le64
unfolding point_in
returns-then-count-le64 c =
    let held = rw (ap meant c.point_at-a.ensures, ap meant c.point_at-b.ensures) at c.on_pair.ensures in
    let turned = rw (ap meant c.point_at-a.ensures, ap meant c.point_at-b.ensures) at c.flips-inside.ensures in
    let others = first-passed c.args.self.now.points.now c.args.ring.first c.args.ring.count _ c.requires.some held c.if-on_pair.false turned in
    c.along.ensures ∙ sym (ap place_of others)

pub along_near-requires : goal.along_near-requires
along_near-requires c = ring-stretch c.requires

pub returns : goal.returns
unfolding point_in
returns c =
    let held = rw (ap meant c.point_at-a.ensures, ap meant c.point_at-b.ensures) at c.on_pair.ensures in
    let turned = rw (ap meant c.point_at-a.ensures, ap meant c.point_at-b.ensures) at c.flips-inside.ensures in
    let others = first-passed c.args.self.now.points.now c.args.ring.first c.args.ring.count _ c.requires.some held c.if-on_pair.false turned in
    c.along_near.ensures ∙ sym (ap place_of others)

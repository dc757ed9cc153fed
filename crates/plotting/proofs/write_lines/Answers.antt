-- `plotting::write_lines` meets its contract. The loop's invariant is `PointsLeft` with `RecordsLeft`: storing the points and the records of the links not yet
-- walked leaves what is asked, the number is the ring's area so far, and the point is where the link starts. Assumes nothing.
use mathlib.Core.Path.{◌≡◌, refl, ◌∙◌, ap}
use Prim.Native.Nat.{suc, ◌+◌, ◌-◌}
use native.Mathlib.Omega.{arith}
use lib.IntN.{pos}
use lib.Seq.{sets}
use Rattle.scope.specs.Area.{twos_complement}
use Rattle.machine.specs.Machine.{mark}
use Rattle.packing.proofs.Walks.{points-begin, points-next, points-closed, points-end}
use Rattle.packing.proofs.Walks.{records-begin, records-next, records-closed, records-end}
use Rattle.plotting.proofs.Laws.{vertex-has-two-words, vertex-of-link, stepped-along, line-words, six-words}
use Rattle.plotting.proofs.write_lines.Goals as goal
use Rattle.plotting.proofs.write_lines.Goals.{then-next-lt-MARK, else-next-lt-MARK}

pub loop-init : goal.loop-init
unfolding twos_complement
loop-init c =
    let all : c.args.count - 0 ≡ c.args.count = omega arith in
    rw (all, c.begin-walk.ensures) (omega arith, points-begin _ _ _ _ _, (pos 0, refl, records-begin _ _ _ _ _ _ _), c.start_of-point.ensures)

pub loop-preserved : goal.loop-preserved
unfolding mark
loop-preserved c =
    let inv = c.loop.invariant in
    let next = c.next_link-next.ensures in
    let rest = c.args.count - (c.loop.counter + 1) in
    let more : c.args.count - c.loop.counter ≡ suc rest = omega arith in
    let stored = c.put_vertex.ensures ∙ ap (sets c.loop.points c.loop.walk.at) (vertex-of-link _ _ _ _ _ _ _ _ inv.3) in
    elim c.if-next-lt-MARK.branch [
      | then-next-lt-MARK w ↦
          let low = w.if-next-lt-MARK.true in
          let area = stepped-along _ _ _ _ _ w.stepped-area.ensures inv.3 w.start_of-to.ensures _ inv.2.1 in
          rw (w.walk-is, w.along-walk.ensures, w.points-is, w.directory-is, w.point-is, w.area-is) (
            inv.0,
            points-next inv.1 (vertex-has-two-words _ _ _ _ _ _ _) rest more stored next low,
            (_, area, records-next inv.2.2 rest more next low),
            w.start_of-to.ensures,
          )
      | else-next-lt-MARK w ↦
          let high = w.if-next-lt-MARK.false in
          let ended = w.put_vertex-else-next-lt-MARK.ensures ∙ ap (sets _ _) (vertex-of-link _ _ _ _ _ _ _ _ w.start_of-begin.ensures) in
          let area = stepped-along _ _ _ _ _ w.stepped-whole.ensures inv.3 w.start_of-begin.ensures _ inv.2.1 in
          let line = w.put_line.ensures ∙ ap (sets _ _) (line-words _ _ _ _ area) in
          let start = rw w.around-walk.ensures at w.start_of-point-else-next-lt-MARK.ensures in
          rw (w.walk-is, w.around-walk.ensures, w.points-is, w.directory-is, w.point-is, w.area-is) (
            inv.0,
            points-closed inv.1 (vertex-has-two-words _ _ _ _ _ _ _) rest more stored next high ended,
            (pos 0, unfold twos_complement in refl, records-closed inv.2.2 rest (omega arith) six-words more next high line),
            start,
          )
    ]

pub returns-clause-points_after : goal.returns-clause-points_after
returns-clause-points_after c = points-end c.loop.invariant.1 (omega arith)

pub returns-clause-directory_after : goal.returns-clause-directory_after
returns-clause-directory_after c = records-end c.loop.invariant.2.2 (omega arith)

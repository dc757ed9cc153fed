-- `packing::write_rings` meets its contract. The loop's invariant is `PointsLeft` with `RecordsLeft`: storing the points and the records of the links not yet
-- walked leaves what is asked. Assumes nothing.
use mathlib.Core.Path.{◌≡◌, refl}
use Prim.Native.Nat.{suc, ◌+◌, ◌-◌}
use native.Mathlib.Omega.{arith}
use lib.IntN.{pos}
use Rattle.machine.specs.Machine.{mark}
use Rattle.machine.specs.Walk.{index_words, point_words, record_words}
use Rattle.packing.proofs.Walks.{points-begin, points-next, points-closed, points-end}
use Rattle.packing.proofs.Walks.{records-begin, records-next, records-closed, records-end, short-end}
use Rattle.packing.proofs.write_rings.Goals as goal
use Rattle.packing.proofs.write_rings.Goals.{then-next-lt-MARK, else-next-lt-MARK}

pub loop-init : goal.loop-init
loop-init c =
    let all : c.args.count - 0 ≡ c.args.count = omega arith in
    rw (all, c.begin-walk.ensures) (points-begin _ _ _ _ _, (pos 0, records-begin _ _ _ _ _ _ _))

pub loop-preserved : goal.loop-preserved
unfolding mark index_words point_words
loop-preserved c =
    let inv = c.loop.invariant in
    let next = c.next_link-next.ensures in
    let rest = c.args.count - (c.loop.counter + 1) in
    let more : c.args.count - c.loop.counter ≡ suc rest = omega arith in
    elim c.if-next-lt-MARK.branch [
      | then-next-lt-MARK w ↦
          let low = w.if-next-lt-MARK.true in
          rw (w.walk-is, w.along-walk.ensures, w.points-is, w.directory-is) (
            points-next inv.0 (λ k. refl) rest more c.put_point.ensures next low,
            (_, records-next inv.1.1 rest more next low),
          )
      | else-next-lt-MARK w ↦
          let high = w.if-next-lt-MARK.false in
          rw (w.walk-is, w.around-walk.ensures, w.points-is, w.directory-is) (
            points-closed inv.0 (λ k. refl) rest more c.put_point.ensures next high w.put_point-else-next-lt-MARK.ensures,
            (pos 0, records-closed inv.1.1 rest (omega arith) (λ f count z. unfold record_words in refl) more next high w.put_record.ensures),
          )
    ]

pub returns-clause-points_after : goal.returns-clause-points_after
returns-clause-points_after c = points-end c.loop.invariant.0 (omega arith)

pub returns-clause-directory_after : goal.returns-clause-directory_after
returns-clause-directory_after c = short-end _ _ _ _ (records-end c.loop.invariant.1.1 (omega arith))

-- `ringrecord::records_from_words` meets its contract: a turn does the next record, and at the end all copied records are done. Assumes nothing.
use mathlib.Core.Path.{sym, ◌∙◌}
use Prim.Native.Nat.{◌+◌, ◌<◌, ◌≤◌, zero-le}
use native.Mathlib.Nat.{le_antisymm, le_trans}
use native.Mathlib.Omega.{arith}
use lib.ListN.{length}
use Rattle.ringrecord.proofs.Copied.{enough, answered, fewer-records-fewer-words, no-records, records-length, next-record, records-copied}
use Rattle.ringrecord.proofs.records_from_words.Goals as goal

pub loop-k-init : goal.loop-k-init
loop-k-init c = (zero-le, sym (no-records c.args.directory.now c.args.records.now))

pub bounds-records-k : goal.bounds-records-k
bounds-records-k c =
    let room = enough c.args.rings _ _ c.copied_rings-n.ensures in
    let there : c.loop-k.k < length c.args.records.now = omega (arith, c.loop-k-test.true, room.1) in
    let words = le_trans (fewer-records-fewer-words _ _ c.loop-k.invariant.0) room.0 in
    let long = records-length c.args.directory.now c.loop-k.k words c.args.records.now (omega (arith, there)) in
    rw (c.loop-k.invariant.1, long) there

pub loop-k-preserved : goal.loop-k-preserved
loop-k-preserved c =
    let room = enough c.args.rings _ _ c.copied_rings-n.ensures in
    let next : c.loop-k.k + 1 ≤ c.copied_rings-n.result = omega (arith, c.loop-k-test.true) in
    let there : c.loop-k.k < length c.args.records.now = omega (arith, next, room.1) in
    let words = le_trans (fewer-records-fewer-words _ _ next) room.0 in
    (next, rw (c.record_in.ensures, c.loop-k.invariant.1) (next-record c.args.directory.now c.loop-k.k words c.args.records.now there))

pub returns : goal.returns
returns c =
    let done = le_antisymm c.loop-k.invariant.0 c.loop-k-test.false in
    let all = c.copied_rings-n.ensures in (
      answered c.args.rings _ _ all,
      c.loop-k.invariant.1 ∙ records-copied c.args.directory.now c.args.records.now c.args.rings (done ∙ all),
    )

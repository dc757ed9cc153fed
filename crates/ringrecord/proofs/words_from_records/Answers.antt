-- `ringrecord::words_from_records` meets its contract: a turn does the next record, and at the end all copied records are done. Assumes nothing.
use mathlib.Core.Path.{sym, ap, ◌∙◌}
use Prim.Native.Nat.{◌+◌, ◌<◌, ◌≤◌, zero-le}
use native.Mathlib.Nat.{le_antisymm, le_trans}
use native.Mathlib.Omega.{arith}
use lib.ListN.{length}
use lib.Seq.{sets}
use Rattle.std.proofs.lemmas.List.{get_or_default}
use Rattle.scope.specs.Room.{directory_words}
use Rattle.ringrecord.specs.declared.RingRecord.{RingRecord}
use Rattle.ringrecord.specs.Records.{words_of}
use Rattle.ringrecord.proofs.Copied.{enough, answered, fewer-records-fewer-words, nowhere, words_to, no_words, next-words, words_copied}
use Rattle.ringrecord.proofs.words_from_records.Goals as goal

pub loop-k-init : goal.loop-k-init
loop-k-init c = (zero-le, sym (no_words c.args.records.now c.args.directory.now))

pub bounds-records-k : goal.bounds-records-k
bounds-records-k c =
    let room = enough c.args.rings _ _ c.copied_rings-n.ensures in
    omega (arith, c.loop-k-test.true, room.1)

pub loop-k-preserved : goal.loop-k-preserved
loop-k-preserved c =
    let room = enough c.args.rings _ _ c.copied_rings-n.ensures in
    let next : c.loop-k.k + 1 ≤ c.copied_rings-n.result = omega (arith, c.loop-k-test.true) in
    let there : c.loop-k.k < length c.args.records.now = omega (arith, next, room.1) in
    let words = le_trans (fewer-records-fewer-words _ _ next) room.0 in
    let same = ap (λ (r : RingRecord). sets (words_to c.args.records.now c.loop-k.k c.args.directory.now) (directory_words c.loop-k.k) (words_of c.loop-k.k r))
    (get_or_default c.args.records.now c.loop-k.k _ nowhere there) in
    (next, rw (c.put_words.ensures, c.loop-k.invariant.1) (same ∙ next-words c.args.records.now c.loop-k.k there c.args.directory.now words))

pub returns : goal.returns
returns c =
    let done = le_antisymm c.loop-k.invariant.0 c.loop-k-test.false in
    let all = c.copied_rings-n.ensures in (
      answered c.args.rings _ _ all,
      c.loop-k.invariant.1 ∙ words_copied c.args.directory.now c.args.records.now c.args.rings (done ∙ all),
    )

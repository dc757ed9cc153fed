-- `rowstate::samples_in` meets its contract. The loop's invariant is that the samples left, over those so far, are all. Assumes nothing.
use mathlib.Core.Path.{sym, ◌∙◌}
use native.Mathlib.Omega.{arith}
use Rattle.rowstate.proofs.Walks.{samples-in-a-row, none_read, sample-read, all_read}
use Rattle.rowstate.proofs.samples_in.Goals as goal

pub loop-w-init : goal.loop-w-init
loop-w-init c =
    let all = c.sample_words-count.ensures in
    (none_read c.args.dx all c.args.words.now, omega (arith, all, samples-in-a-row c.args.dx))

pub loop-w-preserved : goal.loop-w-preserved
loop-w-preserved c =
    let so_far = c.loop-w.invariant in
    (so_far.0 ∙ sample-read c.args.words.now _ _ _ _ (omega arith) c.paired.ensures, so_far.1)

pub returns : goal.returns
returns c = sym (c.loop-w.invariant.0 ∙ all_read _ _ _ _ (omega arith))

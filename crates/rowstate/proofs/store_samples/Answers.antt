-- `rowstate::store_samples` meets its contract. The loop's invariant is that the halves left, over the words so far, are all. Assumes nothing.
use mathlib.Core.Path.{sym, ◌∙◌}
use native.Mathlib.Omega.{arith}
use Rattle.rowstate.proofs.Walks.{samples-in-a-row, none-stored, sample-stored, all-stored}
use Rattle.rowstate.proofs.store_samples.Goals as goal

pub loop-w-init : goal.loop-w-init
loop-w-init c =
    let all = c.sample_words-count.ensures in
    (none-stored c.args.dx all c.args.above.now c.args.words.now, omega (arith, all, samples-in-a-row c.args.dx))

pub loop-w-preserved : goal.loop-w-preserved
loop-w-preserved c =
    let so_far = c.loop-w.invariant in
    (so_far.0 ∙ sample-stored c.args.above.now _ _ _ _ _ (omega arith) c.low_half.ensures c.high_half.ensures, so_far.1)

pub returns : goal.returns
returns c = sym (c.loop-w.invariant.0 ∙ all-stored _ _ _ _ (omega arith))

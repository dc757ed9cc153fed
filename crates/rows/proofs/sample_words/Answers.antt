-- `rows::sample_words` meets its contract. The loop's invariant is `Sampled`: the words so far are those of the row. Assumes nothing.
use native.Mathlib.Omega.{arith}
use Rattle.scope.specs.Limits.{side_limit}
use Rattle.scan.proofs.Samples.{terrain-outside}
use Rattle.rows.specs.Called.{row_words}
use Rattle.rows.proofs.Samples.{samples-begin, samples-go-on, samples-end}
use Rattle.rows.proofs.sample_words.Goals as goal

pub loop-w-init : goal.loop-w-init
loop-w-init c = samples-begin _ (terrain-outside _ _ _ _) c.requires.row_value

pub loop-w-preserved : goal.loop-w-preserved
unfolding side_limit
loop-w-preserved c =
    samples-go-on _ (terrain-outside _ _ _ _) c.loop-w.invariant c.lower_word.ensures (omega arith)

pub returns : goal.returns
unfolding row_words
returns c = samples-end _ (terrain-outside _ _ _ _) c.loop-w.invariant (omega arith)

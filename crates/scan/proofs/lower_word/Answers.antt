-- `scan::lower_word` meets its contract: below the grid nothing is above, and inside it the samples stand side by side among the values.
-- Assumes nothing.
use mathlib.Core.Path.{◌∙◌}
use Prim.Native.Nat.{◌+◌}
use native.Mathlib.Omega.{arith}
use Rattle.scope.specs.Limits.{side_limit}
use Rattle.scan.proofs.Samples.{row-is-within, whole_word, last_word, no-word-below}
use Rattle.scan.proofs.lower_word.Goals as goal

pub returns-then-grid-r : goal.returns-then-grid-r
returns-then-grid-r c = no-word-below _ _ _ _ _ _ (omega arith)

pub overflow_mul-i : goal.overflow_mul-i
unfolding side_limit
overflow_mul-i c = omega (arith, row-is-within {r = c.args.r} c.args.grid.sized (omega arith) c.requires.c_le_dx)

pub overflow_add-i : goal.overflow_add-i
unfolding side_limit
overflow_add-i c = omega (arith, row-is-within {r = c.args.r} c.args.grid.sized (omega arith) c.requires.c_le_dx)

pub word_of-requires : goal.word_of-requires
word_of-requires c =
    (omega arith, omega (arith, row-is-within {r = c.args.r} {e = c.args.grid.dx} c.args.grid.sized (omega arith) (omega arith), c.requires.c_le_dx))

pub returns-then-inside-lt-SAMPLES : goal.returns-then-inside-lt-SAMPLES
returns-then-inside-lt-SAMPLES c = c.word_of.ensures ∙ last_word _ _ _ _ _ _ _ (omega arith) (omega arith) (omega arith)

pub whole_word-requires : goal.whole_word-requires
whole_word-requires c =
    omega (arith, row-is-within {r = c.args.r} {e = c.args.c + 64} c.args.grid.sized (omega arith) (omega arith))

pub returns : goal.returns
returns c = c.whole_word.ensures ∙ whole_word _ _ _ _ _ _ (omega arith) (omega arith)

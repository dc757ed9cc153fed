-- `words::word_of` meets its contract. The invariant of both loops is `Holds`: the word holds all samples but the first `j`, and then but the first `k`
-- whole eights. Assumes nothing.
use native.Mathlib.Omega.{arith}
use Rattle.words.proofs.Ruled.{by-its-number}
use Rattle.words.proofs.Packing.{holds-none, holds-as, holds_more, holds-one, holds_fits, holds-room, holds-all}
use Rattle.words.proofs.word_of.Goals as goal

pub loop-j-init : goal.loop-j-init
loop-j-init c = (holds-none _ _ _ _, omega arith)

pub overflow_mul-word : goal.overflow_mul-word
overflow_mul-word c = omega (arith, holds-room _ _ _ _ 1 c.loop-j.invariant.0 (omega arith) (omega arith))

pub loop-j-preserved : goal.loop-j-preserved
loop-j-preserved c = (holds-one _ _ _ _ c.loop-j.invariant.0 (omega arith) c.from.ensures c.above.ensures, omega arith)

pub overflow_add-word : goal.overflow_add-word
overflow_add-word c = omega (arith, holds_fits _ _ _ _ (holds-one _ _ _ _ c.loop-j.invariant.0 (omega arith) c.from.ensures c.above.ensures) (omega arith))

pub loop-k-init : goal.loop-k-init
loop-k-init c = holds-as _ _ _ _ c.loop-j.invariant.0 (omega arith)

pub overflow_mul-word-in-loop-k : goal.overflow_mul-word-in-loop-k
overflow_mul-word-in-loop-k c = omega (arith, holds-room _ _ _ _ 8 c.loop-k.invariant (omega arith) (omega arith))

pub loop-k-preserved : goal.loop-k-preserved
loop-k-preserved c = holds_more _ _ _ _ 8 _ c.loop-k.invariant (omega arith) c.eight.ensures

pub overflow_add-word-in-loop-k : goal.overflow_add-word-in-loop-k
overflow_add-word-in-loop-k c = omega (arith, holds_fits _ _ _ _ (holds_more _ _ _ _ 8 _ c.loop-k.invariant (omega arith) c.eight.ensures) (omega arith))

pub returns : goal.returns
returns c =
    let args = c.args in
    by-its-number args.values.now args.i args.n args.level c.rule_number-number.ensures (holds-all _ _ _ _ c.loop-k.invariant (omega arith))

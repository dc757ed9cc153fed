-- `words::eight` meets its contract: in each arm the literal stands for the rule's number. Assumes nothing.
use Rattle.words.proofs.Ruled.{by_zero, by_one}
use Rattle.words.proofs.eight.Goals as goal

pub returns-then-number-eq0 : goal.returns-then-number-eq0
returns-then-number-eq0 c =
    let args = c.args in
    by_zero args.values.now args.i 8 args.threshold c.if-number-eq0.true c.eight_known.ensures

pub returns-else-number-eq0 : goal.returns-else-number-eq0
returns-else-number-eq0 c =
    let args = c.args in
    by_one args.values.now args.i 8 args.threshold c.if-number-eq0.false c.eight_known-else-number-eq0.ensures

-- `words::whole_word` meets its contract: in each arm the literal stands for the number of the level's rule. Assumes nothing.
use Rattle.words.proofs.Ruled.{by_zero, by_one, by-its-number}
use Rattle.words.proofs.whole_word.Goals as goal

pub returns-then-rule_number-eq0 : goal.returns-then-rule_number-eq0
returns-then-rule_number-eq0 c =
    let args = c.args in
    by-its-number args.values.now args.i 64 args.level c.rule_number.ensures
    (by_zero args.values.now args.i 64 args.level.threshold c.if-rule_number-eq0.true c.sixty_four.ensures)

pub returns-else-rule_number-eq0 : goal.returns-else-rule_number-eq0
returns-else-rule_number-eq0 c =
    let args = c.args in
    by-its-number args.values.now args.i 64 args.level c.rule_number.ensures
    (by_one args.values.now args.i 64 args.level.threshold c.if-rule_number-eq0.false c.sixty_four-else-rule_number-eq0.ensures)

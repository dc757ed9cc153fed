-- `rows::trial_of` meets its contract: the first row is tried over a word of its own, and a later one over the table. Assumes nothing.
use native.Mathlib.Omega.{arith}
use Rattle.rows.specs.Called.{trial_before}
use Rattle.rows.proofs.Calls.{first-row-tried, later-row-tried}
use Rattle.rows.proofs.trial_of.Goals as goal

pub returns-then-state-eq0 : goal.returns-then-state-eq0
unfolding trial_before
returns-then-state-eq0 c =
    let by_itself = first-row-tried c.args.state c.args.lower.now c.args.lines.now _ _ (omega arith) c.try_row.ensures in
    record { value = by_itself.0; lines_after = by_itself.1 }

pub returns : goal.returns
unfolding trial_before
returns c =
    let by_table = later-row-tried c.args.state c.args.lower.now c.args.lines.now _ _ c.if-state-eq0.false c.try_row-2.ensures in
    record { value = by_table.0; lines_after = by_table.1 }

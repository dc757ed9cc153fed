-- `reading::read_values` meets its contract. The loop's invariant is `Walked`: the numbers so far stand in the table, and they and what is left give what
-- the whole does. Assumes nothing.
use native.Mathlib.Omega.{arith}
use Rattle.scope.specs.Smoothing.{whole}
use Rattle.reading.specs.Reads.{ValuesRead}
use Rattle.reading.proofs.Answers.{number-found, number-none}
use Rattle.reading.proofs.Walks.{walked-begin, walked_next, walked-faulty, walked_end}
use Rattle.reading.proofs.read_values.Goals as goal

pub loop-k-init : goal.loop-k-init
loop-k-init c = walked-begin _ _ _ _ _ (omega arith) (omega arith) (omega arith)

pub returns-in_err-number : goal.returns-in_err-number
unfolding ValuesRead
returns-in_err-number c =
    rw c.from_residual.ensures
    (walked-faulty _ _ _ _ _ _ _ _ _ c.loop-k.invariant _ c.end_of.ensures c.loop-k-test.true (number-none _ _ _ c.in_err-number.ensures))

pub loop-k-preserved : goal.loop-k-preserved
unfolding whole
loop-k-preserved c =
    let got = number-found _ _ _ _ c.in_ok-number.ensures in
    rw (c.from.ensures, c.column_after-column.ensures)
    (walked_next _ _ _ _ _ _ _ _ _ c.loop-k.invariant _ _ _ c.end_of.ensures c.loop-k-test.true got.0 got.1)

pub returns : goal.returns
unfolding ValuesRead
returns c = walked_end _ _ _ _ _ _ _ _ _ c.loop-k.invariant c.loop-k-test.false

-- `reading::read_head` meets its contract: three numbers, as the parser reads them. Assumes nothing.
use Rattle.reading.specs.Parser.{parsed}
use Rattle.reading.specs.Reads.{HeadRead}
use Rattle.reading.proofs.Answers.{number-found, number-none}
use Rattle.reading.proofs.read_head.Goals as goal

pub returns-in_err-columns : goal.returns-in_err-columns
unfolding HeadRead parsed
returns-in_err-columns c = rw (c.from_residual.ensures, number-none _ _ _ c.in_err-columns.ensures)

pub returns-in_err-rows : goal.returns-in_err-rows
unfolding HeadRead parsed
returns-in_err-rows c = rw (c.from_residual-in_err-rows.ensures, (number-found _ _ _ _ c.in_ok-columns.ensures).0, number-none _ _ _ c.in_err-rows.ensures)

pub returns-in_err-threshold : goal.returns-in_err-threshold
unfolding HeadRead parsed
returns-in_err-threshold c =
    rw (
      c.from_residual-in_err-threshold.ensures,
      (number-found _ _ _ _ c.in_ok-columns.ensures).0,
      (number-found _ _ _ _ c.in_ok-rows.ensures).0,
      number-none _ _ _ c.in_err-threshold.ensures,
    )

pub returns : goal.returns
unfolding HeadRead parsed
returns c =
    let last = number-found _ _ _ _ c.in_ok-threshold.ensures in
    (rw ((number-found _ _ _ _ c.in_ok-columns.ensures).0, (number-found _ _ _ _ c.in_ok-rows.ensures).0, last.0), last.1)

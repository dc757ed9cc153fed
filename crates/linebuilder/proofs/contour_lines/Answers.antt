-- `linebuilder::contour_lines` meets its contract: a refused pass has changed nothing, and after one that was done the outputs are what plotting
-- leaves and both work tables are cleared. Assumes nothing.
use native.Mathlib.Omega.{arith}
use Rattle.isoringbuilder.proofs.Limits.{columns-fit, rows_fit}
use Rattle.isoringbuilder.proofs.Laws.{done-facts}
use Rattle.linebuilder.proofs.Laws.{lines-refused, lines-done}
use Rattle.error.proofs.Passing.{passed-on}
use Rattle.linebuilder.proofs.contour_lines.Goals as goal

pub overflow_cast-asked : goal.overflow_cast-asked
overflow_cast-asked c =
    omega (arith, columns-fit c.args.values.now c.args.level _ _ (done-facts _ _ _ _ _ _ _ _ c.in_ok-drawing.was _ _ c.run_pass.ensures).sized)

pub overflow_cast-asked-2 : goal.overflow_cast-asked-2
overflow_cast-asked-2 c =
    omega (arith, rows_fit c.args.values.now c.args.level _ _ (done-facts _ _ _ _ _ _ _ _ c.in_ok-drawing.was _ _ c.run_pass.ensures).sized)

pub invariant_of-asked : goal.invariant_of-asked
invariant_of-asked c =
    omega (arith, columns-fit c.args.values.now c.args.level _ _ (done-facts _ _ _ _ _ _ _ _ c.in_ok-drawing.was _ _ c.run_pass.ensures).sized)

pub open_words-requires : goal.open_words-requires
open_words-requires c =
    (done-facts _ _ _ _ _ _ _ _ c.in_ok-drawing.was _ _ c.run_pass.ensures).sized.columns

pub returns-in_err-drawing : goal.returns-in_err-drawing
returns-in_err-drawing c =
    rw (passed-on _ c.from_residual.ensures.1) (lines-refused _ _ _ _ _ _ _ _ _ _ c.in_err-drawing.was _ _ c.run_pass.ensures _ _)

pub returns : goal.returns
returns c =
    rw (c.clear.ensures, c.open_words.ensures, c.clear-2.ensures, c.link_words.ensures)
    (lines-done _ _ _ _ _ _ _ _ _ _ _ (done-facts _ _ _ _ _ _ _ _ c.in_ok-drawing.was _ _ c.run_pass.ensures) _ _ _ _ _ c.plot-answer.ensures)

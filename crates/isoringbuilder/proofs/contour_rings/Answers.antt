-- `isoringbuilder::contour_rings` meets its contract: a refused pass has changed nothing, and after one that was done the outputs are what packing
-- leaves and both work tables are cleared. Assumes nothing.
use native.Mathlib.Omega.{arith}
use Rattle.isoringbuilder.proofs.Limits.{columns-fit}
use Rattle.isoringbuilder.proofs.Laws.{done-facts, rings-refused, built-done}
use Rattle.error.proofs.Passing.{passed-on}
use Rattle.isoringbuilder.proofs.contour_rings.Goals as goal

pub overflow_cast-dx : goal.overflow_cast-dx
overflow_cast-dx c =
    let facts = done-facts _ _ _ _ _ _ _ _ c.in_ok-drawing.was _ _ c.run_pass.ensures in
    omega (arith, columns-fit c.args.values.now c.args.level _ _ facts.sized)

pub open_words-requires : goal.open_words-requires
open_words-requires c = (done-facts _ _ _ _ _ _ _ _ c.in_ok-drawing.was _ _ c.run_pass.ensures).sized.columns

pub returns-in_err-drawing : goal.returns-in_err-drawing
returns-in_err-drawing c =
    rw (passed-on _ c.from_residual.ensures.1) (rings-refused _ _ _ _ _ _ _ _ c.in_err-drawing.was _ _ c.run_pass.ensures _ _)

pub returns : goal.returns
returns c =
    let facts = done-facts _ _ _ _ _ _ _ _ c.in_ok-drawing.was _ _ c.run_pass.ensures in
    rw (c.clear.ensures, c.open_words.ensures, c.clear-2.ensures, c.link_words.ensures)
    (built-done _ _ _ _ _ _ _ _ _ facts _ _ _ _ _ c.pack_whole-answer.ensures)

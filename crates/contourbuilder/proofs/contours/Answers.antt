-- `contourbuilder::contours` meets its contract: a refused pass has changed nothing, and after one that was done the outputs are what packing leaves, with the
-- owners found, and both work tables are cleared. Assumes nothing.
use native.Mathlib.Omega.{arith}
use Rattle.isoringbuilder.proofs.Limits.{columns-fit}
use Rattle.isoringbuilder.proofs.Laws.{done-facts}
use Rattle.contourbuilder.proofs.Contoured.{contours-refused, ownable, contours-done}
use Rattle.error.proofs.Passing.{passed-on}
use Rattle.contourbuilder.proofs.contours.Goals as goal

pub overflow_cast-dx : goal.overflow_cast-dx
overflow_cast-dx c =
    let facts = done-facts _ _ _ _ _ _ _ _ c.in_ok-drawing.was _ _ c.run_pass.ensures in
    omega (arith, columns-fit c.args.values.now c.args.level _ _ facts.sized)

pub own_rings-requires : goal.own_rings-requires
own_rings-requires c =
    let facts = done-facts _ _ _ _ _ _ _ _ c.in_ok-drawing.was _ _ c.run_pass.ensures in
    ownable _ _ _ _ _ _ _ _ _ facts _ _ _ _ _ c.pack-answer.ensures _ c.link_words-words.ensures _ c.point_words-filled.ensures

pub open_words-requires : goal.open_words-requires
open_words-requires c =
    (done-facts _ _ _ _ _ _ _ _ c.in_ok-drawing.was _ _ c.run_pass.ensures).sized.columns

pub returns-in_err-drawing : goal.returns-in_err-drawing
returns-in_err-drawing c =
    rw (passed-on _ c.from_residual.ensures.1) (contours-refused _ _ _ _ _ _ _ _ c.in_err-drawing.was _ _ c.run_pass.ensures _ _)

pub returns : goal.returns
returns c =
    let facts = done-facts _ _ _ _ _ _ _ _ c.in_ok-drawing.was _ _ c.run_pass.ensures in
    contours-done _ _ _ _ _ _ _ _ _ facts _ _ _ _ _ c.pack-answer.ensures _ c.link_words-words.ensures _ c.point_words-filled.ensures _ _ c.own_rings.ensures _ _
    (rw (← c.open_words.ensures) c.clear.ensures) c.clear-2.ensures

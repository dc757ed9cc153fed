-- `isoringbuilder::second_report` meets its contract: a refused pass has changed nothing, and after one that was done the counts are the definition's
-- and both work tables are cleared. Assumes nothing.
use mathlib.Core.Path.{ap}
use Prim.Native.Nat.{◌+◌}
use native.Mathlib.Omega.{arith}
use Rattle.isoringbuilder.specs.declared.Drawing.{Drawing}
use Rattle.isoringbuilder.proofs.Limits.{points-fit}
use Rattle.isoringbuilder.proofs.Laws.{done-facts, report-refused, reported-done}
use Rattle.error.proofs.Passing.{passed-on}
use Rattle.isoringbuilder.proofs.second_report.Goals as goal

pub overflow_add-points : goal.overflow_add-points
overflow_add-points c =
    let facts = done-facts _ _ _ _ _ _ _ _ c.in_ok-drawing.was _ _ c.run_pass.ensures in
    let sum = ap (λ (d : Drawing). d.segments + d.rings) facts.is-drawing in
    omega (arith, sum, points-fit c.args.values.now c.args.level _ _ facts.sized)

pub open_words-requires : goal.open_words-requires
open_words-requires c = (done-facts _ _ _ _ _ _ _ _ c.in_ok-drawing.was _ _ c.run_pass.ensures).sized.columns

pub returns-in_err-drawing : goal.returns-in_err-drawing
returns-in_err-drawing c =
    rw (passed-on _ c.from_residual.ensures.1) (report-refused _ _ _ _ _ _ _ _ c.in_err-drawing.was _ _ c.run_pass.ensures)

pub returns : goal.returns
returns c =
    let facts = done-facts _ _ _ _ _ _ _ _ c.in_ok-drawing.was _ _ c.run_pass.ensures in
    rw (c.clear.ensures, c.open_words.ensures, c.clear-2.ensures, c.link_words.ensures)
    (reported-done _ _ _ _ _ _ _ _ _ facts)

-- `bands::report_over` meets its contract: refused passes have changed nothing, and after passes that were done the counts are the definition's and both work
-- tables are cleared. Assumes nothing.
use mathlib.Core.Path.{refl}
use native.Mathlib.Omega.{arith}
use Rattle.bands.proofs.Reports.{band-done, report-refused, counts-fit, report-done}
use Rattle.error.proofs.Passing.{passed-on}
use Rattle.bands.proofs.report_over.Goals as goal

pub overflow_add-rings : goal.overflow_add-rings
overflow_add-rings c =
    let facts = band-done _ _ _ _ _ _ _ _ _ c.in_ok-drawing.was _ _ _ c.band_pass.ensures in
    omega (arith, (counts-fit _ _ _ _ _ _ _ c.args.grid.sized facts).0)

pub overflow_add-points : goal.overflow_add-points
overflow_add-points c =
    let facts = band-done _ _ _ _ _ _ _ _ _ c.in_ok-drawing.was _ _ _ c.band_pass.ensures in
    omega (arith, (counts-fit _ _ _ _ _ _ _ c.args.grid.sized facts).1)

pub overflow_add-points-2 : goal.overflow_add-points-2
overflow_add-points-2 c =
    let facts = band-done _ _ _ _ _ _ _ _ _ c.in_ok-drawing.was _ _ _ c.band_pass.ensures in
    let fit = counts-fit _ _ _ _ _ _ _ c.args.grid.sized facts in
    omega (arith, fit.0, fit.1)

pub open_words-requires : goal.open_words-requires
open_words-requires c = c.args.grid.sized.columns

pub returns-in_err-drawing : goal.returns-in_err-drawing
returns-in_err-drawing c =
    rw (passed-on _ c.from_residual.ensures.1) (report-refused _ _ _ _ _ _ _ _ _ c.in_err-drawing.was _ _ _ c.band_pass.ensures)

pub returns : goal.returns
returns c =
    let facts = band-done _ _ _ _ _ _ _ _ _ c.in_ok-drawing.was _ _ _ c.band_pass.ensures in
    report-done _ _ _ _ _ _ _ c.args.grid.sized facts _ _ _ (omega arith) refl refl _ _
    (rw (← c.open_words.ensures) c.clear.ensures) (rw (← c.link_words.ensures) c.clear-2.ensures)

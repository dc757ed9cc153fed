-- `scan::first_report` meets its contract: `grid_fit` answers what its definition says, and a grid that fits can be scanned. Assumes nothing.
use mathlib.Core.Path.{sym, ◌∙◌}
use Rattle.error.proofs.Passing.{passed-on}
use Rattle.scan.specs.Scanned.{scanned}
use Rattle.scan.specs.Report.{room_of, report_for, first_report}
use Rattle.grid.proofs.Laws.{a-grid-that-fits-is-sized}
use Rattle.scan.proofs.first_report.Goals as goal

pub invariant_of-scan : goal.invariant_of-scan
invariant_of-scan c = record { sized = a-grid-that-fits-is-sized _ _ _ (sym c.grid_fit.ensures ∙ c.in_ok-grid_fit.was) }

pub returns-in_err-grid_fit : goal.returns-in_err-grid_fit
unfolding first_report report_for
returns-in_err-grid_fit c =
    rw (passed-on _ c.from_residual.ensures.1, sym c.grid_fit.ensures ∙ c.in_err-grid_fit.was)

pub returns : goal.returns
unfolding first_report report_for room_of scanned
returns c = rw (sym c.grid_fit.ensures ∙ c.in_ok-grid_fit.was, c.scan-counts.ensures.value)

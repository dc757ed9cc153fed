-- `bands::band_second_report` meets its contract: a band that does not fit is refused with nothing changed, and one that does is reported between its two
-- levels. Assumes nothing.
use Rattle.grid.proofs.Laws.{a-grid-that-fits-is-sized}
use Rattle.bands.proofs.Fit.{paired, pair-refused}
use Rattle.bands.proofs.Reports.{fit_refused}
use Rattle.error.proofs.Passing.{passed-on}
use Rattle.bands.proofs.band_second_report.Goals as goal

pub invariant_of-report_over : goal.invariant_of-report_over
invariant_of-report_over c =
    record { sized = a-grid-that-fits-is-sized _ _ _ (paired _ _ _ c.args.k c.args.thresholds.now c.args.rule _ _ c.in_ok-levels.was c.band_pair.ensures).grid }

pub returns-in_err-levels : goal.returns-in_err-levels
returns-in_err-levels c =
    rw (passed-on _ c.from_residual.ensures.1)
    (fit_refused _ _ (pair-refused _ _ _ c.args.k c.args.thresholds.now c.args.rule _ _ c.in_err-levels.was c.band_pair.ensures) _ _ _ _ _ _)

pub returns : goal.returns
returns c =
    let facts = paired _ _ _ c.args.k c.args.thresholds.now c.args.rule _ _ c.in_ok-levels.was c.band_pair.ensures in
    rw (facts.fits, ← facts.lower-is, ← facts.upper_is) c.report_over.ensures

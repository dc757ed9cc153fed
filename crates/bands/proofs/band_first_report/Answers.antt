-- `bands::band_first_report` meets its contract: a band that does not fit is refused, and the room of one that does is that of its two levels. Assumes nothing.
use mathlib.Core.Path.{ap}
use Rattle.std.specs.Prelude.{Ok}
use Rattle.grid.proofs.Laws.{a-grid-that-fits-is-sized}
use Rattle.scan.specs.Report.{report_for}
use Rattle.bands.specs.Bands.{band_first_report}
use Rattle.bands.proofs.Fit.{paired, pair-refused}
use Rattle.error.proofs.Passing.{passed-on}
use Rattle.bands.proofs.band_first_report.Goals as goal

pub invariant_of-room_of : goal.invariant_of-room_of
invariant_of-room_of c =
    record { sized = a-grid-that-fits-is-sized _ _ _ (paired _ _ _ c.args.k c.args.thresholds.now c.args.rule _ _ c.in_ok-levels.was c.band_pair.ensures).grid }

pub returns-in_err-levels : goal.returns-in_err-levels
unfolding band_first_report report_for
returns-in_err-levels c =
    rw (passed-on _ c.from_residual.ensures.1, pair-refused _ _ _ _ _ _ _ _ c.in_err-levels.was c.band_pair.ensures)

pub returns : goal.returns
unfolding band_first_report report_for
returns c =
    let facts = paired _ _ _ c.args.k c.args.thresholds.now c.args.rule _ _ c.in_ok-levels.was c.band_pair.ensures in
    rw (facts.fits, ← facts.lower-is, ← facts.upper_is) (ap Ok c.room_of.ensures)

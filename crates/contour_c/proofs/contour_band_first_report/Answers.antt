-- `contour_c::contour_band_first_report` meets its contract: what the library ensures gives the status and the outputs. Assumes nothing.
use Rattle.contour_c.proofs.contour_band_first_report.Goals as goal

pub returns : goal.returns
returns c = rw (← c.rule_of.ensures, ← c.band_first_report-report.ensures) c.told_first.ensures

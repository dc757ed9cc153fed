-- `contour_c::contour_first_report` meets its contract: what the library ensures gives the status and the outputs. Assumes nothing.
use Rattle.contour_c.proofs.contour_first_report.Goals as goal

pub returns : goal.returns
returns c = rw (← c.level_of-level.ensures, ← c.first_report-report.ensures) c.told_first.ensures

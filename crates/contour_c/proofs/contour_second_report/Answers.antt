-- `contour_c::contour_second_report` meets its contract: what the library ensures gives the status and the outputs. Assumes nothing.
use Rattle.contour_c.proofs.contour_second_report.Goals as goal

pub returns : goal.returns
returns c =
    let told = c.told_second.ensures in
    rw (← c.level_of-level.ensures)
    (record {
      answer = c.second_report-report.result;
      reported = c.second_report-report.ensures;
      status-is = told.value;
      segments-are = told.segments_after;
      rings-are = told.rings_after;
      peak-is = told.peak_after;
      points-are = told.points_after;
    })

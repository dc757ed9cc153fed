-- `linebuilder::plot` meets its contract: the answer says whether the outputs are spared or the walk along the links stores them. Assumes nothing.
use Rattle.scope.specs.Limits.{record_stride}
use Rattle.isoringbuilder.proofs.Packing.{spared, stored}
use Rattle.linebuilder.proofs.Laws.{line_records, as-plotted}
use Rattle.error.proofs.Passing.{passed-on}
use Rattle.linebuilder.proofs.plot.Goals as goal

pub returns-in_err-count : goal.returns-in_err-count
unfolding record_stride
returns-in_err-count c =
    rw (passed-on _ c.from_residual.ensures.1, ← c.in_err-count.was) (as-plotted (spared _ (line_records _) _ _ _ _ _ c.answer_for.ensures _ c.in_err-count.was))

pub returns : goal.returns
unfolding record_stride
returns c =
    let walked = c.write_lines.ensures in
    rw (walked.points_after, walked.directory_after, ← c.in_ok-count.was) (as-plotted (stored _ (line_records _) _ _ _ _ _ c.answer_for.ensures _ c.in_ok-count.was))

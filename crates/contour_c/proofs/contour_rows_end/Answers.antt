-- `contour_c::contour_rows_end` meets its contract: the step that `end` comes to over the words' state is settled. Assumes nothing.
use Rattle.rows.specs.Called.{end_called}
use Rattle.contour_c.proofs.Called.{called-entry}
use Rattle.contour_c.proofs.contour_rows_end.Goals as goal

pub returns : goal.returns
returns c =
    called-entry (λ s. end_called s c.args.lines.now c.args.links.now c.args.points.now c.args.directory.now) _ c.state_of.ensures _ c.args.state.now c.args.rings.now c.end-step.ensures (c.settle.ensures.value, (c.settle.ensures.state_after, c.settle.ensures.rings_after))

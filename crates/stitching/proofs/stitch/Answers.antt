-- `stitching::stitch` meets its contract. The loop's invariant: the run is the table machine's after the rows so far, and the words of the next row's upper
-- samples are kept. Assumes nothing.
use mathlib.Core.Path.{◌∙◌}
use native.Mathlib.Numerals.{add-one}
use native.Mathlib.Omega.{arith}
use Rattle.scan.proofs.Samples.{terrain-outside}
use Rattle.scan.proofs.Rows.{no-words-above}
use Rattle.machine.specs.Machine.{run_over}
use Rattle.stitching.proofs.Steps.{run-begins, next_row, run_ends, a-row-more-fits}
use Rattle.stitching.proofs.stitch.Goals as goal

pub loop-r-init : goal.loop-r-init
unfolding run_over
loop-r-init c = (run-begins _ _ _, no-words-above _ (terrain-outside _ _ _ _))

pub stitch_row-run-requires : goal.stitch_row-run-requires
stitch_row-run-requires c =
    let so_far = c.loop-r.invariant in
    record { r_le_dy = omega arith; kept = so_far.1; marked = c.requires.marked; dx_bound = a-row-more-fits _ _ _ _ _ so_far.0 c.args.grid.sized.columns (omega (arith, c.args.grid.sized.rows)) }

pub loop-r-preserved : goal.loop-r-preserved
loop-r-preserved c =
    let row = c.stitch_row-run.ensures in
    let so_far = c.loop-r.invariant in (
      rw add-one (row.result_after ∙ rw so_far.0 (next_row _ _ _ _)),
      rw add-one row.kept_2,
    )

pub returns : goal.returns
returns c =
    run_ends _ _ _ _ _ c.loop-r.invariant.0 (omega arith)

-- `stitching::stitch` meets its contract. The loop's invariant: the run is the table machine's after the rows so far, and the words of the next row's upper
-- samples are kept. Assumes nothing.
use mathlib.Core.Path.{◌≡◌}
use Rattle.scan.specs.Rows.{sheet_of, Kept}
use Rattle.machine.specs.Machine.{run_after, run_over}
use Rattle.drawing.specs.Values.{run_of}
use Rattle.stitching.proofs.stitch.Given as goal

abbrev pub invariant-loop-r : goal.invariant-loop-r
invariant-loop-r l = (run_of l.lines l.links l.run ≡ run_after (sheet_of l.grid l.level) l.grid.dx (run_over l.initial.lines l.initial.links) l.r 0)
    × Kept (sheet_of l.grid l.level) l.r l.row

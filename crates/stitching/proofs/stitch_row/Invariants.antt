-- `stitching::stitch_row` meets its contract. The loop's invariant: the words of the row are walked so far, and the run is that after the cells of these
-- words. Assumes nothing.
use mathlib.Core.Path.{◌≡◌}
use Prim.Native.Nat.{◌*◌}
use Rattle.scan.specs.Rows.{sheet_of}
use Rattle.scan.proofs.Rows.{Walked}
use Rattle.drawing.specs.Values.{run_of}
use Rattle.stitching.specs.Rows.{row_drawn}
use Rattle.stitching.proofs.stitch_row.Given as goal

abbrev pub invariant-loop-w : goal.invariant-loop-w
invariant-loop-w l = Walked (sheet_of l.grid l.level) l.r l.w l.row l.upper l.lower
    × (run_of l.lines l.links l.run ≡ row_drawn (sheet_of l.grid l.level) l.grid.dx (run_of l.initial.lines l.initial.links l.initial.run) l.r (64 * l.w))

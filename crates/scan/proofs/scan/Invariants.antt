-- `scan::scan` meets its contract. The loop's invariant: the counts and the marks are those after the rows so far, and the words of the next row's upper
-- samples are kept. Assumes nothing.
use mathlib.Core.Path.{◌≡◌}
use Rattle.scan.specs.Rows.{sheet_of, Kept, Marked}
use Rattle.scan.specs.Scanned.{counts_after}
use Rattle.scan.proofs.scan.Given as goal

abbrev pub invariant-loop-r : goal.invariant-loop-r
invariant-loop-r l = (l.counts ≡ counts_after (sheet_of l.grid l.level) l.grid.dx l.r 0)
    × Kept (sheet_of l.grid l.level) l.r l.row
    × Marked (sheet_of l.grid l.level) l.r l.marks

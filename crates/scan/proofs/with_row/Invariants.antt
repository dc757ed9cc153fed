-- `scan::with_row` meets its contract. The loop's invariant: the words of the row are walked so far, their tiles are marked, and the counts are those after
-- the cells of these words. Assumes nothing.
use mathlib.Core.Path.{◌≡◌}
use Prim.Native.Nat.{◌*◌}
use Rattle.scan.specs.Rows.{sheet_of}
use Rattle.scan.specs.Scanned.{counts_after}
use Rattle.scan.proofs.Rows.{Walked, MarkedTo}
use Rattle.scan.proofs.with_row.Given as goal

abbrev pub invariant-loop-w : goal.invariant-loop-w
invariant-loop-w l = Walked (sheet_of l.grid l.level) l.r l.w l.row l.upper l.lower
    × MarkedTo (sheet_of l.grid l.level) l.r l.w l.marks
    × (l.counts ≡ counts_after (sheet_of l.grid l.level) l.grid.dx l.r (64 * l.w))

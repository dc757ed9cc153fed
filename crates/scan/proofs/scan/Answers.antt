-- `scan::scan` meets its contract. The loop's invariant: the counts and the marks are those after the rows so far, and the words of the next row's upper
-- samples are kept. Assumes nothing.
use mathlib.Core.Path.{◌≡◌, sym, ◌∙◌}
use Prim.Native.Nat.{suc}
use native.Mathlib.Numerals.{add-one}
use native.Mathlib.Omega.{arith}
use Rattle.scan.proofs.Samples.{terrain-outside}
use Rattle.scan.proofs.Rows.{no-words-above, no-row-marked, marked-as-far}
use Rattle.scan.proofs.Steps.{counts-begin, row_done, counts_end}
use Rattle.scan.proofs.scan.Goals as goal

pub loop-r-init : goal.loop-r-init
loop-r-init c = (counts-begin _ _, no-words-above _ (terrain-outside _ _ _ _), no-row-marked _ 0 c.requires.marks_len)

pub with_row-counts-requires : goal.with_row-counts-requires
with_row-counts-requires c =
    let so_far = c.loop-r.invariant in
    record { r_le_dy = omega arith; kept = so_far.1; marked = so_far.2; before_value = so_far.0 }

pub loop-r-preserved : goal.loop-r-preserved
loop-r-preserved c =
    let row = c.with_row-counts.ensures in
    (rw add-one (row.value ∙ row_done _ _ _), rw add-one row.kept_2, rw add-one row.marked_2)

pub returns : goal.returns
returns c =
    let so_far = c.loop-r.invariant in
    let rows : c.loop-r.r ≡ suc c.args.grid.dy = omega arith in
    record { value = so_far.0 ∙ rw rows (sym (row_done _ _ _)) ∙ counts_end _ (terrain-outside _ _ _ _); marked = marked-as-far _ 0 rows so_far.2 }

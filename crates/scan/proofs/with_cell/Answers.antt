-- `scan::with_cell` meets its contract: a cell opens no more lines than it draws segments, and it draws at most two. Assumes nothing.
use native.Mathlib.Omega.{arith}
use Rattle.scope.specs.Cells.{opened}
use Rattle.cells.proofs.Laws.{a-cell-draws-at-most-two}
use Rattle.scan.proofs.with_cell.Goals as goal

pub overflow_add-segments : goal.overflow_add-segments
overflow_add-segments c = omega (arith, a-cell-draws-at-most-two c.args.number)

pub overflow_add-open_lines : goal.overflow_add-open_lines
unfolding opened
overflow_add-open_lines c = omega (arith, a-cell-draws-at-most-two c.args.number)

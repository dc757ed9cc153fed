-- `cells::stroke_at` meets its contract: the code's table is by computation the one that the definition makes, and past a cell's strokes or past
-- the table none is drawn. Assumes nothing.
use Prim.Native.Nat.{◌≤◌}
use native.Mathlib.Omega.{arith}
use lib.ListN.{length, get_or-eq_default}
use borrow.Author.Rules.{rules}
use Rattle.scope.specs.declared.Side.TheVariants.{Left}
use Rattle.scope.specs.Cells.{◌⟶◌, case_table, drawn}
use Rattle.cells.specs.Sides.{stroke_at}
use Rattle.cells.proofs.Laws.{a-cell-draws-at-most-two, past-the-table-nothing-is-drawn}
use Rattle.cells.proofs.Table.{the-table-holds}
use Rattle.cells.proofs.stroke_at.Goals as goal

pub returns-then-k-lt2 : goal.returns-then-k-lt2
unfolding stroke_at drawn case_table
returns-then-k-lt2 c =
    let args = c.args in
    the-table-holds _ _ args.number args.k (search rules) (search rules)

pub returns-else-k-lt2 : goal.returns-else-k-lt2
unfolding stroke_at
returns-else-k-lt2 c =
    let args = c.args in
    let past : length (drawn args.number) ≤ args.k = omega (arith, a-cell-draws-at-most-two args.number) in
    rw (get_or-eq_default (drawn args.number) (Left ⟶ Left) past)

pub returns-else-number-lt16 : goal.returns-else-number-lt16
unfolding stroke_at
returns-else-number-lt16 c = rw (past-the-table-nothing-is-drawn c.args.number (search rules))

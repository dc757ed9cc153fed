-- `giving::give_cell` meets its contract: each arm draws the strokes that the case table has for its number, and the numbers that are left have none.
-- Assumes nothing.
use mathlib.Core.Path.{refl}
use native.Mathlib.Omega.{arith}
use Rattle.scope.specs.Cells.{case_table, drawn}
use Rattle.cells.specs.Sides.{stroke_at}
use Rattle.giving.proofs.Cells.{one-given, two-given, rest-given}
use Rattle.giving.proofs.give_cell.Goals as goal

pub returns-in-1 : goal.returns-in-1
unfolding case_table drawn stroke_at
returns-in-1 c =
    one-given _ _ _ _ _ c.cell_of-cell.result (record { place = c.cell_of-cell.ensures.place; lines-are = c.cell_of-cell.ensures.lines_met }) c.in-1.is refl c.stroke_at.ensures c.give_stroke.ensures

pub returns-in-2 : goal.returns-in-2
unfolding case_table drawn stroke_at
returns-in-2 c =
    one-given _ _ _ _ _ c.cell_of-cell.result (record { place = c.cell_of-cell.ensures.place; lines-are = c.cell_of-cell.ensures.lines_met }) c.in-2.is refl c.stroke_at-in-2.ensures c.give_stroke-in-2.ensures

pub returns-in-3 : goal.returns-in-3
unfolding case_table drawn stroke_at
returns-in-3 c =
    one-given _ _ _ _ _ c.cell_of-cell.result (record { place = c.cell_of-cell.ensures.place; lines-are = c.cell_of-cell.ensures.lines_met }) c.in-3.is refl c.stroke_at-in-3.ensures c.give_stroke-in-3.ensures

pub returns-in-4 : goal.returns-in-4
unfolding case_table drawn stroke_at
returns-in-4 c =
    one-given _ _ _ _ _ c.cell_of-cell.result (record { place = c.cell_of-cell.ensures.place; lines-are = c.cell_of-cell.ensures.lines_met }) c.in-4.is refl c.stroke_at-in-4.ensures c.give_stroke-in-4.ensures

pub returns-in-5 : goal.returns-in-5
unfolding case_table drawn stroke_at
returns-in-5 c =
    two-given _ _ _ _ _ c.cell_of-cell.result (record { place = c.cell_of-cell.ensures.place; lines-are = c.cell_of-cell.ensures.lines_met }) c.in-5.is (stroke_at 5 0) (stroke_at 5 1) refl c.stroke_at-in-5.ensures
    c.stroke_at-in-5-2.ensures c.give_stroke-one.ensures c.give_stroke-in-5.ensures

pub returns-in-6 : goal.returns-in-6
unfolding case_table drawn stroke_at
returns-in-6 c =
    one-given _ _ _ _ _ c.cell_of-cell.result (record { place = c.cell_of-cell.ensures.place; lines-are = c.cell_of-cell.ensures.lines_met }) c.in-6.is refl c.stroke_at-in-6.ensures c.give_stroke-in-6.ensures

pub returns-in-7 : goal.returns-in-7
unfolding case_table drawn stroke_at
returns-in-7 c =
    one-given _ _ _ _ _ c.cell_of-cell.result (record { place = c.cell_of-cell.ensures.place; lines-are = c.cell_of-cell.ensures.lines_met }) c.in-7.is refl c.stroke_at-in-7.ensures c.give_stroke-in-7.ensures

pub returns-in-8 : goal.returns-in-8
unfolding case_table drawn stroke_at
returns-in-8 c =
    one-given _ _ _ _ _ c.cell_of-cell.result (record { place = c.cell_of-cell.ensures.place; lines-are = c.cell_of-cell.ensures.lines_met }) c.in-8.is refl c.stroke_at-in-8.ensures c.give_stroke-in-8.ensures

pub returns-in-9 : goal.returns-in-9
unfolding case_table drawn stroke_at
returns-in-9 c =
    one-given _ _ _ _ _ c.cell_of-cell.result (record { place = c.cell_of-cell.ensures.place; lines-are = c.cell_of-cell.ensures.lines_met }) c.in-9.is refl c.stroke_at-in-9.ensures c.give_stroke-in-9.ensures

pub returns-in-10 : goal.returns-in-10
unfolding case_table drawn stroke_at
returns-in-10 c =
    two-given _ _ _ _ _ c.cell_of-cell.result (record { place = c.cell_of-cell.ensures.place; lines-are = c.cell_of-cell.ensures.lines_met }) c.in-10.is (stroke_at 10 0) (stroke_at 10 1) refl c.stroke_at-in-10.ensures
    c.stroke_at-in-10-2.ensures c.give_stroke-one-in-10.ensures c.give_stroke-in-10.ensures

pub returns-in-11 : goal.returns-in-11
unfolding case_table drawn stroke_at
returns-in-11 c =
    one-given _ _ _ _ _ c.cell_of-cell.result (record { place = c.cell_of-cell.ensures.place; lines-are = c.cell_of-cell.ensures.lines_met }) c.in-11.is refl c.stroke_at-in-11.ensures c.give_stroke-in-11.ensures

pub returns-in-12 : goal.returns-in-12
unfolding case_table drawn stroke_at
returns-in-12 c =
    one-given _ _ _ _ _ c.cell_of-cell.result (record { place = c.cell_of-cell.ensures.place; lines-are = c.cell_of-cell.ensures.lines_met }) c.in-12.is refl c.stroke_at-in-12.ensures c.give_stroke-in-12.ensures

pub returns-in-13 : goal.returns-in-13
unfolding case_table drawn stroke_at
returns-in-13 c =
    one-given _ _ _ _ _ c.cell_of-cell.result (record { place = c.cell_of-cell.ensures.place; lines-are = c.cell_of-cell.ensures.lines_met }) c.in-13.is refl c.stroke_at-in-13.ensures c.give_stroke-in-13.ensures

pub returns-in-14 : goal.returns-in-14
unfolding case_table drawn stroke_at
returns-in-14 c =
    one-given _ _ _ _ _ c.cell_of-cell.result (record { place = c.cell_of-cell.ensures.place; lines-are = c.cell_of-cell.ensures.lines_met }) c.in-14.is refl c.stroke_at-in-14.ensures c.give_stroke-in-14.ensures

pub returns-in_default : goal.returns-in_default
returns-in_default c = rest-given _ _ _ _ _ (omega arith)

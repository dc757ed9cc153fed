-- `drawing::draw_cell` meets its contract: each arm draws the strokes that the case table has for its number, and the numbers that are left have none.
-- Assumes nothing.
use mathlib.Core.Path.{refl, ap}
use native.Mathlib.Omega.{arith}
use Rattle.scope.specs.Cells.{case_table, drawn}
use Rattle.cells.specs.Sides.{stroke_at}
use Rattle.machine.specs.Machine.{Run}
use Rattle.drawing.proofs.Strokes.{a-second-link-fits, one-stroke, two-strokes, no-stroke}
use Rattle.drawing.proofs.draw_cell.Goals as goal

pub draw_stroke-requires-in-5 : goal.draw_stroke-requires-in-5
draw_stroke-requires-in-5 c =
    a-second-link-fits _ _ (ap (λ (run : Run). run.next) c.draw_stroke-one.ensures) c.requires.next_bound

pub draw_stroke-requires-in-10 : goal.draw_stroke-requires-in-10
draw_stroke-requires-in-10 c =
    a-second-link-fits _ _ (ap (λ (run : Run). run.next) c.draw_stroke-one-in-10.ensures) c.requires.next_bound

pub returns-in-1 : goal.returns-in-1
unfolding case_table drawn stroke_at
returns-in-1 c =
    one-stroke _ _ _ _ _ c.cell_of-cell.result (record { place = c.cell_of-cell.ensures.place; lines-are = c.cell_of-cell.ensures.lines_met }) c.in-1.is (stroke_at 1 0) refl tt
    c.stroke_at.ensures c.draw_stroke.ensures

pub returns-in-2 : goal.returns-in-2
unfolding case_table drawn stroke_at
returns-in-2 c =
    one-stroke _ _ _ _ _ c.cell_of-cell.result (record { place = c.cell_of-cell.ensures.place; lines-are = c.cell_of-cell.ensures.lines_met }) c.in-2.is (stroke_at 2 0) refl tt
    c.stroke_at-in-2.ensures c.draw_stroke-in-2.ensures

pub returns-in-3 : goal.returns-in-3
unfolding case_table drawn stroke_at
returns-in-3 c =
    one-stroke _ _ _ _ _ c.cell_of-cell.result (record { place = c.cell_of-cell.ensures.place; lines-are = c.cell_of-cell.ensures.lines_met }) c.in-3.is (stroke_at 3 0) refl tt
    c.stroke_at-in-3.ensures c.draw_stroke-in-3.ensures

pub returns-in-4 : goal.returns-in-4
unfolding case_table drawn stroke_at
returns-in-4 c =
    one-stroke _ _ _ _ _ c.cell_of-cell.result (record { place = c.cell_of-cell.ensures.place; lines-are = c.cell_of-cell.ensures.lines_met }) c.in-4.is (stroke_at 4 0) refl tt
    c.stroke_at-in-4.ensures c.draw_stroke-in-4.ensures

pub returns-in-5 : goal.returns-in-5
unfolding case_table drawn stroke_at
returns-in-5 c =
    two-strokes _ _ _ _ _ c.cell_of-cell.result (record { place = c.cell_of-cell.ensures.place; lines-are = c.cell_of-cell.ensures.lines_met }) c.in-5.is (stroke_at 5 0) (stroke_at 5 1) refl tt tt
    c.stroke_at-in-5.ensures c.stroke_at-in-5-2.ensures c.draw_stroke-one.ensures c.draw_stroke-in-5.ensures

pub returns-in-6 : goal.returns-in-6
unfolding case_table drawn stroke_at
returns-in-6 c =
    one-stroke _ _ _ _ _ c.cell_of-cell.result (record { place = c.cell_of-cell.ensures.place; lines-are = c.cell_of-cell.ensures.lines_met }) c.in-6.is (stroke_at 6 0) refl tt
    c.stroke_at-in-6.ensures c.draw_stroke-in-6.ensures

pub returns-in-7 : goal.returns-in-7
unfolding case_table drawn stroke_at
returns-in-7 c =
    one-stroke _ _ _ _ _ c.cell_of-cell.result (record { place = c.cell_of-cell.ensures.place; lines-are = c.cell_of-cell.ensures.lines_met }) c.in-7.is (stroke_at 7 0) refl tt
    c.stroke_at-in-7.ensures c.draw_stroke-in-7.ensures

pub returns-in-8 : goal.returns-in-8
unfolding case_table drawn stroke_at
returns-in-8 c =
    one-stroke _ _ _ _ _ c.cell_of-cell.result (record { place = c.cell_of-cell.ensures.place; lines-are = c.cell_of-cell.ensures.lines_met }) c.in-8.is (stroke_at 8 0) refl tt
    c.stroke_at-in-8.ensures c.draw_stroke-in-8.ensures

pub returns-in-9 : goal.returns-in-9
unfolding case_table drawn stroke_at
returns-in-9 c =
    one-stroke _ _ _ _ _ c.cell_of-cell.result (record { place = c.cell_of-cell.ensures.place; lines-are = c.cell_of-cell.ensures.lines_met }) c.in-9.is (stroke_at 9 0) refl tt
    c.stroke_at-in-9.ensures c.draw_stroke-in-9.ensures

pub returns-in-10 : goal.returns-in-10
unfolding case_table drawn stroke_at
returns-in-10 c =
    two-strokes _ _ _ _ _ c.cell_of-cell.result (record { place = c.cell_of-cell.ensures.place; lines-are = c.cell_of-cell.ensures.lines_met }) c.in-10.is (stroke_at 10 0) (stroke_at 10 1) refl tt tt
    c.stroke_at-in-10.ensures c.stroke_at-in-10-2.ensures c.draw_stroke-one-in-10.ensures c.draw_stroke-in-10.ensures

pub returns-in-11 : goal.returns-in-11
unfolding case_table drawn stroke_at
returns-in-11 c =
    one-stroke _ _ _ _ _ c.cell_of-cell.result (record { place = c.cell_of-cell.ensures.place; lines-are = c.cell_of-cell.ensures.lines_met }) c.in-11.is (stroke_at 11 0) refl tt
    c.stroke_at-in-11.ensures c.draw_stroke-in-11.ensures

pub returns-in-12 : goal.returns-in-12
unfolding case_table drawn stroke_at
returns-in-12 c =
    one-stroke _ _ _ _ _ c.cell_of-cell.result (record { place = c.cell_of-cell.ensures.place; lines-are = c.cell_of-cell.ensures.lines_met }) c.in-12.is (stroke_at 12 0) refl tt
    c.stroke_at-in-12.ensures c.draw_stroke-in-12.ensures

pub returns-in-13 : goal.returns-in-13
unfolding case_table drawn stroke_at
returns-in-13 c =
    one-stroke _ _ _ _ _ c.cell_of-cell.result (record { place = c.cell_of-cell.ensures.place; lines-are = c.cell_of-cell.ensures.lines_met }) c.in-13.is (stroke_at 13 0) refl tt
    c.stroke_at-in-13.ensures c.draw_stroke-in-13.ensures

pub returns-in-14 : goal.returns-in-14
unfolding case_table drawn stroke_at
returns-in-14 c =
    one-stroke _ _ _ _ _ c.cell_of-cell.result (record { place = c.cell_of-cell.ensures.place; lines-are = c.cell_of-cell.ensures.lines_met }) c.in-14.is (stroke_at 14 0) refl tt
    c.stroke_at-in-14.ensures c.draw_stroke-in-14.ensures

pub returns-in_default : goal.returns-in_default
returns-in_default c = no-stroke _ _ _ _ _ (omega arith)

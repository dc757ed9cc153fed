-- The code's values as the table machine has them: the points of a cell, the tables with the number of the next link, a stroke by its sides, and a cell by
-- its number. Assumes nothing.
use Rattle.std.specs.Prelude.{Bool, true, false, cond, List, ℕ, ◌+◌, ◌≤◌, length}
use Rattle.scope.specs.Limits.{side_limit}
use Rattle.scope.specs.declared.Side.{Side}
use Rattle.scope.specs.declared.Side.TheVariants.{Left, Right, Top, Bottom}
use Rattle.scope.specs.Cells.{Stroke, ◌⟶◌, point_of, point_index, drawn}
use Rattle.machine.specs.Machine.{Tables, Entry, side_word, started, appended, prepended, entry_of, draw_strokes}
use Rattle.machine.specs.Machine as machine
use Rattle.lines.specs.Values.{tables_of, connected}
use Rattle.drawing.specs.declared.Points.{Points}
use Rattle.drawing.specs.declared.Run.{Run}

-- a cell of a grid whose sides are within the limit
pub record Within (dx c r : ℕ) : Type 0 where
  pub columns : dx ≤ side_limit
  pub column : c ≤ dx
  pub row : r ≤ side_limit

-- the indexes of the points on the four sides of cell (c, r)
abbrev pub points_of : ℕ → ℕ → ℕ → Points
points_of dx c r = record {
  left = point_index dx (point_of c r Left);
  right = point_index dx (point_of c r Right);
  top = point_index dx (point_of c r Top);
  bottom = point_index dx (point_of c r Bottom);
}

-- the two tables and how far the pass has come
abbrev pub run_of : List ℕ → List ℕ → Run → machine.Run
run_of lines links run = record { tables = tables_of lines links run.progress; next = run.next }

-- cell (c, r), drawn by its number
abbrev pub number_drawn : ℕ → machine.Run → ℕ → ℕ → ℕ → machine.Run
number_drawn dx run number c r = record {
  tables = draw_strokes dx c r (entry_of dx run.tables.lines c) run.tables (drawn number) run.next;
  next = run.next + length (drawn number);
}

-- what a side has: its point, whether a line may end or start there before the cell is drawn, and that line
abbrev pub point_at : Points → Side → ℕ
point_at at Left = at.left
point_at at Right = at.right
point_at at Top = at.top
point_at at Bottom = at.bottom

abbrev pub is_met : Side → Bool
is_met Left = true
is_met Right = false
is_met Top = true
is_met Bottom = false

abbrev pub line_at : Entry → Side → ℕ
line_at entry Left = entry.left
line_at entry Right = entry.top
line_at entry Top = entry.top
line_at entry Bottom = entry.top

-- a stroke of column c, drawn as link k by the rule that its two sides call for
abbrev pub rule_drawn : ℕ → ℕ → Entry → Points → Tables → ℕ → Side → Side → Tables
rule_drawn dx c entry at t k s e =
    cond (is_met s)
    (cond (is_met e)
    (connected dx t k (point_at at s) (line_at entry s) (line_at entry e))
    (appended dx t k (point_at at s) (line_at entry s) (point_at at e) (side_word dx c e)))
    (cond (is_met e)
    (prepended dx t k (point_at at s) (line_at entry e) (side_word dx c s))
    (started dx t k (point_at at s) (point_at at e) (side_word dx c s) (side_word dx c e)))

-- a stroke, drawn as the next link
abbrev pub stroke_drawn : ℕ → ℕ → Entry → Points → machine.Run → Stroke → machine.Run
stroke_drawn dx c entry at run (s ⟶ e) = record { tables = rule_drawn dx c entry at run.tables run.next s e; next = run.next + 1 }

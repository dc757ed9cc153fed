-- Cells: their numbers, their four points, the case table, and the segments they draw.
-- Cells are counted from 0: cell (c, r) is document 01's cell (c - 1, r - 1), so it runs from 0, 0 to dx, dy, and its four samples stand in the
-- sheet at c, r and one further. Left at c = 0 and Top at r = 0 are never drawn. Assumes nothing.
use Rattle.std.specs.Prelude.{ℕ, suc, ◌+◌, ◌-◌, ◌*◌, ◌/◌, ◌%◌, Bool, true, false, ◌&&◌, List, [], ◌∷◌, map, eqb, length, get_or}
use Rattle.scope.specs.Terrain.{Sheet}
use Rattle.scope.specs.declared.Side.{Side}
use Rattle.scope.specs.declared.Side.TheVariants.{Left, Right, Top, Bottom}

-- n where the test holds, else 0
abbrev pub when : ℕ → Bool → ℕ
when n true = n
when n false = 0

-- 1 for lower left, 2 for lower right, 4 for upper right, 8 for upper left
unfoldable pub number_of : Bool → Bool → Bool → Bool → ℕ
number_of lower_left lower_right upper_right upper_left = when 1 lower_left + when 2 lower_right + when 4 upper_right + when 8 upper_left

unfoldable pub cell_number : Sheet → ℕ → ℕ → ℕ
cell_number A c r = number_of (A c (suc r)) (A (suc c) (suc r)) (A (suc c) r) (A c r)

-- a point of doubled coordinates
pub record Point : Type 0 where
  pub x : ℕ
  pub y : ℕ

unfoldable pub same_point : Point → Point → Bool
same_point p q = eqb p.x q.x && eqb p.y q.y

-- whether two sides are the same
abbrev pub same_side : Side → Side → Bool
same_side Left Left = true
same_side Right Right = true
same_side Top Top = true
same_side Bottom Bottom = true
same_side d e = false

unfoldable pub point_of : ℕ → ℕ → Side → Point
point_of c r Left = record { x = 2 * c - 1; y = 2 * r }
point_of c r Right = record { x = 2 * c + 1; y = 2 * r }
point_of c r Top = record { x = 2 * c; y = 2 * r - 1 }
point_of c r Bottom = record { x = 2 * c; y = 2 * r + 1 }

-- a drawn entry of the case table: from a side to a side
infix 90 ◌⟶◌
pub data Stroke : Type 0 where
  ◌⟶◌ : Side → Side → Stroke

-- the case table, sixteen rows in the order of the cell number
unfoldable pub case_table : List (List Stroke)
case_table =
    []
    ∷ (Bottom ⟶ Left ∷ [])
    ∷ (Right ⟶ Bottom ∷ [])
    ∷ (Right ⟶ Left ∷ [])
    ∷ (Top ⟶ Right ∷ [])
    ∷ (Bottom ⟶ Left ∷ Top ⟶ Right ∷ [])
    ∷ (Top ⟶ Bottom ∷ [])
    ∷ (Top ⟶ Left ∷ [])
    ∷ (Left ⟶ Top ∷ [])
    ∷ (Bottom ⟶ Top ∷ [])
    ∷ (Left ⟶ Top ∷ Right ⟶ Bottom ∷ [])
    ∷ (Right ⟶ Top ∷ [])
    ∷ (Left ⟶ Right ∷ [])
    ∷ (Bottom ⟶ Right ∷ [])
    ∷ (Left ⟶ Bottom ∷ [])
    ∷ []
    ∷ []

unfoldable pub drawn : ℕ → List Stroke
drawn number = get_or case_table number []

-- how many ends of strokes lie on Left or Top, the sides that finished cells share
unfoldable pub on_finished : Side → ℕ
on_finished Left = 1
on_finished Right = 0
on_finished Top = 1
on_finished Bottom = 0

unfoldable pub met : List Stroke → ℕ
met [] = 0
met ((s ⟶ e) ∷ strokes) = on_finished s + on_finished e + met strokes

-- the change in open lines: cells 2 and 13 open one line more, 7 and 8 leave one fewer, and the rest keep the number
unfoldable pub opened : ℕ → ℕ
opened number = length (drawn number) - met (drawn number)

unfoldable pub closed : ℕ → ℕ
closed number = met (drawn number) - length (drawn number)

-- the index of a point in a grid of dx columns, X + 2(dx + 1)·Y, and the way back
unfoldable pub point_index : ℕ → Point → ℕ
point_index dx p = p.x + 2 * (dx + 1) * p.y

unfoldable pub indexed_point : ℕ → ℕ → Point
indexed_point dx index = record { x = index % (2 * (dx + 1)); y = index / (2 * (dx + 1)) }

pub record Segment : Type 0 where
  pub from : Point
  pub to : Point

unfoldable pub placed : ℕ → ℕ → Stroke → Segment
placed c r (s ⟶ e) = record { from = point_of c r s; to = point_of c r e }

-- the segments of a cell, in order
unfoldable pub cell_segments : Sheet → ℕ → ℕ → List Segment
cell_segments A c r = map (placed c r) (drawn (cell_number A c r))

-- The drawing after any number of cells in row order, and S, R and H. A number of cells is given as r whole rows and c cells of row r;
-- the last cell is behind dy rows and dx + 1 cells. Assumes nothing.
use Rattle.std.specs.Prelude.{ℕ, zero, suc, max, List, [], ◌++◌, length}
use Rattle.scope.specs.Terrain.{Sheet}
use Rattle.scope.specs.Cells.{Segment, cell_segments}
use Rattle.scope.specs.Stitching.{Line, Drawing, nothing, stitch_all}

-- what a step does at each cell, row by row: along c cells of row r, down r whole rows, and up to c cells of row r
module _ {X : Type 0} (step : X → ℕ → ℕ → X) (begin : X) (dx : ℕ) where
  unfoldable pub along : X → ℕ → ℕ → X
  along from r zero = from
  along from r (suc c) = step (along from r c) c r

  unfoldable pub down : ℕ → X
  down zero = begin
  down (suc r) = along (down r) r (suc dx)

  unfoldable pub up_to : ℕ → ℕ → X
  up_to r c = along (down r) r c

-- the segments of all cells up to a given one, in order
unfoldable pub with_cell : Sheet → List Segment → ℕ → ℕ → List Segment
with_cell A σs c r = σs ++ cell_segments A c r

unfoldable pub segments_after : Sheet → ℕ → ℕ → ℕ → List Segment
segments_after A dx r c = up_to (with_cell A) [] dx r c

-- the segments of row r alone
unfoldable pub row_segments : Sheet → ℕ → ℕ → List Segment
row_segments A dx r = along (with_cell A) [] dx [] r (suc dx)

-- what the stitching rules leave once they are drawn, beginning with none
unfoldable pub drawing_after : Sheet → ℕ → ℕ → ℕ → Drawing
drawing_after A dx r c = stitch_all nothing (segments_after A dx r c)

-- the open lines and the rings after a cell
unfoldable pub open_after : Sheet → ℕ → ℕ → ℕ → List Line
open_after A dx r c = (drawing_after A dx r c).lines

unfoldable pub rings_after : Sheet → ℕ → ℕ → ℕ → List Line
rings_after A dx r c = (drawing_after A dx r c).rings

-- after the last cell
unfoldable pub segments_of : Sheet → ℕ → ℕ → List Segment
segments_of A dx dy = segments_after A dx dy (suc dx)

unfoldable pub rings_of : Sheet → ℕ → ℕ → List Line
rings_of A dx dy = rings_after A dx dy (suc dx)

-- S, R, and H: the largest number of open lines after any cell
unfoldable pub segment_count : Sheet → ℕ → ℕ → ℕ
segment_count A dx dy = length (segments_of A dx dy)

unfoldable pub ring_count : Sheet → ℕ → ℕ → ℕ
ring_count A dx dy = length (rings_of A dx dy)

unfoldable pub higher : Sheet → ℕ → ℕ → ℕ → ℕ → ℕ
higher A dx h c r = max h (length (open_after A dx r (suc c)))

unfoldable pub peak : Sheet → ℕ → ℕ → ℕ
peak A dx dy = up_to (higher A dx) 0 dx dy (suc dx)

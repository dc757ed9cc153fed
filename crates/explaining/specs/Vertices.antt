-- What smoothing does to a vertex of a ring set, under numbers 1, 2, 9 and 15: which vertices stand midway between two neighbouring samples of which at least one
-- is in the grid, and the answer on every input. Assumes nothing.
use Rattle.std.specs.Prelude.{Bool, cond, ◌&&◌, ◌||◌, List, ℕ, ◌+◌, ◌/◌, ◌%◌, ltb, leb, eqb, Float, length, get_or, Result, Ok, Err}
use Rattle.error.specs.declared.Refusal.TheVariants.{BadRingSet, NotThere}
use Rattle.scope.specs.Cells.{Point}
use Rattle.scope.specs.GeoJson.{count_at, ring_at, ring_set_refused}
use Rattle.grid.specs.Grid.{grid_fit}
use Rattle.smoothing.specs.Coordinates.{vertex_moves}
use Rattle.error.specs.declared.Refusal.{Refusal}
use Rattle.smoothing.specs.declared.VertexMoves.{VertexMoves}

-- ---- midway between two neighbouring samples

-- samples are counted from one outside the grid, as in a sheet: the one in column c and row r stands at (2c - 1, 2r - 1), in doubled coordinates
unfoldable pub in_grid : ℕ → ℕ → ℕ → ℕ → Bool
in_grid dx dy c r = leb 1 c && leb c dx && leb 1 r && leb r dy

-- between a sample at (x - 1, y) and the next in its row, at (x + 1, y)
unfoldable pub midway_in_row : ℕ → ℕ → Point → Bool
midway_in_row dx dy p =
    eqb (p.x % 2) 0 && eqb (p.y % 2) 1 && (in_grid dx dy (p.x / 2) (p.y / 2 + 1) || in_grid dx dy (p.x / 2 + 1) (p.y / 2 + 1))

-- between a sample at (x, y - 1) and the next in its column, at (x, y + 1)
unfoldable pub midway_in_column : ℕ → ℕ → Point → Bool
midway_in_column dx dy p =
    eqb (p.x % 2) 1 && eqb (p.y % 2) 0 && (in_grid dx dy (p.x / 2 + 1) (p.y / 2) || in_grid dx dy (p.x / 2 + 1) (p.y / 2 + 1))

unfoldable pub midway : ℕ → ℕ → Point → Bool
midway dx dy p = midway_in_row dx dy p || midway_in_column dx dy p

-- ---- the answer

-- vertex v of ring i
unfoldable pub vertex_of_ring : List ℕ → List ℕ → ℕ → ℕ → Point
vertex_of_ring ps directory i v = get_or (ring_at ps directory i) v (record { x = 0; y = 0 })

-- there is a ring of this number, it has a vertex of this number, and that stands midway between two samples
unfoldable pub vertex_there : ℕ → ℕ → List ℕ → List ℕ → ℕ → ℕ → ℕ → Bool
vertex_there dx dy ps directory rings i v = ltb i rings && ltb v (count_at directory i) && midway dx dy (vertex_of_ring ps directory i v)

-- the vertex is there, or number 15
unfoldable pub vertex_told : List Float → Float → ℕ → ℕ → List ℕ → List ℕ → ℕ → ℕ → ℕ → Result VertexMoves Refusal
vertex_told values t dx dy ps directory rings i v =
    cond (vertex_there dx dy ps directory rings i v) (Ok (vertex_moves values t dx dy (vertex_of_ring ps directory i v))) (Err NotThere)

-- numbers 1 and 2, or what follows
unfoldable pub on_grid : Result (Unit {0}) Refusal → Result VertexMoves Refusal → Result VertexMoves Refusal
on_grid (Err why) next = Err why
on_grid (Ok _) next = next

unfoldable pub vertex_answer : List Float → Float → ℕ → ℕ → List ℕ → List ℕ → ℕ → ℕ → ℕ → Result VertexMoves Refusal
vertex_answer values t dx dy ps directory rings i v =
    on_grid (grid_fit (length values) dx dy)
    (cond (ring_set_refused ps directory rings) (Err BadRingSet) (vertex_told values t dx dy ps directory rings i v))

-- The cells of a row, as the table machine draws them. Assumes nothing.
use Rattle.std.specs.Prelude.{ℕ, zero, suc, ◌+◌}
use Rattle.scope.specs.Terrain.{Sheet}
use Rattle.scope.specs.Drawing.{along}
use Rattle.machine.specs.Machine.{Run, draw_cell}

-- n cells of row r, from cell c on
unfoldable pub cells_drawn : Sheet → ℕ → Run → ℕ → ℕ → ℕ → Run
cells_drawn A dx run r c zero = run
cells_drawn A dx run r c (suc n) = draw_cell A dx (cells_drawn A dx run r c n) (c + n) r

-- the first c cells of row r
unfoldable pub row_drawn : Sheet → ℕ → Run → ℕ → ℕ → Run
row_drawn A dx run r c = along (draw_cell A dx) run dx run r c

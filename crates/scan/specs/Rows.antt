-- Rows of samples kept as words, and the tiles of cells, of which those with an active cell are marked. Assumes nothing.
use Rattle.std.specs.Prelude.{◌≡◌, false, List, ℕ, suc, ◌+◌, ◌*◌, ◌/◌, ◌<◌, length, get_or}
use Rattle.scope.specs.declared.Level.{Level}
use Rattle.scope.specs.Terrain.{Sheet, above_at, terrain}
use Rattle.words.specs.Bits.{packed}
use Rattle.words.specs.Panes.{active}
use Rattle.grid.specs.declared.Grid.{Grid}

-- the sheet of a grid's samples at a level
abbrev pub sheet_of : Grid → Level → Sheet
sheet_of grid level = terrain (above_at level) grid.values.now grid.dx grid.dy

-- the samples of row s of the sheet on the right of the sixty-four cells from cell c on
unfoldable pub word_from : Sheet → ℕ → ℕ → ℕ
word_from A s c = packed (λ j. A (suc (c + j)) s) 64

-- 65 words, those of row s of the sheet
pub record Kept (A : Sheet) (s : ℕ) (row : List ℕ) : Type 0 where
  pub row-size : length row ≡ 65
  pub kept : (w : ℕ) → get_or row w 0 ≡ word_from A s (64 * w)

-- the tile of word w of row r: one word wide and 66 rows high, 65 tiles side by side
unfoldable pub tile_of : ℕ → ℕ → ℕ
tile_of r w = r / 66 * 65 + w

-- no cell of word w of row r is active
abbrev pub Quiet : Sheet → ℕ → ℕ → Type 0
Quiet A r w = (j : ℕ) → j < 64 → active A r (64 * w + j) ≡ false

-- word w of row r is noted in the marks: no mark is lost, and where the word's tile has none, its cells are quiet
pub record Noted (A : Sheet) (r w : ℕ) (before after : List ℕ) : Type 0 where
  pub same_size : length after ≡ length before
  pub none-lost : (t : ℕ) → get_or after t 0 ≡ 0 → get_or before t 0 ≡ 0
  pub noted : get_or after (tile_of r w) 0 ≡ 0 → Quiet A r w

-- 4,096 marks: where a tile has the mark 0, its cells in the first rows are quiet
pub record Marked (A : Sheet) (rows : ℕ) (marks : List ℕ) : Type 0 where
  pub marks-size : length marks ≡ 4096
  pub marked : (r w : ℕ) → r < rows → w < 65 → get_or marks (tile_of r w) 0 ≡ 0 → Quiet A r w

-- Two rows of words as a sheet of two rows, and a sweep over cells: what a step does at each cell in turn. Assumes nothing.
use Rattle.std.specs.Prelude.{Bool, false, List, ℕ, zero, suc, ◌+◌, ◌*◌, ◌/◌, ◌%◌, get_or}
use Rattle.scope.specs.Terrain.{Sheet}
use Rattle.words.specs.Bits.{bit_at}

-- sample x of a row of words, sixty-four a word
unfoldable pub sample_in : List ℕ → ℕ → Bool
sample_in row x = bit_at (get_or row (x / 64) 0) (x % 64)

-- the row above the cells and the row below them, with one column outside
unfoldable pub between : List ℕ → List ℕ → Sheet
between upper lower zero r = false
between upper lower (suc x) zero = sample_in upper x
between upper lower (suc x) (suc r) = sample_in lower x

-- n cells from cell c on
unfoldable pub swept : {X : Type 0} → (X → ℕ → X) → X → ℕ → ℕ → X
swept step from c zero = from
swept step from c (suc n) = step (swept step from c n) (c + n)

-- the cells of all words that a row of dx + 1 cells has
unfoldable pub row_cells : ℕ → ℕ
row_cells dx = 64 * (dx / 64 + 1)

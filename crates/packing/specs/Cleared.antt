-- A work table after its needed words are zeroed: the contracts that leave a table zeroed cite this. Assumes nothing.
use Rattle.std.specs.Prelude.{ℕ, min, List, ◌++◌, length, replicate, drop}

-- the first words are 0, as many as asked or all where there are fewer, and the rest are as they were
unfoldable pub cleared : List ℕ → ℕ → List ℕ
cleared table words = replicate (min words (length table)) 0 ++ drop words table

-- The strokes of the case table as the code has them, by their two sides. Assumes nothing.
use Rattle.std.specs.Prelude.{ℕ, get_or}
use Rattle.scope.specs.declared.Side.TheVariants.{Left}
use Rattle.scope.specs.Cells.{◌⟶◌, drawn}
use Rattle.scope.specs.Cells as cells
use Rattle.cells.specs.declared.Stroke.{Stroke}

abbrev pub sides_of : cells.Stroke → Stroke
sides_of (s ⟶ e) = record { from = s; to = e }

-- stroke k of a cell, and where the cell draws no stroke k, the stroke from Left to Left, which no cell draws
unfoldable pub stroke_at : ℕ → ℕ → cells.Stroke
stroke_at number k = get_or (drawn number) k (Left ⟶ Left)

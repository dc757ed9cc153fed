-- The counts of a scan: those that one cell leaves, those after any number of cells, and those of the whole grid. Assumes nothing.
use Rattle.std.specs.Prelude.{◌≡◌, ℕ, ◌+◌, max, length}
use Rattle.scope.specs.Terrain.{Sheet}
use Rattle.scope.specs.Cells.{drawn, opened, closed}
use Rattle.scope.specs.Drawing.{segments_after, open_after, higher, up_to, segment_count, peak}
use Rattle.scan.specs.declared.Counts.{Counts}

-- what a cell of this number makes of the counts before it
pub record Drawn (before : Counts) (number : ℕ) (after : Counts) : Type 0 where
  pub more-segments : after.segments ≡ before.segments + length (drawn number)
  pub fewer-or-more : after.open_lines + closed number ≡ before.open_lines + opened number
  pub highest : after.peak ≡ max before.peak after.open_lines

-- after c cells of row r: the segments so far, the open lines, and the largest number of open lines so far
unfoldable pub counts_after : Sheet → ℕ → ℕ → ℕ → Counts
counts_after A dx r c = record {
  segments = length (segments_after A dx r c);
  open_lines = length (open_after A dx r c);
  peak = up_to (higher A dx) 0 dx r c;
}

-- of a grid of dx columns and dy rows: S, no open line, and H
unfoldable pub scanned : Sheet → ℕ → ℕ → Counts
scanned A dx dy = record { segments = segment_count A dx dy; open_lines = 0; peak = peak A dx dy }

-- The lowest refusal that applies to a build, alone, in the order of document 01's numbers. Assumes nothing.
use Rattle.std.specs.Prelude.{cond, ℕ, ltb, Result, Ok, Err}
use Rattle.error.specs.declared.Refusal.{Refusal}
use Rattle.error.specs.declared.Refusal.TheVariants.{OpenShort, LinksShort, PointsShort, DirectoryShort}
use Rattle.scope.specs.Terrain.{Sheet}
use Rattle.scope.specs.Drawing.{segment_count, ring_count, peak}
use Rattle.scope.specs.Room.{open_words, link_words, point_words, directory_words}
use Rattle.grid.specs.Grid.{grid_fit}

pub data Verdict : Type 0 where
  refused : Refusal → Verdict
  passes : Verdict

-- numbers 1 and 2, and where the grid fits what comes after them
unfoldable pub after_grid : Result (Unit {0}) Refusal → Verdict → Verdict
after_grid (Err why) later = refused why
after_grid (Ok _) later = later

-- numbers 1, 2, 5 and 6: the grid, and the lengths of the two work tables
unfoldable pub work_verdict : Sheet → ℕ → ℕ → ℕ → ℕ → ℕ → Verdict
work_verdict A count dx dy lines links =
    after_grid (grid_fit count dx dy)
    (cond (ltb lines (open_words dx (peak A dx dy))) (refused OpenShort)
    (cond (ltb links (link_words (segment_count A dx dy))) (refused LinksShort) passes))

-- numbers 7 and 8: the lengths of the two output tables, for S segments and R rings
unfoldable pub room_verdict : ℕ → ℕ → ℕ → ℕ → Verdict
room_verdict s r points directory =
    cond (ltb points (point_words s r)) (refused PointsShort) (cond (ltb directory (directory_words r)) (refused DirectoryShort) passes)

unfoldable pub output_verdict : Sheet → ℕ → ℕ → ℕ → ℕ → Verdict
output_verdict A dx dy points directory = room_verdict (segment_count A dx dy) (ring_count A dx dy) points directory

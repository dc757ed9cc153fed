-- A contour's answer and tables at exit: those of contour_rings, with the classes and owners in the directory. Assumes nothing.
use Rattle.std.specs.Prelude.{◌≡◌, List, ℕ, Float, Result}
use Rattle.scope.specs.declared.Level.{Level}
use Rattle.scope.specs.Drawing.{segment_count, rings_of, peak}
use Rattle.scope.specs.Room.{open_words, link_words}
use Rattle.scope.specs.Tables.{packed_points, contour_records}
use Rattle.isoringbuilder.specs.Answers.{work_after, output_after, built, above, on_entry, on_outputs}
use Rattle.error.specs.declared.Refusal.{Refusal}

-- what contours answers and leaves, on every input
pub record ContoursBuilt (values : List Float) (level : Level) (dx dy : ℕ) (lines links points directory : List ℕ) (answer : Result ℕ Refusal) (lines' links' points' directory' : List ℕ) : Type 0 where
  pub answers : answer ≡ built (on_entry values level dx dy lines links) (on_outputs values level dx dy points directory) (above values level dx dy) dx dy
  pub lines_are : lines' ≡ work_after (on_entry values level dx dy lines links) (open_words dx (peak (above values level dx dy) dx dy)) lines
  pub links-are : links' ≡ work_after (on_entry values level dx dy lines links) (link_words (segment_count (above values level dx dy) dx dy)) links
  pub points-are : points' ≡ output_after (on_entry values level dx dy lines links) (on_outputs values level dx dy points directory) (packed_points (rings_of (above values level dx dy) dx dy)) points
  pub directory-is : directory' ≡ output_after (on_entry values level dx dy lines links) (on_outputs values level dx dy points directory) (contour_records (rings_of (above values level dx dy) dx dy)) directory

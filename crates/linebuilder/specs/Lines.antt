-- The answer and the tables at exit of a build of lines: those of contour_rings, with the vertices smoothed and placed in the points. Assumes nothing.
use Rattle.std.specs.Prelude.{◌≡◌, Bool, List, ℕ, Float, pos, length, Result}
use Rattle.std.proofs.lemmas.List.Edits.{sets}
use Rattle.scope.specs.declared.Level.{Level}
use Rattle.scope.specs.Drawing.{segment_count, rings_of, peak}
use Rattle.scope.specs.Room.{open_words, link_words}
use Rattle.scope.specs.Smoothing.{Placing}
use Rattle.scope.specs.Tables.{line_points, bare_records}
use Rattle.machine.specs.Walk.{walk_words, walk_measured}
use Rattle.plotting.specs.Plot.{vertex_at}
use Rattle.isoringbuilder.specs.Verdict.{room_verdict}
use Rattle.isoringbuilder.specs.Answers.{work_after, output_after, built, above, on_entry, on_outputs}
use Rattle.isoringbuilder.specs.Pass.{pass_table, packed}
use Rattle.isoringbuilder.specs.declared.Drawing.{Drawing}
use Rattle.error.specs.declared.Refusal.{Refusal}

-- what plotting a drawing answers and leaves, over the links
pub record Plotted (drawing : Drawing) (values : List Float) (threshold : Float) (dx dy : ℕ) (smooth : Bool) (q : Placing) (links : List ℕ) (points : List Float) (directory : List ℕ) (answer : Result ℕ Refusal) (points' : List Float) (directory' : List ℕ) : Type 0 where
  pub answers : answer ≡ packed (room_verdict drawing.segments drawing.rings (length points) (length directory)) drawing.rings
  pub points-are : points' ≡ pass_table (room_verdict drawing.segments drawing.rings (length points) (length directory)) points
      (sets points 0 (walk_words (vertex_at smooth values threshold dx dy q links) links drawing.head drawing.head drawing.segments))
  pub directory-is : directory' ≡ pass_table (room_verdict drawing.segments drawing.rings (length points) (length directory)) directory (sets directory 0 (walk_measured dx links drawing.head 0 0 (pos 0) drawing.head drawing.segments))

-- what contour_lines answers and leaves, on every input
pub record LinesBuilt (values : List Float) (level : Level) (dx dy : ℕ) (smooth : Bool) (q : Placing) (lines links : List ℕ) (points : List Float) (directory : List ℕ) (answer : Result ℕ Refusal) (lines' links' : List ℕ) (points' : List Float) (directory' : List ℕ) : Type 0 where
  pub answers : answer ≡ built (on_entry values level dx dy lines links) (on_outputs values level dx dy points directory) (above values level dx dy) dx dy
  pub lines_are : lines' ≡ work_after (on_entry values level dx dy lines links) (open_words dx (peak (above values level dx dy) dx dy)) lines
  pub links-are : links' ≡ work_after (on_entry values level dx dy lines links) (link_words (segment_count (above values level dx dy) dx dy)) links
  pub points-are : points' ≡ output_after (on_entry values level dx dy lines links) (on_outputs values level dx dy points directory) (line_points smooth values level.threshold dx dy q (rings_of (above values level dx dy) dx dy)) points
  pub directory-is : directory' ≡ output_after (on_entry values level dx dy lines links) (on_outputs values level dx dy points directory) (bare_records 0 0 (rings_of (above values level dx dy) dx dy)) directory

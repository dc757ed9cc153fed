-- The answers and the tables at exit. Refusals 1, 2, 5 and 6 change nothing; 7 and 8 spare the outputs and, like success, zero the needed words of both
-- work tables. Assumes nothing.
use Rattle.std.specs.Prelude.{◌≡◌, List, ℕ, Float, length, Result, Ok, Err}
use Rattle.scope.specs.declared.Level.{Level}
use Rattle.scope.specs.Terrain.{Sheet, above_at, terrain}
use Rattle.scope.specs.Drawing.{segment_count, ring_count, rings_of, peak}
use Rattle.scope.specs.Room.{open_words, link_words, point_count}
use Rattle.scope.specs.Tables.{zeroed, written, packed_points, bare_records}
use Rattle.isoringbuilder.specs.Verdict.{Verdict, refused, passes, work_verdict, output_verdict}
use Rattle.isoringbuilder.specs.declared.SecondReport.{SecondReport}
use Rattle.error.specs.declared.Refusal.{Refusal}

-- a work table at exit
unfoldable pub work_after : Verdict → ℕ → List ℕ → List ℕ
work_after (refused why) need table = table
work_after passes need table = zeroed need table

-- an output table at exit, by the verdict on the work tables and the one on the outputs
unfoldable pub output_after : {Word : Type 0} → Verdict → Verdict → List Word → List Word → List Word
output_after (refused why) verdict words table = table
output_after passes (refused why) words table = table
output_after passes passes words table = written words table

-- S, R, H and the points S + R
unfoldable pub reported : Verdict → Sheet → ℕ → ℕ → Result SecondReport Refusal
reported (refused why) A dx dy = Err why
reported passes A dx dy = Ok (record { segments = segment_count A dx dy; rings = ring_count A dx dy; peak = peak A dx dy; points = point_count (segment_count A dx dy) (ring_count A dx dy) })

-- the number of rings
unfoldable pub built : Verdict → Verdict → Sheet → ℕ → ℕ → Result ℕ Refusal
built (refused why) verdict A dx dy = Err why
built passes (refused why) A dx dy = Err why
built passes passes A dx dy = Ok (ring_count A dx dy)

-- the sheet of a grid at a level, and the two verdicts on what is lent
abbrev pub above : List Float → Level → ℕ → ℕ → Sheet
above values level dx dy = terrain (above_at level) values dx dy

abbrev pub on_entry : List Float → Level → ℕ → ℕ → List ℕ → List ℕ → Verdict
on_entry values level dx dy lines links = work_verdict (terrain (above_at level) values dx dy) (length values) dx dy (length lines) (length links)

abbrev pub on_outputs : {Word : Type 0} → List Float → Level → ℕ → ℕ → List Word → List ℕ → Verdict
on_outputs values level dx dy points directory = output_verdict (terrain (above_at level) values dx dy) dx dy (length points) (length directory)

-- what the second report answers and leaves, on every input
pub record SecondReported (values : List Float) (level : Level) (dx dy : ℕ) (lines links : List ℕ) (answer : Result SecondReport Refusal) (lines' links' : List ℕ) : Type 0 where
  pub answers : answer ≡ reported (on_entry values level dx dy lines links) (above values level dx dy) dx dy
  pub lines_are : lines' ≡ work_after (on_entry values level dx dy lines links) (open_words dx (peak (above values level dx dy) dx dy)) lines
  pub links-are : links' ≡ work_after (on_entry values level dx dy lines links) (link_words (segment_count (above values level dx dy) dx dy)) links

-- what contour_rings answers and leaves, on every input
pub record RingsBuilt (values : List Float) (level : Level) (dx dy : ℕ) (lines links points directory : List ℕ) (answer : Result ℕ Refusal) (lines' links' points' directory' : List ℕ) : Type 0 where
  pub answers : answer ≡ built (on_entry values level dx dy lines links) (on_outputs values level dx dy points directory) (above values level dx dy) dx dy
  pub lines_are : lines' ≡ work_after (on_entry values level dx dy lines links) (open_words dx (peak (above values level dx dy) dx dy)) lines
  pub links-are : links' ≡ work_after (on_entry values level dx dy lines links) (link_words (segment_count (above values level dx dy) dx dy)) links
  pub points-are : points' ≡ output_after (on_entry values level dx dy lines links) (on_outputs values level dx dy points directory) (packed_points (rings_of (above values level dx dy) dx dy)) points
  pub directory-is : directory' ≡ output_after (on_entry values level dx dy lines links) (on_outputs values level dx dy points directory) (bare_records 0 0 (rings_of (above values level dx dy) dx dy)) directory

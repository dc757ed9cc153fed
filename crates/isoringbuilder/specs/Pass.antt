-- The stitching pass with its refusals, and the packing behind it, over the table machine: what each answers and leaves. Assumes nothing.
use Rattle.std.specs.Prelude.{◌≡◌, List, ℕ, suc, Float, length, Result, Ok, Err}
use Rattle.std.proofs.lemmas.List.Edits.{sets}
use Rattle.scope.specs.declared.Level.{Level}
use Rattle.scope.specs.Terrain.{Sheet}
use Rattle.scope.specs.Drawing.{segment_count, ring_count, peak}
use Rattle.scope.specs.Tables.{written}
use Rattle.machine.specs.Machine.{Tables, run_after, run_over}
use Rattle.machine.specs.Walk.{walk_points, walk_records}
use Rattle.spreading.specs.Spread.{spread_from}
use Rattle.isoringbuilder.specs.Verdict.{Verdict, refused, passes, room_verdict}
use Rattle.isoringbuilder.specs.Answers.{above, on_entry}
use Rattle.isoringbuilder.specs.declared.Drawing.{Drawing}
use Rattle.error.specs.declared.Refusal.{Refusal}

-- the tables after all cells
unfoldable pub stitched_tables : Sheet → ℕ → ℕ → List ℕ → List ℕ → Tables
stitched_tables A dx dy lines links = (run_after A dx (run_over lines links) dy (suc dx)).tables

-- S, H, R and the first ring's first link
unfoldable pub passed : Verdict → Sheet → ℕ → ℕ → Tables → Result Drawing Refusal
passed (refused why) A dx dy t = Err why
passed passes A dx dy t = Ok (record { segments = segment_count A dx dy; peak = peak A dx dy; rings = ring_count A dx dy; head = t.progress.head })

-- a table as it was, or as the pass left it
unfoldable pub pass_table : {Word : Type 0} → Verdict → List Word → List Word → List Word
pass_table (refused why) old new = old
pass_table passes old new = new

-- what packing answers, and an output table as it was or as packing stores to it
unfoldable pub packed : Verdict → ℕ → Result ℕ Refusal
packed (refused why) rings = Err why
packed passes rings = Ok rings

pub record Packed (drawing : Drawing) (dx : ℕ) (links points directory : List ℕ) (answer : Result ℕ Refusal) (points' directory' : List ℕ) : Type 0 where
  pub answers : answer ≡ packed (room_verdict drawing.segments drawing.rings (length points) (length directory)) drawing.rings
  pub points-are : points' ≡ pass_table (room_verdict drawing.segments drawing.rings (length points) (length directory)) points (sets points 0 (walk_points dx links drawing.head drawing.head drawing.segments))
  pub directory-is : directory' ≡ pass_table (room_verdict drawing.segments drawing.rings (length points) (length directory)) directory (sets directory 0 (walk_records links 0 0 drawing.head drawing.segments))

-- the directory once the records of rings that were written are spread out
unfoldable pub spread_out : Result ℕ Refusal → List ℕ → List ℕ → List ℕ
spread_out (Err why) points directory = directory
spread_out (Ok rings) points directory = written (spread_from points directory 0 rings) directory

-- what packing leaves, spread out
pub record PackedWhole (drawing : Drawing) (dx : ℕ) (links points directory : List ℕ) (answer : Result ℕ Refusal) (points' directory' : List ℕ) : Type 0 where
  pub short : List ℕ
  pub packed : Packed drawing dx links points directory answer points' short
  pub spread : directory' ≡ spread_out answer points' short

pub record Passed (values : List Float) (level : Level) (dx dy : ℕ) (lines links : List ℕ) (answer : Result Drawing Refusal) (lines' links' : List ℕ) : Type 0 where
  pub answers : answer ≡ passed (on_entry values level dx dy lines links) (above values level dx dy) dx dy (stitched_tables (above values level dx dy) dx dy lines links)
  pub lines_are : lines' ≡ pass_table (on_entry values level dx dy lines links) lines (stitched_tables (above values level dx dy) dx dy lines links).lines
  pub links-are : links' ≡ pass_table (on_entry values level dx dy lines links) links (stitched_tables (above values level dx dy) dx dy lines links).links

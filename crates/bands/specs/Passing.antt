-- A band's stitching passes with their refusals, and the packing behind them, over the table machine: what each answers and leaves. The lower set is stitched
-- first, for its rings' number; then the upper, whose points are packed behind those of the lower; then the lower again, to be packed. Assumes nothing.
use Rattle.std.specs.Prelude.{◌≡◌, List, ◌++◌, ℕ, suc, ◌+◌, ◌*◌, max, Float, length, take, drop, Result, Ok, Err}
use Rattle.std.proofs.lemmas.List.Edits.{sets}
use Rattle.scope.specs.declared.Level.{Level}
use Rattle.scope.specs.Terrain.{Sheet, above_at, terrain}
use Rattle.scope.specs.Drawing.{segment_count, ring_count, peak}
use Rattle.scope.specs.Room.{point_words}
use Rattle.machine.specs.Machine.{Tables}
use Rattle.machine.specs.Walk.{walk_points, walk_records}
use Rattle.scan.specs.Rows.{Marked}
use Rattle.isoringbuilder.specs.Verdict.{Verdict, refused, passes}
use Rattle.isoringbuilder.specs.Pass.{stitched_tables, pass_table, packed}
use Rattle.bands.specs.Bands.{band_verdict, band_room}
use Rattle.bands.specs.declared.BandDrawing.{BandDrawing}
use Rattle.error.specs.declared.Refusal.{Refusal}

-- the tables after the lower set, and after the upper set behind it
abbrev pub after_lower : Sheet → ℕ → ℕ → List ℕ → List ℕ → Tables
after_lower L dx dy lines links = stitched_tables L dx dy lines links

unfoldable pub after_upper : Sheet → Sheet → ℕ → ℕ → List ℕ → List ℕ → Tables
after_upper L U dx dy lines links = stitched_tables U dx dy (stitched_tables L dx dy lines links).lines (stitched_tables L dx dy lines links).links

-- S and R of both sets, the larger H, and the first link of the upper set's first ring
unfoldable pub band_drawing : Sheet → Sheet → ℕ → ℕ → Tables → BandDrawing
band_drawing L U dx dy t = record {
  lower_segments = segment_count L dx dy;
  lower_rings = ring_count L dx dy;
  upper_segments = segment_count U dx dy;
  upper_rings = ring_count U dx dy;
  peak = max (peak L dx dy) (peak U dx dy);
  head = t.progress.head;
}

unfoldable pub band_passed : Verdict → Sheet → Sheet → ℕ → ℕ → Tables → Result BandDrawing Refusal
band_passed (refused why) L U dx dy t = Err why
band_passed passes L U dx dy t = Ok (band_drawing L U dx dy t)

pub record BandPassed (values : List Float) (lower upper : Level) (dx dy : ℕ) (lines links : List ℕ) (answer : Result BandDrawing Refusal) (lines' links' marks' : List ℕ) : Type 0 where
  pub answers : answer ≡ band_passed (band_verdict (Ok tt) (terrain (above_at lower) values dx dy) (terrain (above_at upper) values dx dy) dx dy (length lines) (length links))
      (terrain (above_at lower) values dx dy) (terrain (above_at upper) values dx dy) dx dy (after_upper (terrain (above_at lower) values dx dy) (terrain (above_at upper) values dx dy) dx dy lines links)
  pub lines_are : lines' ≡ pass_table (band_verdict (Ok tt) (terrain (above_at lower) values dx dy) (terrain (above_at upper) values dx dy) dx dy (length lines) (length links))
      lines (after_upper (terrain (above_at lower) values dx dy) (terrain (above_at upper) values dx dy) dx dy lines links).lines
  pub links-are : links' ≡ pass_table (band_verdict (Ok tt) (terrain (above_at lower) values dx dy) (terrain (above_at upper) values dx dy) dx dy (length lines) (length links))
      links (after_upper (terrain (above_at lower) values dx dy) (terrain (above_at upper) values dx dy) dx dy lines links).links
  pub lower-marked : Marked (terrain (above_at lower) values dx dy) (suc dy) marks'

-- words stored from a place on
unfoldable pub stored_from : ℕ → List ℕ → List ℕ → List ℕ
stored_from place words table = take place table ++ sets (drop place table) 0 words

-- what packing answers and leaves: the upper set's words behind those of the lower, then the lower set's in front
pub record BandPacked (L : Sheet) (dx dy : ℕ) (d : BandDrawing) (lines links points directory : List ℕ) (answer : Result ℕ Refusal) (lines' links' points' directory' : List ℕ) : Type 0 where
  pub answers : answer ≡ packed (band_room d.lower_segments d.lower_rings d.upper_segments d.upper_rings (length points) (length directory)) (d.lower_rings + d.upper_rings)
  pub lines_are : lines' ≡ pass_table (band_room d.lower_segments d.lower_rings d.upper_segments d.upper_rings (length points) (length directory)) lines (stitched_tables L dx dy lines links).lines
  pub links-are : links' ≡ pass_table (band_room d.lower_segments d.lower_rings d.upper_segments d.upper_rings (length points) (length directory)) links (stitched_tables L dx dy lines links).links
  pub points-are : points' ≡ pass_table (band_room d.lower_segments d.lower_rings d.upper_segments d.upper_rings (length points) (length directory)) points
      (sets (stored_from (point_words d.lower_segments d.lower_rings) (walk_points dx links d.head d.head d.upper_segments) points) 0
      (walk_points dx (stitched_tables L dx dy lines links).links (stitched_tables L dx dy lines links).progress.head (stitched_tables L dx dy lines links).progress.head d.lower_segments))
  pub directory-is : directory' ≡ pass_table (band_room d.lower_segments d.lower_rings d.upper_segments d.upper_rings (length points) (length directory)) directory
      (sets (stored_from (4 * d.lower_rings) (walk_records links 0 0 d.head d.upper_segments) directory) 0
      (walk_records (stitched_tables L dx dy lines links).links 0 0 (stitched_tables L dx dy lines links).progress.head d.lower_segments))

-- A band's verdicts, reports, and answer and tables at exit: the band of thresholds k and k + 1 of the list, under one rule. Refusals 1 to 6 change nothing; 7
-- and 8 spare the outputs and, like success, zero the needed words of both work tables. Assumes nothing.
use Rattle.std.specs.Prelude.{◌≡◌, cond, List, ℕ, suc, ◌+◌, max, ltb, Float, length, get_or, Result, Ok, Err}
use Rattle.std.specs.Float.{nan}
use Rattle.error.specs.declared.Refusal.TheVariants.{FewThresholds, NoPair, OpenShort, LinksShort, PointsShort, DirectoryShort}
use Rattle.scope.specs.declared.Rule.{Rule}
use Rattle.scope.specs.declared.Level.{Level}
use Rattle.scope.specs.Terrain.{Sheet, above_at, terrain}
use Rattle.scope.specs.Drawing.{segment_count, ring_count, rings_of, peak}
use Rattle.scope.specs.Room.{point_count, band_open_words, band_link_words, band_point_words, band_directory_words}
use Rattle.scope.specs.Tables.{band_points, band_records}
use Rattle.grid.specs.Grid.{grid_fit}
use Rattle.scan.specs.Report.{report_for}
use Rattle.scan.specs.declared.FirstReport.{FirstReport}
use Rattle.isoringbuilder.specs.Verdict.{Verdict, refused, passes, after_grid}
use Rattle.isoringbuilder.specs.Answers.{work_after, output_after}
use Rattle.isoringbuilder.specs.declared.SecondReport.{SecondReport}
use Rattle.error.specs.declared.Refusal.{Refusal}
use Rattle.bands.specs.declared.BandLevels.{BandLevels}

-- numbers 3 and 4, where the grid fits: a list of under two thresholds, and one in which k + 1 is no place
unfoldable pub list_fit : Result (Unit {0}) Refusal → ℕ → ℕ → Result (Unit {0}) Refusal
list_fit (Err why) count k = Err why
list_fit (Ok _) count k = cond (ltb count 2) (Err FewThresholds) (cond (ltb (suc k) count) (Ok tt) (Err NoPair))

-- numbers 1 to 4: the values' count, the sides, the thresholds' count and k
unfoldable pub band_fit : ℕ → ℕ → ℕ → ℕ → ℕ → Result (Unit {0}) Refusal
band_fit count dx dy thresholds k = list_fit (grid_fit count dx dy) thresholds k

-- the level of a threshold of the list, under the rule
abbrev pub level_at : List Float → Rule → ℕ → Level
level_at thresholds rule k = record { threshold = get_or thresholds k nan; rule = rule }

-- the levels of the lower threshold, k, and the upper, k + 1
unfoldable pub fit_pair : Result (Unit {0}) Refusal → List Float → Rule → ℕ → Result BandLevels Refusal
fit_pair (Err why) thresholds rule k = Err why
fit_pair (Ok _) thresholds rule k = Ok (record { lower = level_at thresholds rule k; upper = level_at thresholds rule (suc k) })

-- and their sheets
abbrev pub lower_sheet : List Float → List Float → Rule → ℕ → ℕ → ℕ → Sheet
lower_sheet values thresholds rule k dx dy = terrain (above_at (level_at thresholds rule k)) values dx dy

abbrev pub upper_sheet : List Float → List Float → Rule → ℕ → ℕ → ℕ → Sheet
upper_sheet values thresholds rule k dx dy = terrain (above_at (level_at thresholds rule (suc k))) values dx dy

-- numbers 5 and 6 too, of a band between two sheets
unfoldable pub band_verdict : Result (Unit {0}) Refusal → Sheet → Sheet → ℕ → ℕ → ℕ → ℕ → Verdict
band_verdict fit L U dx dy lines links =
    after_grid fit
    (cond (ltb lines (band_open_words dx (peak L dx dy) (peak U dx dy))) (refused OpenShort)
    (cond (ltb links (band_link_words (segment_count L dx dy) (segment_count U dx dy))) (refused LinksShort) passes))

-- numbers 7 and 8, for the two sets' S and R
unfoldable pub band_room : ℕ → ℕ → ℕ → ℕ → ℕ → ℕ → Verdict
band_room lower_s lower_r upper_s upper_r points directory =
    cond (ltb points (band_point_words lower_s lower_r upper_s upper_r)) (refused PointsShort)
    (cond (ltb directory (band_directory_words lower_r upper_r)) (refused DirectoryShort) passes)

unfoldable pub band_outputs : Sheet → Sheet → ℕ → ℕ → ℕ → ℕ → Verdict
band_outputs L U dx dy points directory = band_room (segment_count L dx dy) (ring_count L dx dy) (segment_count U dx dy) (ring_count U dx dy) points directory

-- the first report: the larger S and the larger H
unfoldable pub band_room_of : Sheet → Sheet → ℕ → ℕ → FirstReport
band_room_of L U dx dy = record { segments = max (segment_count L dx dy) (segment_count U dx dy); peak = max (peak L dx dy) (peak U dx dy) }

unfoldable pub band_first_report : List Float → List Float → Rule → ℕ → ℕ → ℕ → Result FirstReport Refusal
band_first_report values thresholds rule k dx dy =
    report_for (band_fit (length values) dx dy (length thresholds) k) (band_room_of (lower_sheet values thresholds rule k dx dy) (upper_sheet values thresholds rule k dx dy) dx dy)

-- the second report: the larger S, the sum of R, the larger H, and the sum of the points
unfoldable pub band_reported : Verdict → Sheet → Sheet → ℕ → ℕ → Result SecondReport Refusal
band_reported (refused why) L U dx dy = Err why
band_reported passes L U dx dy =
    Ok (record {
      segments = max (segment_count L dx dy) (segment_count U dx dy);
      rings = ring_count L dx dy + ring_count U dx dy;
      peak = max (peak L dx dy) (peak U dx dy);
      points = point_count (segment_count L dx dy) (ring_count L dx dy) + point_count (segment_count U dx dy) (ring_count U dx dy);
    })

-- the number of rings
unfoldable pub band_built : Verdict → Verdict → Sheet → Sheet → ℕ → ℕ → Result ℕ Refusal
band_built (refused why) verdict L U dx dy = Err why
band_built passes (refused why) L U dx dy = Err why
band_built passes passes L U dx dy = Ok (ring_count L dx dy + ring_count U dx dy)

-- what a band's second report answers and leaves, by the first four tests and the two sheets
pub record ReportedOver (fit : Result (Unit {0}) Refusal) (L U : Sheet) (dx dy : ℕ) (lines links : List ℕ) (answer : Result SecondReport Refusal) (lines' links' : List ℕ) : Type 0 where
  pub answers : answer ≡ band_reported (band_verdict fit L U dx dy (length lines) (length links)) L U dx dy
  pub lines_are : lines' ≡ work_after (band_verdict fit L U dx dy (length lines) (length links)) (band_open_words dx (peak L dx dy) (peak U dx dy)) lines
  pub links-are : links' ≡ work_after (band_verdict fit L U dx dy (length lines) (length links)) (band_link_words (segment_count L dx dy) (segment_count U dx dy)) links

-- what isobands answers and leaves, by the first four tests and the two sheets
pub record BuiltOver (fit : Result (Unit {0}) Refusal) (L U : Sheet) (dx dy : ℕ) (lines links points directory : List ℕ) (answer : Result ℕ Refusal) (lines' links' points' directory' : List ℕ) : Type 0 where
  pub answers : answer ≡ band_built (band_verdict fit L U dx dy (length lines) (length links)) (band_outputs L U dx dy (length points) (length directory)) L U dx dy
  pub lines_are : lines' ≡ work_after (band_verdict fit L U dx dy (length lines) (length links)) (band_open_words dx (peak L dx dy) (peak U dx dy)) lines
  pub links-are : links' ≡ work_after (band_verdict fit L U dx dy (length lines) (length links)) (band_link_words (segment_count L dx dy) (segment_count U dx dy)) links
  pub points-are : points' ≡ output_after (band_verdict fit L U dx dy (length lines) (length links)) (band_outputs L U dx dy (length points) (length directory))
      (band_points (rings_of L dx dy) (rings_of U dx dy)) points
  pub directory-is : directory' ≡ output_after (band_verdict fit L U dx dy (length lines) (length links)) (band_outputs L U dx dy (length points) (length directory))
      (band_records (rings_of L dx dy) (rings_of U dx dy)) directory

-- both on every input: a list of thresholds, the rule for all of them, and k
abbrev pub BandReported : List Float → List Float → Rule → ℕ → ℕ → ℕ → List ℕ → List ℕ → Result SecondReport Refusal → List ℕ → List ℕ → Type 0
BandReported values thresholds rule k dx dy =
    ReportedOver (band_fit (length values) dx dy (length thresholds) k) (lower_sheet values thresholds rule k dx dy) (upper_sheet values thresholds rule k dx dy) dx dy

abbrev pub BandBuilt : List Float → List Float → Rule → ℕ → ℕ → ℕ → List ℕ → List ℕ → List ℕ → List ℕ → Result ℕ Refusal → List ℕ → List ℕ → List ℕ → List ℕ → Type 0
BandBuilt values thresholds rule k dx dy =
    BuiltOver (band_fit (length values) dx dy (length thresholds) k) (lower_sheet values thresholds rule k dx dy) (upper_sheet values thresholds rule k dx dy) dx dy

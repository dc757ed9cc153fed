-- A band's reports by those of its two thresholds: the larger S and H, and the sums of rings and points; of two refusals that of the lower number. A band's table is
-- short where it is short for one of the two. By cases on the tests. Assumes nothing.
use mathlib.Core.Path.{◌≡◌, refl, sym, ◌∙◌, ap, ap₂}
use mathlib.Core.Bool.{Bool, true, false, cond, ◌||◌}
use mathlib.Core.List.{List}
use Prim.Native.Nat.{ℕ, suc, max, ◌+◌, ◌<◌}
use native.Mathlib.Omega.{arith}
use lib.Dec.{ltb, leb}
use lib.Ieee.{Float}
use lib.ListN.{length}
use borrow.Author.Tests.{lt-ltb, le-ltb, ltb-true, ltb-false}
use Rattle.error.specs.Number.{refusal_number}
use Rattle.error.specs.declared.Refusal.{Refusal}
use Rattle.error.specs.declared.Refusal.TheVariants.{OpenShort, LinksShort}
use Rattle.scope.specs.declared.Rule.{Rule}
use Rattle.scope.specs.Terrain.{Sheet}
use Rattle.scope.specs.Drawing.{segment_count, peak}
use Rattle.scope.specs.Room.{open_words, link_words, band_open_words, band_link_words}
use Rattle.grid.specs.Grid.{grid_fit}
use Rattle.scan.specs.Report.{room_of, report_for, first_report}
use Rattle.scan.specs.declared.FirstReport.{FirstReport}
use Rattle.isoringbuilder.specs.Verdict.{refused, passes, after_grid, work_verdict}
use Rattle.isoringbuilder.specs.Answers.{reported, on_entry}
use Rattle.isoringbuilder.specs.declared.SecondReport.{SecondReport}
use Rattle.bands.specs.Bands.{level_at, list_fit, band_fit, lower_sheet, upper_sheet, band_verdict, band_room_of, band_first_report, band_reported, BandReported}
use Rattle.contour.proofs.Lowest.{rooms}
use Rattle.std.specs.Prelude.{Result, Ok, Err}

-- of two refusals that of the lower number
unfoldable pub lower : Refusal → Refusal → Refusal
lower f g = cond (leb (refusal_number f) (refusal_number g)) f g

lower-same : (f : Refusal) → lower f f ≡ f
unfolding lower
lower-same f = by (leb (refusal_number f) (refusal_number f))
  where
    by : (b : Bool) → cond b f f ≡ f
    by true = refl
    by false = refl

-- two first reports: the larger S and the larger H
unfoldable pub joined_first : Result FirstReport Refusal → Result FirstReport Refusal → Result FirstReport Refusal
joined_first (Err f) (Err g) = Err (lower f g)
joined_first (Err f) (Ok b) = Err f
joined_first (Ok a) (Err g) = Err g
joined_first (Ok a) (Ok b) = Ok (record { segments = max a.segments b.segments; peak = max a.peak b.peak })

-- two second reports: the larger S, the sum of R, the larger H, and the sum of the points
unfoldable pub joined_second : Result SecondReport Refusal → Result SecondReport Refusal → Result SecondReport Refusal
joined_second (Err f) (Err g) = Err (lower f g)
joined_second (Err f) (Ok b) = Err f
joined_second (Ok a) (Err g) = Err g
joined_second (Ok a) (Ok b) = Ok (record { segments = max a.segments b.segments; rings = a.rings + b.rings; peak = max a.peak b.peak; points = a.points + b.points })

-- a table is short for the larger of two needs where it is short for one of them
either-short : (m n n' larger : ℕ) → larger ≡ max n n' → ltb m larger ≡ ltb m n || ltb m n'
either-short m n n' larger e = by (ltb m n) (ltb m n') refl refl
  where
    by : (a b : Bool) → ltb m n ≡ a → ltb m n' ≡ b → ltb m larger ≡ a || b
    by true b ea eb = lt-ltb m larger (omega (arith, e, ltb-true m n ea))
    by false true ea eb = lt-ltb m larger (omega (arith, e, ltb-true m n' eb))
    by false false ea eb = le-ltb m larger (omega (arith, e, ltb-false m n ea, ltb-false m n' eb))

-- of two sheets, over the same tables
module _ (L U : Sheet) (dx dy : ℕ) (lines links : ℕ) where
  by_tests : (a b c d : Bool) → band_reported (cond (a || b) (refused OpenShort) (cond (c || d) (refused LinksShort) passes)) L U dx dy
      ≡ joined_second (reported (cond a (refused OpenShort) (cond c (refused LinksShort) passes)) L dx dy) (reported (cond b (refused OpenShort) (cond d (refused LinksShort) passes)) U dx dy)
  unfolding band_reported reported joined_second lower
  by_tests true true c d = refl
  by_tests true false c true = refl
  by_tests true false c false = refl
  by_tests false true true d = refl
  by_tests false true false d = refl
  by_tests false false true true = refl
  by_tests false false true false = refl
  by_tests false false false true = refl
  by_tests false false false false = refl

  open-either : ltb lines (band_open_words dx (peak L dx dy) (peak U dx dy)) ≡ ltb lines (open_words dx (peak L dx dy)) || ltb lines (open_words dx (peak U dx dy))
  open-either = either-short lines (open_words dx (peak L dx dy)) (open_words dx (peak U dx dy)) (band_open_words dx (peak L dx dy) (peak U dx dy)) (unfold band_open_words open_words in omega arith)

  links-either : ltb links (band_link_words (segment_count L dx dy) (segment_count U dx dy)) ≡ ltb links (link_words (segment_count L dx dy)) || ltb links (link_words (segment_count U dx dy))
  links-either = either-short links (link_words (segment_count L dx dy)) (link_words (segment_count U dx dy)) (band_link_words (segment_count L dx dy) (segment_count U dx dy)) (unfold band_link_words link_words in omega arith)

  by-fit : (fit : Result (Unit {0}) Refusal) → band_reported (band_verdict fit L U dx dy lines links) L U dx dy
      ≡ joined_second (reported (after_grid fit (rooms OpenShort LinksShort lines (open_words dx (peak L dx dy)) links (link_words (segment_count L dx dy)))) L dx dy)
      (reported (after_grid fit (rooms OpenShort LinksShort lines (open_words dx (peak U dx dy)) links (link_words (segment_count U dx dy)))) U dx dy)
  unfolding band_verdict after_grid band_reported reported joined_second
  by-fit (Err f) = ap Err (sym (lower-same f))
  by-fit (Ok _) =
      ap₂ (λ (x y : Bool). band_reported (cond x (refused OpenShort) (cond y (refused LinksShort) passes)) L U dx dy) open-either links-either
      ∙ by_tests (ltb lines (open_words dx (peak L dx dy))) (ltb lines (open_words dx (peak U dx dy))) (ltb links (link_words (segment_count L dx dy))) (ltb links (link_words (segment_count U dx dy)))

  first-by-fit : (fit : Result (Unit {0}) Refusal) → report_for fit (band_room_of L U dx dy) ≡ joined_first (report_for fit (room_of L dx dy)) (report_for fit (room_of U dx dy))
  unfolding report_for band_room_of room_of joined_first
  first-by-fit (Ok _) = refl
  first-by-fit (Err f) = ap Err (sym (lower-same f))

-- where k + 1 is a place in the list
module _ (values thresholds : List Float) (rule : Rule) (k dx dy : ℕ) (place : suc k < length thresholds) where
  listed : band_fit (length values) dx dy (length thresholds) k ≡ grid_fit (length values) dx dy
  unfolding band_fit list_fit
  listed = by (grid_fit (length values) dx dy)
    where
      by : (fit : Result (Unit {0}) Refusal) → list_fit fit (length thresholds) k ≡ fit
      by (Ok _) = rw (le-ltb (length thresholds) 2 (omega arith), lt-ltb (suc k) (length thresholds) place)
      by (Err f) = refl

  -- a band's first report joins the first reports of its two thresholds
  pub band-first-report-joins : band_first_report values thresholds rule k dx dy ≡ joined_first (first_report values (level_at thresholds rule k) dx dy) (first_report values (level_at thresholds rule (suc k)) dx dy)
  unfolding band_first_report first_report
  band-first-report-joins = rw listed (first-by-fit (lower_sheet values thresholds rule k dx dy) (upper_sheet values thresholds rule k dx dy) dx dy 0 0 (grid_fit (length values) dx dy))

  -- its second report joins their second reports over the same tables
  pub band-second-report-joins : (lines links : List ℕ) {answer : Result SecondReport Refusal} {lines' links' : List ℕ} → BandReported values thresholds rule k dx dy lines links answer lines' links'
      → answer ≡ joined_second (reported (on_entry values (level_at thresholds rule k) dx dy lines links) (lower_sheet values thresholds rule k dx dy) dx dy) (reported (on_entry values (level_at thresholds rule (suc k)) dx dy lines links) (upper_sheet values thresholds rule k dx dy) dx dy)
  unfolding work_verdict
  band-second-report-joins lines links r =
      r.answers
      ∙ ap (λ (fit : Result (Unit {0}) Refusal). band_reported (band_verdict fit (lower_sheet values thresholds rule k dx dy) (upper_sheet values thresholds rule k dx dy) dx dy (length lines) (length links)) (lower_sheet values thresholds rule k dx dy) (upper_sheet values thresholds rule k dx dy) dx dy) listed
      ∙ by-fit (lower_sheet values thresholds rule k dx dy) (upper_sheet values thresholds rule k dx dy) dx dy (length lines) (length links) (grid_fit (length values) dx dy)

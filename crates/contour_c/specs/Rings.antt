-- What the reports and the builds return to C, and what they leave in their outputs, by what the library answers. Assumes nothing.
use Rattle.std.specs.Prelude.{◌≡◌, Bool, not, List, ℕ, eqb, Result, Ok, Err}
use Rattle.error.specs.Number.{refusal_number}
use Rattle.scan.specs.declared.FirstReport.{FirstReport}
use Rattle.isoringbuilder.specs.declared.SecondReport.{SecondReport}
use Rattle.contour_c.specs.Told.{told_status, told_output}
use Rattle.error.specs.declared.Refusal.{Refusal}

-- a first report: 0 or the refusal's number, and each output set or as it was
unfoldable pub first_status : Result FirstReport Refusal → ℕ
first_status (Ok report) = 0
first_status (Err why) = refusal_number why

unfoldable pub first_segments : ℕ → Result FirstReport Refusal → ℕ
first_segments old (Ok report) = report.segments
first_segments old (Err why) = old

unfoldable pub first_peak : ℕ → Result FirstReport Refusal → ℕ
first_peak old (Ok report) = report.peak
first_peak old (Err why) = old

-- a second report, likewise
unfoldable pub second_status : Result SecondReport Refusal → ℕ
second_status (Ok report) = 0
second_status (Err why) = refusal_number why

unfoldable pub second_segments : ℕ → Result SecondReport Refusal → ℕ
second_segments old (Ok report) = report.segments
second_segments old (Err why) = old

unfoldable pub second_rings : ℕ → Result SecondReport Refusal → ℕ
second_rings old (Ok report) = report.rings
second_rings old (Err why) = old

unfoldable pub second_peak : ℕ → Result SecondReport Refusal → ℕ
second_peak old (Ok report) = report.peak
second_peak old (Err why) = old

unfoldable pub second_points : ℕ → Result SecondReport Refusal → ℕ
second_points old (Ok report) = report.points
second_points old (Err why) = old

-- a build, likewise: its status and its number of rings
abbrev pub built_status : Result ℕ Refusal → ℕ
built_status answer = told_status answer

abbrev pub built_rings : ℕ → Result ℕ Refusal → ℕ
built_rings old answer = told_output old answer

-- whether smoothing is asked: 0 is no, and any other number yes
unfoldable pub asked : ℕ → Bool
asked smooth = not (eqb smooth 0)

-- a second report whose answer and tables are such as the library ensures: the status and the outputs are that answer's
pub record SecondEntry (Reported : Result SecondReport Refusal → List ℕ → List ℕ → Type 0) (segments rings peak points : ℕ) (status : ℕ) (lines' links' : List ℕ) (segments' rings' peak' points' : ℕ) : Type 0 where
  pub answer : Result SecondReport Refusal
  pub reported : Reported answer lines' links'
  pub status-is : status ≡ second_status answer
  pub segments-are : segments' ≡ second_segments segments answer
  pub rings-are : rings' ≡ second_rings rings answer
  pub peak-is : peak' ≡ second_peak peak answer
  pub points-are : points' ≡ second_points points answer

-- a build whose answer and tables are such as the library ensures, with points of any words: the status and the output are that answer's
pub record RingsEntry {Word : Type 0} (BuiltAs : Result ℕ Refusal → List ℕ → List ℕ → List Word → List ℕ → Type 0) (rings : ℕ) (status : ℕ) (lines' links' : List ℕ) (points' : List Word) (directory' : List ℕ) (rings' : ℕ) : Type 0 where
  pub answer : Result ℕ Refusal
  pub built : BuiltAs answer lines' links' points' directory'
  pub status-is : status ≡ built_status answer
  pub rings-are : rings' ≡ built_rings rings answer

-- Any two results of an entry for C coincide. Assumes nothing.
use mathlib.Core.Path.{◌≡◌, sym, ◌∙◌, ap}
use mathlib.Core.Bool.{Bool}
use mathlib.Core.List.{List}
use Prim.Native.Nat.{ℕ}
use lib.Ieee.{Float}
use Rattle.error.specs.Number.{refusal_number}
use Rattle.error.specs.declared.Refusal.{Refusal}
use Rattle.scope.specs.declared.Rule.{Rule}
use Rattle.scope.specs.declared.Level.{Level}
use Rattle.scope.specs.Smoothing.{Placing}
use Rattle.scan.specs.declared.FirstReport.{FirstReport}
use Rattle.isoringbuilder.specs.Answers.{SecondReported, RingsBuilt}
use Rattle.isoringbuilder.specs.declared.SecondReport.{SecondReport}
use Rattle.bands.specs.Bands.{BandReported, BandBuilt}
use Rattle.contourbuilder.specs.Contours.{ContoursBuilt}
use Rattle.linebuilder.specs.Lines.{LinesBuilt}
use Rattle.contour.proofs.Theorems.{one_answer, one-second-report, one-build, one-contours, one-lines}
use Rattle.contour.proofs.Bands.{one-band-report, one-isobands}
use Rattle.contour_c.specs.Rings.{first_status, first_segments, first_peak, second_status, second_segments, second_rings, second_peak, second_points, built_status, built_rings, SecondEntry, RingsEntry}
use Rattle.std.specs.Prelude.{Result, Ok, Err}

-- ---- one result

-- two results that meet the contract of contour_first_report, or that of contour_band_first_report, on the same entry are equal
pub one-first-entry : (answer : Result FirstReport Refusal) (s h : ℕ) {p q ps ph qs qh : ℕ} → (p ≡ first_status answer) × (ps ≡ first_segments s answer) × (ph ≡ first_peak h answer)
    → (q ≡ first_status answer) × (qs ≡ first_segments s answer) × (qh ≡ first_peak h answer) → (p ≡ q) × (ps ≡ qs) × (ph ≡ qh)
one-first-entry answer s h a b = (one_answer a.0 b.0, one_answer a.1 b.1, one_answer a.2 b.2)

-- where the library's answers and tables are equal, so is what the entry returns and leaves
module _ {Reported : Result SecondReport Refusal → List ℕ → List ℕ → Type 0} where
  one-report : {s r h n : ℕ} {p q : ℕ} {pl pk ql qk : List ℕ} {ps pr ph pn qs qr qh qn : ℕ} (a : SecondEntry Reported s r h n p pl pk ps pr ph pn) (b : SecondEntry Reported s r h n q ql qk qs qr qh qn)
      → (a.answer ≡ b.answer) × (pl ≡ ql) × (pk ≡ qk) → (p ≡ q) × (pl ≡ ql) × (pk ≡ qk) × (ps ≡ qs) × (pr ≡ qr) × (ph ≡ qh) × (pn ≡ qn)
  one-report {s} {r} {h} {n} a b same = (
    a.status-is ∙ ap second_status same.0 ∙ sym b.status-is,
    same.1,
    same.2,
    a.segments-are ∙ ap (second_segments s) same.0 ∙ sym b.segments-are,
    a.rings-are ∙ ap (second_rings r) same.0 ∙ sym b.rings-are,
    a.peak-is ∙ ap (second_peak h) same.0 ∙ sym b.peak-is,
    a.points-are ∙ ap (second_points n) same.0 ∙ sym b.points-are,
  )

module _ {Word : Type 0} {BuiltAs : Result ℕ Refusal → List ℕ → List ℕ → List Word → List ℕ → Type 0} where
  one-built : {r p q : ℕ} {pl pk ql qk : List ℕ} {pp qp : List Word} {pd qd : List ℕ} {pr qr : ℕ} (a : RingsEntry BuiltAs r p pl pk pp pd pr) (b : RingsEntry BuiltAs r q ql qk qp qd qr)
      → (a.answer ≡ b.answer) × (pl ≡ ql) × (pk ≡ qk) × (pp ≡ qp) × (pd ≡ qd) → (p ≡ q) × (pl ≡ ql) × (pk ≡ qk) × (pp ≡ qp) × (pd ≡ qd) × (pr ≡ qr)
  one-built {r} a b same =
      (a.status-is ∙ ap built_status same.0 ∙ sym b.status-is, same.1, same.2, same.3, same.4, a.rings-are ∙ ap (built_rings r) same.0 ∙ sym b.rings-are)

-- two results that meet the contract of contour_second_report, contour_rings, contour_contours or contour_lines on the same entry are equal
module _ (values : List Float) (level : Level) (dx dy : ℕ) (lines links : List ℕ) where
  pub one-second-entry : {s r h n : ℕ} {p q : ℕ} {pl pk ql qk : List ℕ} {ps pr ph pn qs qr qh qn : ℕ} → SecondEntry (SecondReported values level dx dy lines links) s r h n p pl pk ps pr ph pn
      → SecondEntry (SecondReported values level dx dy lines links) s r h n q ql qk qs qr qh qn → (p ≡ q) × (pl ≡ ql) × (pk ≡ qk) × (ps ≡ qs) × (pr ≡ qr) × (ph ≡ qh) × (pn ≡ qn)
  one-second-entry a b = one-report a b (one-second-report values level dx dy lines links a.reported b.reported)

  module _ (points directory : List ℕ) where
    pub one-rings-entry : {r p q : ℕ} {pl pk pp pd ql qk qp qd : List ℕ} {pr qr : ℕ} → RingsEntry (RingsBuilt values level dx dy lines links points directory) r p pl pk pp pd pr
        → RingsEntry (RingsBuilt values level dx dy lines links points directory) r q ql qk qp qd qr → (p ≡ q) × (pl ≡ ql) × (pk ≡ qk) × (pp ≡ qp) × (pd ≡ qd) × (pr ≡ qr)
    one-rings-entry a b = one-built a b (one-build values level dx dy lines links points directory a.built b.built)

    pub one-contours-entry : {r p q : ℕ} {pl pk pp pd ql qk qp qd : List ℕ} {pr qr : ℕ} → RingsEntry (ContoursBuilt values level dx dy lines links points directory) r p pl pk pp pd pr
        → RingsEntry (ContoursBuilt values level dx dy lines links points directory) r q ql qk qp qd qr → (p ≡ q) × (pl ≡ ql) × (pk ≡ qk) × (pp ≡ qp) × (pd ≡ qd) × (pr ≡ qr)
    one-contours-entry a b = one-built a b (one-contours values level dx dy lines links points directory a.built b.built)

  pub one-lines-entry : (smooth : Bool) (placing : Placing) (points : List Float) (directory : List ℕ) {r p q : ℕ} {pl pk ql qk : List ℕ} {pp qp : List Float} {pd qd : List ℕ} {pr qr : ℕ}
      → RingsEntry (LinesBuilt values level dx dy smooth placing lines links points directory) r p pl pk pp pd pr
      → RingsEntry (LinesBuilt values level dx dy smooth placing lines links points directory) r q ql qk qp qd qr → (p ≡ q) × (pl ≡ ql) × (pk ≡ qk) × (pp ≡ qp) × (pd ≡ qd) × (pr ≡ qr)
  one-lines-entry smooth placing points directory a b = one-built a b (one-lines values level dx dy smooth placing lines links points directory a.built b.built)

-- and contour_band_second_report or contour_isobands
module _ (values thresholds : List Float) (rule : Rule) (k dx dy : ℕ) (lines links : List ℕ) where
  pub one-band-second-entry : {s r h n : ℕ} {p q : ℕ} {pl pk ql qk : List ℕ} {ps pr ph pn qs qr qh qn : ℕ} → SecondEntry (BandReported values thresholds rule k dx dy lines links) s r h n p pl pk ps pr ph pn
      → SecondEntry (BandReported values thresholds rule k dx dy lines links) s r h n q ql qk qs qr qh qn → (p ≡ q) × (pl ≡ ql) × (pk ≡ qk) × (ps ≡ qs) × (pr ≡ qr) × (ph ≡ qh) × (pn ≡ qn)
  one-band-second-entry a b = one-report a b (one-band-report values thresholds rule k dx dy lines links a.reported b.reported)

  pub one-isobands-entry : (points directory : List ℕ) {r p q : ℕ} {pl pk pp pd ql qk qp qd : List ℕ} {pr qr : ℕ} → RingsEntry (BandBuilt values thresholds rule k dx dy lines links points directory) r p pl pk pp pd pr
      → RingsEntry (BandBuilt values thresholds rule k dx dy lines links points directory) r q ql qk qp qd qr → (p ≡ q) × (pl ≡ ql) × (pk ≡ qk) × (pp ≡ qp) × (pd ≡ qd) × (pr ≡ qr)
  one-isobands-entry points directory a b = one-built a b (one-isobands values thresholds rule k dx dy lines links points directory a.built b.built)

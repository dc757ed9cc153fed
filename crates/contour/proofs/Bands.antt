-- What the contracts of a band come to: one result on each entry, each refusal exactly where it is the lowest that applies, and exact room filled to the last word.
-- The laws are over the band's fit and its two sheets, as the contracts are. Assumes nothing.
use mathlib.Core.Path.{◌≡◌, refl, ◌∙◌, ap}
use mathlib.Core.Logic.{◌↔◌}
use mathlib.Core.List.{List}
use Prim.Native.Nat.{ℕ, suc, max, ◌+◌}
use native.Mathlib.Omega.{arith}
use lib.Ieee.{Float}
use lib.ListN.{length, length-append}
use Rattle.scope.specs.declared.Rule.{Rule}
use Rattle.scope.specs.Limits.{record_stride}
use Rattle.scope.specs.Terrain.{Sheet, above_at}
use Rattle.scope.specs.Drawing.{segment_count, ring_count, rings_of, peak}
use Rattle.scope.specs.Room.{point_count, directory_words, band_open_words, band_link_words, band_point_words, band_directory_words}
use Rattle.scope.specs.Tables.{packed_points, band_points, band_records}
use Rattle.laws.proofs.Edges.{Outside}
use Rattle.machine.proofs.Built.{packed-points-fill-their-room}
use Rattle.scan.proofs.Samples.{terrain-outside}
use Rattle.isoringbuilder.specs.Verdict.{passes}
use Rattle.isoringbuilder.specs.declared.SecondReport.{SecondReport}
use Rattle.bands.specs.Bands.{level_at, band_fit, lower_sheet, upper_sheet, band_verdict, band_room, band_outputs, band_room_of, band_first_report, band_reported, band_built, ReportedOver, BuiltOver, BandReported, BandBuilt}
use Rattle.contourbuilder.proofs.Lengths.{packed-both, band-length}
use Rattle.contour.proofs.Lowest.{by_one, by_two, ReportExact}
use Rattle.contour.proofs.Results.{Worked, Plan, Constructed, one-worked, one-construction, Exact, worked-exact, constructed-exact, JustRoom, Filled, fills}
use Rattle.contour.proofs.Theorems.{report-for-exactly, reports}
use Rattle.contour.proofs.Fits.{FitExact, band-early, fit-exact}
use Rattle.std.specs.Prelude.{Result, Ok, Err}
use Rattle.error.specs.declared.Refusal.{Refusal}

-- ---- 1. by a fit and two sheets

-- what a second report gives, and what isobands is to come to
abbrev pub room_over : Sheet → Sheet → ℕ → ℕ → Result SecondReport Refusal
room_over L U dx dy =
    Ok (record {
      segments = max (segment_count L dx dy) (segment_count U dx dy);
      rings = ring_count L dx dy + ring_count U dx dy;
      peak = max (peak L dx dy) (peak U dx dy);
      points = point_count (segment_count L dx dy) (ring_count L dx dy) + point_count (segment_count U dx dy) (ring_count U dx dy);
    })

abbrev pub plan_over : Result (Unit {0}) Refusal → Sheet → Sheet → ℕ → ℕ → Plan ℕ
plan_over fit L U dx dy = record {
  fit = fit;
  rings = ring_count L dx dy + ring_count U dx dy;
  open_need = band_open_words dx (peak L dx dy) (peak U dx dy);
  link_need = band_link_words (segment_count L dx dy) (segment_count U dx dy);
  point_need = band_point_words (segment_count L dx dy) (ring_count L dx dy) (segment_count U dx dy) (ring_count U dx dy);
  directory_need = band_directory_words (ring_count L dx dy) (ring_count U dx dy);
  packed = band_points (rings_of L dx dy) (rings_of U dx dy);
  records = band_records (rings_of L dx dy) (rings_of U dx dy);
}

module _ {fit : Result (Unit {0}) Refusal} {L U : Sheet} {dx dy : ℕ} {lines links : List ℕ} where
  pub report-worked : {answer : Result SecondReport Refusal} {lines' links' : List ℕ} → ReportedOver fit L U dx dy lines links answer lines' links'
      → Worked Err (room_over L U dx dy) fit (band_open_words dx (peak L dx dy) (peak U dx dy)) (band_link_words (segment_count L dx dy) (segment_count U dx dy)) passes lines links answer lines' links'
  unfolding band_verdict band_reported
  report-worked r = record {
    answers = r.answers ∙ by_one Err (room_over L U dx dy) (λ v. band_reported v L U dx dy) (λ why. refl) refl (band_verdict fit L U dx dy (length lines) (length links));
    lines_are = r.lines_are;
    links-are = r.links-are;
  }

  module _ {points directory : List ℕ} where
    pub isobands-constructed : {answer : Result ℕ Refusal} {lines' links' points' directory' : List ℕ} → BuiltOver fit L U dx dy lines links points directory answer lines' links' points' directory'
        → Constructed (plan_over fit L U dx dy) lines links points directory answer lines' links' points' directory'
    unfolding band_verdict band_outputs band_room band_built
    isobands-constructed b = record {
      worked = record {
        answers =
            b.answers
            ∙ by_two Err (Ok (ring_count L dx dy + ring_count U dx dy)) (λ v w. band_built v w L U dx dy)
            (λ why w. refl) (λ why. refl) refl (band_verdict fit L U dx dy (length lines) (length links)) (band_outputs L U dx dy (length points) (length directory));
        lines_are = b.lines_are;
        links-are = b.links-are;
      };
      points-are = b.points-are;
      directory-is = b.directory-is;
    }

points-fill : (L U : Sheet) {dx dy : ℕ} → Outside L dx dy → Outside U dx dy → length (band_points (rings_of L dx dy) (rings_of U dx dy)) ≡ band_point_words (segment_count L dx dy) (ring_count L dx dy) (segment_count U dx dy) (ring_count U dx dy)
unfolding band_points band_point_words
points-fill L U {dx} {dy} out-L out-U =
    omega (
      arith,
      ap length (packed-both (rings_of L dx dy) (rings_of U dx dy)),
      length-append (packed_points (rings_of L dx dy)) (packed_points (rings_of U dx dy)),
      packed-points-fill-their-room L out-L,
      packed-points-fill-their-room U out-U,
    )

records-fill : (L U : Sheet) (dx dy : ℕ) → length (band_records (rings_of L dx dy) (rings_of U dx dy)) ≡ band_directory_words (ring_count L dx dy) (ring_count U dx dy)
unfolding band_directory_words directory_words record_stride ring_count
records-fill L U dx dy = band-length (rings_of L dx dy) (rings_of U dx dy)

-- ---- 2. a list of thresholds, the rule, and k

abbrev pub band_plan : List Float → List Float → Rule → ℕ → ℕ → ℕ → Plan ℕ
band_plan values thresholds rule k dx dy = plan_over (band_fit (length values) dx dy (length thresholds) k) (lower_sheet values thresholds rule k dx dy) (upper_sheet values thresholds rule k dx dy) dx dy

abbrev pub band_room_at : List Float → List Float → Rule → ℕ → ℕ → ℕ → Result SecondReport Refusal
band_room_at values thresholds rule k dx dy = room_over (lower_sheet values thresholds rule k dx dy) (upper_sheet values thresholds rule k dx dy) dx dy

module _ (values thresholds : List Float) (rule : Rule) (k dx dy : ℕ) where
  -- numbers 1 to 4 in a band's first report, and its room exactly where the band fits
  pub band-first-report-exactly : FitExact Err (band_first_report values thresholds rule k dx dy) (length values) dx dy (length thresholds) k
      × ((band_fit (length values) dx dy (length thresholds) k ≡ Ok tt) ↔ (band_first_report values thresholds rule k dx dy ≡ Ok (band_room_of (lower_sheet values thresholds rule k dx dy) (upper_sheet values thresholds rule k dx dy) dx dy)))
  unfolding band_first_report band_room_of
  band-first-report-exactly =
      let exactly = report-for-exactly (band_fit (length values) dx dy (length thresholds) k) _ _ in
      (fit-exact (length values) dx dy (length thresholds) k (λ why low. exactly.0 why), exactly.1)

  module _ (lines links : List ℕ) where
    -- two results that meet the contract of a band's second report on the same entry are equal
    pub one-band-report : {p q : Result SecondReport Refusal} {pl pk ql qk : List ℕ} → BandReported values thresholds rule k dx dy lines links p pl pk → BandReported values thresholds rule k dx dy lines links q ql qk → (p ≡ q) × (pl ≡ ql) × (pk ≡ qk)
    one-band-report a b = one-worked (report-worked a) (report-worked b)

    -- numbers 1 to 6 in a band's second report, and its room exactly where the band fits and neither work table is short
    pub band-second-report-exactly : {answer : Result SecondReport Refusal} {lines' links' : List ℕ} → BandReported values thresholds rule k dx dy lines links answer lines' links'
        → FitExact Err answer (length values) dx dy (length thresholds) k
        × ReportExact Err (band_room_at values thresholds rule k dx dy) answer (band_plan values thresholds rule k dx dy).fit (length lines) (band_plan values thresholds rule k dx dy).open_need (length links) (band_plan values thresholds rule k dx dy).link_need
    band-second-report-exactly r =
        let exactly = worked-exact (reports _ _ _ _) (band-early (length values) dx dy (length thresholds) k) (report-worked r) in
        (fit-exact (length values) dx dy (length thresholds) k exactly.work-exact.fit-refused-exactly, exactly)

    module _ (points directory : List ℕ) where
      -- two results that meet the contract of isobands on the same entry are equal
      pub one-isobands : {p q : Result ℕ Refusal} {pl pk pp pd ql qk qp qd : List ℕ} → BandBuilt values thresholds rule k dx dy lines links points directory p pl pk pp pd → BandBuilt values thresholds rule k dx dy lines links points directory q ql qk qp qd
          → (p ≡ q) × (pl ≡ ql) × (pk ≡ qk) × (pp ≡ qp) × (pd ≡ qd)
      one-isobands a b = one-construction (isobands-constructed a) (isobands-constructed b)

      -- numbers 1 to 8 of isobands, and its rings exactly where the band fits and no table is short
      pub isobands-exactly : {answer : Result ℕ Refusal} {lines' links' points' directory' : List ℕ} → BandBuilt values thresholds rule k dx dy lines links points directory answer lines' links' points' directory'
          → FitExact Err answer (length values) dx dy (length thresholds) k × Exact (band_plan values thresholds rule k dx dy) lines links points directory answer
      isobands-exactly b =
          let exactly = constructed-exact (band-early (length values) dx dy (length thresholds) k) (isobands-constructed b) in
          (fit-exact (length values) dx dy (length thresholds) k exactly.work-exact.fit-refused-exactly, exactly)

      -- lent just the room, a band that fits gives the rings of both sets, its points and records are the whole outputs, and both work tables are all zero
      pub isobands-exact-room : band_fit (length values) dx dy (length thresholds) k ≡ Ok tt → JustRoom (band_plan values thresholds rule k dx dy) lines links points directory
          → {answer : Result ℕ Refusal} {lines' links' points' directory' : List ℕ} → BandBuilt values thresholds rule k dx dy lines links points directory answer lines' links' points' directory'
          → Filled (band_plan values thresholds rule k dx dy) answer lines' links' points' directory'
      isobands-exact-room fits just b =
          fills fits
          (points-fill (lower_sheet values thresholds rule k dx dy) (upper_sheet values thresholds rule k dx dy) (terrain-outside (above_at (level_at thresholds rule k)) values dx dy) (terrain-outside (above_at (level_at thresholds rule (suc k))) values dx dy))
          (records-fill (lower_sheet values thresholds rule k dx dy) (upper_sheet values thresholds rule k dx dy) dx dy) just (isobands-constructed b)

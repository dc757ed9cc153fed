-- Exact room over what was reported: a build that is lent just the words that a second report's answer comes to, 4H + dx + 2, 2S, 2·points and 4R, gives R rings,
-- and its outputs are document 01's to the last word. The report may have been lent other tables than the build. Assumes nothing.
use mathlib.Core.Path.{◌≡◌, refl, ◌∙◌, ap}
use mathlib.Core.Bool.{Bool}
use mathlib.Core.List.{List}
use Prim.Native.Nat.{ℕ, ◌+◌, ◌*◌}
use native.Mathlib.Omega.{arith}
use lib.Ieee.{Float}
use lib.ListN.{length}
use Rattle.scope.specs.declared.Rule.{Rule}
use Rattle.scope.specs.declared.Level.{Level}
use Rattle.scope.specs.Limits.{record_stride}
use Rattle.scope.specs.Room.{open_words, link_words, point_words, directory_words, band_open_words, band_link_words, band_point_words, band_directory_words}
use Rattle.scope.specs.Smoothing.{Placing}
use Rattle.isoringbuilder.specs.Verdict.{passes}
use Rattle.isoringbuilder.specs.Answers.{SecondReported, RingsBuilt}
use Rattle.bands.specs.Bands.{BandReported, BandBuilt}
use Rattle.contourbuilder.specs.Contours.{ContoursBuilt}
use Rattle.linebuilder.specs.Lines.{LinesBuilt}
use Rattle.contour.proofs.Results.{Worked, Plan, JustRoom, Filled, room-given}
use Rattle.contour.proofs.Theorems.{drawn_plan, rings_plan, contours_plan, lines_plan, second-worked, exact-room, contours-exact-room, lines-exact-room}
use Rattle.contour.proofs.Bands.{band_plan, report-worked, isobands-exact-room}
use Rattle.std.specs.Prelude.{Result, Ok, Err}
use Rattle.error.specs.declared.Refusal.{Refusal}
use Rattle.isoringbuilder.specs.declared.SecondReport.{SecondReport}

-- four tables of just the words that the reported numbers come to
pub record ReportedRoom {Word : Type 0} (dx s r h p : ℕ) (lines links : List ℕ) (points : List Word) (directory : List ℕ) : Type 0 where
  pub lines-just : length lines ≡ 4 * h + dx + 2
  pub links-just : length links ≡ 2 * s
  pub points-just : length points ≡ 2 * p
  pub directory-just : length directory ≡ 6 * r

-- the reported numbers are those of a build: it fits, and they come to its rings and its needs
record Told {Word : Type 0} (plan : Plan Word) (dx s r h p : ℕ) : Type 0 where
  fits : plan.fit ≡ Ok tt
  rings-are : plan.rings ≡ r
  open_is : plan.open_need ≡ 4 * h + dx + 2
  links-is : plan.link_need ≡ 2 * s
  points-is : plan.point_need ≡ 2 * p
  directory-is : plan.directory_need ≡ 6 * r

tells : {Word : Type 0} {plan : Plan Word} {dx s r h p S R H P : ℕ} {lines links lines' links' : List ℕ}
    → Worked {Made = Result SecondReport Refusal} Err (Ok (record { segments = S; rings = R; peak = H; points = P })) plan.fit plan.open_need plan.link_need passes lines links (Ok (record { segments = s; rings = r; peak = h; points = p })) lines' links'
    → plan.rings ≡ R → plan.open_need ≡ open_words dx H → plan.link_need ≡ link_words S → plan.point_need ≡ 2 * P → plan.directory_need ≡ directory_words R → Told plan dx s r h p
unfolding open_words link_words directory_words record_stride
tells k er eo el ep ed =
    let given = room-given k in
    record {
      fits = given.0;
      rings-are = er ∙ given.2;
      open_is = omega (arith, eo, given.3);
      links-is = omega (arith, el, given.1);
      points-is = omega (arith, ep, given.4);
      directory-is = omega (arith, ed, given.2);
    }

-- of any build: told so and lent that room, it gives the reported number of rings
module _ {Word : Type 0} {plan : Plan Word} {dx s r h p : ℕ} (told : Told plan dx s r h p) {lines links : List ℕ} {points : List Word} {directory : List ℕ}
    (room : ReportedRoom dx s r h p lines links points directory) {answer : Result ℕ Refusal} {lines' links' : List ℕ} {points' : List Word} {directory' : List ℕ} where
  suffices : (plan.fit ≡ Ok tt → JustRoom plan lines links points directory → Filled plan answer lines' links' points' directory')
      → (answer ≡ Ok r) × Filled plan answer lines' links' points' directory'
  suffices filled =
      let all = filled told.fits (record {
        lines-just = omega (arith, told.open_is, room.lines-just);
        links-just = omega (arith, told.links-is, room.links-just);
        points-just = omega (arith, told.points-is, room.points-just);
        directory-just = omega (arith, told.directory-is, room.directory-just);
      }) in
      (all.answer-is ∙ ap Ok told.rings-are, all)

-- ---- one level

module _ (values : List Float) (level : Level) (dx dy : ℕ) (s r h p : ℕ) {lines₀ links₀ lines₁ links₁ : List ℕ}
    (reported : SecondReported values level dx dy lines₀ links₀ (Ok (record { segments = s; rings = r; peak = h; points = p })) lines₁ links₁) where
  drawn-told : {Word : Type 0} (packed : List Word) (records : List ℕ) → Told (drawn_plan values level dx dy packed records) dx s r h p
  unfolding point_words
  drawn-told packed records = tells (second-worked values level dx dy lines₀ links₀ reported) refl refl refl refl refl

  module _ (lines links points directory : List ℕ) (room : ReportedRoom dx s r h p lines links points directory) {answer : Result ℕ Refusal} {lines' links' points' directory' : List ℕ} where
    pub reported-room-suffices : RingsBuilt values level dx dy lines links points directory answer lines' links' points' directory'
        → (answer ≡ Ok r) × Filled (rings_plan values level dx dy) answer lines' links' points' directory'
    reported-room-suffices k = suffices (drawn-told _ _) room (λ fits just. exact-room values level dx dy lines links points directory fits just k)

    pub contours-reported-room-suffices : ContoursBuilt values level dx dy lines links points directory answer lines' links' points' directory'
        → (answer ≡ Ok r) × Filled (contours_plan values level dx dy) answer lines' links' points' directory'
    contours-reported-room-suffices k = suffices (drawn-told _ _) room (λ fits just. contours-exact-room values level dx dy lines links points directory fits just k)

  module _ (smooth : Bool) (q : Placing) (lines links : List ℕ) (points : List Float) (directory : List ℕ) (room : ReportedRoom dx s r h p lines links points directory)
      {answer : Result ℕ Refusal} {lines' links' : List ℕ} {points' : List Float} {directory' : List ℕ} where
    pub lines-reported-room-suffices : LinesBuilt values level dx dy smooth q lines links points directory answer lines' links' points' directory'
        → (answer ≡ Ok r) × Filled (lines_plan values level dx dy smooth q) answer lines' links' points' directory'
    lines-reported-room-suffices k = suffices (drawn-told _ _) room (λ fits just. lines-exact-room values level dx dy smooth q lines links points directory fits just k)

-- ---- a band

module _ (values thresholds : List Float) (rule : Rule) (k dx dy : ℕ) (s r h p : ℕ) {lines₀ links₀ lines₁ links₁ : List ℕ}
    (reported : BandReported values thresholds rule k dx dy lines₀ links₀ (Ok (record { segments = s; rings = r; peak = h; points = p })) lines₁ links₁) where
  band-told : Told (band_plan values thresholds rule k dx dy) dx s r h p
  unfolding band_open_words band_link_words band_point_words band_directory_words point_words
  band-told = tells (report-worked reported) refl refl refl (omega arith) refl

  pub isobands-reported-room-suffices : (lines links points directory : List ℕ) → ReportedRoom dx s r h p lines links points directory → {answer : Result ℕ Refusal} {lines' links' points' directory' : List ℕ}
      → BandBuilt values thresholds rule k dx dy lines links points directory answer lines' links' points' directory' → (answer ≡ Ok r) × Filled (band_plan values thresholds rule k dx dy) answer lines' links' points' directory'
  isobands-reported-room-suffices lines links points directory room b =
      suffices band-told room (λ fits just. isobands-exact-room values thresholds rule k dx dy lines links points directory fits just b)

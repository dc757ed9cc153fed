-- What the contracts of the public face come to at one level: one result on each entry, each refusal exactly where it is the lowest that applies, and exact
-- room filled to the last word. The contracts are read as what a call over lent tables needs, answers and leaves. Assumes nothing.
use mathlib.Core.Path.{◌≡◌, refl, sym, ◌∙◌}
use mathlib.Core.Logic.{◌↔◌}
use mathlib.Core.Bool.{Bool}
use mathlib.Core.List.{List}
use Prim.Native.Nat.{ℕ}
use native.Mathlib.Omega.{arith}
use lib.Ieee.{Float}
use lib.ListN.{length}
use Rattle.error.specs.declared.Refusal.{Refusal}
use Rattle.scope.specs.declared.Level.{Level}
use Rattle.scope.specs.Limits.{record_stride}
use Rattle.scope.specs.Terrain.{Sheet, above_at, terrain}
use Rattle.scope.specs.Drawing.{segment_count, ring_count, rings_of, peak}
use Rattle.scope.specs.Room.{open_words, link_words, point_count, point_words, directory_words}
use Rattle.scope.specs.Smoothing.{Placing}
use Rattle.scope.specs.Tables.{packed_points, line_points, bare_records, contour_records}
use Rattle.laws.proofs.Edges.{Outside}
use Rattle.machine.proofs.Built.{packed-points-fill-their-room, records-fill-their-room}
use Rattle.grid.specs.Grid.{grid_fit}
use Rattle.scan.specs.Report.{room_of, report_for, first_report}
use Rattle.scan.proofs.Samples.{terrain-outside}
use Rattle.isoringbuilder.specs.Verdict.{passes, work_verdict, room_verdict, output_verdict}
use Rattle.isoringbuilder.specs.Answers.{work_after, output_after, reported, built, above, on_entry, on_outputs, SecondReported, RingsBuilt}
use Rattle.isoringbuilder.specs.declared.SecondReport.{SecondReport}
use Rattle.contourbuilder.specs.Contours.{ContoursBuilt}
use Rattle.contourbuilder.proofs.Lengths.{contour-length}
use Rattle.plotting.proofs.Laws.{line-points-fill-their-room}
use Rattle.linebuilder.specs.Lines.{LinesBuilt}
use Rattle.contour.proofs.Lowest.{Answers, by_one, by_two, ReportExact}
use Rattle.contour.proofs.Grids.{GridExact, grid-early, grid-exact}
use Rattle.contour.proofs.Results.{Worked, Plan, Constructed, one-worked, one-construction, Exact, worked-exact, constructed-exact, JustRoom, Filled, fills}
use Rattle.std.specs.Prelude.{Result, Ok, Err}

-- the first report, area and contains answer what a definition gives for the entry: two such answers are equal
pub one_answer : {Answer : Type 0} {given p q : Answer} → p ≡ given → q ≡ given → p ≡ q
one_answer a b = a ∙ sym b

-- ---- 1. the first report

-- a first report refuses as the fit does, and where that passes gives its room
pub report-for-exactly : (fit : Result (Unit {0}) Refusal) (s h : ℕ) → ((why : Refusal) → (fit ≡ Err why) ↔ (report_for fit (record { segments = s; peak = h }) ≡ Err why)) × ((fit ≡ Ok tt) ↔ (report_for fit (record { segments = s; peak = h }) ≡ Ok (record { segments = s; peak = h })))
unfolding report_for
report-for-exactly (Ok _) s h = (λ why. (λ e. absurd (let z : ◌≡◌ {A = ℕ} 0 1 = cc in omega arith), λ e. absurd (let z : ◌≡◌ {A = ℕ} 0 1 = cc in omega arith)), (λ e. refl, λ e. refl))
report-for-exactly (Err f) s h =
    (λ why. (λ e. cc, λ e. cc), (λ e. absurd (let z : ◌≡◌ {A = ℕ} 0 1 = cc in omega arith), λ e. absurd (let z : ◌≡◌ {A = ℕ} 0 1 = cc in omega arith)))

-- numbers 1 and 2 in the first report, and S and H exactly where the grid fits
pub first-report-exactly : (values : List Float) (level : Level) (dx dy : ℕ) → GridExact Err (first_report values level dx dy) (length values) dx dy
    × ((grid_fit (length values) dx dy ≡ Ok tt) ↔ (first_report values level dx dy ≡ Ok (record { segments = segment_count (above values level dx dy) dx dy; peak = peak (above values level dx dy) dx dy })))
unfolding first_report room_of
first-report-exactly values level dx dy =
    let exactly = report-for-exactly (grid_fit (length values) dx dy) (segment_count (above values level dx dy) dx dy) (peak (above values level dx dy) dx dy) in
    (grid-exact (length values) dx dy (λ why low. exactly.0 why), exactly.1)

-- ---- 2. the second report

-- a second report's answers are told apart
pub reports : (s r h p : ℕ) → Answers {Made = Result SecondReport Refusal} Err (Ok (record { segments = s; rings = r; peak = h; points = p }))
reports s r h p = record { apart = λ why e. let z : ◌≡◌ {A = ℕ} 0 1 = cc in omega arith; same = λ f g e. cc }

abbrev pub room_at : List Float → Level → ℕ → ℕ → Result SecondReport Refusal
room_at values level dx dy =
    Ok (record {
      segments = segment_count (above values level dx dy) dx dy;
      rings = ring_count (above values level dx dy) dx dy;
      peak = peak (above values level dx dy) dx dy;
      points = point_count (segment_count (above values level dx dy) dx dy) (ring_count (above values level dx dy) dx dy);
    })

module _ (values : List Float) (level : Level) (dx dy : ℕ) (lines links : List ℕ) where
  abbrev sheet : Sheet
  sheet = terrain (above_at level) values dx dy

  pub second-worked : {p : Result SecondReport Refusal} {lines' links' : List ℕ} → SecondReported values level dx dy lines links p lines' links'
      → Worked Err (room_at values level dx dy) (grid_fit (length values) dx dy) (open_words dx (peak sheet dx dy)) (link_words (segment_count sheet dx dy)) passes lines links p lines' links'
  unfolding work_verdict reported
  second-worked k = record {
    answers = k.answers ∙ by_one Err (room_at values level dx dy) (λ v. reported v sheet dx dy) (λ why. refl) refl (on_entry values level dx dy lines links);
    lines_are = k.lines_are;
    links-are = k.links-are;
  }

  -- two results that meet the second report's contract on the same entry are equal
  pub one-second-report : {p q : Result SecondReport Refusal} {pl pk ql qk : List ℕ} → SecondReported values level dx dy lines links p pl pk → SecondReported values level dx dy lines links q ql qk → (p ≡ q) × (pl ≡ ql) × (pk ≡ qk)
  one-second-report a b = one-worked (second-worked a) (second-worked b)

  -- numbers 1, 2, 5 and 6 exactly
  pub second-report-exactly : {p : Result SecondReport Refusal} {lines' links' : List ℕ} → SecondReported values level dx dy lines links p lines' links'
      → GridExact Err p (length values) dx dy
      × ReportExact Err (room_at values level dx dy) p (grid_fit (length values) dx dy) (length lines) (open_words dx (peak sheet dx dy)) (length links) (link_words (segment_count sheet dx dy))
  second-report-exactly k =
      let exactly = worked-exact (reports _ _ _ _) (grid-early (length values) dx dy 4 (omega arith)) (second-worked k) in
      (grid-exact (length values) dx dy (λ why low. exactly.work-exact.fit-refused-exactly why (omega arith)), exactly)

-- ---- 3. the builds

-- what the rings of a grid come to, with points and directory records of any kind
abbrev pub drawn_plan : {Word : Type 0} → List Float → Level → ℕ → ℕ → List Word → List ℕ → Plan Word
drawn_plan values level dx dy packed records = record {
  fit = grid_fit (length values) dx dy;
  rings = ring_count (above values level dx dy) dx dy;
  open_need = open_words dx (peak (above values level dx dy) dx dy);
  link_need = link_words (segment_count (above values level dx dy) dx dy);
  point_need = point_words (segment_count (above values level dx dy) dx dy) (ring_count (above values level dx dy) dx dy);
  directory_need = directory_words (ring_count (above values level dx dy) dx dy);
  packed = packed;
  records = records;
}

-- contour_rings' records are bare, and those of contours have the classes and owners; contour_lines' are bare too, and its points smoothed and placed
abbrev pub rings_plan : List Float → Level → ℕ → ℕ → Plan ℕ
rings_plan values level dx dy = drawn_plan values level dx dy (packed_points (rings_of (above values level dx dy) dx dy)) (bare_records 0 0 (rings_of (above values level dx dy) dx dy))

abbrev pub contours_plan : List Float → Level → ℕ → ℕ → Plan ℕ
contours_plan values level dx dy = drawn_plan values level dx dy (packed_points (rings_of (above values level dx dy) dx dy)) (contour_records (rings_of (above values level dx dy) dx dy))

abbrev pub lines_plan : List Float → Level → ℕ → ℕ → Bool → Placing → Plan Float
lines_plan values level dx dy smooth q = drawn_plan values level dx dy (line_points smooth values level.threshold dx dy q (rings_of (above values level dx dy) dx dy)) (bare_records 0 0 (rings_of (above values level dx dy) dx dy))

module _ (values : List Float) (level : Level) (dx dy : ℕ) where
  abbrev A : Sheet
  A = terrain (above_at level) values dx dy

  out : Outside A dx dy
  out = terrain-outside (above_at level) values dx dy

  contour-records-fill-their-room : length (contour_records (rings_of A dx dy)) ≡ directory_words (ring_count A dx dy)
  unfolding directory_words record_stride ring_count
  contour-records-fill-their-room = contour-length (rings_of A dx dy)

  -- the five equations of such a contract
  drawn : {Word : Type 0} (packed : List Word) (records lines links : List ℕ) (points : List Word) (directory : List ℕ) {answer : Result ℕ Refusal} {lines' links' : List ℕ} {points' : List Word} {directory' : List ℕ}
      → answer ≡ built (on_entry values level dx dy lines links) (on_outputs values level dx dy points directory) A dx dy
      → lines' ≡ work_after (on_entry values level dx dy lines links) (open_words dx (peak A dx dy)) lines
      → links' ≡ work_after (on_entry values level dx dy lines links) (link_words (segment_count A dx dy)) links
      → points' ≡ output_after (on_entry values level dx dy lines links) (on_outputs values level dx dy points directory) packed points
      → directory' ≡ output_after (on_entry values level dx dy lines links) (on_outputs values level dx dy points directory) records directory
      → Constructed (drawn_plan values level dx dy packed records) lines links points directory answer lines' links' points' directory'
  unfolding built work_verdict output_verdict room_verdict
  drawn packed records lines links points directory a l k p d = record {
    worked = record {
      answers = a ∙ by_two Err (Ok (ring_count A dx dy)) (λ v w. built v w A dx dy) (λ why w. refl) (λ why. refl) refl (on_entry values level dx dy lines links) (on_outputs values level dx dy points directory);
      lines_are = l;
      links-are = k;
    };
    points-are = p;
    directory-is = d;
  }

  -- numbers 1, 2 and 5 to 8 of such a build exactly
  drawn-exactly : {Word : Type 0} {packed : List Word} {records lines links : List ℕ} {points : List Word} {directory : List ℕ} {answer : Result ℕ Refusal} {lines' links' : List ℕ} {points' : List Word} {directory' : List ℕ}
      → Constructed (drawn_plan values level dx dy packed records) lines links points directory answer lines' links' points' directory'
      → GridExact Err answer (length values) dx dy × Exact (drawn_plan values level dx dy packed records) lines links points directory answer
  drawn-exactly k =
      let exactly = constructed-exact (grid-early (length values) dx dy 4 (omega arith)) k in
      (grid-exact (length values) dx dy (λ why low. exactly.work-exact.fit-refused-exactly why (omega arith)), exactly)

  module _ (lines links points directory : List ℕ) where
    rings-constructed : {answer : Result ℕ Refusal} {lines' links' points' directory' : List ℕ} → RingsBuilt values level dx dy lines links points directory answer lines' links' points' directory'
        → Constructed (rings_plan values level dx dy) lines links points directory answer lines' links' points' directory'
    rings-constructed k = drawn (packed_points (rings_of A dx dy)) (bare_records 0 0 (rings_of A dx dy)) lines links points directory k.answers k.lines_are k.links-are k.points-are k.directory-is

    pub contours-constructed : {answer : Result ℕ Refusal} {lines' links' points' directory' : List ℕ} → ContoursBuilt values level dx dy lines links points directory answer lines' links' points' directory'
        → Constructed (contours_plan values level dx dy) lines links points directory answer lines' links' points' directory'
    contours-constructed k = drawn (packed_points (rings_of A dx dy)) (contour_records (rings_of A dx dy)) lines links points directory k.answers k.lines_are k.links-are k.points-are k.directory-is

    -- two results that meet the contract of contour_rings, or that of contours, on the same entry are equal
    pub one-build : {p q : Result ℕ Refusal} {pl pk pp pd ql qk qp qd : List ℕ} → RingsBuilt values level dx dy lines links points directory p pl pk pp pd → RingsBuilt values level dx dy lines links points directory q ql qk qp qd
        → (p ≡ q) × (pl ≡ ql) × (pk ≡ qk) × (pp ≡ qp) × (pd ≡ qd)
    one-build a b = one-construction (rings-constructed a) (rings-constructed b)

    pub one-contours : {p q : Result ℕ Refusal} {pl pk pp pd ql qk qp qd : List ℕ} → ContoursBuilt values level dx dy lines links points directory p pl pk pp pd → ContoursBuilt values level dx dy lines links points directory q ql qk qp qd
        → (p ≡ q) × (pl ≡ ql) × (pk ≡ qk) × (pp ≡ qp) × (pd ≡ qd)
    one-contours a b = one-construction (contours-constructed a) (contours-constructed b)

    -- numbers 1, 2 and 5 to 8 exactly
    pub rings-exactly : {answer : Result ℕ Refusal} {lines' links' points' directory' : List ℕ} → RingsBuilt values level dx dy lines links points directory answer lines' links' points' directory'
        → GridExact Err answer (length values) dx dy × Exact (rings_plan values level dx dy) lines links points directory answer
    rings-exactly k = drawn-exactly (rings-constructed k)

    pub contours-exactly : {answer : Result ℕ Refusal} {lines' links' points' directory' : List ℕ} → ContoursBuilt values level dx dy lines links points directory answer lines' links' points' directory'
        → GridExact Err answer (length values) dx dy × Exact (contours_plan values level dx dy) lines links points directory answer
    contours-exactly k = drawn-exactly (contours-constructed k)

    -- lent just the room, a grid that fits gives all its rings, its points and records are the whole outputs, and both work tables are all zero
    module _ (fits : grid_fit (length values) dx dy ≡ Ok tt) {answer : Result ℕ Refusal} {lines' links' points' directory' : List ℕ} where
      pub exact-room : JustRoom (rings_plan values level dx dy) lines links points directory → RingsBuilt values level dx dy lines links points directory answer lines' links' points' directory'
          → Filled (rings_plan values level dx dy) answer lines' links' points' directory'
      exact-room just k = fills fits (packed-points-fill-their-room A out) (records-fill-their-room A out) just (rings-constructed k)

      pub contours-exact-room : JustRoom (contours_plan values level dx dy) lines links points directory → ContoursBuilt values level dx dy lines links points directory answer lines' links' points' directory'
          → Filled (contours_plan values level dx dy) answer lines' links' points' directory'
      contours-exact-room just k = fills fits (packed-points-fill-their-room A out) contour-records-fill-their-room just (contours-constructed k)

  -- contour_lines: one result, each refusal exactly, and exact room filled
  module _ (smooth : Bool) (q : Placing) (lines links : List ℕ) (points : List Float) (directory : List ℕ) where
    pub lines-constructed : {answer : Result ℕ Refusal} {lines' links' : List ℕ} {points' : List Float} {directory' : List ℕ} → LinesBuilt values level dx dy smooth q lines links points directory answer lines' links' points' directory'
        → Constructed (lines_plan values level dx dy smooth q) lines links points directory answer lines' links' points' directory'
    lines-constructed k = drawn (line_points smooth values level.threshold dx dy q (rings_of A dx dy)) (bare_records 0 0 (rings_of A dx dy)) lines links points directory k.answers k.lines_are k.links-are k.points-are k.directory-is

    pub one-lines : {p r : Result ℕ Refusal} {pl pk rl rk : List ℕ} {pp rp : List Float} {pd rd : List ℕ} → LinesBuilt values level dx dy smooth q lines links points directory p pl pk pp pd → LinesBuilt values level dx dy smooth q lines links points directory r rl rk rp rd
        → (p ≡ r) × (pl ≡ rl) × (pk ≡ rk) × (pp ≡ rp) × (pd ≡ rd)
    one-lines a b = one-construction (lines-constructed a) (lines-constructed b)

    pub lines-exactly : {answer : Result ℕ Refusal} {lines' links' : List ℕ} {points' : List Float} {directory' : List ℕ} → LinesBuilt values level dx dy smooth q lines links points directory answer lines' links' points' directory'
        → GridExact Err answer (length values) dx dy × Exact (lines_plan values level dx dy smooth q) lines links points directory answer
    lines-exactly k = drawn-exactly (lines-constructed k)

    pub lines-exact-room : grid_fit (length values) dx dy ≡ Ok tt → {answer : Result ℕ Refusal} {lines' links' : List ℕ} {points' : List Float} {directory' : List ℕ} → JustRoom (lines_plan values level dx dy smooth q) lines links points directory
        → LinesBuilt values level dx dy smooth q lines links points directory answer lines' links' points' directory' → Filled (lines_plan values level dx dy smooth q) answer lines' links' points' directory'
    lines-exact-room fits just k = fills fits (line-points-fill-their-room A out smooth values level.threshold q) (records-fill-their-room A out) just (lines-constructed k)

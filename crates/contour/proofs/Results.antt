-- What a call over lent tables answers and leaves, by what it needs: one result on each entry, refusals exactly where a table is short, exact room filled to the
-- last word, and what stands in the outputs where rings are given. The contracts of the reports and the builds come to the two records here. Assumes nothing.
use mathlib.Core.Path.{◌≡◌, refl, sym, ◌∙◌, ap}
use mathlib.Core.List.{List, ◌++◌, append-nil}
use Prim.Native.Nat.{ℕ}
use native.Mathlib.Omega.{arith}
use lib.ListN.{length, drop, replicate, drop_of_length-le}
use Rattle.error.specs.declared.Refusal.{Refusal}
use Rattle.error.specs.declared.Refusal.TheVariants.{OpenShort, LinksShort, PointsShort, DirectoryShort}
use Rattle.scope.specs.Tables.{zeroed, written}
use Rattle.isoringbuilder.specs.Verdict.{Verdict, refused, passes, after_grid}
use Rattle.isoringbuilder.specs.Answers.{work_after, output_after}
use Rattle.contour.proofs.Lowest.{rooms, and_then, answer_by, Answers, Early, ReportExact, BuildExact, report-exact, build-exact, work-passes, passes-exactly}
use Rattle.std.specs.Prelude.{Result, Ok, Err}
use Rattle.isoringbuilder.specs.declared.SecondReport.{SecondReport}

-- the verdicts on the work tables, behind the fit, and on the outputs
abbrev pub work_of : Result (Unit {0}) Refusal → ℕ → ℕ → List ℕ → List ℕ → Verdict
work_of fit open_need link_need lines links = after_grid fit (rooms OpenShort LinksShort (length lines) open_need (length links) link_need)

abbrev pub outputs_of : {Word : Type 0} → ℕ → ℕ → List Word → List ℕ → Verdict
outputs_of point_need directory_need points directory = rooms PointsShort DirectoryShort (length points) point_need (length directory) directory_need

-- the answer, by the work tables and a later verdict, and the work tables at exit
pub record Worked {Made : Type 0} (refuse : Refusal → Made) (give : Made) (fit : Result (Unit {0}) Refusal) (open_need link_need : ℕ) (later : Verdict) (lines links : List ℕ) (answer : Made) (lines' links' : List ℕ) : Type 0 where
  pub answers : answer ≡ answer_by refuse give (and_then (work_of fit open_need link_need lines links) later)
  pub lines_are : lines' ≡ work_after (work_of fit open_need link_need lines links) open_need lines
  pub links-are : links' ≡ work_after (work_of fit open_need link_need lines links) link_need links

-- what a build is to come to: its fit, the number of rings, the words that each table needs, and the words of the outputs, where points are words of any type
pub record Plan (Word : Type 0) : Type 0 where
  pub fit : Result (Unit {0}) Refusal
  pub rings : ℕ
  pub open_need : ℕ
  pub link_need : ℕ
  pub point_need : ℕ
  pub directory_need : ℕ
  pub packed : List Word
  pub records : List ℕ

-- a build's answer, and all tables at exit
pub record Constructed {Word : Type 0} (plan : Plan Word) (lines links : List ℕ) (points : List Word) (directory : List ℕ) (answer : Result ℕ Refusal) (lines' links' : List ℕ) (points' : List Word) (directory' : List ℕ) : Type 0 where
  pub worked : Worked Err (Ok plan.rings) plan.fit plan.open_need plan.link_need (outputs_of plan.point_need plan.directory_need points directory) lines links answer lines' links'
  pub points-are : points' ≡ output_after (work_of plan.fit plan.open_need plan.link_need lines links) (outputs_of plan.point_need plan.directory_need points directory) plan.packed points
  pub directory-is : directory' ≡ output_after (work_of plan.fit plan.open_need plan.link_need lines links) (outputs_of plan.point_need plan.directory_need points directory) plan.records directory

-- ---- 1. one result

module _ {Made : Type 0} {refuse : Refusal → Made} {give : Made} {fit : Result (Unit {0}) Refusal} {open_need link_need : ℕ} {later : Verdict} {lines links : List ℕ} where
  pub one-worked : {p q : Made} {pl pk ql qk : List ℕ} → Worked refuse give fit open_need link_need later lines links p pl pk → Worked refuse give fit open_need link_need later lines links q ql qk → (p ≡ q) × (pl ≡ ql) × (pk ≡ qk)
  one-worked a b = (a.answers ∙ sym b.answers, a.lines_are ∙ sym b.lines_are, a.links-are ∙ sym b.links-are)

module _ {Word : Type 0} {plan : Plan Word} {lines links : List ℕ} {points : List Word} {directory : List ℕ} where
  pub one-construction : {p q : Result ℕ Refusal} {pl pk ql qk : List ℕ} {pp qp : List Word} {pd qd : List ℕ} → Constructed plan lines links points directory p pl pk pp pd → Constructed plan lines links points directory q ql qk qp qd
      → (p ≡ q) × (pl ≡ ql) × (pk ≡ qk) × (pp ≡ qp) × (pd ≡ qd)
  one-construction a b =
      let both = one-worked a.worked b.worked in
      (both.0, both.1, both.2, a.points-are ∙ sym b.points-are, a.directory-is ∙ sym b.directory-is)

-- ---- 2. refused exactly

-- a build's answer against what it needs and what it is lent
abbrev pub Exact : {Word : Type 0} → Plan Word → List ℕ → List ℕ → List Word → List ℕ → Result ℕ Refusal → Type 0
Exact plan lines links points directory answer =
    BuildExact plan.rings answer plan.fit (length lines) plan.open_need (length links) plan.link_need (length points) plan.point_need (length directory) plan.directory_need

module _ {Made : Type 0} {refuse : Refusal → Made} {give : Made} {fit : Result (Unit {0}) Refusal} {open_need link_need : ℕ} {lines links : List ℕ} where
  pub worked-exact : Answers refuse give → Early 4 fit → {answer : Made} {lines' links' : List ℕ} → Worked refuse give fit open_need link_need passes lines links answer lines' links'
      → ReportExact refuse give answer fit (length lines) open_need (length links) link_need
  worked-exact o early {answer} k = report-exact fit early (length lines) open_need (length links) link_need o answer k.answers

module _ {Word : Type 0} {plan : Plan Word} {lines links : List ℕ} {points : List Word} {directory : List ℕ} where
  pub constructed-exact : Early 4 plan.fit → {answer : Result ℕ Refusal} {lines' links' : List ℕ} {points' : List Word} {directory' : List ℕ} → Constructed plan lines links points directory answer lines' links' points' directory'
      → Exact plan lines links points directory answer
  constructed-exact early {answer} k =
      build-exact plan.fit early (length lines) plan.open_need (length links) plan.link_need (length points) plan.point_need (length directory) plan.directory_need plan.rings answer
      k.worked.answers

-- ---- 3. exact room

-- words that fill a table leave none of it
pub nothing-past : {Word : Type 0} (words table : List Word) (n : ℕ) → length table ≡ n → words ++ drop n table ≡ words
nothing-past {Word} words table n e = ap (λ (l : List Word). words ++ l) (drop_of_length-le table {i = n} (omega arith)) ∙ append-nil words

-- four tables that have just the room
pub record JustRoom {Word : Type 0} (plan : Plan Word) (lines links : List ℕ) (points : List Word) (directory : List ℕ) : Type 0 where
  pub lines-just : length lines ≡ plan.open_need
  pub links-just : length links ≡ plan.link_need
  pub points-just : length points ≡ plan.point_need
  pub directory-just : length directory ≡ plan.directory_need

-- all rings are given, points and records are the whole outputs, and both work tables are all zero
pub record Filled {Word : Type 0} (plan : Plan Word) (answer : Result ℕ Refusal) (lines' links' : List ℕ) (points' : List Word) (directory' : List ℕ) : Type 0 where
  pub answer-is : answer ≡ Ok plan.rings
  pub points-are : points' ≡ plan.packed
  pub directory-is : directory' ≡ plan.records
  pub lines_are : lines' ≡ replicate plan.open_need 0
  pub links-are : links' ≡ replicate plan.link_need 0

module _ {Word : Type 0} {plan : Plan Word} {lines links : List ℕ} {points : List Word} {directory : List ℕ} {answer : Result ℕ Refusal} {lines' links' : List ℕ} {points' : List Word} {directory' : List ℕ} where
  pub fills : plan.fit ≡ Ok tt → length plan.packed ≡ plan.point_need → length plan.records ≡ plan.directory_need → JustRoom plan lines links points directory
      → Constructed plan lines links points directory answer lines' links' points' directory' → Filled plan answer lines' links' points' directory'
  unfolding answer_by and_then work_after output_after written zeroed
  fills fits ep ed just k = record {
    answer-is = k.worked.answers ∙ rw (work, outputs);
    points-are = k.points-are ∙ rw (work, outputs) (nothing-past plan.packed points (length plan.packed) (just.points-just ∙ sym ep));
    directory-is = k.directory-is ∙ rw (work, outputs) (nothing-past plan.records directory (length plan.records) (just.directory-just ∙ sym ed));
    lines_are = k.worked.lines_are ∙ rw work (nothing-past (replicate plan.open_need 0) lines plan.open_need just.lines-just);
    links-are = k.worked.links-are ∙ rw work (nothing-past (replicate plan.link_need 0) links plan.link_need just.links-just);
  }
    where
      work : work_of plan.fit plan.open_need plan.link_need lines links ≡ passes
      work = (work-passes plan.fit (length lines) plan.open_need (length links) plan.link_need).0 (fits, omega (arith, just.lines-just), omega (arith, just.links-just))

      outputs : outputs_of plan.point_need plan.directory_need points directory ≡ passes
      outputs = (passes-exactly PointsShort DirectoryShort (omega arith) (length points) plan.point_need (length directory) plan.directory_need).0 (omega (arith, just.points-just), omega (arith, just.directory-just))

-- ---- 4. what stands in the outputs where rings are given

-- n rings were given: the fit passed, and points and records are written over the outputs
pub record Given {Word : Type 0} (plan : Plan Word) (points : List Word) (directory : List ℕ) (n : ℕ) (points' : List Word) (directory' : List ℕ) : Type 0 where
  pub fits : plan.fit ≡ Ok tt
  pub rings-are : plan.rings ≡ n
  pub points-are : points' ≡ written plan.packed points
  pub directory-is : directory' ≡ written plan.records directory

module _ {Word : Type 0} {plan : Plan Word} {lines links : List ℕ} {points : List Word} {directory : List ℕ} {answer : Result ℕ Refusal} {lines' links' : List ℕ} {points' : List Word} {directory' : List ℕ} where
  pub given : (n : ℕ) → answer ≡ Ok n → Constructed plan lines links points directory answer lines' links' points' directory' → Given plan points directory n points' directory'
  unfolding answer_by and_then output_after
  given n is k = by (work_of plan.fit plan.open_need plan.link_need lines links) (outputs_of plan.point_need plan.directory_need points directory) refl refl (sym k.worked.answers ∙ is)
    where
      by : (v w : Verdict) → work_of plan.fit plan.open_need plan.link_need lines links ≡ v → outputs_of plan.point_need plan.directory_need points directory ≡ w
          → answer_by Err (Ok plan.rings) (and_then v w) ≡ Ok n → Given plan points directory n points' directory'
      by (refused why) w work outputs e = absurd (let z : ◌≡◌ {A = ℕ} 0 1 = cc in omega arith)
      by passes (refused why) work outputs e = absurd (let z : ◌≡◌ {A = ℕ} 0 1 = cc in omega arith)
      by passes passes work outputs e = record {
        fits = ((work-passes plan.fit (length lines) plan.open_need (length links) plan.link_need).1 work).0;
        rings-are = cc;
        points-are = k.points-are ∙ rw (work, outputs);
        directory-is = k.directory-is ∙ rw (work, outputs);
      }

-- ---- 5. the numbers of a second report

module _ {S R H P s r h p : ℕ} {fit : Result (Unit {0}) Refusal} {open_need link_need : ℕ} {lines links lines' links' : List ℕ} where
  -- where a room is answered the fit passed, and it is the room that was to be given
  pub room-given : Worked {Made = Result SecondReport Refusal} Err (Ok (record { segments = S; rings = R; peak = H; points = P })) fit open_need link_need passes lines links (Ok (record { segments = s; rings = r; peak = h; points = p })) lines' links'
      → (fit ≡ Ok tt) × (S ≡ s) × (R ≡ r) × (H ≡ h) × (P ≡ p)
  unfolding answer_by and_then
  room-given k = by (work_of fit open_need link_need lines links) refl k.answers
    where
      by : (v : Verdict) → work_of fit open_need link_need lines links ≡ v → ◌≡◌ {A = Result SecondReport Refusal} (Ok (record { segments = s; rings = r; peak = h; points = p })) (answer_by Err (Ok (record { segments = S; rings = R; peak = H; points = P })) (and_then v passes))
          → (fit ≡ Ok tt) × (S ≡ s) × (R ≡ r) × (H ≡ h) × (P ≡ p)
      by (refused why) work e = absurd (let z : ◌≡◌ {A = ℕ} 0 1 = cc in omega arith)
      by passes work e =
          let same : ◌≡◌ {A = SecondReport} (record { segments = S; rings = R; peak = H; points = P }) (record { segments = s; rings = r; peak = h; points = p }) = cc in (
            ((work-passes fit (length lines) open_need (length links) link_need).1 work).0,
            ap (λ (room : SecondReport). room.segments) same,
            ap (λ (room : SecondReport). room.rings) same,
            ap (λ (room : SecondReport). room.peak) same,
            ap (λ (room : SecondReport). room.points) same,
          )

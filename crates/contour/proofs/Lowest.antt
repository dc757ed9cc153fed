-- The lowest refusal that applies, alone. Verdicts follow one another in the order of the refusals' numbers, and an answer is a refusal or what is given: so each
-- refusal is answered exactly where all before it pass and it applies. By cases on the tests. Assumes nothing.
use mathlib.Core.Path.{◌≡◌, refl, sym, ◌∙◌, ap}
use mathlib.Core.Logic.Iff
use mathlib.Core.Logic.{◌≢◌, ◌↔◌}
use mathlib.Core.Bool.{Bool, true, false, cond, true≢false, false≢true}
use Prim.Native.Nat.{ℕ, ◌≤◌, ◌<◌}
use native.Mathlib.Omega.{arith}
use lib.Dec.{ltb}
use borrow.Author.Tests.{lt-ltb, le-ltb, ltb-true, ltb-false}
use Rattle.error.specs.Number.{refusal_number}
use Rattle.error.specs.declared.Refusal.{Refusal}
use Rattle.error.specs.declared.Refusal.TheVariants.{OpenShort, LinksShort, PointsShort, DirectoryShort}
use Rattle.isoringbuilder.specs.Verdict.{Verdict, refused, passes, after_grid}
use Rattle.std.specs.Prelude.{Result, Ok, Err}

-- ---- 1. tests

-- of three unequal answers by two tests: the first where the first test holds, the second where the second alone does, the third where neither does
module _ {Answer : Type 0} (x y z : Answer) (xy : x ≢ y) (xz : x ≢ z) (yz : y ≢ z) where
  pub first-exactly : (a b : Bool) → (a ≡ true) ↔ (cond a x (cond b y z) ≡ x)
  first-exactly true b = (λ e. refl, λ e. refl)
  first-exactly false true = (λ e. absurd (false≢true e), λ e. absurd (xy (sym e)))
  first-exactly false false = (λ e. absurd (false≢true e), λ e. absurd (xz (sym e)))

  pub second-exactly : (a b : Bool) → ((a ≡ false) × (b ≡ true)) ↔ (cond a x (cond b y z) ≡ y)
  second-exactly true b = (λ e. absurd (true≢false e.0), λ e. absurd (xy e))
  second-exactly false true = (λ e. refl, λ e. (refl, refl))
  second-exactly false false = (λ e. absurd (false≢true e.1), λ e. absurd (yz (sym e)))

  pub third-exactly : (a b : Bool) → ((a ≡ false) × (b ≡ false)) ↔ (cond a x (cond b y z) ≡ z)
  third-exactly true b = (λ e. absurd (true≢false e.0), λ e. absurd (xz e))
  third-exactly false true = (λ e. absurd (true≢false e.1), λ e. absurd (yz e))
  third-exactly false false = (λ e. refl, λ e. (refl, refl))

-- what holds of all three holds of the answer
pub of_three : {Answer : Type 0} (P : Answer → Type 0) (x y z : Answer) → P x → P y → P z → (a b : Bool) → P (cond a x (cond b y z))
of_three P x y z px py pz true b = px
of_three P x y z px py pz false true = py
of_three P x y z px py pz false false = pz

pub less-exactly : (m n : ℕ) → (m < n) ↔ (ltb m n ≡ true)
less-exactly m n = (lt-ltb m n, ltb-true m n)

pub enough-exactly : (m n : ℕ) → (n ≤ m) ↔ (ltb m n ≡ false)
enough-exactly m n = (le-ltb m n, ltb-false m n)

-- a pair behind a fact, as three facts
pub three : {P Q R : Type 0} → (P × Q × R) ↔ (P × (Q × R))
three = (λ h. (h.0, (h.1, h.2)), λ h. (h.0, h.1.0, h.1.1))

-- ---- 2. verdicts

refusals-apart : (f g : Refusal) → refusal_number f < refusal_number g → refused f ≢ refused g
refusals-apart f g less e = let same : f ≡ g = cc in omega (arith, ap refusal_number same)

no-refusal : (why : Refusal) → refused why ≢ passes
no-refusal why e = let z : ◌≡◌ {A = ℕ} 0 1 = cc in omega arith

-- two tables against their needs, of which the lower number is given first
abbrev pub rooms : Refusal → Refusal → ℕ → ℕ → ℕ → ℕ → Verdict
rooms low high m need n need' = cond (ltb m need) (refused low) (cond (ltb n need') (refused high) passes)

module _ (low high : Refusal) (order : refusal_number low < refusal_number high) (m need n need' : ℕ) where
  low-exactly : (m < need) ↔ (rooms low high m need n need' ≡ refused low)
  low-exactly =
      Iff.trans (less-exactly m need)
      (first-exactly (refused low) (refused high) passes (refusals-apart low high order) (no-refusal low) (no-refusal high) (ltb m need) (ltb n need'))

  high-exactly : ((need ≤ m) × (n < need')) ↔ (rooms low high m need n need' ≡ refused high)
  high-exactly =
      Iff.trans (Iff.and (enough-exactly m need) (less-exactly n need'))
      (second-exactly (refused low) (refused high) passes (refusals-apart low high order) (no-refusal low) (no-refusal high) (ltb m need) (ltb n need'))

  pub passes-exactly : ((need ≤ m) × (need' ≤ n)) ↔ (rooms low high m need n need' ≡ passes)
  passes-exactly =
      Iff.trans (Iff.and (enough-exactly m need) (enough-exactly n need'))
      (third-exactly (refused low) (refused high) passes (refusals-apart low high order) (no-refusal low) (no-refusal high) (ltb m need) (ltb n need'))

  -- no other refusal is given
  rooms-give : (why : Refusal) → rooms low high m need n need' ≡ refused why → (refusal_number low ≤ refusal_number why) × (refusal_number why ≤ refusal_number high)
  rooms-give =
      of_three (λ v. (why : Refusal) → v ≡ refused why → (refusal_number low ≤ refusal_number why) × (refusal_number why ≤ refusal_number high)) (refused low) (refused high) passes
      (λ why e. let same : low ≡ why = cc in (omega (arith, ap refusal_number same), omega (arith, ap refusal_number same)))
      (λ why e. let same : high ≡ why = cc in (omega (arith, ap refusal_number same), omega (arith, ap refusal_number same)))
      (λ why e. absurd (no-refusal why (sym e)))
      (ltb m need) (ltb n need')

-- a verdict, and where it passes the later one
unfoldable pub and_then : Verdict → Verdict → Verdict
and_then (refused why) later = refused why
and_then passes later = later

-- a verdict refuses with no number above, or with none below
abbrev pub UpTo : Verdict → ℕ → Type 0
UpTo v most = (why : Refusal) → v ≡ refused why → refusal_number why ≤ most

abbrev pub From : Verdict → ℕ → Type 0
From v least = (why : Refusal) → v ≡ refused why → least ≤ refusal_number why

earlier-exactly : (v w : Verdict) (least : ℕ) → From w least → (why : Refusal) → refusal_number why < least → (v ≡ refused why) ↔ (and_then v w ≡ refused why)
unfolding and_then
earlier-exactly (refused f) w least from why less = Iff.rfl
earlier-exactly passes w least from why less = (λ e. absurd (no-refusal why (sym e)), λ e. absurd (omega (arith, from why e)))

later-exactly : (v w : Verdict) (most : ℕ) → UpTo v most → (why : Refusal) → most < refusal_number why → ((v ≡ passes) × (w ≡ refused why)) ↔ (and_then v w ≡ refused why)
unfolding and_then
later-exactly (refused f) w most up why more = (λ e. absurd (no-refusal f e.0), λ e. absurd (omega (arith, up why e)))
later-exactly passes w most up why more = (λ e. e.1, λ e. (refl, e))

both-exactly : (v w : Verdict) → ((v ≡ passes) × (w ≡ passes)) ↔ (and_then v w ≡ passes)
unfolding and_then
both-exactly (refused f) w = (λ e. absurd (no-refusal f e.0), λ e. absurd (no-refusal f e))
both-exactly passes w = (λ e. e.1, λ e. (refl, e))

then-up-to : (v w : Verdict) (most : ℕ) → UpTo v most → UpTo w most → UpTo (and_then v w) most
unfolding and_then
then-up-to (refused f) w most up up' why e = up why e
then-up-to passes w most up up' why e = up' why e

-- the verdict on a fit
pub fit-exactly : (fit : Result (Unit {0}) Refusal) (why : Refusal) → (fit ≡ Err why) ↔ (after_grid fit passes ≡ refused why)
unfolding after_grid
fit-exactly (Ok _) why = (λ e. absurd (let z : ◌≡◌ {A = ℕ} 0 1 = cc in omega arith), λ e. absurd (no-refusal why (sym e)))
fit-exactly (Err f) why = (λ e. cc, λ e. cc)

pub fits-exactly : (fit : Result (Unit {0}) Refusal) → (fit ≡ Ok tt) ↔ (after_grid fit passes ≡ passes)
unfolding after_grid
fits-exactly (Ok _) = (λ e. refl, λ e. refl)
fits-exactly (Err f) = (λ e. absurd (let z : ◌≡◌ {A = ℕ} 0 1 = cc in omega arith), λ e. absurd (no-refusal f e))

-- a fit refuses with no number above
abbrev pub Early : ℕ → Result (Unit {0}) Refusal → Type 0
Early most fit = (why : Refusal) → fit ≡ Err why → refusal_number why ≤ most

pub fit-number : (f why : Refusal) → ◌≡◌ {A = Result (Unit {0}) Refusal} (Err f) (Err why) → refusal_number f ≡ refusal_number why
fit-number f why e = let same : f ≡ why = cc in ap refusal_number same

after-fit : (fit : Result (Unit {0}) Refusal) (later : Verdict) → and_then (after_grid fit passes) later ≡ after_grid fit later
unfolding and_then after_grid
after-fit (Ok _) later = refl
after-fit (Err f) later = refl

-- the grid or the band fits, and both work tables have their room
abbrev pub WorkRoom : Result (Unit {0}) Refusal → ℕ → ℕ → ℕ → ℕ → Type 0
WorkRoom fit lines open_need links link_need = (fit ≡ Ok tt) × (open_need ≤ lines) × (link_need ≤ links)

-- the fit, whose refusals are the first four, then the two work tables
module _ (fit : Result (Unit {0}) Refusal) (lines open_need links link_need : ℕ) where
  abbrev tables : Verdict
  tables = rooms OpenShort LinksShort lines open_need links link_need

  abbrev work : Verdict
  work = after_grid fit tables

  through : {P : Type 0} (v : Verdict) → P ↔ (and_then (after_grid fit passes) tables ≡ v) → P ↔ (work ≡ v)
  through v h = rw after-fit at h

  tables-give : (why : Refusal) → tables ≡ refused why → (5 ≤ refusal_number why) × (refusal_number why ≤ 6)
  tables-give = rooms-give OpenShort LinksShort (omega arith) lines open_need links link_need

  work-fit : (why : Refusal) → refusal_number why ≤ 4 → (fit ≡ Err why) ↔ (work ≡ refused why)
  work-fit why low =
      through (refused why) (Iff.trans (fit-exactly fit why) (earlier-exactly (after_grid fit passes) tables 5 (λ f e. (tables-give f e).0) why (omega arith)))

  pub work-passes : WorkRoom fit lines open_need links link_need ↔ (work ≡ passes)
  work-passes =
      through passes
      (Iff.trans three
      (Iff.trans (Iff.and (fits-exactly fit) (passes-exactly OpenShort LinksShort (omega arith) lines open_need links link_need))
      (both-exactly (after_grid fit passes) tables)))

  module _ (early : Early 4 fit) where
    first-four : UpTo (after_grid fit passes) 4
    first-four why e = early why ((fit-exactly fit why).1 e)

    work-open : ((fit ≡ Ok tt) × (lines < open_need)) ↔ (work ≡ refused OpenShort)
    work-open =
        through (refused OpenShort)
        (Iff.trans (Iff.and (fits-exactly fit) (low-exactly OpenShort LinksShort (omega arith) lines open_need links link_need))
        (later-exactly (after_grid fit passes) tables 4 first-four OpenShort (omega arith)))

    work-links : ((fit ≡ Ok tt) × (open_need ≤ lines) × (links < link_need)) ↔ (work ≡ refused LinksShort)
    work-links =
        through (refused LinksShort)
        (Iff.trans three
        (Iff.trans (Iff.and (fits-exactly fit) (high-exactly OpenShort LinksShort (omega arith) lines open_need links link_need))
        (later-exactly (after_grid fit passes) tables 4 first-four LinksShort (omega arith))))

    work-up-to : UpTo work 6
    work-up-to = rw (← after-fit) (then-up-to (after_grid fit passes) tables 6 (λ f e. omega (arith, first-four f e)) (λ f e. (tables-give f e).1))

-- ---- 3. answers

-- refusals and what is given are told apart
pub record Answers {Made : Type 0} (refuse : Refusal → Made) (give : Made) : Type 0 where
  pub apart : (why : Refusal) → refuse why ≢ give
  pub same : (f g : Refusal) → refuse f ≡ refuse g → f ≡ g

unfoldable pub answer_by : {Made : Type 0} → (Refusal → Made) → Made → Verdict → Made
answer_by refuse give (refused why) = refuse why
answer_by refuse give passes = give

-- a function of one verdict or of two, one after the other, that refuses as they do
pub by_one : {Made : Type 0} (refuse : Refusal → Made) (give : Made) (f : Verdict → Made) → ((why : Refusal) → f (refused why) ≡ refuse why) → f passes ≡ give → (v : Verdict) → f v ≡ answer_by refuse give (and_then v passes)
unfolding answer_by and_then
by_one refuse give f r p (refused why) = r why
by_one refuse give f r p passes = p

pub by_two : {Made : Type 0} (refuse : Refusal → Made) (give : Made) (f : Verdict → Verdict → Made) → ((why : Refusal) (w : Verdict) → f (refused why) w ≡ refuse why) → ((why : Refusal) → f passes (refused why) ≡ refuse why)
    → f passes passes ≡ give → (v w : Verdict) → f v w ≡ answer_by refuse give (and_then v w)
unfolding answer_by and_then
by_two refuse give f r s p (refused why) w = r why w
by_two refuse give f r s p passes (refused why) = s why
by_two refuse give f r s p passes passes = p

module _ {Made : Type 0} {refuse : Refusal → Made} {give : Made} (o : Answers refuse give) (answer : Made) where
  pub refusal-exactly : (v : Verdict) → answer ≡ answer_by refuse give v → (why : Refusal) → (v ≡ refused why) ↔ (answer ≡ refuse why)
  unfolding answer_by
  refusal-exactly (refused f) is why = (λ e. cc, λ e. ap refused (o.same f why (sym is ∙ e)))
  refusal-exactly passes is why = (λ e. absurd (no-refusal why (sym e)), λ e. absurd (o.apart why (sym e ∙ is)))

  pub given-exactly : (v : Verdict) → answer ≡ answer_by refuse give v → (v ≡ passes) ↔ (answer ≡ give)
  unfolding answer_by
  given-exactly (refused f) is = (λ e. absurd (no-refusal f e), λ e. absurd (o.apart f (sym is ∙ e)))
  given-exactly passes is = (λ e. is, λ e. refl)

-- an answer against the fit and the room of the work tables: each refusal up to 6 is answered exactly where it is the lowest that applies
pub record WorkExact {Made : Type 0} (refuse : Refusal → Made) (answer : Made) (fit : Result (Unit {0}) Refusal) (lines open_need links link_need : ℕ) : Type 0 where
  pub fit-refused-exactly : (why : Refusal) → refusal_number why ≤ 4 → (fit ≡ Err why) ↔ (answer ≡ refuse why)
  pub open-short-exactly : ((fit ≡ Ok tt) × (lines < open_need)) ↔ (answer ≡ refuse OpenShort)
  pub links-short-exactly : ((fit ≡ Ok tt) × (open_need ≤ lines) × (links < link_need)) ↔ (answer ≡ refuse LinksShort)

-- a second report's answer: a refusal up to 6, or what is given exactly where nothing is short
pub record ReportExact {Made : Type 0} (refuse : Refusal → Made) (give answer : Made) (fit : Result (Unit {0}) Refusal) (lines open_need links link_need : ℕ) : Type 0 where
  pub work-exact : WorkExact refuse answer fit lines open_need links link_need
  pub given-exactly : WorkRoom fit lines open_need links link_need ↔ (answer ≡ give)

-- a build's answer: a refusal up to 8, or the number of rings exactly where nothing is short
pub record BuildExact (rings : ℕ) (answer : Result ℕ Refusal) (fit : Result (Unit {0}) Refusal) (lines open_need links link_need points point_need directory directory_need : ℕ) : Type 0 where
  pub work-exact : WorkExact Err answer fit lines open_need links link_need
  pub points-short-exactly : (WorkRoom fit lines open_need links link_need × (points < point_need)) ↔ (answer ≡ Err PointsShort)
  pub directory-short-exactly : (WorkRoom fit lines open_need links link_need × (point_need ≤ points) × (directory < directory_need)) ↔ (answer ≡ Err DirectoryShort)
  pub given-exactly : (WorkRoom fit lines open_need links link_need × (point_need ≤ points) × (directory_need ≤ directory)) ↔ (answer ≡ Ok rings)

module _ (fit : Result (Unit {0}) Refusal) (early : Early 4 fit) (lines open_need links link_need : ℕ) where
  abbrev whole : Verdict
  whole = after_grid fit (rooms OpenShort LinksShort lines open_need links link_need)

  module _ {Made : Type 0} {refuse : Refusal → Made} {give : Made} (o : Answers refuse give) (answer : Made) where
    works : (later : Verdict) → From later 7 → answer ≡ answer_by refuse give (and_then whole later) → WorkExact refuse answer fit lines open_need links link_need
    works later from is = record {
      fit-refused-exactly = λ why low. to why (omega arith) (work-fit fit lines open_need links link_need why low);
      open-short-exactly = to OpenShort (omega arith) (work-open fit lines open_need links link_need early);
      links-short-exactly = to LinksShort (omega arith) (work-links fit lines open_need links link_need early);
    }
      where
        to : {P : Type 0} (why : Refusal) → refusal_number why < 7 → P ↔ (whole ≡ refused why) → P ↔ (answer ≡ refuse why)
        to why low h = Iff.trans h (Iff.trans (earlier-exactly whole later 7 from why low) (refusal-exactly o answer (and_then whole later) is why))

    pub report-exact : answer ≡ answer_by refuse give (and_then whole passes) → ReportExact refuse give answer fit lines open_need links link_need
    report-exact is = record {
      work-exact = works passes (λ why e. absurd (no-refusal why (sym e))) is;
      given-exactly =
          Iff.trans (work-passes fit lines open_need links link_need)
          (Iff.trans (λ e. (e, refl), λ e. e.0) (Iff.trans (both-exactly whole passes) (given-exactly o answer (and_then whole passes) is)));
    }

  module _ (points point_need directory directory_need rings : ℕ) (answer : Result ℕ Refusal) where
    abbrev outputs : Verdict
    outputs = rooms PointsShort DirectoryShort points point_need directory directory_need

    builds : Answers Err (Ok rings)
    builds = record { apart = λ why e. let z : ◌≡◌ {A = ℕ} 0 1 = cc in omega arith; same = λ f g e. cc }

    pub build-exact : answer ≡ answer_by Err (Ok rings) (and_then whole outputs) → BuildExact rings answer fit lines open_need links link_need points point_need directory directory_need
    build-exact is = record {
      work-exact = works builds answer outputs (λ why e. (rooms-give PointsShort DirectoryShort (omega arith) points point_need directory directory_need why e).0) is;
      points-short-exactly = to PointsShort (omega arith) (low-exactly PointsShort DirectoryShort (omega arith) points point_need directory directory_need);
      directory-short-exactly = Iff.trans three (to DirectoryShort (omega arith) (high-exactly PointsShort DirectoryShort (omega arith) points point_need directory directory_need));
      given-exactly =
          Iff.trans three
          (Iff.trans (Iff.and (work-passes fit lines open_need links link_need) (passes-exactly PointsShort DirectoryShort (omega arith) points point_need directory directory_need))
          (Iff.trans (both-exactly whole outputs) (given-exactly builds answer (and_then whole outputs) is)));
    }
      where
        to : {P : Type 0} (why : Refusal) → 6 < refusal_number why → P ↔ (outputs ≡ refused why) → (WorkRoom fit lines open_need links link_need × P) ↔ (answer ≡ Err why)
        to why more h =
            Iff.trans (Iff.and (work-passes fit lines open_need links link_need) h)
            (Iff.trans (later-exactly whole outputs 6 (work-up-to fit lines open_need links link_need early) why more) (refusal-exactly builds answer (and_then whole outputs) is why))

-- What the contracts of the calls over records come to. Of the builds: one result on each entry, each refusal exactly where it is the lowest that applies, number 8
-- exactly where there are fewer records than rings or fewer words than six a ring, exact room filled to the last record, and records past the rings as they were;
-- each is said once, for any word form that has these laws. Of the readers: the word form's answers at the words of the records, or number 9. Assumes nothing.
use mathlib.Core.Path.{◌≡◌, refl, sym, ◌∙◌, ap}
use mathlib.Core.Logic.Iff
use mathlib.Core.Logic.{◌↔◌}
use mathlib.Core.Bool.{Bool, true, false, and-false}
use mathlib.Core.List.{List, ◌++◌}
use Prim.Native.Nat.{ℕ, ◌*◌, ◌≤◌, ◌<◌, min}
use native.Mathlib.Omega.{arith}
use lib.Dec.{ltb}
use lib.Ieee.{Float}
use lib.ListN.{length, take, drop, take-append-drop}
use lib.Seq.{length-take-le, take_all, drop_at}
use borrow.Author.Tests.{lt-ltb, ltb-true, ltb-false}
use Rattle.error.specs.declared.Refusal.{Refusal}
use Rattle.error.specs.declared.Refusal.TheVariants.{PointsShort, DirectoryShort, BadRingSet}
use Rattle.scope.specs.declared.Rule.{Rule}
use Rattle.scope.specs.declared.Level.{Level}
use Rattle.scope.specs.Limits.{record_stride}
use Rattle.scope.specs.Room.{directory_words, band_directory_words}
use Rattle.scope.specs.Smoothing.{Placing}
use Rattle.scope.specs.Tables.{written}
use Rattle.scope.specs.GeoJson.{directory_short, ring_set_refused}
use Rattle.isoringbuilder.specs.Answers.{RingsBuilt}
use Rattle.contourbuilder.specs.Contours.{ContoursBuilt}
use Rattle.linebuilder.specs.Lines.{LinesBuilt}
use Rattle.bands.specs.Bands.{BandBuilt}
use Rattle.geojson.specs.Written.{length_answer, written_answer, text_after}
use Rattle.contour.proofs.Lowest.{WorkRoom, WorkExact}
use Rattle.contour.proofs.Results.{Plan, Exact, JustRoom, Filled, nothing-past}
use Rattle.contour.proofs.Theorems.{rings_plan, contours_plan, lines_plan, one-build, one-contours, one-lines, rings-exactly, contours-exactly, lines-exactly, exact-room, contours-exact-room, lines-exact-room}
use Rattle.contour.proofs.Bands.{band_plan, one-isobands, isobands-exactly, isobands-exact-room}
use Rattle.ringrecord.specs.declared.RingRecord.{RingRecord}
use Rattle.ringrecord.specs.Records.{directory_from, directory_of, records_from}
use Rattle.ringrecord.specs.Copies.{room_for, copied_rings, words_from}
use Rattle.ringrecord.proofs.Laws.{as-many-records}
use Rattle.ringrecord.proofs.Copied.{all-rings}
use Rattle.records.specs.Over.{rings_in, lent_words, OverRecords}
use Rattle.records.proofs.Lending.{lent_below}
use Rattle.std.specs.Prelude.{Result, Ok, Err}

-- ---- 1. records past the rings

module _ {Words : List ℕ → List ℕ → Type 0} {n : ℕ} {words words' : List ℕ} {records records' : List RingRecord} (k : OverRecords Words n words words' records records') where
  as_many : length (records_from (take (directory_words n) words')) ≡ n
  as_many =
      as-many-records n (take (directory_words n) words')
      (length-take-le (directory_words n) words' (omega (arith, k.over-words.rings-fit, k.over-words.as_long, lent_below (length words) (length records))))

  pub records-past-the-rings-stay : drop n records' ≡ drop n records
  unfolding written
  records-past-the-rings-stay = ap (drop n) k.records-are ∙ rw as_many (drop_at (records_from (take (directory_words n) words')) (drop n records) n as_many)

-- a call that is refused leaves all of them
pub refusal-leaves-the-records : {Words : List ℕ → List ℕ → Type 0} {words words' : List ℕ} {records records' : List RingRecord} (why : Refusal) →
    OverRecords Words (rings_in (Err why)) words words' records records' → records' ≡ records
unfolding rings_in
refusal-leaves-the-records why k = records-past-the-rings-stay k

-- ---- 2. which rings have room

-- there are too few words, or too few records
pub data Short (words records rings : ℕ) : Type 0 where
  words-short : words < directory_words rings → Short words records rings
  records-short : records < rings → Short words records rings

module _ (words records rings : ℕ) where
  pub short-exactly : Short words records rings ↔ (lent_words words records < directory_words rings)
  unfolding lent_words directory_words record_stride
  short-exactly = (there, back)
    where
      there : Short words records rings → min words (6 * records) < 6 * rings
      there (words-short h) = omega arith
      there (records-short h) = omega arith

      back : min words (6 * records) < 6 * rings → Short words records rings
      back h = by (ltb words (6 * rings)) refl
        where
          by : (b : Bool) → ltb words (6 * rings) ≡ b → Short words records rings
          by true e = words-short (ltb-true words (6 * rings) e)
          by false e = let long = ltb-false words (6 * rings) e in records-short (omega arith)

  pub enough-exactly : ((directory_words rings ≤ words) × (rings ≤ records)) ↔ (directory_words rings ≤ lent_words words records)
  unfolding lent_words directory_words record_stride
  enough-exactly = (λ h. omega (arith, h.0, h.1), λ h. (omega arith, omega arith))

-- ---- 3. the builds

-- a build over words: its contract, of a directory and the answer and all tables at exit, and its laws
pub record WordForm {Word : Type 0} (plan : Plan Word) (lines links : List ℕ) (points : List Word) (Form : List ℕ → Result ℕ Refusal → List ℕ → List ℕ → List Word → List ℕ → Type 0) : Type 0 where
  pub need : plan.directory_need ≡ directory_words plan.rings
  pub one : (directory : List ℕ) {p q : Result ℕ Refusal} {pl pk ql qk : List ℕ} {pp qp : List Word} {pd qd : List ℕ} → Form directory p pl pk pp pd → Form directory q ql qk qp qd →
      (p ≡ q) × (pl ≡ ql) × (pk ≡ qk) × (pp ≡ qp) × (pd ≡ qd)
  pub exactly : (directory : List ℕ) {answer : Result ℕ Refusal} {lines' links' : List ℕ} {points' : List Word} {directory' : List ℕ} → Form directory answer lines' links' points' directory' →
      Exact plan lines links points directory answer
  pub fills : (directory : List ℕ) {answer : Result ℕ Refusal} {lines' links' : List ℕ} {points' : List Word} {directory' : List ℕ} → plan.fit ≡ Ok tt → JustRoom plan lines links points directory →
      Form directory answer lines' links' points' directory' → Filled plan answer lines' links' points' directory'

-- a build's answer against what it needs and the words and records that it is lent
pub record RecordsExact {Word : Type 0} (plan : Plan Word) (lines links : List ℕ) (points : List Word) (words : List ℕ) (records : List RingRecord) (answer : Result ℕ Refusal) : Type 0 where
  pub work-exact : WorkExact Err answer plan.fit (length lines) plan.open_need (length links) plan.link_need
  pub points-short-exactly : (WorkRoom plan.fit (length lines) plan.open_need (length links) plan.link_need × (length points < plan.point_need)) ↔ (answer ≡ Err PointsShort)
  pub directory-short-exactly : (WorkRoom plan.fit (length lines) plan.open_need (length links) plan.link_need × (plan.point_need ≤ length points) × Short (length words) (length records) plan.rings)
      ↔ (answer ≡ Err DirectoryShort)
  pub given-exactly : (WorkRoom plan.fit (length lines) plan.open_need (length links) plan.link_need × (plan.point_need ≤ length points) × ((directory_words plan.rings ≤ length words) × (plan.rings ≤ length records)))
      ↔ (answer ≡ Ok plan.rings)

-- tables that have just the room, and just as many records
pub record JustRecords {Word : Type 0} (plan : Plan Word) (lines links : List ℕ) (points : List Word) (words : List ℕ) (records : List RingRecord) : Type 0 where
  pub tables-just : JustRoom plan lines links points words
  pub records-just : length records ≡ plan.rings

module _ {Word : Type 0} {plan : Plan Word} {lines links : List ℕ} {points : List Word} {Form : List ℕ → Result ℕ Refusal → List ℕ → List ℕ → List Word → List ℕ → Type 0} (form : WordForm plan lines links points Form)
    (words : List ℕ) (records : List RingRecord) where
  abbrev lent : ℕ
  lent = lent_words (length words) (length records)

  abbrev pub Records : Result ℕ Refusal → List ℕ → List ℕ → List Word → List ℕ → List RingRecord → Type 0
  Records answer lines' links' points' words' records' = OverRecords (λ directory directory'. Form directory answer lines' links' points' directory') (rings_in answer) words words' records records'

  -- two results that meet the contract on the same entry are equal
  pub one-result : {p q : Result ℕ Refusal} {pl pk ql qk : List ℕ} {pp qp : List Word} {pw qw : List ℕ} {pr qr : List RingRecord} → Records p pl pk pp pw pr → Records q ql qk qp qw qr →
      (p ≡ q) × (pl ≡ ql) × (pk ≡ qk) × (pp ≡ qp) × (pw ≡ qw) × (pr ≡ qr)
  one-result {p} {q} {pw = pw} {qw = qw} a b =
      let same = form.one (take lent words) a.over-words.built b.over-words.built in
      let whole : pw ≡ qw = sym (take-append-drop lent pw) ∙ rw (same.4, a.over-words.rest) (rw (sym b.over-words.rest) (take-append-drop lent qw)) in
      (same.0, same.1, same.2, same.3, whole, a.records-are ∙ rw (whole, same.0) (sym b.records-are))

  module _ {answer : Result ℕ Refusal} {lines' links' : List ℕ} {points' : List Word} {words' : List ℕ} {records' : List RingRecord} (k : Records answer lines' links' points' words' records') where
    -- each refusal exactly
    pub records-exactly : RecordsExact plan lines links points words records answer
    records-exactly =
        let e = form.exactly (take lent words) k.over-words.built in
        let long = length-take-le lent words (lent_below (length words) (length records)) in
        let need = form.need in
        let short = short-exactly (length words) (length records) plan.rings in
        let enough = enough-exactly (length words) (length records) plan.rings in
        record {
          work-exact = e.work-exact;
          points-short-exactly = e.points-short-exactly;
          directory-short-exactly = Iff.trans (λ h. (h.0, h.1, rw (long, need) (short.0 h.2)), λ h. (h.0, h.1, short.1 (rw (long, need) at h.2))) e.directory-short-exactly;
          given-exactly = Iff.trans (λ h. (h.0, h.1, rw (long, need) (enough.0 h.2)), λ h. (h.0, h.1, enough.1 (rw (long, need) at h.2))) e.given-exactly;
        }

    -- lent just the room, a grid that fits gives all its rings, its points, words and records are the whole outputs, and both work tables are all zero
    pub records-exact-room : plan.fit ≡ Ok tt → JustRecords plan lines links points words records → Filled plan answer lines' links' points' words' × (records' ≡ records_from plan.records)
    unfolding written rings_in
    records-exact-room fits just =
        (filled, k.records-are ∙ ap (λ (l : List ℕ). records_from l ++ drop (length (records_from l)) records) all_words ∙ nothing-past (records_from plan.records) records (length (records_from plan.records)) just-records)
      where
        words_are : length words ≡ directory_words plan.rings
        words_are = just.tables-just.directory-just ∙ form.need

        all-lent : directory_words plan.rings ≤ lent
        all-lent = (enough-exactly (length words) (length records) plan.rings).0 (omega (arith, words_are), omega (arith, just.records-just))

        whole : (l : List ℕ) → length l ≡ length words → take lent l ≡ l
        whole l long = take_all lent l (omega (arith, long, words_are, all-lent))

        filled : Filled plan answer lines' links' points' words'
        filled = form.fills words fits just.tables-just (rw (whole words refl, whole words' k.over-words.as_long) at k.over-words.built)

        rings-are : rings_in answer ≡ plan.rings
        rings-are = ap rings_in filled.answer-is

        all_words : take (directory_words (rings_in answer)) words' ≡ plan.records
        all_words = take_all (directory_words (rings_in answer)) words' (omega (arith, k.over-words.as_long, words_are, ap directory_words rings-are)) ∙ filled.directory-is

        just-records : length records ≡ length (records_from plan.records)
        just-records = just.records-just ∙ sym rings-are ∙ sym (as_many k) ∙ ap (λ (l : List ℕ). length (records_from l)) all_words

-- ---- 4. the four builds have these laws

module _ (values : List Float) (level : Level) (dx dy : ℕ) where
  module _ (lines links points : List ℕ) where
    pub rings-form : WordForm (rings_plan values level dx dy) lines links points (λ directory answer lines' links' points' directory'. RingsBuilt values level dx dy lines links points directory answer lines' links' points' directory')
    rings-form = record {
      need = refl;
      one = λ directory. one-build values level dx dy lines links points directory;
      exactly = λ directory k. (rings-exactly values level dx dy lines links points directory k).1;
      fills = λ directory fits. exact-room values level dx dy lines links points directory fits;
    }

    pub contours-form : WordForm (contours_plan values level dx dy) lines links points (λ directory answer lines' links' points' directory'. ContoursBuilt values level dx dy lines links points directory answer lines' links' points' directory')
    contours-form = record {
      need = refl;
      one = λ directory. one-contours values level dx dy lines links points directory;
      exactly = λ directory k. (contours-exactly values level dx dy lines links points directory k).1;
      fills = λ directory fits. contours-exact-room values level dx dy lines links points directory fits;
    }

  module _ (smooth : Bool) (placing : Placing) (lines links : List ℕ) (points : List Float) where
    pub lines-form : WordForm (lines_plan values level dx dy smooth placing) lines links points (λ directory answer lines' links' points' directory'. LinesBuilt values level dx dy smooth placing lines links points directory answer lines' links' points' directory')
    lines-form = record {
      need = refl;
      one = λ directory. one-lines values level dx dy smooth placing lines links points directory;
      exactly = λ directory k. (lines-exactly values level dx dy smooth placing lines links points directory k).1;
      fills = λ directory fits. lines-exact-room values level dx dy smooth placing lines links points directory fits;
    }

module _ (values thresholds : List Float) (rule : Rule) (k dx dy : ℕ) (lines links points : List ℕ) where
  pub bands-form : WordForm (band_plan values thresholds rule k dx dy) lines links points (λ directory answer lines' links' points' directory'. BandBuilt values thresholds rule k dx dy lines links points directory answer lines' links' points' directory')
  unfolding band_directory_words
  bands-form = record {
    need = refl;
    one = λ directory. one-isobands values thresholds rule k dx dy lines links points directory;
    exactly = λ directory b. (isobands-exactly values thresholds rule k dx dy lines links points directory b).1;
    fills = λ directory fits just b. isobands-exact-room values thresholds rule k dx dy lines links points directory fits just b;
  }

-- ---- 5. the readers

module _ (rings : ℕ) (records : List RingRecord) (words : List ℕ) where
  -- where there is room, a reader's answers are the word form's at the words of the records
  pub words-with-room : directory_words rings ≤ length words → rings ≤ length records → words_from rings records words ≡ directory_of (take rings records)
  unfolding words_from
  words-with-room long many = rw (all-rings words records rings long many)

  -- where there is none, they are number 9, and the text stays
  module _ (short : Short (length words) (length records) rings) (ps : List ℕ) where
    -- none is copied, and there are rings
    nothing-there : (length (words_from rings records words) ≡ 0) × (0 < rings)
    unfolding words_from copied_rings room_for directory_of directory_from directory_words record_stride
    nothing-there = by short
      where
        by : Short (length words) (length records) rings → (length (words_from rings records words) ≡ 0) × (0 < rings)
        by (words-short h) = (rw (lt-ltb (length words) (6 * rings) h), omega arith)
        by (records-short h) = (rw (lt-ltb (length records) rings h, and-false), omega arith)

    pub no-room-is-refused : ring_set_refused ps (words_from rings records words) rings ≡ true
    unfolding ring_set_refused directory_short directory_words record_stride
    no-room-is-refused = rw (lt-ltb (length (words_from rings records words)) (6 * rings) (omega (arith, nothing-there.0, nothing-there.1)))

    pub no-length-without-room : length_answer ps (words_from rings records words) rings ≡ Err BadRingSet
    unfolding length_answer
    no-length-without-room = rw no-room-is-refused

    pub no-text-without-room : (text : List ℕ) → (written_answer ps (words_from rings records words) rings text ≡ Err BadRingSet) × (text_after ps (words_from rings records words) rings text ≡ text)
    unfolding written_answer text_after
    no-text-without-room text = (rw no-room-is-refused, rw no-room-is-refused)

-- What the loops of the copies have done after some turns, and that one turn more does one record more: the first records are those of the words, or the first
-- words are those of the records, and the others are as they were. Assumes nothing.
use mathlib.Core.Path.{◌≡◌, refl, sym, ap, ◌∙◌}
use mathlib.Core.Bool.{Bool, true, false, cond, not, ◌&&◌}
use mathlib.Core.List.{List, [], ◌∷◌, ◌++◌, append-nil, append_assoc}
use Prim.Native.Nat.{ℕ, suc, ◌+◌, ◌*◌, ◌≤◌, ◌<◌}
use native.Mathlib.Nat.{add-zero, zero-add}
use native.Mathlib.Numerals.{add-one}
use native.Mathlib.Omega.{arith}
use lib.Dec.{ltb, eqb}
use lib.IntN.{pos}
use lib.ListN.{length, get_or, set, take, drop, length-append, length-drop}
use lib.Seq.{drop-cons, set_at, take_at, sets, sets-eq, length-take-le, take-suc, take-add, drop-drop, drop-append-add}
use borrow.Author.Tests.{ltb-true, ltb-false, le-ltb, eq-eqb, ne_eqb}
use Rattle.scope.specs.Limits.{record_stride}
use Rattle.scope.specs.Area.{area_words}
use Rattle.scope.specs.Room.{directory_words}
use Rattle.scope.specs.Tables.{written}
use Rattle.scope.specs.GeoJson.{first_at, count_at, class_at, owner_at, area_low_at, area_high_at}
use Rattle.ringrecord.specs.declared.Fate.TheVariants.{Dropped}
use Rattle.ringrecord.specs.declared.RingRecord.{RingRecord}
use Rattle.ringrecord.specs.Records.{words_of, directory_from, directory_of, record_from, records_from, record_in}
use Rattle.ringrecord.specs.Copies.{room_for, copied_rings, records_after, words_from, words_after}
use Rattle.ringrecord.proofs.Laws.{as-many-words, as-many-records, records-append, KeptAt, first-words-come-back}

-- ---- how many are copied

-- all of them, for which there are words and records, or none, which is not all
data Copied (rings words records n : ℕ) : Type 0 where
  all-copied : room_for rings words records ≡ true → n ≡ rings → directory_words n ≤ words → n ≤ records → Copied rings words records n
  none-copied : room_for rings words records ≡ false → n ≡ 0 → 0 < rings → Copied rings words records n

copied : (rings words records : ℕ) → Copied rings words records (copied_rings rings words records)
unfolding copied_rings room_for directory_words record_stride
copied rings words records = by (ltb words (directory_words rings)) (ltb records rings) refl refl
  where
    by : (b c : Bool) → ltb words (directory_words rings) ≡ b → ltb records rings ≡ c → Copied rings words records (cond (not b && not c) rings 0)
    by true c e f = none-copied (rw e) refl (omega (arith, ltb-true words (directory_words rings) e))
    by false true e f = none-copied (rw (e, f)) refl (omega (arith, ltb-true records rings f))
    by false false e f = all-copied (rw (e, f)) refl (ltb-false words (directory_words rings) e) (ltb-false records rings f)

module _ (rings words records : ℕ) {n : ℕ} (all : n ≡ copied_rings rings words records) where
  -- there are words and records for them
  pub enough : (directory_words n ≤ words) × (n ≤ records)
  unfolding directory_words record_stride
  enough = rw all (by (copied rings words records))
    where
      by : {m : ℕ} → Copied rings words records m → (directory_words m ≤ words) × (m ≤ records)
      by (all-copied e f g h) = (g, h)
      by (none-copied e f g) = (omega arith, omega arith)

  -- they are the stated rings where there is room
  pub answered : eqb n rings ≡ room_for rings words records
  answered = rw all (by (copied rings words records))
    where
      by : {m : ℕ} → Copied rings words records m → eqb m rings ≡ room_for rings words records
      by {m} (all-copied e f g h) = eq-eqb m rings f ∙ sym e
      by {m} (none-copied e f g) = ne_eqb m rings (λ same. omega arith) ∙ sym e

pub fewer-records-fewer-words : (i n : ℕ) → i ≤ n → directory_words i ≤ directory_words n
unfolding directory_words record_stride
fewer-records-fewer-words i n h = omega arith

-- ---- from words to records

-- six words are a record
one-record : (first count class owner low high : ℕ) → records_from (first ∷ count ∷ class ∷ owner ∷ low ∷ high ∷ []) ≡ record_from first count class owner low high ∷ []
unfolding records_from
one-record first count class owner low high = refl

-- two words from a word on
two-there : (words : List ℕ) (at : ℕ) → at + 2 ≤ length words → drop at words ≡ get_or words at 0 ∷ get_or words (at + 1) 0 ∷ drop (at + 2) words
two-there words at h =
    let second : at + 1 ≡ suc at = omega arith in
    let behind : at + 2 ≡ suc (suc at) = omega arith in
    drop-cons words at 0 (omega arith) ∙ rw (drop-cons words (suc at) 0 (omega arith), second, behind)

-- the six words from a word on
six-there : (words : List ℕ) (at : ℕ) → at + 6 ≤ length words →
    drop at words
    ≡ get_or words at 0 ∷ get_or words (at + 1) 0 ∷ get_or words (at + 2) 0 ∷ get_or words (at + 3) 0 ∷ get_or words (at + 4) 0 ∷ get_or words (at + 5) 0 ∷ drop (at + 6) words
six-there words at h =
    let fourth : at + 3 ≡ at + 2 + 1 = omega arith in
    let fifth : at + 4 ≡ at + 2 + 2 = omega arith in
    let sixth : at + 5 ≡ at + 2 + 2 + 1 = omega arith in
    let behind : at + 6 ≡ at + 2 + 2 + 2 = omega arith in
    two-there words at (omega arith) ∙ rw (two-there words (at + 2) (omega arith), two-there words (at + 2 + 2) (omega arith), fourth, fifth, sixth, behind)

module _ (words : List ℕ) where
  -- the records after i turns
  unfoldable pub records_to : ℕ → List RingRecord → List RingRecord
  records_to i records = records_from (take (directory_words i) words) ++ drop i records

  pub no-records : (records : List RingRecord) → records_to 0 records ≡ records
  unfolding records_to directory_words record_stride records_from
  no-records records = refl

  module _ (i : ℕ) (there : directory_words i ≤ length words) where
    many : length (records_from (take (directory_words i) words)) ≡ i
    many = as-many-records i (take (directory_words i) words) (length-take-le (directory_words i) words there)

    pub all-records : (records : List RingRecord) → records_to i records ≡ written (records_from (take (directory_words i) words)) records
    unfolding records_to written
    all-records records = rw many

    pub records-length : (records : List RingRecord) → i ≤ length records → length (records_to i records) ≡ length records
    unfolding records_to
    records-length records h = rw (length-append, many, length-drop) (omega arith)

  module _ (i : ℕ) (there : directory_words (i + 1) ≤ length words) where
    fewer : directory_words i ≤ length words
    unfolding directory_words record_stride
    fewer = omega arith

    -- six words more are a record more
    one_more : records_from (take (directory_words (i + 1)) words) ≡ records_from (take (directory_words i) words) ++ (record_in words i ∷ [])
    unfolding record_in first_at count_at class_at owner_at area_low_at area_high_at directory_words record_stride
    one_more =
        let more : 6 * (i + 1) ≡ 6 * i + 6 = omega arith in
        rw (more, take-add (6 * i) 6 words, records-append i (take (6 * i) words) (take 6 (drop (6 * i) words)) (length-take-le (6 * i) words (omega arith)), six-there words (6 * i) (omega arith), one-record)

    pub next-record : (records : List RingRecord) → i < length records → set (records_to i records) i (record_in words i) ≡ records_to (i + 1) records
    unfolding records_to
    next-record records h =
        let here = many i fewer in
        rw (drop-cons records i (record_in words i) h, set_at (records_from (take (directory_words i) words)) (get_or records i (record_in words i)) (drop (suc i) records) (record_in words i) i here, one_more) (rw (add-one, append_assoc))

-- ---- from records to words

-- the words of records in front are in front
directory-append : (k : ℕ) (rs ss : List RingRecord) → directory_from k (rs ++ ss) ≡ directory_from k rs ++ directory_from (k + length rs) ss
unfolding directory_from
directory-append k [] ss = rw add-zero
directory-append k (r ∷ rs) ss =
    let e : k + suc (length rs) ≡ suc k + length rs = omega arith in
    rw (directory-append (suc k) rs ss, e, append_assoc)

six-words : (k : ℕ) (r : RingRecord) → length (words_of k r) ≡ 6
unfolding words_of area_words
six-words k r = refl

-- past the end, a dropped hole of no points
abbrev pub nowhere : RingRecord
nowhere = record { first = 0; count = 0; fate = Dropped; area = pos 0 }

module _ (records : List RingRecord) where
  -- the words after i turns
  unfoldable pub words_to : ℕ → List ℕ → List ℕ
  words_to i words = directory_of (take i records) ++ drop (directory_words i) words

  pub no_words : (words : List ℕ) → words_to 0 words ≡ words
  unfolding words_to directory_words record_stride directory_of directory_from
  no_words words = refl

  module _ (i : ℕ) (there : i ≤ length records) where
    pub front_length : length (directory_of (take i records)) ≡ directory_words i
    unfolding directory_of
    front_length = as-many-words 0 (take i records) ∙ ap directory_words (length-take-le i records there)

    pub all_words : (words : List ℕ) → words_to i words ≡ written (directory_of (take i records)) words
    unfolding words_to written
    all_words words = rw front_length

    pub words-length : (words : List ℕ) → directory_words i ≤ length words → length (words_to i words) ≡ length words
    unfolding words_to
    words-length words h = rw (length-append, front_length, length-drop) (omega arith)

  module _ (i : ℕ) (there : i < length records) where
    one-more-words : directory_of (take (i + 1) records) ≡ directory_of (take i records) ++ words_of i (get_or records i nowhere)
    unfolding directory_of directory_from
    one-more-words =
        rw (add-one, take-suc records i nowhere there, directory-append 0 (take i records) (get_or records i nowhere ∷ []), zero-add, length-take-le i records (omega (arith, there)), append-nil)

    pub next-words : (words : List ℕ) → directory_words (i + 1) ≤ length words → sets (words_to i words) (directory_words i) (words_of i (get_or records i nowhere)) ≡ words_to (i + 1) words
    unfolding words_to directory_words record_stride
    next-words words h =
        sets-eq (words_of i (get_or records i nowhere)) (directory_of (take i records) ++ drop (6 * i) words) (6 * i) long
        ∙ rw (take_at (directory_of (take i records)) (drop (6 * i) words) (6 * i) front, behind, one-more-words, append_assoc)
      where
        front : length (directory_of (take i records)) ≡ 6 * i
        front = front_length i (omega (arith, there))

        long : 6 * i + length (words_of i (get_or records i nowhere)) ≤ length (directory_of (take i records) ++ drop (6 * i) words)
        long = rw (length-append, front, six-words, length-drop) (omega arith)

        behind : drop (6 * i + length (words_of i (get_or records i nowhere))) (directory_of (take i records) ++ drop (6 * i) words) ≡ drop (6 * (i + 1)) words
        behind =
            let e : 6 * (i + 1) ≡ 6 * i + 6 = omega arith in
            rw (six-words, e) (rw front at (drop-append-add (directory_of (take i records)) (drop (6 * i) words) 6) ∙ drop-drop 6 (6 * i) words)

-- ---- where the loops have gone n turns

module _ (words : List ℕ) (records : List RingRecord) (rings : ℕ) {n : ℕ} where
  pub records-copied : n ≡ copied_rings rings (length words) (length records) → records_to words n records ≡ records_after rings words records
  unfolding records_after
  records-copied all = all-records words n (enough rings (length words) (length records) all).0 records ∙ rw all

  pub words_copied : n ≡ copied_rings rings (length words) (length records) → words_to records n words ≡ words_after rings records words
  unfolding words_after words_from
  words_copied all = all_words records n (enough rings (length words) (length records) all).1 words ∙ rw all

-- a copy leaves as many words and records as there were
module _ (words : List ℕ) (records : List RingRecord) (rings : ℕ) where
  copied-enough : (directory_words (copied_rings rings (length words) (length records)) ≤ length words) × (copied_rings rings (length words) (length records) ≤ length records)
  copied-enough = enough rings (length words) (length records) refl

  pub records-after-length : length (records_after rings words records) ≡ length records
  records-after-length = ap length (sym (records-copied words records rings refl)) ∙ records-length words _ copied-enough.0 records copied-enough.1

  pub words-after-length : length (words_after rings records words) ≡ length words
  words-after-length = ap length (sym (words_copied words records rings refl)) ∙ words-length records _ copied-enough.1 words copied-enough.0

-- ---- where there is room

module _ (words : List ℕ) (records : List RingRecord) (rings : ℕ) (long : directory_words rings ≤ length words) (many-there : rings ≤ length records) where
  pub all-rings : copied_rings rings (length words) (length records) ≡ rings
  unfolding copied_rings room_for
  all-rings = rw (le-ltb (length words) (directory_words rings) long, le-ltb (length records) rings many-there)

  -- the first records are those of the words, and the first words those of the records
  pub first-records-copied : take rings (records_after rings words records) ≡ records_from (take (directory_words rings) words)
  unfolding records_after written
  first-records-copied = rw all-rings (take_at (records_from (take (directory_words rings) words)) _ rings (many words rings long))

  pub first-words-copied : take (directory_words rings) (words_after rings records words) ≡ directory_of (take rings records)
  unfolding words_after words_from written
  first-words-copied = rw all-rings (take_at (directory_of (take rings records)) _ (directory_words rings) (front_length records rings many-there))

-- words that are copied out into records, and from there into other words, come back
pub words-copied-out-and-in : (words words' : List ℕ) (records : List RingRecord) (rings : ℕ) → directory_words rings ≤ length words → directory_words rings ≤ length words' → rings ≤ length records →
    ((i : ℕ) → i < rings → KeptAt i words i) →
    take (directory_words rings) (words_after rings (records_after rings words records) words') ≡ take (directory_words rings) words
words-copied-out-and-in words words' records rings long long' enough-there kept =
    first-words-copied words' (records_after rings words records) rings long' (rw (records-after-length words records rings) enough-there)
    ∙ ap directory_of (first-records-copied words records rings long enough-there) ∙ first-words-come-back words rings long kept

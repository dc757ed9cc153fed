-- What a build leaves that was lent a front of the directory words, and that the rings which it gives have words there: the word form refuses with number 8 where
-- they have not. By cases on the verdicts. Assumes nothing.
use mathlib.Core.Path.{◌≡◌, refl, sym, ◌∙◌}
use mathlib.Core.Bool.{Bool, true, false, cond}
use mathlib.Core.List.{List, ◌++◌}
use Prim.Native.Nat.{ℕ, ◌+◌, ◌*◌, ◌≤◌}
use native.Mathlib.Omega.{arith}
use lib.Dec.{ltb}
use lib.ListN.{length, take, drop, length-append}
use lib.Seq.{length-take-le, length_front, take_at, drop_at}
use borrow.Author.Tests.{ltb-false}
use Rattle.error.specs.declared.Refusal.TheVariants.{PointsShort, DirectoryShort}
use Rattle.scope.specs.Limits.{record_stride}
use Rattle.scope.specs.Terrain.{Sheet}
use Rattle.scope.specs.Room.{directory_words, point_words, band_point_words, band_directory_words}
use Rattle.scope.specs.Tables.{written}
use Rattle.scope.specs.Drawing.{segment_count, ring_count}
use Rattle.isoringbuilder.specs.Verdict.{Verdict, refused, passes, room_verdict, output_verdict}
use Rattle.isoringbuilder.specs.Answers.{built}
use Rattle.bands.specs.Bands.{band_room, band_outputs, band_built}
use Rattle.ringrecord.specs.declared.RingRecord.{RingRecord}
use Rattle.ringrecord.specs.Copies.{room_for, copied_rings, records_after, words_from, words_after}
use Rattle.ringrecord.proofs.Copied.{enough, front_length, all-rings}
use Rattle.records.specs.Over.{rings_in, lent_words, read_words, OverWords, OverRecords}
use Rattle.std.specs.Prelude.{Result}
use Rattle.error.specs.declared.Refusal.{Refusal}

-- no more words are lent than there are, and than so many records have
pub lent_below : (words records : ℕ) → lent_words words records ≤ words
unfolding lent_words
lent_below words records = omega arith

pub lent-by-records : (words records : ℕ) → lent_words words records ≤ directory_words records
unfolding lent_words
lent-by-records words records = omega arith

-- the words lent are there, and as many as are taken
pub lent_fits : {lent : ℕ} (words room : ℕ) → lent ≡ lent_words words room → lent ≤ words
lent_fits words room is = rw is (lent_below words room)

pub lent_length : {lent : ℕ} (words : List ℕ) (room : ℕ) → lent ≡ lent_words (length words) room → lent ≡ length (take lent words)
lent_length {lent} words room is = sym (length-take-le lent words (lent_fits (length words) room is))

-- a build over the first words, whose part is put back in front of the others
pub over-words : (Words : List ℕ → List ℕ → Type 0) {n lent room : ℕ} (words part : List ℕ) → lent ≡ lent_words (length words) room → length part ≡ length (take lent words)
    → Words (take lent words) part → directory_words n ≤ length (take lent words) → OverWords Words n room words (part ++ drop lent words)
over-words Words {n} {lent} {room} words part is long built fit = record {
  built = rw (sym is, take_at part (drop lent words) lent part-long) built;
  rings-fit = rw (sym is) (omega (arith, fit, lent_is));
  rest = rw (sym is) (drop_at part (drop lent words) lent part-long);
  as_long = length_front words part lent long;
}
  where
    lent_is : length (take lent words) ≡ lent
    lent_is = sym (lent_length words room is)

    part-long : length part ≡ lent
    part-long = long ∙ lent_is

-- with the records of the rings copied out of the words
pub over-records : (Words : List ℕ → List ℕ → Type 0) {n m room : ℕ} {words words' : List ℕ} {records records' : List RingRecord} → OverWords Words n room words words' → room ≡ length records
    → m ≡ n → records' ≡ records_after m words' records → OverRecords Words n words words' records records'
unfolding records_after directory_words record_stride
over-records Words {n} {m} {room} {words} {words'} {records} over as_many same is = record {
  over-words = rw (sym as_many) over;
  records-are = is ∙ rw (same, all-copied);
}
  where
    all-copied : copied_rings n (length words') (length records) ≡ n
    all-copied =
        all-rings words' records n
        (omega (arith, over.rings-fit, lent_below (length words) room, over.as_long))
        (omega (arith, over.rings-fit, lent-by-records (length words) room, as_many))

-- ---- the rings that are given have words

-- of contour_rings, contour_lines and contours
pub rings-fit : (v : Verdict) (A : Sheet) (dx dy points directory : ℕ) {answer : Result ℕ Refusal} → answer ≡ built v (output_verdict A dx dy points directory) A dx dy → directory_words (rings_in answer) ≤ directory
unfolding built output_verdict room_verdict rings_in directory_words record_stride
rings-fit v A dx dy points directory is = rw is (by v (ltb points (point_words (segment_count A dx dy) (ring_count A dx dy))) (ltb directory (6 * ring_count A dx dy)) refl)
  where
    by : (v : Verdict) (b c : Bool) → ltb directory (6 * ring_count A dx dy) ≡ c →
        6 * rings_in (built v (cond b (refused PointsShort) (cond c (refused DirectoryShort) passes)) A dx dy) ≤ directory
    by (refused why) b c e = omega arith
    by passes true c e = omega arith
    by passes false true e = omega arith
    by passes false false e = ltb-false directory (6 * ring_count A dx dy) e

-- of isobands
pub band-rings-fit : (v : Verdict) (L U : Sheet) (dx dy points directory : ℕ) {answer : Result ℕ Refusal} → answer ≡ band_built v (band_outputs L U dx dy points directory) L U dx dy → directory_words (rings_in answer) ≤ directory
unfolding band_built band_outputs band_room band_directory_words rings_in directory_words record_stride
band-rings-fit v L U dx dy points directory is =
    rw is (by v (ltb points (band_point_words (segment_count L dx dy) (ring_count L dx dy) (segment_count U dx dy) (ring_count U dx dy))) (ltb directory (6 * (ring_count L dx dy + ring_count U dx dy))) refl)
  where
    by : (v : Verdict) (b c : Bool) → ltb directory (6 * (ring_count L dx dy + ring_count U dx dy)) ≡ c →
        6 * rings_in (band_built v (cond b (refused PointsShort) (cond c (refused DirectoryShort) passes)) L U dx dy) ≤ directory
    by (refused why) b c e = omega arith
    by passes true c e = omega arith
    by passes false true e = omega arith
    by passes false false e = ltb-false directory (6 * (ring_count L dx dy + ring_count U dx dy)) e

-- ---- the words that a reader is lent

module _ (rings : ℕ) (records : List RingRecord) (words : List ℕ) {copied : Bool} (is : copied ≡ room_for rings (length words) (length records)) {words' : List ℕ} (are : words' ≡ words_after rings records words) where
  as_long : length (words_from rings records words) ≡ read_words rings copied
  unfolding words_from read_words copied_rings
  as_long = front_length records (copied_rings rings (length words) (length records)) (enough rings (length words) (length records) refl).1 ∙ rw is

  -- they are those that were copied
  pub read-words : take (read_words rings copied) words' ≡ words_from rings records words
  unfolding words_after written
  read-words = rw are (take_at (words_from rings records words) _ (read_words rings copied) as_long)

  pub read-words-fit : read_words rings copied ≤ length words'
  unfolding words_after written
  read-words-fit = rw (are, length-append, sym as_long) (omega arith)

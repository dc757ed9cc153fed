-- The records of an order by number: record k has the words of its ring and its fate, and the ring that a reader finds at it, among the packed points, is that
-- ring. Assumes nothing.
use mathlib.Core.Path.{◌≡◌, refl}
use mathlib.Core.List.{List, [], ◌∷◌, ◌++◌}
use Prim.Native.Nat.{ℕ, zero, suc, ◌+◌, ◌*◌, ◌≤◌, ◌<◌}
use native.Mathlib.Nat.{le_of_suc-le-suc, not-suc-le-zero, suc_inj, add-zero, zero-add}
use native.Mathlib.Omega.{arith}
use lib.ListN.{length, get_or}
use Rattle.scope.specs.Limits.{record_stride}
use Rattle.scope.specs.Stitching.{Line}
use Rattle.scope.specs.Area.{area, low_word, high_word, area_words}
use Rattle.scope.specs.Contour.{Fate, line, class_word, owner_word}
use Rattle.scope.specs.Band.{Numbered}
use Rattle.scope.specs.Tables.{ring_words, packed_points, first_point, short_of, record_of, ordered_by, ordered_records}
use Rattle.scope.specs.GeoJson.{first_at, count_at, class_at, owner_at, area_low_at, area_high_at, words_in, ring_words_at, ring_at}
use Rattle.readable.proofs.Behind.{Behind, at_front, further, within, taken, word}
use Rattle.readable.proofs.Packed.{words-length, points-of-words, ring-stands}
use Rattle.readable.proofs.Orders.{nobody, Among}

module _ (all : List Line) where
  pub records-length : (k : ℕ) (order : List Numbered) (fates : List Fate) → length fates ≡ length order → length (ordered_records all k order fates) ≡ record_stride * length order
  unfolding ordered_by record_of short_of area_words record_stride
  records-length k [] fates e = refl
  records-length k (m ∷ ms) [] e = absurd (omega arith)
  records-length k (m ∷ ms) (fate ∷ fates) e = omega (arith, records-length (suc k) ms fates (suc_inj e))

  -- the record of number k, of a ring of an order
  abbrev record_in : ℕ → Numbered → Fate → List ℕ
  record_in k m fate = record_of k (first_point all m.number) m.ring fate

  -- record r of those that are numbered from k
  record-stands : (k : ℕ) (order : List Numbered) (fates : List Fate) → length fates ≡ length order → (past : List ℕ) (r : ℕ) → r < length order
      → Behind (record_stride * r) (record_in (k + r) (get_or order r nobody) (get_or fates r line)) (ordered_records all k order fates ++ past)
  unfolding ordered_by record_of short_of area_words record_stride
  record-stands k [] fates e past r h = absurd (not-suc-le-zero h)
  record-stands k (m ∷ ms) [] e past r h = absurd (omega arith)
  record-stands k (m ∷ ms) (fate ∷ fates) e past zero h = rw add-zero (at_front (record_in k m fate) (ordered_records all (suc k) ms fates ++ past))
  record-stands k (m ∷ ms) (fate ∷ fates) e past (suc r) h =
      let one : k + suc r ≡ suc k + r = omega arith in
      let six : 6 * suc r ≡ 6 + 6 * r = omega arith in
      rw (one, six) (further (record_in k m fate) (record-stands (suc k) ms fates (suc_inj e) past r (le_of_suc-le-suc h)))

  -- record k of a directory has the words of a ring of these and of its fate
  pub record Recorded (directory : List ℕ) (k : ℕ) (m : Numbered) (fate : Fate) : Type 0 where
    pub first-is : first_at directory k ≡ first_point all m.number
    pub count-is : count_at directory k ≡ length m.ring
    pub class-is : class_at directory k ≡ class_word fate
    pub owner-is : owner_at directory k ≡ owner_word k fate
    pub area-low-is : area_low_at directory k ≡ low_word (area m.ring)
    pub area-high-is : area_high_at directory k ≡ high_word (area m.ring)

  words-recorded : {directory : List ℕ} {k : ℕ} {m : Numbered} {fate : Fate} → Behind (record_stride * k) (record_in k m fate) directory → Recorded directory k m fate
  unfolding first_at count_at class_at owner_at area_low_at area_high_at record_of short_of area_words
  words-recorded b = record {
    first-is = rw add-zero at (word b 0 (omega arith));
    count-is = word b 1 (omega arith);
    class-is = word b 2 (omega arith);
    owner-is = word b 3 (omega arith);
    area-low-is = word b 4 (omega arith);
    area-high-is = word b 5 (omega arith);
  }

  -- the records of an order, with as many fates and any further words behind
  pub recorded : (order : List Numbered) (fates : List Fate) → length fates ≡ length order → (past : List ℕ) (k : ℕ) → k < length order
      → Recorded (ordered_records all 0 order fates ++ past) k (get_or order k nobody) (get_or fates k line)
  recorded order fates e past k h = words-recorded (rw zero-add at (record-stands 0 order fates e past k h))

-- what a reader finds at a record, among packed points and any further words behind
module _ {all : List Line} {directory : List ℕ} {k : ℕ} {m : Numbered} {fate : Fate} (r : Recorded all directory k m fate) (among : Among all m) (past : List ℕ) where
  stands : Behind (2 * first_point all m.number) (ring_words m.ring) (packed_points all ++ past)
  stands = rw among.ring-is at (ring-stands all past m.number among.number-within)

  pub range-within : 2 * (first_at directory k + count_at directory k) ≤ length (packed_points all ++ past)
  range-within = omega (arith, r.first-is, r.count-is, within stands, words-length m.ring)

  pub words_are : ring_words_at (packed_points all ++ past) directory k ≡ ring_words m.ring
  unfolding ring_words_at words_in
  words_are = rw (r.first-is, r.count-is) (taken stands (2 * length m.ring) (words-length m.ring))

  pub ring-found : ring_at (packed_points all ++ past) directory k ≡ m.ring
  unfolding ring_at
  ring-found = rw (words_are, points-of-words m.ring)

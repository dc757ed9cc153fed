-- From directories that are arranged by an order, whose classes and then owners were found, to the records of document 01: one law for any order and any
-- classes, by the four words of each record; and a contour and a band by it. A band's order comes of two sortings. Assumes nothing.
use mathlib.Core.Path.{◌≡◌, refl, sym, ◌∙◌, ap, subst}
use mathlib.Core.Bool.{Bool, true, false, cond}
use mathlib.Core.List.{List, [], ◌∷◌}
use Prim.Native.Nat.{ℕ, zero, suc, ◌+◌, ◌*◌, ◌/◌, ◌%◌, ◌≤◌, ◌<◌}
use native.Mathlib.Omega.{arith}
use lib.Dec.{eqb}
use lib.ListN.{length, get_or}
use Rattle.scope.specs.Stitching.{Line}
use Rattle.scope.specs.Contour.{Fate, line, class_word, owner_word, owner_from, fates_by, contour_classes, contour_fates}
use Rattle.scope.specs.Band.{Numbered, numbered_from, sort_key, sorted, order_rings, classes_from, band_fates}
use Rattle.scope.specs.Tables.{first_point, short_of, ordered_by, written}
use Rattle.sorting.specs.Entries.{Entry}
use Rattle.sorting.proofs.TwoPasses.{sort_by, sorted-is-by, two-passes}
use Rattle.extents.specs.Records.{record_first, record_count, record_class, record_number, record_classes}
use Rattle.noting.specs.Noted.{start_of, counted_ring, note_of, Noted, HighNoted}
use Rattle.owners.specs.Owned.{Classed, class_in, Owned, owner_in}
use Rattle.regions.specs.Regions.{counted_rings, sorted_first, contour_by}
use Rattle.regions.proofs.Listing.{listed, listed-is}
use Rattle.regions.proofs.Orders.{nobody, Among, among-at, ring-length, first-at, rings-numbered, rings-counted}
use Rattle.regions.proofs.Entries.{Holds, words-written}
use Rattle.regions.proofs.Arranged.{Arranged, rings-as-many, ring-in-order, record-ring, record-rings, noted-arranged, noted-notes, sorted-arranged, high-alone, classed-alone, still-arranged, high-notes}
use Rattle.regions.proofs.Fates.{fate_of, fate-class, fate-owner, fates-as-many, fate-at, contour-classes-as-many, contour-class-at, band-classes-as-many, band-class-at, record_entry, record_entries, records-as-words, records-as-many, record-at}

classes-listed : (directory : List ℕ) (k n : ℕ) → record_classes directory k n ≡ listed (λ r. eqb (record_class directory r) 0) k n
unfolding record_classes listed
classes-listed directory k zero = refl
classes-listed directory k (suc n) = ap (λ (bs : List Bool). eqb (record_class directory k) 0 ∷ bs) (classes-listed directory (suc k) n)

-- a class as a word and back
class-test : (b : Bool) → eqb (cond b 0 1) 0 ≡ b
class-test true = refl
class-test false = refl

module _ {points start : List ℕ} {n : ℕ} {order : List Numbered} {directory directory' : List ℕ}
    (a : Arranged points start n order directory) (classes : List Bool) (many : length classes ≡ n)
    (classed : (r : ℕ) → r < n → record_class directory r ≡ cond (get_or classes r false) 0 1) (owned : Owned points directory directory' n) where
  rings : List Line
  rings = order_rings order

  all : List Line
  all = counted_rings points start 0 n

  fates : List Fate
  fates = fates_by classes rings classes rings

  class-read : (r : ℕ) → r < n → eqb (record_class directory r) 0 ≡ get_or classes r false
  class-read r h = ap (λ (k : ℕ). eqb k 0) (classed r h) ∙ class-test (get_or classes r false)

  classes-are : record_classes directory 0 n ≡ classes
  classes-are = classes-listed directory 0 n ∙ listed-is (λ r. eqb (record_class directory r) 0) n classes false many class-read

  rings-many : length rings ≡ n
  unfolding rings
  rings-many = rings-as-many order ∙ a.order-of.as_many

  fates-many : length fates ≡ length order
  unfolding fates rings
  fates-many = fates-as-many classes rings classes rings (many ∙ sym rings-many) ∙ rings-as-many order

  fate-is : (r : ℕ) → r < n → get_or fates r line ≡ fate_of classes rings (get_or classes r false) (get_or rings r [])
  unfolding fates
  fate-is r h = fate-at classes rings classes rings (many ∙ sym rings-many) r (subst (λ (k : ℕ). r < k) (sym rings-many) h)

  count-of-ring : (m : Numbered) → Among points start n m → record_count start m.number ≡ length m.ring
  unfolding counted_ring
  count-of-ring m i = sym (ap length i.ring-counted ∙ ring-length points (start_of start m.number) (record_count start m.number))

  -- the four words of a record
  module _ (r : ℕ) (h : r < n) where
    first-is : record_first directory' r ≡ first_point all (get_or order r nobody).number
    unfolding record_first all
    first-is =
        owned.rest-stays (4 * r) (λ e. absurd (omega arith))
        ∙ a.firsts r h
        ∙ sym (first-at points start n (get_or order r nobody).number (omega (arith, (among-at points start n order a.order-of r h).number-within)))

    count-is : record_count directory' r ≡ length (get_or order r nobody).ring
    unfolding record_count
    count-is = owned.rest-stays (4 * r + 1) (λ e. absurd (omega arith)) ∙ a.counts r h ∙ count-of-ring (get_or order r nobody) (among-at points start n order a.order-of r h)

    class-is : record_class directory' r ≡ class_word (get_or fates r line)
    unfolding record_class
    class-is =
        owned.rest-stays (4 * r + 2) (λ e. absurd (omega arith))
        ∙ classed r h
        ∙ sym (ap class_word (fate-is r h) ∙ fate-class classes rings (get_or classes r false) (get_or rings r []))

    -- the owner by the table is the owner by the lists
    owner-by-lists : owner_in points directory n r ≡ cond (get_or classes r false) r (owner_word r (owner_from 0 classes rings (get_or rings r [])))
    unfolding owner_in rings
    owner-by-lists =
        rw (class-read r h, classes-are, record-rings a, record-ring a r h, ← ring-in-order order r)

    owner-is : record_number directory' r ≡ owner_word r (get_or fates r line)
    unfolding record_number
    owner-is =
        owned.owner-is r h
        ∙ owner-by-lists
        ∙ sym (ap (owner_word r) (fate-is r h) ∙ fate-owner classes rings r (get_or classes r false) (get_or rings r []))

  past-entry : Entry
  past-entry = record_entry all 0 nobody line

  records-many : length (record_entries all 0 order fates) ≡ n
  records-many = records-as-many all 0 order fates fates-many ∙ a.order-of.as_many

  held : (r : ℕ) → r < length (record_entries all 0 order fates) → Holds directory' r (get_or (record_entries all 0 order fates) r past-entry)
  held r h =
      let within : r < n = subst (λ (k : ℕ). r < k) records-many h in
      rw (record-at all order fates fates-many r past-entry (subst (λ (k : ℕ). r < k) (sym a.order-of.as_many) within)) (record {
        first_word = first-is r within;
        count_word = count-is r within;
        class-word = class-is r within;
        number_word = owner-is r within;
      })

  -- the directory once owners are found
  pub records-written : directory' ≡ written (ordered_by short_of (counted_rings points start 0 n) 0 order (fates_by classes (order_rings order) classes (order_rings order))) start
  unfolding all fates rings
  records-written =
      let room : 4 * length (record_entries all 0 order fates) ≤ length directory' = omega (arith, records-many, a.as_long, a.records-there, owned.as_long) in
      let rest : (i : ℕ) → 4 * length (record_entries all 0 order fates) ≤ i → get_or directory' i 0 ≡ get_or start i 0 =
      λ i h. owned.rest-stays i (λ e. omega (arith, records-many)) ∙ a.rest-stays i (omega (arith, records-many)) in
      words-written (record_entries all 0 order fates) past-entry directory' room held start (owned.as_long ∙ a.as_long) rest
      ∙ ap (λ (ws : List ℕ). written ws start) (sym (records-as-words all 0 order fates))

-- a contour: the order by number, and classes by area
module _ {points start noted : List ℕ} {n : ℕ} (there : 4 * n ≤ length start) (n₁ : Noted points start noted n (note_of false)) where
  counted-ring : (r : ℕ) → (get_or (numbered_from 0 (counted_rings points start 0 n)) r nobody).ring ≡ get_or (counted_rings points start 0 n) r []
  counted-ring r = rw (rings-numbered 0 (counted_rings points start 0 n)) at (sym (ring-in-order (numbered_from 0 (counted_rings points start 0 n)) r))

  contour-class : (r : ℕ) → r < n → record_class noted r ≡ cond (get_or (contour_classes (counted_rings points start 0 n)) r false) 0 1
  unfolding note_of
  contour-class r h =
      let within : r < length (counted_rings points start 0 n) = subst (λ (k : ℕ). r < k) (sym (rings-counted points start 0 n)) h in
      noted-notes there n₁ r h ∙ rw (counted-ring r, contour-class-at (counted_rings points start 0 n) r within)

  pub contour-written : {owned : List ℕ} → Owned points noted owned n → owned ≡ written (contour_by short_of (counted_rings points start 0 n)) start
  unfolding contour_by contour_fates
  contour-written n₂ =
      let as_many = contour-classes-as-many (counted_rings points start 0 n) ∙ rings-counted points start 0 n in
      rw (rings-numbered 0 (counted_rings points start 0 n)) at
      (records-written (noted-arranged there n₁) (contour_classes (counted_rings points start 0 n)) as_many contour-class n₂)

-- a band: any order, and classes by how many other rings take a ring
module _ {points start : List ℕ} {n : ℕ} {order : List Numbered} {filed classed : List ℕ}
    (a : Arranged points start n order filed) (n₁ : Classed points filed classed n) where
  band-class : (r : ℕ) → r < n → record_class classed r ≡ cond (get_or (classes_from 0 (order_rings order) (order_rings order)) r false) 0 1
  unfolding record_class class_in
  band-class r h =
      n₁.class-is r h
      ∙ rw (
        record-rings a,
        record-ring a r h,
        ← ring-in-order order r,
        ← band-class-at (order_rings order) (order_rings order) r (subst (λ (k : ℕ). r < k) (sym (rings-as-many order ∙ a.order-of.as_many)) h),
      )

  pub band-written : {owned : List ℕ} → Owned points classed owned n → owned ≡ written (ordered_by short_of (counted_rings points start 0 n) 0 order (band_fates (order_rings order))) start
  unfolding band_fates
  band-written n₂ =
      records-written
      (still-arranged (classed-alone n₁) a)
      (classes_from 0 (order_rings order) (order_rings order))
      (band-classes-as-many (order_rings order) 0 (order_rings order) ∙ rings-as-many order ∙ a.order-of.as_many)
      band-class
      n₂

-- the two parts of an element's key
abbrev pub low_key : Numbered → ℕ
low_key m = sort_key m.ring % 4294967296

abbrev high_key : Numbered → ℕ
high_key m = sort_key m.ring / 4294967296

module _ {points start noted low : List ℕ} {n : ℕ}
    (there : 4 * n ≤ length start) (n₁ : Noted points start noted n (note_of true)) (n₂ : low ≡ sorted_first noted n) where
  -- noted and sorted, the records are by the low parts
  pub low-arranged : Arranged points start n (sort_by low_key (numbered_from 0 (counted_rings points start 0 n))) low
  unfolding note_of
  low-arranged = rw n₂ (sorted-arranged low_key (noted-arranged there n₁) (noted-notes there n₁))

  -- and with the high parts noted, and sorted again, by the whole keys
  pub band-arranged : {high directory : List ℕ} → HighNoted points low high n → directory ≡ sorted_first high n
      → Arranged points start n (sorted (numbered_from 0 (counted_rings points start 0 n))) directory
  band-arranged n₃ n₄ =
      rw (
        n₄,
        sorted-is-by (numbered_from 0 (counted_rings points start 0 n)),
        ← two-passes (λ m. sort_key m.ring) (numbered_from 0 (counted_rings points start 0 n)),
      )
      (sorted-arranged high_key (still-arranged (high-alone n₃) low-arranged) (high-notes low-arranged n₃))

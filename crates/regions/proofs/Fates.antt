-- Fates by place, and the records of an order by place: a ring's fate is by its own class and its own search, and its record holds its first point, its
-- count and the two words of its fate. By induction over the rings. Assumes nothing.
use mathlib.Core.Path.{◌≡◌, refl, sym, ◌∙◌, ap}
use mathlib.Core.Bool.{Bool, true, false, cond, ◌&&◌}
use mathlib.Core.List.{List, [], ◌∷◌, ◌++◌}
use Prim.Native.Nat.{ℕ, zero, suc, ◌+◌, ◌%◌, ◌<◌}
use native.Mathlib.Nat.{le_of_suc-le-suc, not-suc-le-zero, suc_inj, add-zero, zero-add}
use native.Mathlib.Omega.{arith}
use lib.Dec.{eqb}
use lib.ListN.{length, get_or, length-map}
use Rattle.scope.specs.Stitching.{Line}
use Rattle.scope.specs.Area.{area, positive}
use Rattle.scope.specs.Contour.{Fate, polygon, hole, line, class_word, owner_word, takes, owner_from, fates_by, contour_classes}
use Rattle.scope.specs.Band.{Numbered, takers, classes_from}
use Rattle.scope.specs.Tables.{first_point, short_of, ordered_by}
use Rattle.sorting.specs.Entries.{Entry, entry_words}
use Rattle.regions.proofs.Listing.{past, map_at}
use Rattle.regions.proofs.Orders.{nobody}

-- what has an owner or none is no polygon
owner-class : (k : ℕ) (classes : List Bool) (outers : List Line) (ring : Line) → class_word (owner_from k classes outers ring) ≡ 1
unfolding owner_from class_word
owner-class k [] outers ring = refl
owner-class k (is_polygon ∷ classes) [] ring = refl
owner-class k (is_polygon ∷ classes) (outer ∷ outers) ring = by (is_polygon && takes outer ring) (owner-class (suc k) classes outers ring)
  where
    by : (b : Bool) → class_word (owner_from (suc k) classes outers ring) ≡ 1 → class_word (cond b (hole k) (owner_from (suc k) classes outers ring)) ≡ 1
    by true behind = refl
    by false behind = behind

module _ (classes : List Bool) (all : List Line) where
  -- the fate of a ring by its class
  abbrev pub fate_of : Bool → Line → Fate
  fate_of is_polygon ring = cond is_polygon polygon (owner_from 0 classes all ring)

  pub fate-class : (is_polygon : Bool) (ring : Line) → class_word (fate_of is_polygon ring) ≡ cond is_polygon 0 1
  unfolding class_word
  fate-class true ring = refl
  fate-class false ring = owner-class 0 classes all ring

  pub fate-owner : (r : ℕ) (is_polygon : Bool) (ring : Line) → owner_word r (fate_of is_polygon ring) ≡ cond is_polygon r (owner_word r (owner_from 0 classes all ring))
  unfolding owner_word
  fate-owner r true ring = refl
  fate-owner r false ring = refl

  pub fates-as-many : (rest : List Bool) (rings : List Line) → length rest ≡ length rings → length (fates_by classes all rest rings) ≡ length rings
  unfolding fates_by
  fates-as-many [] rings long = long
  fates-as-many (b ∷ rest) [] long = absurd (omega arith)
  fates-as-many (b ∷ rest) (ring ∷ rings) long = ap suc (fates-as-many rest rings (suc_inj long))

  pub fate-at : (rest : List Bool) (rings : List Line) → length rest ≡ length rings → (r : ℕ) → r < length rings
      → get_or (fates_by classes all rest rings) r line ≡ fate_of (get_or rest r false) (get_or rings r [])
  unfolding fates_by
  fate-at rest [] long r h = absurd (not-suc-le-zero h)
  fate-at [] (ring ∷ rings) long r h = absurd (omega arith)
  fate-at (b ∷ rest) (ring ∷ rings) long zero h = refl
  fate-at (b ∷ rest) (ring ∷ rings) long (suc r) h = fate-at rest rings (suc_inj long) r (le_of_suc-le-suc h)

-- the classes of a contour and of a band
pub contour-classes-as-many : (rings : List Line) → length (contour_classes rings) ≡ length rings
unfolding contour_classes
contour-classes-as-many rings = length-map rings (λ ring. positive (area ring))

pub contour-class-at : (rings : List Line) (r : ℕ) → r < length rings → get_or (contour_classes rings) r false ≡ positive (area (get_or rings r []))
unfolding contour_classes
contour-class-at rings r h = map_at (λ ring. positive (area ring)) rings r [] false h

module _ (all : List Line) where
  pub band-classes-as-many : (i : ℕ) (rings : List Line) → length (classes_from i all rings) ≡ length rings
  unfolding classes_from
  band-classes-as-many i [] = refl
  band-classes-as-many i (ring ∷ rings) = ap suc (band-classes-as-many (suc i) rings)

  class-past : (i : ℕ) (rings : List Line) (r : ℕ) → r < length rings → get_or (classes_from i all rings) r false ≡ eqb (takers (i + r) 0 all (get_or rings r []) % 2) 0
  unfolding classes_from
  class-past i [] r h = absurd (not-suc-le-zero h)
  class-past i (ring ∷ rings) zero h = ap (λ (k : ℕ). eqb (takers k 0 all ring % 2) 0) (sym (add-zero i))
  class-past i (ring ∷ rings) (suc r) h =
      class-past (suc i) rings r (le_of_suc-le-suc h) ∙ ap (λ (k : ℕ). eqb (takers k 0 all (get_or rings r []) % 2) 0) (past i r)

  pub band-class-at : (rings : List Line) (r : ℕ) → r < length rings → get_or (classes_from 0 all rings) r false ≡ eqb (takers r 0 all (get_or rings r []) % 2) 0
  band-class-at rings r h = class-past 0 rings r h ∙ ap (λ (k : ℕ). eqb (takers k 0 all (get_or rings r []) % 2) 0) (zero-add r)

-- the records of an order as entries
module _ (all : List Line) where
  abbrev pub record_entry : ℕ → Numbered → Fate → Entry
  record_entry k m fate = record { first = first_point all m.number; count = length m.ring; key = class_word fate; number = owner_word k fate }

  unfoldable pub record_entries : ℕ → List Numbered → List Fate → List Entry
  record_entries k [] fates = []
  record_entries k (m ∷ ms) [] = []
  record_entries k (m ∷ ms) (fate ∷ fates) = record_entry k m fate ∷ record_entries (suc k) ms fates

  pub records-as-words : (k : ℕ) (order : List Numbered) (fates : List Fate) → ordered_by short_of all k order fates ≡ entry_words (record_entries k order fates)
  unfolding ordered_by record_entries entry_words short_of
  records-as-words k [] fates = refl
  records-as-words k (m ∷ ms) [] = refl
  records-as-words k (m ∷ ms) (fate ∷ fates) =
      ap (λ (ws : List ℕ). short_of k (first_point all m.number) m.ring fate ++ ws) (records-as-words (suc k) ms fates)

  pub records-as-many : (k : ℕ) (order : List Numbered) (fates : List Fate) → length fates ≡ length order → length (record_entries k order fates) ≡ length order
  unfolding record_entries
  records-as-many k [] fates long = refl
  records-as-many k (m ∷ ms) [] long = absurd (omega arith)
  records-as-many k (m ∷ ms) (fate ∷ fates) long = ap suc (records-as-many (suc k) ms fates (suc_inj long))

  record-past : (k : ℕ) (order : List Numbered) (fates : List Fate) → length fates ≡ length order → (r : ℕ) (d : Entry) → r < length order
      → get_or (record_entries k order fates) r d ≡ record_entry (k + r) (get_or order r nobody) (get_or fates r line)
  unfolding record_entries
  record-past k [] fates long r d h = absurd (not-suc-le-zero h)
  record-past k (m ∷ ms) [] long r d h = absurd (omega arith)
  record-past k (m ∷ ms) (fate ∷ fates) long zero d h = ap (λ (i : ℕ). record_entry i m fate) (sym (add-zero k))
  record-past k (m ∷ ms) (fate ∷ fates) long (suc r) d h =
      record-past (suc k) ms fates (suc_inj long) r d (le_of_suc-le-suc h)
      ∙ ap (λ (i : ℕ). record_entry i (get_or ms r nobody) (get_or fates r line)) (past k r)

  pub record-at : (order : List Numbered) (fates : List Fate) → length fates ≡ length order → (r : ℕ) (d : Entry) → r < length order
      → get_or (record_entries 0 order fates) r d ≡ record_entry r (get_or order r nobody) (get_or fates r line)
  record-at order fates long r d h =
      record-past 0 order fates long r d h ∙ ap (λ (i : ℕ). record_entry i (get_or order r nobody) (get_or fates r line)) (zero-add r)

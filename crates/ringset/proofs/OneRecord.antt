-- Record k of a directory by itself: what a reader of its words has, and number 9 as the verdict on its ring and on its owner. Assumes nothing.
use mathlib.Core.Path.{◌≡◌, ◌∙◌}
use mathlib.Core.Bool.{Bool, true, false, or_assoc, ◌||◌}
use mathlib.Core.List.{List}
use Prim.Native.Nat.{ℕ}
use Rattle.scope.specs.Area.{low_word, high_word}
use Rattle.scope.specs.GeoJson.{first_at, count_at, class_at, owner_at, area_low_at, area_high_at, ring_words_at, ring_at, range_outside, count_out, coordinate_over, area_off, class_out, is_polygon, is_hole, owned_by_another, owned_by_none, record_refused}
use Rattle.ringset.specs.declared.Record.{Record}
use Rattle.ringset.specs.OneRecord.{record_at, area_differs, shape_refused, owner_refused}

module _ (directory : List ℕ) (k : ℕ) where
  -- a record's words are those of record k
  abbrev pub Reads : Record → Type 0
  Reads r =
      (r.first ≡ first_at directory k)
      × (r.count ≡ count_at directory k)
      × (r.class ≡ class_at directory k)
      × (r.owner ≡ owner_at directory k)
      × (r.area_low ≡ area_low_at directory k)
      × (r.area_high ≡ area_high_at directory k)

  pub is-record-at : {r : Record} → Reads r → r ≡ record_at directory k
  unfolding record_at
  is-record-at words = rw (← words.0, ← words.1, ← words.2, ← words.3, ← words.4, ← words.5)

  module _ (ps : List ℕ) (rings : ℕ) where
    -- a record is refused for its ring or for its owner
    pub refused-by-parts : record_refused ps directory rings k
        ≡ shape_refused ps (record_at directory k) || owner_refused (record_at directory k) rings k (class_at directory (owner_at directory k))
    unfolding record_at area_differs shape_refused owner_refused low_word high_word record_refused range_outside count_out coordinate_over ring_at ring_words_at area_off class_out owned_by_another owned_by_none is_polygon is_hole
    refused-by-parts = or_assoc (shape_refused ps (record_at directory k)) (owned_by_another directory k) (owned_by_none directory rings k)

    module _ {r : Record} (words : Reads r) {faulty : Bool} (judged : faulty ≡ shape_refused ps r) where
      pub shape-decides : faulty ≡ true → true ≡ record_refused ps directory rings k
      shape-decides e = rw (refused-by-parts, ← is-record-at words, ← judged, e)

      pub owner-decides : faulty ≡ false → {owner_class : ℕ} → owner_class ≡ class_at directory r.owner → {ill : Bool} → ill ≡ owner_refused r rings k owner_class →
          ill ≡ record_refused ps directory rings k
      owner-decides e f g = g ∙ rw (refused-by-parts, ← is-record-at words, ← judged, e, f, words.3)

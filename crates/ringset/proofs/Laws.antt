-- What a ring set is that number 9 does not refuse: its directory is long enough, and of each record the range, the count, the area, the class and the
-- owner are such as a reader may go by. Readers of a checked set cite `sound`, and those of one record by itself `sound-shape`. Assumes nothing.
use mathlib.Core.Path.{◌≡◌, refl}
use mathlib.Core.Bool.{Bool, true, false, not, true≢false, and-eq-true_iff, ◌&&◌}
use mathlib.Core.List.{List}
use mathlib.Core.Logic.{◌⊎◌, inl, inr, ⊎_elim}
use Prim.Native.Nat.{ℕ, ◌+◌, ◌*◌, ◌<◌, ◌≤◌}
use lib.IntN.{ℤ}
use lib.ListN.{length}
use borrow.Author.Tests.{ltb-true, ltb-false, eqb-true, eq-eqb, not-false}
use Rattle.scope.specs.Limits.{coordinate_limit, record_stride, point_limit, no_owner}
use Rattle.scope.specs.Area.{points, area, twos_complement, low_word, high_word, any_above}
use Rattle.scope.specs.Room.{directory_words}
use Rattle.scope.specs.GeoJson.{first_at, count_at, class_at, owner_at, area_low_at, area_high_at, words_in, ring_words_at, ring_at, unclosed, directory_short, range_outside, count_out, coordinate_over, area_off, class_out, is_polygon, is_hole, owned_by_another, owned_by_none, record_refused, ring_set_refused}
use Rattle.laws.proofs.Tests.{neither}
use Rattle.ringset.specs.declared.Record.{Record}
use Rattle.ringset.specs.OneRecord.{record_at, area_differs, shape_refused}
use Rattle.ringset.proofs.Below.{none_below}

-- a record whose ring is not refused: its range lies within the points, it has 4 points or more and not too many, no coordinate is above the limit, its last
-- point is the first, its area is its ring's, and it is a polygon or a hole
pub record SoundShape (ps : List ℕ) (r : Record) : Type 0 where
  pub within : 2 * (r.first + r.count) ≤ length ps
  pub four : 4 ≤ r.count
  pub few : r.count ≤ point_limit
  pub low : any_above coordinate_limit (words_in ps r.first r.count) ≡ false
  pub closed : unclosed (points (words_in ps r.first r.count)) ≡ false
  pub area-low : r.area_low ≡ low_word (area (points (words_in ps r.first r.count)))
  pub area-high : r.area_high ≡ high_word (area (points (words_in ps r.first r.count)))
  pub classed : r.class ≤ 1

-- both words of an area that does not differ
same_area : (a : ℤ) (r : Record) → area_differs (twos_complement a) r ≡ false → (r.area_low ≡ low_word a) × (r.area_high ≡ high_word a)
unfolding area_differs low_word high_word
same_area a r e =
    let both = (and-eq-true_iff _ _).0 (not-false _ e) in
    (eqb-true _ _ both.0, eqb-true _ _ both.1)

pub sound-shape : (ps : List ℕ) (r : Record) → shape_refused ps r ≡ false → SoundShape ps r
unfolding shape_refused
sound-shape ps r e =
    let class = neither _ _ e in
    let measured = neither _ _ class.0 in
    let ended = neither _ _ measured.0 in
    let walked = neither _ _ ended.0 in
    let range = neither _ _ walked.0 in
    let count = neither _ _ range.1 in
    let words = same_area _ r measured.1 in
    record {
      within = ltb-false _ _ range.0;
      four = ltb-false _ _ count.0;
      few = ltb-false _ _ count.1;
      low = walked.1;
      closed = ended.1;
      area-low = words.0;
      area-high = words.1;
      classed = ltb-false _ _ class.1;
    }

-- record k of a set of as many rings as are stated: its range lies within the points, it has 4 points or more and not too many, its area is its ring's,
-- it is a polygon that owns itself, or a hole that is dropped or has a polygon of the set as its owner
pub record SoundRecord (ps directory : List ℕ) (rings k : ℕ) : Type 0 where
  pub shaped : shape_refused ps (record_at directory k) ≡ false
  pub within : 2 * (first_at directory k + count_at directory k) ≤ length ps
  pub four : 4 ≤ count_at directory k
  pub few : count_at directory k ≤ point_limit
  pub area-low : area_low_at directory k ≡ low_word (area (ring_at ps directory k))
  pub area-high : area_high_at directory k ≡ high_word (area (ring_at ps directory k))
  pub classed : class_at directory k ≤ 1
  pub polygon : class_at directory k ≡ 0 → owner_at directory k ≡ k
  pub hole : class_at directory k ≡ 1 →
      (owner_at directory k ≡ no_owner) ⊎ ((owner_at directory k < rings) × (class_at directory (owner_at directory k) ≡ 0))

-- a set of as many rings as are stated: every record is there, and sound
pub record Sound (ps directory : List ℕ) (rings : ℕ) : Type 0 where
  pub long : record_stride * rings ≤ length directory
  pub at : (k : ℕ) → k < rings → SoundRecord ps directory rings k

-- of two tests that do not both fail, one passes
either : (a b : Bool) → not a && not b ≡ false → (a ≡ true) ⊎ (b ≡ true)
either true b e = inl refl
either false true e = inr refl
either false false e = absurd (true≢false e)

module _ (ps directory : List ℕ) (rings k : ℕ) where
  -- a polygon that no other owns, owns itself
  owns-itself : owned_by_another directory k ≡ false → class_at directory k ≡ 0 → owner_at directory k ≡ k
  unfolding owned_by_another is_polygon
  owns-itself e p = eqb-true _ _ (not-false _ (rw (eq-eqb (class_at directory k) 0 p) at e))

  -- a hole that passes is dropped, or a polygon of the set owns it
  owned : owned_by_none directory rings k ≡ false → class_at directory k ≡ 1 →
      (owner_at directory k ≡ no_owner) ⊎ ((owner_at directory k < rings) × (class_at directory (owner_at directory k) ≡ 0))
  unfolding owned_by_none is_polygon is_hole
  owned e p =
      ⊎_elim
      (λ t. let both = (and-eq-true_iff _ _).0 t in inr (ltb-true _ _ both.0, eqb-true _ _ both.1))
      (λ d. inl (eqb-true _ _ d))
      (either _ _ (rw (eq-eqb (class_at directory k) 1 p) at e))

  -- a record that is not refused is sound
  sound-record : record_refused ps directory rings k ≡ false → SoundRecord ps directory rings k
  unfolding record_at area_differs shape_refused low_word high_word record_refused range_outside count_out coordinate_over ring_at ring_words_at area_off class_out
  sound-record e =
      let none = neither _ _ e in
      let another = neither _ _ none.0 in
      let shape = sound-shape ps (record_at directory k) another.0 in
      record {
        shaped = another.0;
        within = shape.within;
        four = shape.four;
        few = shape.few;
        area-low = shape.area-low;
        area-high = shape.area-high;
        classed = shape.classed;
        polygon = owns-itself another.1;
        hole = owned none.1;
      }

-- a set that number 9 does not refuse is sound
pub sound : (ps directory : List ℕ) (rings : ℕ) → ring_set_refused ps directory rings ≡ false → Sound ps directory rings
unfolding ring_set_refused directory_short directory_words
sound ps directory rings e =
    let both = neither _ _ e in
    record {
      long = ltb-false _ _ both.0;
      at = λ k h. sound-record ps directory rings k (none_below _ rings both.1 k h);
    }

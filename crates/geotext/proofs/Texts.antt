-- How long the text of a checked ring set is. It is the frame and each record's share, whatever the order of the rings: every hole that is not dropped stands
-- behind one polygon, so that the holes of all polygons are those holes, by a double sum the other way round. And it is below 2^63. Assumes nothing.
use mathlib.Core.Path.{◌≡◌, refl, sym, ap, ◌∙◌}
use mathlib.Core.Logic.{⊎_elim}
use mathlib.Core.Bool.{Bool, true, false}
use mathlib.Core.List.{List, [], ◌∷◌, map}
use Prim.Native.Nat.{ℕ, suc, ◌+◌, ◌-◌, ◌^◌, ◌≤◌, ◌<◌}
use native.Mathlib.Decide.{ℕ_discrete}
use native.Mathlib.Omega.{arith}
use lib.ListN.{length, length-append}
use borrow.Author.Tests.{eq-eqb, ne_eqb}
use Rattle.scope.specs.Limits.{point_limit, no_owner}
use Rattle.scope.specs.Cells.{when}
use Rattle.scope.specs.Pairs.{sum_from}
use Rattle.scope.specs.GeoJson.{class_at, owner_at, ring_words_at, ring_at, is_polygon, is_hole, ring_set_refused, is_hole_of, joined, ring_text, written_at, polygon_numbers, hole_numbers, polygon_text, opening, geo_json_text}
use Rattle.laws.proofs.Total.{total}
use Rattle.ringset.specs.OneRecord.{record_at}
use Rattle.ringset.proofs.Laws.{Sound, sound}
use Rattle.geotext.specs.Shares.{ring_bytes, record_share}
use Rattle.geotext.proofs.Lengths.{commaed, joined_length, bracketed-length, joined_bytes, written-length}
use Rattle.geotext.proofs.Shares.{share_at, polygon-share, dropped-share, owned-share, share-few}
use Rattle.geotext.proofs.Sums.{sum_same, sum_both, sum-exchanged, sum-of-none, sum-of-one, sum-when, sum-bounded, numbers-total}

-- ---- joined texts of numbers

total-of-texts : (f : ℕ → List ℕ) (bytes : ℕ → ℕ) → ((k : ℕ) → commaed (f k) ≡ bytes k) → (ks : List ℕ) → total commaed (map f ks) ≡ total bytes ks
unfolding total
total-of-texts f bytes same [] = refl
total-of-texts f bytes same (k ∷ ks) = rw (same k, total-of-texts f bytes same ks)

when-sum : (a b : ℕ) (t : Bool) → when (a + b) t ≡ when a t + when b t
when-sum a b true = refl
when-sum a b false = omega arith

when-none : (t : Bool) → when 0 t ≡ 0
when-none true = refl
when-none false = refl

module _ (ps directory : List ℕ) (rings : ℕ) where
  -- ---- polygon by polygon

  -- what hole h adds behind polygon k
  abbrev behind : ℕ → ℕ → ℕ
  behind k h = when (suc (ring_bytes ps (record_at directory h))) (is_hole_of directory k h)

  -- a ring has as many bytes backwards
  ring-bytes : (k : ℕ) → length (ring_text (written_at ps directory k)) ≡ ring_bytes ps (record_at directory k)
  unfolding written_at ring_bytes ring_at ring_words_at record_at
  ring-bytes k = written-length _ (ring_at ps directory k)

  polygon-bytes : (k : ℕ) → commaed (polygon_text ps directory rings k) ≡ ring_bytes ps (record_at directory k) + 3 + sum_from (behind k) 0 rings
  unfolding polygon_text hole_numbers
  polygon-bytes k =
      omega (
        arith,
        bracketed-length (joined (map (λ r. ring_text (written_at ps directory r)) (k ∷ hole_numbers directory rings k))),
        joined_length (ring_text (written_at ps directory k)) (map (λ r. ring_text (written_at ps directory r)) (hole_numbers directory rings k)),
        ring-bytes k,
        total-of-texts (λ r. ring_text (written_at ps directory r)) (λ h. suc (ring_bytes ps (record_at directory h))) (λ h. ap suc (ring-bytes h)) (hole_numbers directory rings k),
        numbers-total (is_hole_of directory k) (λ h. suc (ring_bytes ps (record_at directory h))) rings,
      )

  polygons-bytes : total commaed (map (polygon_text ps directory rings) (polygon_numbers directory rings))
      ≡ sum_from (λ k. when (ring_bytes ps (record_at directory k) + 3) (is_polygon directory k)) 0 rings
      + sum_from (λ h. sum_from (λ k. when (behind k h) (is_polygon directory k)) 0 rings) 0 rings
  unfolding polygon_numbers
  polygons-bytes =
      total-of-texts (polygon_text ps directory rings) (λ k. commaed (polygon_text ps directory rings k)) (λ k. refl) (polygon_numbers directory rings)
      ∙ numbers-total (is_polygon directory) (λ k. commaed (polygon_text ps directory rings k)) rings
      ∙ sum_same (λ k. when (commaed (polygon_text ps directory rings k)) (is_polygon directory k))
      (λ k. when (ring_bytes ps (record_at directory k) + 3) (is_polygon directory k) + sum_from (λ h. when (behind k h) (is_polygon directory k)) 0 rings) rings
      (λ k below.
      ap (λ (n : ℕ). when n (is_polygon directory k)) (polygon-bytes k)
      ∙ when-sum (ring_bytes ps (record_at directory k) + 3) (sum_from (behind k) 0 rings) (is_polygon directory k)
      ∙ ap (λ (n : ℕ). when (ring_bytes ps (record_at directory k) + 3) (is_polygon directory k) + n) (sum-when (behind k) (is_polygon directory k) rings))
      ∙ sum_both (λ k. when (ring_bytes ps (record_at directory k) + 3) (is_polygon directory k)) (λ k. sum_from (λ h. when (behind k h) (is_polygon directory k)) 0 rings) rings
      ∙ ap (λ (n : ℕ). sum_from (λ k. when (ring_bytes ps (record_at directory k) + 3) (is_polygon directory k)) 0 rings + n)
      (sum-exchanged (λ k h. when (behind k h) (is_polygon directory k)) rings rings)

  -- ---- record by record

  -- record h as a polygon, and behind all polygons, comes to its share
  abbrev Shared : ℕ → Type 0
  Shared h = when (ring_bytes ps (record_at directory h) + 3) (is_polygon directory h) + sum_from (λ k. when (behind k h) (is_polygon directory k)) 0 rings ≡ record_share ps (record_at directory h)

  not_behind : (h k : ℕ) → is_hole_of directory k h ≡ false → when (behind k h) (is_polygon directory k) ≡ 0
  not_behind h k e = rw e (when-none (is_polygon directory k))

  polygon-shared : (h : ℕ) → class_at directory h ≡ 0 → Shared h
  unfolding is_polygon is_hole is_hole_of record_at
  polygon-shared h e =
      let none = sum-of-none (λ k. when (behind k h) (is_polygon directory k)) rings (λ k below. not_behind h k (rw e)) in
      rw (none, polygon-share ps (record_at directory h) e, e) (omega arith)

  module _ (few : rings ≤ no_owner) (h : ℕ) (hole : class_at directory h ≡ 1) where
    no-polygon : class_at directory h ≡ 0 → ⊥
    no-polygon e = omega (arith, hole, e)

    not-owner : (k : ℕ) → (owner_at directory h ≡ k → ⊥) → is_hole_of directory k h ≡ false
    unfolding is_hole is_hole_of
    not-owner k ne = rw (hole, ne_eqb (owner_at directory h) k ne)

    dropped-shared : owner_at directory h ≡ no_owner → Shared h
    unfolding is_polygon record_at
    dropped-shared e =
        let none = sum-of-none (λ k. when (behind k h) (is_polygon directory k)) rings (λ k below. not_behind h k (not-owner k (λ same. omega (arith, few, below, same, e)))) in
        rw (none, dropped-share ps (record_at directory h) no-polygon e, hole)

    owned-shared : owner_at directory h < rings → class_at directory (owner_at directory h) ≡ 0 → Shared h
    unfolding is_polygon is_hole is_hole_of record_at
    owned-shared within e =
        let one = sum-of-one (λ k. when (behind k h) (is_polygon directory k)) (owner_at directory h) (λ k ne. not_behind h k (not-owner k (λ same. ne (sym same)))) rings within in
        let share = owned-share ps (record_at directory h) no-polygon (λ same. omega (arith, few, within, same)) in
        rw (one, share, hole, e, eq-eqb (owner_at directory h) (owner_at directory h) refl) (omega arith)

  -- ---- the whole text

  module _ (few : rings ≤ no_owner) (set : Sound ps directory rings) where
    shared : (h : ℕ) → h < rings → Shared h
    shared h below = by (ℕ_discrete (class_at directory h) 0)
      where
        by : Dec (class_at directory h ≡ 0) → Shared h
        by (yes e) = polygon-shared h e
        by (no ne) =
            let hole : class_at directory h ≡ 1 = omega (arith, ne, (set.at h below).classed) in
            ⊎_elim (dropped-shared few h hole) (λ owned. owned-shared few h hole owned.0 owned.1) ((set.at h below).hole hole)

    shares : total commaed (map (polygon_text ps directory rings) (polygon_numbers directory rings)) ≡ sum_from (share_at ps directory) 0 rings
    shares =
        polygons-bytes
        ∙ sym (sum_both (λ k. when (ring_bytes ps (record_at directory k) + 3) (is_polygon directory k)) (λ h. sum_from (λ k. when (behind k h) (is_polygon directory k)) 0 rings) rings)
        ∙ sum_same (λ h. when (ring_bytes ps (record_at directory h) + 3) (is_polygon directory h) + sum_from (λ k. when (behind k h) (is_polygon directory k)) 0 rings) (share_at ps directory) rings shared

    -- the frame has 40 bytes, and the last polygon no comma
    pub text-length : length (geo_json_text ps directory rings) ≡ 40 + (sum_from (share_at ps directory) 0 rings - 1)
    unfolding geo_json_text opening
    text-length =
        let polygons = map (polygon_text ps directory rings) (polygon_numbers directory rings) in
        simp length-append (omega (arith, bracketed-length (joined polygons), joined_bytes polygons, shares))

-- ---- no more than fits

module _ (ps directory : List ℕ) (rings : ℕ) (checked : ring_set_refused ps directory rings ≡ false) where
  module _ (few : rings < 2 ^ 32) where
    pub shares-fit : sum_from (share_at ps directory) 0 rings + 40 < 2 ^ 63
    unfolding point_limit
    shares-fit =
        omega (arith, sum-bounded (share_at ps directory) 1207959556 rings (λ k below. share-few ps (record_at directory k) ((sound ps directory rings checked).at k below).shaped))

    -- the length of a checked set's text is far below what a word holds
    pub text-fits : length (geo_json_text ps directory rings) < 2 ^ 63
    unfolding no_owner
    text-fits = omega (arith, text-length ps directory rings (omega arith) (sound ps directory rings checked), shares-fit)

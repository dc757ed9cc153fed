-- Which way the rings of a checked set run. The two words of a record stand for the area of its ring, which fits them. Of the rings as they are written, those
-- that have an area run counterclockwise where they are exteriors and clockwise where they are holes, and each begins at the first point of the stored ring.
-- Other crates cite `area-read`, `exterior-runs`, `hole-runs` and `same-first-point`. Assumes nothing.
use mathlib.Core.Path.{◌≡◌, ◌∙◌, ap₂}
use mathlib.Core.Bool.{true, false}
use mathlib.Core.List.{List}
use Prim.Native.Nat.{ℕ, ◌*◌, ◌≤◌, ◌<◌}
use native.Mathlib.Omega.{arith}
use lib.ListN.{length}
use mir.Syntax.{w64}
use mir.Val.{SFits}
use borrow.Author.Tests.{eqb-true}
use Rattle.scope.specs.Limits.{point_limit}
use Rattle.scope.specs.Area.{area, area_from}
use Rattle.scope.specs.GeoJson.{first_at, count_at, class_at, area_low_at, area_high_at, ring_words_at, ring_at, unclosed, is_polygon, is_hole, backwards, written_at}
use Rattle.scope.specs.Winding.{Wide, Counterclockwise, Clockwise}
use Rattle.laws.proofs.Words.{words-in-length}
use Rattle.laws.proofs.Complement.{area-comes-back}
use Rattle.area.proofs.Words.{Ring, ring}
use Rattle.ringset.specs.OneRecord.{record_at}
use Rattle.ringset.proofs.Laws.{sound-shape, SoundShape, SoundRecord, Sound}
use Rattle.winding.proofs.Sizes.{points-low, points-half, area-fits}
use Rattle.winding.proofs.Turning.{exterior-written, hole-written, SameFirst, begins-the-same}

-- ---- one record

module _ {ps directory : List ℕ} {rings k : ℕ} (s : SoundRecord ps directory rings k) where
  shape : SoundShape ps (record_at directory k)
  shape = sound-shape ps (record_at directory k) s.shaped

  words_count : length (ring_words_at ps directory k) ≡ 2 * count_at directory k
  unfolding ring_words_at
  words_count = words-in-length ps (first_at directory k) (count_at directory k) s.within

  ring-few : length (ring_at ps directory k) ≤ point_limit
  unfolding ring_at
  ring-few = omega (arith, points-half (ring_words_at ps directory k), words_count, s.few)

  ring-area-fits : SFits w64 (area (ring_at ps directory k))
  unfolding ring_at ring_words_at record_at
  ring-area-fits = area-fits (ring_at ps directory k) (points-low (ring_words_at ps directory k) shape.low) ring-few

  -- the area that the two words stand for is the ring's
  pub area-read : area_from (area_low_at directory k) (area_high_at directory k) ≡ area (ring_at ps directory k)
  area-read = ap₂ area_from s.area-low s.area-high ∙ area-comes-back (area (ring_at ps directory k)) ring-area-fits

  ring-closed : unclosed (ring_at ps directory k) ≡ false
  unfolding ring_at ring_words_at record_at
  ring-closed = shape.closed

  ring-some : Ring (ring_words_at ps directory k)
  ring-some = ring (ring_words_at ps directory k) (omega (arith, words_count)) (omega (arith, words_count, s.four))

  -- the written ring begins at the stored ring's first point
  pub same-first-point : SameFirst (ring_at ps directory k) (written_at ps directory k)
  unfolding ring_at written_at
  same-first-point = rw ring-some.are (begins-the-same _ ring-some.first ring-some.rest (rw ring-some.are at ring-closed))

-- ---- the rings of a checked set

module _ {ps directory : List ℕ} {rings : ℕ} (set : Sound ps directory rings) (k : ℕ) (h : k < rings) where
  pub exterior-runs : is_polygon directory k ≡ true → Wide (written_at ps directory k) → Counterclockwise (written_at ps directory k)
  unfolding is_polygon written_at backwards
  exterior-runs e = rw e (exterior-written (ring_at ps directory k) (ring-closed (set.at k h)))

  pub hole-runs : is_hole directory k ≡ true → Wide (written_at ps directory k) → Clockwise (written_at ps directory k)
  unfolding is_hole written_at backwards
  hole-runs e = rw (eqb-true (class_at directory k) 1 e) (hole-written (ring_at ps directory k) (ring-closed (set.at k h)))

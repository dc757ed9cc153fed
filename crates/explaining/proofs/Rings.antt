-- The rings of a set that number 9 lets pass: their points are there and within the limits, each is closed, and the ring that a reader finds at a record is made of
-- these points. Assumes nothing.
use mathlib.Core.Path.{◌≡◌, sym, ap, ◌∙◌}
use mathlib.Core.Bool.{false}
use mathlib.Core.List.{List}
use Prim.Native.Nat.{ℕ, zero, suc, ◌+◌, ◌-◌, ◌<◌, ◌≤◌}
use native.Mathlib.Nat.{add-zero}
use native.Mathlib.Omega.{arith}
use lib.ListN.{get_or}
use borrow.Author.Tests.{not-false}
use Rattle.scope.specs.Cells.{Point}
use Rattle.scope.specs.GeoJson.{first_at, count_at, words_in, ring_words_at, ring_at, unclosed}
use Rattle.laws.proofs.Ends.{same-eq}
use Rattle.extents.specs.Points.{point_in, ring_in}
use Rattle.taking.proofs.Walks.{last-in}
use Rattle.noting.specs.Step.{RingWithin}
use Rattle.noting.proofs.Rings.{ring-points}
use Rattle.ringset.specs.OneRecord.{record_at}
use Rattle.ringset.proofs.Laws.{SoundShape, sound-shape, sound}
use Rattle.deciding.specs.Decisions.{RingLies, RingCloses}
use Rattle.explaining.specs.Fates.{RingOf}

-- a ring of points whose last is the first
ends-where-it-begins : (ps : List ℕ) (first count : ℕ) → 1 ≤ count → unclosed (ring_in ps first count) ≡ false → point_in ps (first + (count - 1)) ≡ point_in ps first
unfolding unclosed ring_in
ends-where-it-begins ps first zero some e = absurd (omega arith)
ends-where-it-begins ps first (suc n) some e =
    let f : suc n - 1 ≡ n = omega arith in
    rw f (sym (last-in ps first n) ∙ same-eq _ _ (not-false _ e))

module _ {ps directory : List ℕ} {rings k : ℕ} (ring : RingOf ps directory rings k) where
  shape : SoundShape ps (record_at directory k)
  shape = sound-shape ps (record_at directory k) ((sound ps directory rings ring.passes).at k ring.there).shaped

  pub ring-within : RingWithin ps (first_at directory k) (count_at directory k)
  unfolding record_at
  ring-within = record { some = omega (arith, shape.four); not-many = shape.few; points-there = shape.within; low = shape.low }

  pub ring-lies : RingLies ps (first_at directory k) (count_at directory k)
  ring-lies = record { some = ring-within.some; few = ring-within.not-many; within = ring-within.points-there }

  -- the ring that a reader finds
  pub ring-is : ring_at ps directory k ≡ ring_in ps (first_at directory k) (count_at directory k)
  unfolding ring_at ring_words_at words_in
  ring-is = ring-points ps (first_at directory k) (count_at directory k) ring-within.points-there

  pub ring-closes : RingCloses ps (first_at directory k) (count_at directory k)
  unfolding record_at ring_at ring_words_at
  ring-closes = record {
    lies = ring-lies;
    closed = ends-where-it-begins ps (first_at directory k) (count_at directory k) ring-lies.some (ap unclosed (sym ring-is) ∙ shape.closed);
  }

-- vertex v of such a ring
pub vertex-in : (ps : List ℕ) (count first v : ℕ) (p : Point) → v < count → get_or (ring_in ps first count) v p ≡ point_in ps (first + v)
unfolding ring_in
vertex-in ps zero first v p h = absurd (omega arith)
vertex-in ps (suc count) first zero p h = rw add-zero
vertex-in ps (suc count) first (suc v) p h = vertex-in ps count (suc first) v p (omega arith) ∙ ap (point_in ps) (omega arith)

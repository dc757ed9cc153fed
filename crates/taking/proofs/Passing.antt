-- What a ladder passes over: pairs in chunks that are apart from what lies right of a point in its row neither hold the point nor flip its sign, so the walk
-- goes on past them as it was; and a walk is walked in parts. Each law goes by how many pairs there are. Assumes nothing.
use mathlib.Core.Path.{◌≡◌, refl, sym, ap, subst, ◌∙◌}
use mathlib.Core.Bool.{Bool, true, false, xor, cond}
use mathlib.Core.List.{List}
use Prim.Native.Nat.{ℕ, zero, suc, max, ◌+◌, ◌*◌, ◌-◌, ◌/◌, ◌<◌, ◌≤◌}
use native.Mathlib.Omega.{arith}
use Rattle.scope.specs.Cells.{Point}
use Rattle.scope.specs.Containment.{Answer, outside, boundary, inside, on_pair, flips, signed}
use Rattle.extents.specs.declared.Ladder.{Ladder}
use Rattle.extents.specs.Points.{point_in, ring_in, Stepping, RingThere}
use Rattle.extents.specs.Extents.{Holds, ray_from, extent_at}
use Rattle.extents.specs.Ladders.{item_extent, group_extent, block_extent, Raised, NextNear, Chunked}
use Rattle.nearness.proofs.Ray.{apart-from-the-ray}
use Rattle.taking.specs.Places.{walk_to}
use Rattle.taking.specs.Stretches.{StretchThere, PassedOver, first_items, StopsAt}
use Rattle.taking.proofs.Walks.{false-xor, walk_end, walk-next}

-- a pair neither holds the point nor flips its sign
abbrev pub Idle : List ℕ → Point → ℕ → Type 0
Idle points p j = (on_pair (point_in points j) (point_in points (suc j)) p ≡ false) × (flips (point_in points j) (point_in points (suc j)) p ≡ false)

module _ (points : List ℕ) (p : Point) (last : ℕ) where
  -- idle pairs may be left out
  pub idle-passed : (n k m : ℕ) (within : Bool) → k + n ≡ m → m ≤ last → ((j : ℕ) → k ≤ j → j < m → Idle points p j) →
      walk_to points k last p within ≡ walk_to points m last p within
  idle-passed zero k m within e h idle =
      let f : k ≡ m = omega arith in
      ap (λ i. walk_to points i last p within) f
  idle-passed (suc n) k m within e h idle =
      let here = idle k (omega arith) (omega arith) in
      walk-next points last p k within (omega arith)
      ∙ rw (here.0, here.1, false-xor) (idle-passed n (suc k) m within (omega arith) h (λ j g i. idle j (omega arith) i))

-- a walk goes on by the sign it came to, unless a pair held the point
unfoldable then_on : Answer → (Bool → Answer) → Answer
then_on outside next = next false
then_on boundary next = boundary
then_on inside next = next true

then-signed : (within : Bool) (next : Bool → Answer) → then_on (signed within) next ≡ next within
unfolding then_on signed
then-signed true next = refl
then-signed false next = refl

then-held : (held : Bool) (a b : Answer) (next : Bool → Answer) → a ≡ then_on b next → cond held boundary a ≡ then_on (cond held boundary b) next
unfolding then_on
then-held true a b next e = refl
then-held false a b next e = e

module _ (points : List ℕ) (p : Point) (last m : ℕ) (past : m ≤ last) where
  abbrev after : Bool → Answer
  after sign = walk_to points m last p sign

  walked_through : (n k : ℕ) (within : Bool) → k + n ≡ m → walk_to points k last p within ≡ then_on (walk_to points k m p within) after
  walked_through zero k within e =
      let f : k ≡ m = omega arith in
      ap (λ i. walk_to points i last p within) f
      ∙ sym (ap (λ a. then_on a after) (walk_end points m p k within (omega arith)) ∙ then-signed within after)
  walked_through (suc n) k within e =
      let turned = xor (flips (point_in points k) (point_in points (suc k)) p) within in
      walk-next points last p k within (omega arith)
      ∙ then-held (on_pair (point_in points k) (point_in points (suc k)) p) _ _ after (walked_through n (suc k) turned (omega arith))
      ∙ sym (ap (λ a. then_on a after) (walk-next points m p k within (omega arith)))

  module _ (k : ℕ) (within : Bool) (h : k ≤ m) where
    in_parts : walk_to points k last p within ≡ then_on (walk_to points k m p within) after
    in_parts = walked_through (m - k) k within (omega arith)

    -- a pair of the first part that holds the point answers for both
    pub part_held : walk_to points k m p within ≡ boundary → walk_to points k last p within ≡ boundary
    unfolding then_on
    part_held e = in_parts ∙ rw e refl

    -- else the second part answers, by the sign that the first came to
    pub part-passed : (sign : Bool) → walk_to points k m p within ≡ signed sign → walk_to points k last p within ≡ walk_to points m last p sign
    part-passed sign e = in_parts ∙ rw e (then-signed sign after)

-- the point k and the one after it are not equal
abbrev Differ : List ℕ → ℕ → Type 0
Differ points k = point_in points k ≡ point_in points (suc k) → ⊥

neighbours : (points : List ℕ) (count first d : ℕ) → Stepping (ring_in points first count) → suc d < count → Differ points (first + d)
unfolding ring_in
neighbours points zero first d s h = absurd (omega arith)
neighbours points (suc zero) first d s h = absurd (omega arith)
neighbours points (suc (suc n)) first zero s h =
    let e : first ≡ first + 0 = omega arith in
    subst (Differ points) e s.0
neighbours points (suc (suc n)) first (suc d) s h =
    let e : suc first + d ≡ first + suc d = omega arith in
    subst (Differ points) e (neighbours points (suc n) (suc first) d s.1 (omega arith))

-- a ring's points are a stretch
pub ring-stretch : {points : List ℕ} {first count : ℕ} → RingThere points first count → StretchThere points first (first + (count - 1))
ring-stretch {points} {first} {count} r =
    record {
      not-past = omega arith;
      within = omega (arith, r);
      steps = λ j h g.
          let e : first + (j - first) ≡ j = omega arith in
          subst (Differ points) e (neighbours points count first (j - first) r.stepping (omega (arith, r)));
    }

-- an extent in a table begins at a coordinate
low : (table : List ℕ) (l : Ladder) (i : ℕ) → (item_extent table l i).left ≤ 65535
unfolding item_extent extent_at
low table l i = omega arith

-- no pair is passed over
pub none_passed : {table : List ℕ} {chunks : Ladder} {p : Point} {k last : ℕ} → k ≤ last → PassedOver table chunks p k last k
none_passed h =
    record {
      not-before = omega arith;
      not-past = h;
      in-chunks = λ j g f. absurd (omega arith);
      chunks_apart = λ j g f. absurd (omega arith);
    }

-- the pairs that begin before the first chunk that is not apart are passed over
pub before-near : {table : List ℕ} {chunks : Ladder} {p : Point} {k last near r : ℕ} → NextNear table chunks (k / 64) (ray_from p) near →
    k ≤ r → r ≤ last → r ≤ max k (64 * near) → PassedOver table chunks p k last r
before-near found h g e =
    record {
      not-before = h;
      not-past = g;
      in-chunks = λ j i f. omega (arith, found.not-past);
      chunks_apart = λ j i f. found.apart-before (j / 64) (omega arith) (omega arith);
    }

-- a pair in a chunk that is apart is idle
module _ {points table : List ℕ} {chunks : Ladder} (chunked : Chunked points table chunks) where
  chunk-holds : (i j : ℕ) → i < chunks.item_count → 64 * i ≤ j → j ≤ 64 * i + 64 → Holds (item_extent table chunks i) (point_in points j)
  chunk-holds i j h g f =
      let e : 64 * i + (j - 64 * i) ≡ j = omega arith in
      subst (λ k. Holds (item_extent table chunks i) (point_in points k)) e (chunked.chunks-hold i (j - 64 * i) h (omega arith))

  pub passed-chunks : {p : Point} {from k last r : ℕ} (within : Bool) → StretchThere points from last → from ≤ k → PassedOver table chunks p k last r →
      walk_to points k last p within ≡ walk_to points r last p within
  passed-chunks {p} {from} {k} {last} {r} within there h over =
      idle-passed points p last (r - k) k r within (omega (arith, over)) over.not-past
      (λ j g f.
      let chunk = over.in-chunks j g f in
      apart-from-the-ray (item_extent table chunks (j / 64)) (point_in points j) (point_in points (suc j)) p
      (chunk-holds (j / 64) j chunk (omega arith) (omega arith))
      (chunk-holds (j / 64) (suc j) chunk (omega arith) (omega arith))
      (there.steps j (omega arith) (omega (arith, over)))
      (low table chunks (j / 64))
      (over.chunks_apart j g f))

-- the first items of a ladder are a ladder
module _ {table : List ℕ} {l : Ladder} (n : ℕ) where
  first-raised : Raised table l → Raised table (first_items l n)
  unfolding first_items item_extent group_extent block_extent
  first-raised r =
      record {
        items-there = omega (arith, r.items-there);
        groups-there = omega (arith, r.groups-there);
        blocks-there = omega (arith, r.blocks-there);
        groups-whole = omega arith;
        blocks-whole = omega arith;
        groups-hold = λ i h. r.groups-hold i (omega arith);
        blocks-hold = λ j h. r.blocks-hold j (omega arith);
      }

  pub first-chunked : {points : List ℕ} → Chunked points table l → Chunked points table (first_items l n)
  unfolding first_items item_extent
  first-chunked c = record { raised = first-raised c.raised; chunks-hold = λ i k h g. c.chunks-hold i k (omega arith) g }

-- the pairs before k are passed over or walked, and `within` is the sign so far
pub record Gone (points table : List ℕ) (ladder : Ladder) (from last : ℕ) (p : Point) (start within : Bool) (k : ℕ) : Type 0 where
  pub chunked : Chunked points table ladder
  pub there : StretchThere points from last
  pub not-before : from ≤ k
  pub not-past : k ≤ last
  pub left : walk_to points from last p start ≡ walk_to points k last p within

module _ {points table : List ℕ} {ladder : Ladder} {from last : ℕ} {p : Point} {start within : Bool} {k near stop : ℕ}
    (s : Gone points table ladder from last p start within k) (over : PassedOver table ladder p k last near) (stops : StopsAt near last stop) where
  gone-on : walk_to points from last p start ≡ walk_to points near last p within
  gone-on = s.left ∙ passed-chunks s.chunked within s.there s.not-before over

  -- a pair of the next stretch holds the point
  pub gone_held : walk_to points near stop p within ≡ boundary → walk_to points from last p start ≡ boundary
  gone_held e = gone-on ∙ part_held points p last stop stops.not-past near within stops.not-before e

  -- none does
  pub gone-next : (sign : Bool) → walk_to points near stop p within ≡ signed sign → Gone points table ladder from last p start sign stop
  gone-next sign e =
      record {
        chunked = s.chunked;
        there = s.there;
        not-before = omega (arith, s.not-before, over.not-before, stops.not-before);
        not-past = stops.not-past;
        left = gone-on ∙ part-passed points p last stop stops.not-past near within stops.not-before sign e;
      }

-- no pair is left
pub gone-end : {points table : List ℕ} {ladder : Ladder} {from last : ℕ} {p : Point} {start within : Bool} {k : ℕ} →
    Gone points table ladder from last p start within k → last ≤ k → walk_to points from last p start ≡ signed within
gone-end {points} {last = last} {p = p} {within = within} {k = k} s h = s.left ∙ walk_end points last p k within h

-- The two loops of containment: what the vertices not passed answer is the answer, and what the pairs not passed answer of a vertex is its answer.
-- Each turn takes the next vertex or the next pair off the front. Assumes nothing.
use mathlib.Core.Path.{◌≡◌, refl, ◌∙◌}
use mathlib.Core.Bool.{Bool, true, false, xor, cond}
use mathlib.Core.List.{List}
use Prim.Native.Nat.{ℕ, ◌+◌, ◌*◌, ◌/◌, ◌<◌, ◌≤◌}
use lib.ListN.{length, drop}
use Rattle.scope.specs.Area.{points}
use Rattle.scope.specs.Cells.{Point}
use Rattle.scope.specs.Containment.{boundary, on_pair, flips, signed, walk, point_against, decide, ring_against}
use Rattle.area.proofs.Words.{Sound, ring, point_at, last_point, next-point, no-point}

-- words that `contains` accepts
pub record Rings (outer tested : List ℕ) : Type 0 where
  pub outer-sound : Sound outer
  pub tested-sound : Sound tested
  pub some : 0 < length outer

-- every vertex before v lies on a pair
pub record Passed (outer tested : List ℕ) (v : ℕ) : Type 0 where
  pub rings : Rings outer tested
  pub left : ring_against (points outer) (points tested) ≡ ring_against (points outer) (points (drop (2 * v) tested))

-- no pair before k holds the point p, and `inside` is the sign so far
pub record Walked (outer : List ℕ) (p last : Point) (inside : Bool) (k : ℕ) : Type 0 where
  pub sound : Sound outer
  pub left : point_against (points outer) p ≡ walk last (points (drop (2 * k) outer)) p inside

pub passed-begin : (outer tested : List ℕ) → Rings outer tested → Passed outer tested 0
passed-begin outer tested r = record { rings = r; left = refl }

-- a vertex decides, or those after it do
vertex-next : {outer tested : List ℕ} {v : ℕ} → Passed outer tested v → v < length tested / 2 →
    ring_against (points outer) (points tested)
    ≡ decide (point_against (points outer) (point_at tested v)) (ring_against (points outer) (points (drop (2 * (v + 1)) tested)))
unfolding ring_against
vertex-next {outer} {tested} {v} s h = s.left ∙ rw (next-point tested v h) refl

-- a vertex on a pair is passed
pub passed-next : {outer tested : List ℕ} {v : ℕ} → Passed outer tested v → v < length tested / 2 →
    point_against (points outer) (point_at tested v) ≡ boundary → Passed outer tested (v + 1)
unfolding decide
passed-next {outer} {tested} {v} s h e =
    record { rings = s.rings; left = vertex-next s h ∙ rw e refl }

-- a vertex on no pair decides
pub decided : {outer tested : List ℕ} {v : ℕ} → Passed outer tested v → v < length tested / 2 →
    (inside : Bool) → point_against (points outer) (point_at tested v) ≡ signed inside →
    ring_against (points outer) (points tested) ≡ signed inside
unfolding decide signed
decided s h true e = vertex-next s h ∙ rw e refl
decided s h false e = vertex-next s h ∙ rw e refl

-- no vertex is left
pub none-decided : {outer tested : List ℕ} {v : ℕ} → Passed outer tested v → length tested / 2 ≤ v →
    ring_against (points outer) (points tested) ≡ boundary
unfolding points ring_against
none-decided {outer} {tested} {v} s h = s.left ∙ rw (no-point tested v s.rings.tested-sound.paired h) refl

-- the first pair is the last point and the first
pub walked-begin : (outer : List ℕ) (p : Point) → Sound outer → 0 < length outer → {last : Point} → last ≡ last_point outer →
    Walked outer p last false 0
unfolding point_against
walked-begin outer p s h is =
    let r = ring outer s.paired h in
    record { sound = s; left = rw (is, r.are, r.last) refl }

module _ {outer : List ℕ} {p last : Point} {inside : Bool} {k : ℕ} (s : Walked outer p last inside k) (h : k < length outer / 2) {next : Point} (is : next ≡ point_at outer k) where
  pair-next : point_against (points outer) p
      ≡ cond (on_pair last next p) boundary (walk next (points (drop (2 * (k + 1)) outer)) p (xor (flips last next p) inside))
  unfolding walk
  pair-next = s.left ∙ rw (next-point outer k h, ← is) refl

  -- a pair that holds the point answers at once
  pub walked-held : {held : Bool} → held ≡ on_pair last next p → held ≡ true → point_against (points outer) p ≡ boundary
  walked-held e f = pair-next ∙ rw (← e, f) refl

  -- a pair that does not hold it is passed
  pub walked_next : {held turned : Bool} → held ≡ on_pair last next p → held ≡ false → turned ≡ flips last next p →
      Walked outer p next (xor turned inside) (k + 1)
  walked_next e f g = record { sound = s.sound; left = pair-next ∙ rw (← e, f, ← g) refl }

-- no pair is left
pub walked_end : {outer : List ℕ} {p last : Point} {inside : Bool} {k : ℕ} → Walked outer p last inside k → length outer / 2 ≤ k →
    point_against (points outer) p ≡ signed inside
unfolding points walk
walked_end {outer} {k = k} s h = s.left ∙ rw (no-point outer k s.sound.paired h) refl

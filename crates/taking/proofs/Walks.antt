-- The pairs of neighbours along points of a packed table, and the vertices of a ring against another: what is not passed yet answers as the whole does.
-- Each turn takes the next pair or the next vertex off the front. Assumes nothing.
use mathlib.Core.Path.{◌≡◌, refl, sym, ap, ◌∙◌}
use mathlib.Core.Bool.{Bool, true, false, xor, cond}
use mathlib.Core.List.{List, ◌∷◌}
use Prim.Native.Nat.{ℕ, zero, suc, ◌+◌, ◌-◌, ◌<◌, ◌≤◌}
use native.Mathlib.Nat.{add-zero}
use native.Mathlib.Numerals.{add-one}
use native.Mathlib.Omega.{arith}
use Rattle.scope.specs.Cells.{Point}
use Rattle.scope.specs.Area.{last_of}
use Rattle.scope.specs.Containment.{Answer, outside, boundary, inside, on_pair, flips, signed, walk, point_against, decide, ring_against}
use Rattle.scope.specs.Stitching.{Line}
use Rattle.extents.specs.Points.{point_in, ring_in}
use Rattle.area.specs.Answers.{place_of}
use Rattle.taking.specs.Places.{walk_to, beside}
use Rattle.taking.proofs.Rows.{passed_over}

-- a sign that is not flipped stays
pub false-xor : (t : Bool) → xor false t ≡ t
unfolding xor
false-xor true = refl
false-xor false = refl

xor-false : (t : Bool) → xor t false ≡ t
unfolding xor
xor-false true = refl
xor-false false = refl

module _ (points : List ℕ) (n : ℕ) (p : Point) (k : ℕ) (within : Bool) where
  -- no pair is left
  pub walk_end : n ≤ k → walk_to points k n p within ≡ signed within
  unfolding walk_to walk ring_in
  walk_end h =
      let e : n - k ≡ 0 = omega arith in
      rw e

  -- one pair more
  pub walk-next : k < n →
      walk_to points k n p within
      ≡ cond (on_pair (point_in points k) (point_in points (suc k)) p) boundary
      (walk_to points (suc k) n p (xor (flips (point_in points k) (point_in points (suc k)) p) within))
  unfolding walk_to walk ring_in
  walk-next h =
      let e : n - k ≡ suc (n - suc k) = omega arith in
      rw e

-- no pair before k holds the point p, and `within` is the sign so far
pub record Along (points : List ℕ) (from to : ℕ) (p : Point) (start within : Bool) (k : ℕ) : Type 0 where
  pub left : walk_to points from to p start ≡ walk_to points k to p within

module _ {points : List ℕ} {from to : ℕ} {p : Point} {start within : Bool} {k : ℕ} (s : Along points from to p start within k) (h : k < to) {a b : Point} (a-is : a ≡ point_in points k) (b-is : b ≡ point_in points (k + 1)) where
  pair-next : walk_to points from to p start ≡ cond (on_pair a b p) boundary (walk_to points (k + 1) to p (xor (flips a b p) within))
  pair-next = s.left ∙ walk-next points to p k within h ∙ rw (a-is, b-is, add-one k) refl

  -- a pair that holds the point answers at once
  pub along-held : {held : Bool} → held ≡ on_pair a b p → held ≡ true → walk_to points from to p start ≡ boundary
  along-held e f = pair-next ∙ rw (← e, f) refl

  next : (turned : Bool) → on_pair a b p ≡ false → flips a b p ≡ turned → Along points from to p start (xor turned within) (k + 1)
  next turned e f = record { left = pair-next ∙ rw (e, f) refl }

  -- a pair that does not hold it is passed
  pub along-next : {held turned : Bool} → held ≡ on_pair a b p → held ≡ false → turned ≡ flips a b p →
      Along points from to p start (xor turned within) (k + 1)
  along-next e f g = next _ (sym e ∙ f) (sym g)

  -- and so is a pair that the point's row is beside
  pub along-beside : {aside : Bool} → aside ≡ beside a.y b.y p.y → aside ≡ true → Along points from to p start within (k + 1)
  along-beside e f =
      let over = passed_over a b p (sym e ∙ f) in
      rw false-xor at (next false over.0 over.1)

-- no pair is left
pub along-end : {points : List ℕ} {from to : ℕ} {p : Point} {start within : Bool} {k : ℕ} →
    Along points from to p start within k → to ≤ k → walk_to points from to p start ≡ signed within
along-end s h = s.left ∙ walk_end _ _ _ _ _ h

-- the last point of a ring
pub last-in : (points : List ℕ) (k n : ℕ) → last_of (point_in points k) (ring_in points (suc k) n) ≡ point_in points (k + n)
unfolding last_of ring_in
last-in points k zero = rw add-zero
last-in points k (suc n) = last-in points (suc k) n ∙ ap (λ m. point_in points m) (omega arith)

-- a ring's first pair is the last point and the first, and the others are those of neighbours
module _ (points : List ℕ) (first count : ℕ) (p : Point) (some : 1 ≤ count) where
  abbrev last-point : Point
  last-point = point_in points (first + (count - 1))

  first-pair : point_against (ring_in points first count) p
      ≡ cond (on_pair last-point (point_in points first) p) boundary
      (walk_to points first (first + (count - 1)) p (flips last-point (point_in points first) p))
  unfolding point_against walk_to walk ring_in
  first-pair =
      let n = count - 1 in
      let f : first + n - first ≡ n = omega arith in
      let e : count ≡ suc n = omega arith in
      ap (λ m. point_against (ring_in points first m) p) e
      ∙ ap (λ a. walk a (point_in points first ∷ ring_in points (suc first) n) p false) (last-in points first n)
      ∙ rw (f, xor-false) refl

  -- where it holds the point, that is the answer
  pub first-held : {held : Bool} → held ≡ on_pair last-point (point_in points first) p → held ≡ true →
      point_against (ring_in points first count) p ≡ boundary
  first-held e f = first-pair ∙ rw (← e, f) refl

  -- else the others answer
  pub first-passed : {held turned : Bool} → held ≡ on_pair last-point (point_in points first) p → held ≡ false →
      turned ≡ flips last-point (point_in points first) p →
      point_against (ring_in points first count) p ≡ walk_to points first (first + (count - 1)) p turned
  first-passed e f g = first-pair ∙ rw (← e, f, ← g) refl

-- every vertex before v of the tested ring lies on a pair of the outer one
pub record Passed (outer tested : Line) (points : List ℕ) (end v : ℕ) : Type 0 where
  pub left : ring_against outer tested ≡ ring_against outer (ring_in points v (end - v))

module _ {outer tested : Line} {points : List ℕ} {end v : ℕ} (s : Passed outer tested points end v) where
  -- a vertex decides, or those after it do
  vertex-next : v < end →
      ring_against outer tested ≡ decide (point_against outer (point_in points v)) (ring_against outer (ring_in points (v + 1) (end - (v + 1))))
  unfolding ring_against ring_in
  vertex-next h =
      let e : end - v ≡ suc (end - (v + 1)) = omega arith in
      s.left ∙ rw (e, add-one v) refl

  module _ (h : v < end) {p : Point} (is : p ≡ point_in points v) where
    -- a vertex on a pair is passed
    pub passed-next : point_against outer p ≡ boundary → Passed outer tested points end (v + 1)
    unfolding decide
    passed-next e = record { left = vertex-next h ∙ rw (← is, e) refl }

    -- a vertex on no pair decides
    pub decided : (sign : Bool) → point_against outer p ≡ signed sign → ring_against outer tested ≡ signed sign
    unfolding decide signed
    decided true e = vertex-next h ∙ rw (← is, e) refl
    decided false e = vertex-next h ∙ rw (← is, e) refl

  -- no vertex decides
  pub none-decided : end ≤ v → ring_against outer tested ≡ boundary
  unfolding ring_against ring_in
  none-decided h =
      let e : end - v ≡ 0 = omega arith in
      s.left ∙ rw e refl

-- an answer goes by its place
pub placed : (a b : Answer) → place_of a ≡ place_of b → a ≡ b
unfolding place_of
placed outside outside e = refl
placed boundary boundary e = refl
placed inside inside e = refl
placed outside boundary e = (cc)
placed outside inside e = (cc)
placed boundary outside e = (cc)
placed boundary inside e = (cc)
placed inside outside e = (cc)
placed inside boundary e = (cc)

-- The extent of points, taken one point at a time: the extent of all is that of the points passed, grown by those that are left. Assumes nothing.
use mathlib.Core.Path.{◌≡◌, refl, sym, ap, ◌∙◌}
use mathlib.Core.List.{List, [], ◌∷◌}
use Prim.Native.Nat.{ℕ, zero, suc, min, max, ◌+◌, ◌-◌, ◌*◌, ◌≤◌, ◌<◌}
use lib.ListN.{get_or}
use native.Mathlib.Numerals.{add-one}
use native.Mathlib.Nat.{le_refl, min-eq_left, max-eq_left}
use native.Mathlib.Omega.{arith}
use Rattle.extents.specs.declared.Extent.{Extent}
use Rattle.extents.specs.Points.{point_in, ring_in}
use Rattle.scope.specs.Cells.{Point}
use Rattle.scope.specs.Stitching.{Line}
use Rattle.extents.specs.Filling.{HoldsChunk}
use Rattle.extents.specs.Extents.{Holds, no_extent, dot, grown, grown_by, extent_of}

-- the first of some points, and those after it
pub ring-next : (points : List ℕ) (k n : ℕ) → 0 < n → ring_in points k n ≡ point_in points k ∷ ring_in points (k + 1) (n - 1)
unfolding ring_in
ring-next points k zero h = absurd (omega arith)
ring-next points k (suc n) h = let fewer : suc n - 1 ≡ n = omega arith in rw (fewer, add-one)

-- the points before number k are in the extent e
pub record Growing (points : List ℕ) (first count : ℕ) (e : Extent) (k : ℕ) : Type 0 where
  pub left : extent_of (ring_in points first count) ≡ grown_by e (ring_in points k (first + count - k))

-- no extent, with a point that fits, is the point's
grown-none : (p : Point) → p.x ≤ 65535 → p.y ≤ 65535 → grown no_extent p ≡ dot p
unfolding grown no_extent dot
grown-none p h k =
    let left : min 65535 p.x ≡ p.x = omega arith in
    let right : max 0 p.x ≡ p.x = omega arith in
    let top : min 65535 p.y ≡ p.y = omega arith in
    let bottom : max 0 p.y ≡ p.y = omega arith in
    rw (left, right, top, bottom)

from-first : (p : Point) (l : Line) → p.x ≤ 65535 → p.y ≤ 65535 → extent_of (p ∷ l) ≡ grown_by no_extent (p ∷ l)
unfolding extent_of grown_by
from-first p l h k = ap (λ e. grown_by e l) (sym (grown-none p h k))

from-none : (points : List ℕ) (first count : ℕ) → ((i : ℕ) → get_or points i 0 ≤ 65535) →
    extent_of (ring_in points first count) ≡ grown_by no_extent (ring_in points first count)
unfolding extent_of grown_by ring_in point_in
from-none points first zero fits = refl
from-none points first (suc count) fits = from-first (point_in points first) (ring_in points (suc first) count) (fits (2 * first)) (fits (2 * first + 1))

pub growing-begin : (points : List ℕ) (first count : ℕ) → ((i : ℕ) → get_or points i 0 ≤ 65535) → Growing points first count no_extent first
growing-begin points first count fits =
    let all : first + count - first ≡ count = omega arith in
    record { left = rw all (from-none points first count fits) }

module _ {points : List ℕ} {first count : ℕ} {e : Extent} {k : ℕ} (s : Growing points first count e k) where
  pub growing-next : k < first + count → Growing points first count (grown e (point_in points k)) (k + 1)
  unfolding grown_by
  growing-next h =
      let left_over : first + count - (k + 1) ≡ first + count - k - 1 = omega arith in
      record { left = s.left ∙ rw (left_over, ring-next points k (first + count - k) (omega arith)) }

  pub growing-end : first + count ≤ k → e ≡ extent_of (ring_in points first count)
  unfolding ring_in grown_by
  growing-end h = let none : first + count - k ≡ 0 = omega arith in sym (s.left ∙ rw none)

-- ---- what an extent holds

-- the point that an extent grows by is held, and so is what it held
held_new : (e : Extent) (p : Point) → Holds (grown e p) p
unfolding grown
held_new e p = record { from-left = omega arith; to-right = omega arith; from-top = omega arith; to-bottom = omega arith }

held-still : {e : Extent} {p : Point} (q : Point) → Holds e p → Holds (grown e q) p
unfolding grown
held-still q h = record { from-left = omega arith; to-right = omega arith; from-top = omega arith; to-bottom = omega arith }

held_after : {e : Extent} {p : Point} (l : Line) → Holds e p → Holds (grown_by e l) p
unfolding grown_by
held_after [] h = h
held_after {e = e} (q ∷ l) h = held_after {e = grown e q} l (held-still q h)

held-among : (e : Extent) (points : List ℕ) (first count k : ℕ) → k < count → Holds (grown_by e (ring_in points first count)) (point_in points (first + k))
unfolding ring_in grown_by
held-among e points first zero k h = absurd (omega (arith, h))
held-among e points first (suc count) zero h =
    let here : first + 0 ≡ first = omega arith in
    rw here (held_after (ring_in points (suc first) count) (held_new e (point_in points first)))
held-among e points first (suc count) (suc k) h =
    let here : first + suc k ≡ suc first + k = omega arith in
    rw here (held-among (grown e (point_in points first)) points (suc first) count k (omega arith))

-- a point's extent does not grow by the point
grown-dot : (p : Point) → grown (dot p) p ≡ dot p
unfolding grown dot
grown-dot p = rw (min-eq_left (le_refl p.x), max-eq_left (le_refl p.x), min-eq_left (le_refl p.y), max-eq_left (le_refl p.y))

extent-grown : (p : Point) (l : Line) → extent_of (p ∷ l) ≡ grown_by (dot p) (p ∷ l)
unfolding grown_by extent_of
extent-grown p l = rw (grown-dot p)

-- the extent of points holds each of them
pub extent-holds : (points : List ℕ) (first count k : ℕ) → k < count → Holds (extent_of (ring_in points first count)) (point_in points (first + k))
unfolding ring_in
extent-holds points first zero k h = absurd (omega (arith, h))
extent-holds points first (suc count) k h =
    rw (extent-grown (point_in points first) (ring_in points (suc first) count)) (held-among (dot (point_in points first)) points first (suc count) k h)

-- the extent of the 65 points of a chunk
pub chunk-meant : {e : Extent} (points : List ℕ) (j : ℕ) → e ≡ extent_of (ring_in points (64 * j) 65) → HoldsChunk points j e
chunk-meant points j is = record { holds = λ k h. rw is (extent-holds points (64 * j) 65 k (omega (arith, h))) }

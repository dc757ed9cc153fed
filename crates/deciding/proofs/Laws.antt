-- What a decision says: its answer is document 01's for the ring, its vertex has that answer, and every vertex before it answers 0. Then the walk over the
-- vertices of a ring in a packed table: those that are not passed yet come to what all do, and a vertex of the row of the outer ring's first point is passed.
-- Assumes nothing.
use mathlib.Core.Path.{◌≡◌, refl, sym, ap, ◌∙◌}
use mathlib.Core.Bool.{false}
use mathlib.Core.List.{List, [], ◌∷◌}
use Prim.Native.Nat.{ℕ, suc, ◌+◌, ◌-◌, ◌<◌, ◌≤◌}
use native.Mathlib.Decide.{dec_lt}
use native.Mathlib.Nat.{add-zero}
use native.Mathlib.Numerals.{add-one}
use native.Mathlib.Omega.{arith}
use borrow.Author.Tests.{lt-ltb, le-ltb}
use Rattle.scope.specs.Cells.{Point}
use Rattle.scope.specs.Stitching.{Line}
use Rattle.scope.specs.Containment.{Answer, outside, boundary, inside, on_pair, flips, point_against, decide, ring_against}
use Rattle.scope.proofs.Rows.{the-first-row-answers-0}
use Rattle.extents.specs.Points.{point_in, ring_in}
use Rattle.taking.specs.Places.{walk_to, beside}
use Rattle.taking.proofs.Rows.{passed_over}
use Rattle.taking.proofs.Walks.{last-in, first-passed}
use Rattle.deciding.specs.Decisions.{decided_by, decision_from, decision_of, answer_in, RingCloses}
use Rattle.deciding.specs.declared.Decision.{Decision}
use Rattle.deciding.specs.declared.Decision.TheVariants as decision-is

-- ---- what a decision says

decided-answers : (k : ℕ) (a : Answer) (later : Decision) (behind : Answer) → answer_in later ≡ behind → answer_in (decided_by k a later) ≡ decide a behind
unfolding answer_in decided_by decide
decided-answers k outside later behind e = refl
decided-answers k boundary later behind e = e
decided-answers k inside later behind e = refl

answered-from : (k : ℕ) (outer ring : Line) → answer_in (decision_from k outer ring) ≡ ring_against outer ring
unfolding answer_in decision_from ring_against
answered-from k outer [] = refl
answered-from k outer (p ∷ l) = decided-answers k (point_against outer p) (decision_from (suc k) outer l) (ring_against outer l) (answered-from (suc k) outer l)

-- the decision's answer is document 01's for the whole ring
pub decision-answers : (outer ring : Line) → answer_in (decision_of outer ring) ≡ ring_against outer ring
unfolding decision_of
decision-answers outer ring = answered-from 0 outer ring

-- ---- a point against a closed ring

-- one point twice neither holds a point of another row nor flips its sign
row_apart : (a p : Point) → (p.y ≡ a.y → ⊥) → (on_pair a a p ≡ false) × (flips a a p ≡ false)
unfolding beside
row_apart a p other = by (dec_lt p.y a.y)
  where
    by : Dec (p.y < a.y) → (on_pair a a p ≡ false) × (flips a a p ≡ false)
    by (yes h) = passed_over a a p (rw (le-ltb a.y p.y (omega arith), lt-ltb p.y a.y h))
    by (no h) = passed_over a a p (rw (lt-ltb a.y p.y (omega arith)))

module _ {points : List ℕ} {first count : ℕ} (ring : RingCloses points first count) (p : Point) where
  -- any point in the row of the ring's first vertex answers 0
  pub in-first-row : p.y ≡ (point_in points first).y → point_against (ring_in points first count) p ≡ boundary
  unfolding ring_in
  in-first-row row =
      let n = count - 1 in
      let e : count ≡ suc n = omega (arith, ring.lies.some) in
      ap (λ m. point_against (ring_in points first m) p) e
      ∙ the-first-row-answers-0 (point_in points first) (ring_in points (suc first) n) (last-in points first n ∙ ring.closed) p row

  -- for any other the pairs of neighbours answer
  pub by-neighbours : (p.y ≡ (point_in points first).y → ⊥) → point_against (ring_in points first count) p ≡ walk_to points first (first + (count - 1)) p false
  by-neighbours other =
      let aside = row_apart (point_in points first) p other in
      let closed = ring.closed in
      first-passed points first count p ring.lies.some {held = false} {turned = false} (rw closed (sym aside.0)) refl (rw closed (sym aside.1))

-- ---- the vertices of a ring

-- those from vertex v on come to what all do
pub record Left (outer : Line) (points : List ℕ) (first count v : ℕ) : Type 0 where
  pub left : decision_of outer (ring_in points first count) ≡ decision_from v outer (ring_in points (first + v) (count - v))

module _ {outer : Line} {points : List ℕ} {first count v : ℕ} (s : Left outer points first count v) where
  module _ (h : v < count) {p : Point} (is : p ≡ point_in points (first + v)) where
    -- a vertex decides, or those after it do
    vertex-next : decision_of outer (ring_in points first count)
        ≡ decided_by v (point_against outer p) (decision_from (v + 1) outer (ring_in points (first + (v + 1)) (count - (v + 1))))
    unfolding decision_from ring_in
    vertex-next =
        let e : count - v ≡ suc (count - (v + 1)) = omega arith in
        let f : first + (v + 1) ≡ suc (first + v) = omega arith in
        s.left ∙ rw (e, f, is, add-one v) refl

    -- a vertex that answers 0 is passed
    pub left-next : point_against outer p ≡ boundary → Left outer points first count (v + 1)
    unfolding decided_by
    left-next e = record { left = vertex-next ∙ rw e refl }

    -- any other decides
    pub left-inside : point_against outer p ≡ inside → decision-is.Inside v ≡ decision_of outer (ring_in points first count)
    unfolding decided_by
    left-inside e = sym (vertex-next ∙ rw e refl)

    pub left-outside : point_against outer p ≡ outside → decision-is.Outside v ≡ decision_of outer (ring_in points first count)
    unfolding decided_by
    left-outside e = sym (vertex-next ∙ rw e refl)

  -- no vertex decides
  pub left-none : count ≤ v → decision-is.Undecided ≡ decision_of outer (ring_in points first count)
  unfolding decision_from ring_in
  left-none h =
      let e : count - v ≡ 0 = omega arith in
      sym (s.left ∙ rw e refl)

-- none is passed yet
pub left-begin : (outer : Line) (points : List ℕ) (first count : ℕ) → Left outer points first count 0
unfolding decision_of
left-begin outer points first count =
    let all : count - 0 ≡ count = omega arith in
    record { left = rw (add-zero, all) refl }

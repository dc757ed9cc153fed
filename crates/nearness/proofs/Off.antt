-- A point off an extent against the pairs of points in it: which flip its sign and which hold it. The point is past both ends of every such pair, by X
-- or by Y. Assumes nothing.
use mathlib.Core.Path.{◌≡◌, ◌∙◌}
use mathlib.Core.Bool.{Bool, true, false, ◌||◌, xor, and-true, and-false}
use mathlib.Core.Logic.{◌⊎◌, inl, inr}
use Prim.Native.Nat.{◌<◌}
use native.Mathlib.Omega.{arith}
use lib.Dec.{ltb}
use borrow.Author.Tests.{ltb-true}
use Rattle.scope.specs.Cells.{Point}
use Rattle.scope.specs.Containment.{on_pair, flips}
use Rattle.extents.specs.declared.Extent.{Extent}
use Rattle.extents.specs.Extents.{apart, Holds}
use Rattle.nearness.proofs.Holding.{either, is_false, Past, over, under, none-by-rows, one-by-columns, row-by-columns}
use Rattle.nearness.proofs.Flipping.{flips-by-columns, flips-by-rows}

-- how two extents are apart
pub data Parted (e f : Extent) : Type 0 where
  right_of : e.right < f.left → Parted e f
  left-of : f.right < e.left → Parted e f
  below : e.bottom < f.top → Parted e f
  above : f.bottom < e.top → Parted e f

pub parted : (e f : Extent) → apart e f ≡ true → Parted e f
unfolding apart
parted e f h = last (either (first || second || third) fourth h)
  where
    first : Bool
    first = ltb e.right f.left

    second : Bool
    second = ltb f.right e.left

    third : Bool
    third = ltb e.bottom f.top

    fourth : Bool
    fourth = ltb f.bottom e.top

    among : (first ≡ true) ⊎ (second ≡ true) → Parted e f
    among (inl t) = right_of (ltb-true e.right f.left t)
    among (inr t) = left-of (ltb-true f.right e.left t)

    next : (first || second ≡ true) ⊎ (third ≡ true) → Parted e f
    next (inl t) = among (either first second t)
    next (inr t) = below (ltb-true e.bottom f.top t)

    last : (first || second || third ≡ true) ⊎ (fourth ≡ true) → Parted e f
    last (inl t) = next (either (first || second) third t)
    last (inr t) = above (ltb-true f.bottom e.top t)

-- how a point is off an extent
pub data Off (e : Extent) (p : Point) : Type 0 where
  off-right : e.right < p.x → Off e p
  off-left : p.x < e.left → Off e p
  off-bottom : e.bottom < p.y → Off e p
  off-top : p.y < e.top → Off e p

-- every point of an extent that is apart is off
pub off : {e f : Extent} {p : Point} → Parted e f → Holds f p → Off e p
off (right_of g) h = off-right (omega arith)
off (left-of g) h = off-left (omega arith)
off (below g) h = off-bottom (omega arith)
off (above g) h = off-top (omega arith)

-- a pair flips the sign where its two ends differ in this
abbrev pub turn : {e : Extent} {p : Point} → Off e p → Point → Bool
turn (off-right g) a = false
turn {p = p} (off-left g) a = ltb p.y a.y
turn (off-bottom g) a = false
turn (off-top g) a = false

module _ {e : Extent} {a b p : Point} (ha : Holds e a) (hb : Holds e b) where
  pub off-flips : (o : Off e p) → flips a b p ≡ xor (turn o a) (turn o b)
  unfolding xor
  off-flips (off-right g) = flips-by-columns a b p (over (omega arith) (omega arith)) ∙ and-false (xor (ltb p.y a.y) (ltb p.y b.y))
  off-flips (off-left g) = flips-by-columns a b p (under (omega arith) (omega arith)) ∙ and-true (xor (ltb p.y a.y) (ltb p.y b.y))
  off-flips (off-bottom g) = flips-by-rows a b p (over (omega arith) (omega arith))
  off-flips (off-top g) = flips-by-rows a b p (under (omega arith) (omega arith))

  past : Off e p → Past a.x b.x p.x ⊎ Past a.y b.y p.y
  past (off-right g) = inl (over (omega arith) (omega arith))
  past (off-left g) = inl (under (omega arith) (omega arith))
  past (off-bottom g) = inr (over (omega arith) (omega arith))
  past (off-top g) = inr (under (omega arith) (omega arith))

  -- a pair of two points does not hold the point
  pub off-pair : Off e p → (a ≡ b → ⊥) → on_pair a b p ≡ false
  off-pair o ne = from (past o)
    where
      from : Past a.x b.x p.x ⊎ Past a.y b.y p.y → on_pair a b p ≡ false
      from (inl s) = is_false (on_pair a b p) (λ h. ne (one-by-columns a b p s h))
      from (inr s) = is_false (on_pair a b p) (none-by-rows a b p s)

  -- a pair that holds the point has its ends in the point's row
  pub off-row : Off e p → on_pair a b p ≡ true → p.y ≡ b.y
  off-row o h = from (past o)
    where
      from : Past a.x b.x p.x ⊎ Past a.y b.y p.y → p.y ≡ b.y
      from (inl s) = row-by-columns a b p s h
      from (inr s) = absurd (none-by-rows a b p s h)

-- Rings that number 9 lets pass, and where they stand when they are packed: the words from a ring's first point on are the ring's, and they are fit.
-- Assumes nothing.
use mathlib.Core.Path.{◌≡◌, refl, ◌∙◌, ap}
use mathlib.Core.Bool.{false}
use mathlib.Core.List.{List, [], ◌∷◌, ◌++◌, append_assoc}
use Prim.Native.Nat.{ℕ, zero, suc, ◌+◌, ◌*◌, ◌≤◌, ◌<◌}
use native.Mathlib.Nat.{le_of_suc-le-suc, not-suc-le-zero}
use native.Mathlib.Omega.{arith}
use lib.ListN.{length, get_or}
use borrow.Author.Tests.{le-ltb}
use Rattle.scope.specs.Limits.{coordinate_limit, point_limit}
use Rattle.scope.specs.Cells.{Point}
use Rattle.scope.specs.Stitching.{Line}
use Rattle.scope.specs.Area.{points, last_of, any_above}
use Rattle.scope.specs.Tables.{ring_words, packed_points, first_point}
use Rattle.scope.specs.GeoJson.{unclosed}
use Rattle.laws.proofs.Ends.{same_refl}
use Rattle.laws.proofs.Conservation.{Each, Closed}
use Rattle.readable.proofs.Behind.{Behind, at_front, further}

-- a closed ring of 4 points or more and not too many, whose coordinates are within the limit
pub record Fit (ring : Line) : Type 0 where
  pub is-closed : Closed ring
  pub four : 4 ≤ length ring
  pub few : length ring ≤ point_limit
  pub inside : Each (λ p. (p.x ≤ coordinate_limit) × (p.y ≤ coordinate_limit)) ring

-- ---- a ring by its words

pub words-length : (ring : Line) → length (ring_words ring) ≡ 2 * length ring
unfolding ring_words
words-length [] = refl
words-length (p ∷ l) = omega (arith, words-length l)

pub points-of-words : (ring : Line) → points (ring_words ring) ≡ ring
unfolding ring_words points
points-of-words [] = refl
points-of-words (p ∷ l) = ap (λ (m : Line). p ∷ m) (points-of-words l)

pub none_above : (limit : ℕ) (ring : Line) → Each (λ p. (p.x ≤ limit) × (p.y ≤ limit)) ring → any_above limit (ring_words ring) ≡ false
unfolding ring_words any_above
none_above limit [] e = refl
none_above limit (p ∷ l) e = rw (le-ltb limit p.x e.0.0, le-ltb limit p.y e.0.1, none_above limit l e.1)

last-is : (q : Point) (l : Line) (p : Point) → last_of q (l ++ (p ∷ [])) ≡ p
unfolding last_of
last-is q [] p = refl
last-is q (r ∷ l) p = last-is r l p

pub closed-passes : (ring : Line) → Closed ring → unclosed ring ≡ false
unfolding unclosed
closed-passes ring (p, l, e) = ap unclosed e ∙ rw (last-is p l p, same_refl p)

-- ---- packed rings

pub ring-stands : (rings : List Line) (past : List ℕ) (i : ℕ) → i < length rings → Behind (2 * first_point rings i) (ring_words (get_or rings i [])) (packed_points rings ++ past)
unfolding packed_points first_point
ring-stands [] past i h = absurd (not-suc-le-zero h)
ring-stands (ring ∷ rings) past zero h = rw append_assoc (at_front (ring_words ring) (packed_points rings ++ past))
ring-stands (ring ∷ rings) past (suc i) h =
    let more : 2 * (length ring + first_point rings i) ≡ length (ring_words ring) + 2 * first_point rings i = omega (arith, words-length ring) in
    rw (append_assoc, more) (further (ring_words ring) (ring-stands rings past i (le_of_suc-le-suc h)))

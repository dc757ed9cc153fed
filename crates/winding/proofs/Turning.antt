-- A line of points and the same line backwards: its signed area is negated, and a closed line begins at the same point either way. What document 01 calls the
-- area is, of a closed line, the signed area negated. So a ring that has an area runs as asked in its written order, whichever way it is stored.
-- Assumes nothing.
use mathlib.Core.Path.{◌≡◌, refl, sym, ◌∙◌, ap}
use mathlib.Core.Bool.{Bool, true, false}
use mathlib.Core.List.{[], ◌∷◌, reverse, reverse_aux}
use Prim.Native.Nat.{zero, suc, ◌*◌}
use native.Mathlib.Nat.{mul_comm}
use native.Mathlib.Omega.{arith}
use lib.IntN.{ℤ, pos, negsuc, neg_ℤ, ◌+ℤ◌, +ℤ_assoc, +ℤ_comm, +ℤ_idl, +ℤ_idr, +ℤ_invr, neg_ℤ-+ℤ, neg_ℤ-neg_ℤ}
use borrow.Author.Tests.{lt-ltb, ltb-false, not-false}
use Rattle.scope.specs.Cells.{Point}
use Rattle.scope.specs.Stitching.{Line}
use Rattle.scope.specs.Area.{twist, twists, last_of, area, positive, negative}
use Rattle.scope.specs.GeoJson.{unclosed, written_order}
use Rattle.scope.specs.Winding.{side_area, signed_area, Wide, Counterclockwise, Clockwise}
use Rattle.laws.proofs.Ends.{same-eq}
use Rattle.area.proofs.Differences.{neg-diff}

-- ---- signs

positive-negated : (z : ℤ) → positive (neg_ℤ z) ≡ negative z
unfolding positive negative
positive-negated (pos zero) = refl
positive-negated (pos (suc n)) = refl
positive-negated (negsuc n) = lt-ltb 0 (suc n) (omega arith)

negative-negated : (z : ℤ) → negative (neg_ℤ z) ≡ positive z
negative-negated z = sym (positive-negated (neg_ℤ z)) ∙ ap positive (neg_ℤ-neg_ℤ z)

-- what is not 0 has one of the two signs
not_negative : (z : ℤ) → (z ≡ pos 0 → ⊥) → negative z ≡ false → positive z ≡ true
unfolding positive negative
not_negative (pos zero) wide e = absurd (wide refl)
not_negative (pos (suc n)) wide e = lt-ltb 0 (suc n) (omega arith)
not_negative (negsuc n) wide e = sym e

not-positive : (z : ℤ) → (z ≡ pos 0 → ⊥) → positive z ≡ false → negative z ≡ true
unfolding positive negative
not-positive (pos zero) wide e = absurd (wide refl)
not-positive (pos (suc n)) wide e = absurd (omega (arith, ltb-false 0 (suc n) e))
not-positive (negsuc n) wide e = refl

-- ---- sides

-- a side walked the other way
side-back : (p q : Point) → side_area q p ≡ neg_ℤ (side_area p q)
unfolding side_area
side-back p q = sym (neg-diff (p.x * q.y) (q.x * p.y))

-- a side that stays
side-none : (p : Point) → side_area p p ≡ pos 0
unfolding side_area
side-none p = +ℤ_invr (pos (p.x * p.y))

twist-side : (p q : Point) → twist p q ≡ neg_ℤ (side_area p q)
unfolding twist
twist-side p q = rw (mul_comm p.y q.x) (unfold side_area in side-back p q)

-- ---- lines

twists-sides : (p : Point) (l : Line) → twists p l ≡ neg_ℤ (signed_area (p ∷ l))
unfolding twists signed_area
twists-sides p [] = refl
twists-sides p (q ∷ l) = rw (twist-side p q, twists-sides q l) (sym (neg_ℤ-+ℤ (side_area p q) (signed_area (q ∷ l))))

-- the area of a closed line
area-by-sides : (l : Line) → unclosed l ≡ false → area l ≡ neg_ℤ (signed_area l)
unfolding unclosed area
area-by-sides [] closed = unfold signed_area in refl
area-by-sides (p ∷ l) closed =
    let ends : last_of p l ≡ p = same-eq (last_of p l) p (not-false _ closed) in
    let still : signed_area (p ∷ p ∷ l) ≡ signed_area (p ∷ l) = unfold signed_area in (rw side-none (+ℤ_idl (signed_area (p ∷ l)))) in
    rw ends (twists-sides p (p ∷ l) ∙ ap neg_ℤ still)

-- a line walked back, followed by another line from its first point
back-before : (p : Point) (l r : Line) → signed_area (reverse_aux l (p ∷ r)) ≡ neg_ℤ (signed_area (p ∷ l)) +ℤ signed_area (p ∷ r)
unfolding signed_area
back-before p [] r = sym (+ℤ_idl (signed_area (p ∷ r)))
back-before p (q ∷ l) r =
    back-before q l (p ∷ r)
    ∙ rw (side-back p q) (sym (+ℤ_assoc (neg_ℤ (signed_area (q ∷ l))) (neg_ℤ (side_area p q)) (signed_area (p ∷ r))) ∙ rw (+ℤ_comm (neg_ℤ (signed_area (q ∷ l))) (neg_ℤ (side_area p q)), neg_ℤ-+ℤ (side_area p q) (signed_area (q ∷ l))))

-- a line backwards
pub signed-area-back : (l : Line) → signed_area (reverse l) ≡ neg_ℤ (signed_area l)
signed-area-back [] = unfold signed_area in refl
signed-area-back (p ∷ l) = back-before p l [] ∙ unfold signed_area in +ℤ_idr (neg_ℤ (signed_area (p ∷ l)))

-- ---- a closed line as it is written

module _ (ring : Line) (closed : unclosed ring ≡ false) where
  pub signed-area-closed : signed_area ring ≡ neg_ℤ (area ring)
  signed-area-closed = sym (neg_ℤ-neg_ℤ (signed_area ring)) ∙ ap neg_ℤ (sym (area-by-sides ring closed))

  turned : signed_area (reverse ring) ≡ area ring
  turned = signed-area-back ring ∙ sym (area-by-sides ring closed)

  -- an exterior, written backwards where its area is positive
  pub exterior-written : Wide (written_order (positive (area ring)) ring) → Counterclockwise (written_order (positive (area ring)) ring)
  unfolding written_order Wide Counterclockwise
  exterior-written = by (positive (area ring)) refl
    where
      by : (back : Bool) → positive (area ring) ≡ back → Wide (written_order back ring) → Counterclockwise (written_order back ring)
      by true e wide = rw turned e
      by false e wide = not_negative (signed_area ring) wide (rw signed-area-closed (negative-negated (area ring) ∙ e))

  -- a hole, written backwards where its area is negative
  pub hole-written : Wide (written_order (negative (area ring)) ring) → Clockwise (written_order (negative (area ring)) ring)
  unfolding written_order Wide Clockwise
  hole-written = by (negative (area ring)) refl
    where
      by : (back : Bool) → negative (area ring) ≡ back → Wide (written_order back ring) → Clockwise (written_order back ring)
      by true e wide = rw turned e
      by false e wide = not-positive (signed_area ring) wide (rw signed-area-closed (positive-negated (area ring) ∙ e))

-- ---- where it begins

-- two lines that begin at the same point
pub record SameFirst (stored written : Line) : Type 0 where
  pub first : Point
  pub stored-rest : Line
  pub written-rest : Line
  pub stored_is : stored ≡ first ∷ stored-rest
  pub written_is : written ≡ first ∷ written-rest

-- a line walked back begins at its last point
back-begins : (p : Point) (l r : Line) → (rest : Line) × (reverse_aux l (p ∷ r) ≡ last_of p l ∷ rest)
unfolding last_of
back-begins p [] r = (r, refl)
back-begins p (q ∷ l) r = back-begins q l (p ∷ r)

-- a closed line, written either way
pub begins-the-same : (back : Bool) (p : Point) (l : Line) → unclosed (p ∷ l) ≡ false → SameFirst (p ∷ l) (written_order back (p ∷ l))
unfolding unclosed written_order
begins-the-same false p l closed = record { first = p; stored-rest = l; written-rest = l; stored_is = refl; written_is = refl }
begins-the-same true p l closed =
    let ends : last_of p l ≡ p = same-eq (last_of p l) p (not-false _ closed) in
    let begins = back-begins p l [] in
    record { first = p; stored-rest = l; written-rest = begins.0; stored_is = refl; written_is = begins.1 ∙ ap (λ (q : Point). q ∷ begins.0) ends }

-- A ring does not take a ring whose reach is apart from its extent. Every vertex of the other is off the extent, so it answers outside or lies in one row;
-- and a ring that lies in one row reaches everywhere. Assumes nothing.
use mathlib.Core.Path.{◌≡◌, refl, ap}
use mathlib.Core.Bool.{Bool, true, false, cond}
use mathlib.Core.List.{[], ◌∷◌}
use mathlib.Core.Logic.{◌⊎◌, inl, inr}
use Prim.Native.Nat.{ℕ, ◌≤◌}
use native.Mathlib.Omega.{arith}
use lib.Dec.{ltb}
use borrow.Author.Tests.{ltb-true}
use Rattle.scope.specs.Stitching.{Line}
use Rattle.scope.specs.Containment.{outside, decide, ring_against, not_outside}
use Rattle.scope.specs.Contour.{takes}
use Rattle.laws.proofs.Conservation.{Each}
use Rattle.extents.specs.declared.Extent.{Extent}
use Rattle.extents.specs.Extents.{apart, Holds, no_extent, grown, grown_by, dot, extent_of, everything, reach}
use Rattle.extents.specs.Points.{Stepping}
use Rattle.nearness.proofs.Held.{held}
use Rattle.nearness.proofs.Off.{Parted, right_of, left-of, below, above, parted, off}
use Rattle.nearness.proofs.Aside.{Aside, first_row, aside}

-- all points lie in one row
abbrev InRow : ℕ → Line → Type 0
InRow row l = Each (λ p. p.y ≡ row) l

-- the first vertex that answers outside decides, or all lie in the row
ring-aside : (outer : Line) (row : ℕ) (tested : Line) → Each (Aside outer row) tested → (ring_against outer tested ≡ outside) ⊎ InRow row tested
unfolding ring_against decide
ring-aside outer row [] hs = inr tt
ring-aside outer row (p ∷ l) hs = from hs.0 (ring-aside outer row l hs.1)
  where
    from : Aside outer row p → (ring_against outer l ≡ outside) ⊎ InRow row l → (ring_against outer (p ∷ l) ≡ outside) ⊎ InRow row (p ∷ l)
    from (inl e) rest = inl (rw e refl)
    from (inr e) (inl f) = inl (rw (e.0, f) refl)
    from (inr e) (inr f) = inr (e.1, f)

-- an extent in one row stays there with more points of it
grown-in-row : (row : ℕ) (e : Extent) (l : Line) → e.bottom ≤ row → row ≤ e.top → InRow row l → (grown_by e l).bottom ≤ (grown_by e l).top
unfolding grown_by grown
grown-in-row row e [] h i hs = omega arith
grown-in-row row e (p ∷ l) h i hs = grown-in-row row (grown e p) l (omega arith) (omega arith) hs.1

in_row : (row : ℕ) (l : Line) → InRow row l → (extent_of l).bottom ≤ (extent_of l).top
unfolding extent_of no_extent dot
in_row row [] hs = omega arith
in_row row (p ∷ l) hs = grown-in-row row (dot p) l (omega arith) (omega arith) hs.1

-- each vertex of a ring that is apart
each-aside : (outer : Line) (f : Extent) (l : Line) → Stepping outer → Parted (extent_of outer) f → Each (Holds f) l → Each (Aside outer (first_row outer)) l
each-aside outer f [] s g hs = tt
each-aside outer f (p ∷ l) s g hs = (aside outer p s (off g hs.0), each-aside outer f l s g hs.1)

-- nothing is apart from everything
not-everything : (e : Extent) → e.left ≤ 65535 → e.top ≤ 65535 → Parted e everything → ⊥
unfolding everything
not-everything e h i (right_of g) = omega arith
not-everything e h i (left-of g) = omega arith
not-everything e h i (below g) = omega arith
not-everything e h i (above g) = omega arith

pub apart-is-not-taken : (outer tested : Line) → Stepping outer → (extent_of outer).left ≤ 65535 → (extent_of outer).top ≤ 65535 →
    apart (extent_of outer) (reach (extent_of tested)) ≡ true → takes outer tested ≡ false
unfolding reach takes not_outside
apart-is-not-taken outer tested s h i far = from (ltb f.top f.bottom) refl (parted (extent_of outer) (reach f) far)
  where
    f : Extent
    f = extent_of tested

    from : (t : Bool) → ltb f.top f.bottom ≡ t → Parted (extent_of outer) (cond t f everything) → takes outer tested ≡ false
    from false e g = absurd (not-everything (extent_of outer) h i g)
    from true e g = by (ring-aside outer (first_row outer) tested (each-aside outer f tested s g (held tested)))
      where
        by : (ring_against outer tested ≡ outside) ⊎ InRow (first_row outer) tested → takes outer tested ≡ false
        by (inl q) = ap not_outside q
        by (inr q) = absurd (omega (arith, in_row (first_row outer) tested q, ltb-true f.top f.bottom e))

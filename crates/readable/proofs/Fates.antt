-- Fates that number 9 lets pass: polygons, holes with a polygon's number as their owner, and dropped holes. The fates of rings by their classes are such,
-- since only a polygon is taken as an owner. Assumes nothing.
use mathlib.Core.Path.{◌≡◌, refl, ap, subst}
use mathlib.Core.Bool.{Bool, true, false, cond, ◌&&◌}
use mathlib.Core.List.{List, [], ◌∷◌}
use Prim.Native.Nat.{ℕ, zero, suc, ◌+◌, ◌<◌, suc-le-suc}
use native.Mathlib.Nat.{le_of_suc-le-suc, not-suc-le-zero, suc_inj, add-zero, zero-add}
use native.Mathlib.Omega.{arith}
use lib.ListN.{length, get_or}
use Rattle.scope.specs.Stitching.{Line}
use Rattle.scope.specs.Contour.{Fate, polygon, hole, dropped, line, takes, owner_from, fates_by}
use Rattle.laws.proofs.Conservation.{Each}

-- a polygon, a dropped hole, or a hole whose owner's number has a property
abbrev pub OwnedBy : (ℕ → Type 0) → Fate → Type 0
OwnedBy P polygon = Unit {0}
OwnedBy P (hole owner) = P owner
OwnedBy P dropped = Unit {0}
OwnedBy P line = ⊥

-- a polygon's number
abbrev pub PolygonIn : List Fate → ℕ → Type 0
PolygonIn fates i = (i < length fates) × (get_or fates i line ≡ polygon)

-- what holds of each polygon's number, numbered from k, holds of the owner that is found
owner-found : (P : ℕ → Type 0) (k : ℕ) (classes : List Bool) (outers : List Line) (ring : Line)
    → ((i : ℕ) → i < length classes → get_or classes i false ≡ true → P (k + i)) → OwnedBy P (owner_from k classes outers ring)
unfolding owner_from
owner-found P k [] outers ring each = tt
owner-found P k (class ∷ classes) [] ring each = tt
owner-found P k (class ∷ classes) (outer ∷ outers) ring each =
    by class (takes outer ring) (λ e. rw add-zero at (each 0 (suc-le-suc (omega arith)) e))
    (owner-found P (suc k) classes outers ring (λ i h e. subst P (omega arith) (each (suc i) (suc-le-suc h) e)))
  where
    by : (a b : Bool) → (a ≡ true → P k) → OwnedBy P (owner_from (suc k) classes outers ring) → OwnedBy P (cond (a && b) (hole k) (owner_from (suc k) classes outers ring))
    by true true here behind = here refl
    by true false here behind = behind
    by false b here behind = behind

module _ (classes : List Bool) (all : List Line) where
  pub fates-length : (rest : List Bool) (rings : List Line) → length rest ≡ length rings → length (fates_by classes all rest rings) ≡ length rings
  unfolding fates_by
  fates-length [] rings e = e
  fates-length (class ∷ rest) [] e = absurd (omega arith)
  fates-length (class ∷ rest) (ring ∷ rings) e = ap suc (fates-length rest rings (suc_inj e))

  polygon-at : (rest : List Bool) (rings : List Line) → length rest ≡ length rings → (i : ℕ) → i < length rest → get_or rest i false ≡ true
      → get_or (fates_by classes all rest rings) i line ≡ polygon
  unfolding fates_by
  polygon-at [] rings e i h p = absurd (not-suc-le-zero h)
  polygon-at (class ∷ rest) [] e i h p = absurd (omega arith)
  polygon-at (class ∷ rest) (ring ∷ rings) e zero h p = rw p
  polygon-at (class ∷ rest) (ring ∷ rings) e (suc i) h p = polygon-at rest rings (suc_inj e) i (le_of_suc-le-suc h) p

  each_owned : (P : ℕ → Type 0) → ((i : ℕ) → i < length classes → get_or classes i false ≡ true → P i)
      → (rest : List Bool) (rings : List Line) → Each (OwnedBy P) (fates_by classes all rest rings)
  unfolding fates_by
  each_owned P each [] rings = tt
  each_owned P each (class ∷ rest) [] = tt
  each_owned P each (class ∷ rest) (ring ∷ rings) = (by class, each_owned P each rest rings)
    where
      by : (b : Bool) → OwnedBy P (cond b polygon (owner_from 0 classes all ring))
      by true = tt
      by false = owner-found P 0 classes all ring (λ i h e. rw zero-add (each i h e))

-- in the fates of rings by their classes, only polygons own
pub fates-owned : (classes : List Bool) (rings : List Line) → length classes ≡ length rings
    → Each (OwnedBy (PolygonIn (fates_by classes rings classes rings))) (fates_by classes rings classes rings)
fates-owned classes rings e =
    each_owned classes rings _ (λ i h p. (rw (fates-length classes rings classes rings e, ← e) h, polygon-at classes rings classes rings e i h p)) classes rings

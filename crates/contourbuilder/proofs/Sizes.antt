-- The rings of a grid that fits are such as a search for owners asks, they are few enough for the link table's needed words to be worked in, and a directory
-- of bare records has their counts. Assumes nothing.
use mathlib.Core.Path.{◌≡◌, refl, ◌∙◌, ap}
use mathlib.Core.List.{List, [], ◌∷◌, ◌++◌}
use Prim.Native.Nat.{ℕ, zero, suc, ◌+◌, ◌*◌, ◌≤◌, ◌<◌}
use native.Mathlib.Nat.{le_of_suc-le-suc, not-suc-le-zero}
use native.Mathlib.Omega.{arith}
use lib.Ieee.{Float}
use lib.ListN.{length, get_or}
use Rattle.scope.specs.declared.Level.{Level}
use Rattle.scope.specs.Limits.{side_limit, coordinate_limit, point_limit}
use Rattle.scope.specs.Terrain.{Sheet, above_at, terrain}
use Rattle.scope.specs.Stitching.{Line}
use Rattle.scope.specs.Drawing.{segments_of, segment_count, rings_of, ring_count}
use Rattle.scope.specs.Tables.{short_of, bare_by}
use Rattle.laws.proofs.Total.{total}
use Rattle.laws.proofs.Conservation.{Each}
use Rattle.laws.proofs.Rings.{Within, RingLaw}
use Rattle.laws.proofs.Laws.{rings-are-rings, points-are-segments-and-rings}
use Rattle.grid.specs.Grid.{Sized}
use Rattle.scan.proofs.Steps.{segments-are-few}
use Rattle.isoringbuilder.proofs.Limits.{outside}
use Rattle.contourbuilder.proofs.Laid.{Drawn, steps}

-- the count of record r, among bare records
pub bare-count : (k first : ℕ) (rings : List Line) (past : List ℕ) (r : ℕ) → r < length rings → get_or (bare_by short_of k first rings ++ past) (4 * r + 1) 0 ≡ length (get_or rings r [])
unfolding bare_by short_of
bare-count k first [] past r h = absurd (not-suc-le-zero h)
bare-count k first (ring ∷ rings) past zero h = refl
bare-count k first (ring ∷ rings) past (suc r) h =
    ap (λ (i : ℕ). get_or (bare_by short_of k first (ring ∷ rings) ++ past) i 0) further ∙ bare-count (suc k) (first + length ring) rings past r (le_of_suc-le-suc h)
  where
    further : 4 * suc r + 1 ≡ suc (suc (suc (suc (4 * r + 1))))
    further = omega arith

-- five points a ring or more
fives : (dx dy : ℕ) (rings : List Line) → Each (RingLaw dx dy) rings → 5 * length rings ≤ total length rings
unfolding total
fives dx dy [] e = omega arith
fives dx dy (ring ∷ rings) e = omega (arith, e.0.five, fives dx dy rings e.1)

within-limit : (dx dy limit : ℕ) → 2 * dx ≤ limit → 2 * dy ≤ limit → (l : Line) → Each (Within dx dy) l → Each (λ p. (p.x ≤ limit) × (p.y ≤ limit)) l
within-limit dx dy limit hx hy [] w = tt
within-limit dx dy limit hx hy (p ∷ l) w = ((omega (arith, w.0.0), omega (arith, w.0.1)), within-limit dx dy limit hx hy l w.1)

each-drawn : (dx dy : ℕ) → 2 * dx ≤ coordinate_limit → 2 * dy ≤ coordinate_limit → (rings : List Line) → total length rings ≤ point_limit → Each (RingLaw dx dy) rings → Each Drawn rings
unfolding total
each-drawn dx dy hx hy [] few e = tt
each-drawn dx dy hx hy (ring ∷ rings) few e = (
  record {
    some = omega (arith, e.0.five);
    few = omega arith;
    steps-differ = steps ring e.0.neighbours_differ;
    inside = within-limit dx dy coordinate_limit hx hy ring e.0.inside;
  },
  each-drawn dx dy hx hy rings (omega arith) e.1,
)

module _ (values : List Float) (level : Level) (dx dy : ℕ) (sized : Sized (length values) dx dy) where
  abbrev A : Sheet
  A = terrain (above_at level) values dx dy

  pub laws : Each (RingLaw dx dy) (rings_of (terrain (above_at level) values dx dy) dx dy)
  unfolding rings_of
  laws = rings-are-rings A (outside values level dx dy sized) dy (suc dx) (omega arith) (omega arith)

  pub points-are : total length (rings_of (terrain (above_at level) values dx dy) dx dy) ≡ segment_count (terrain (above_at level) values dx dy) dx dy + ring_count (terrain (above_at level) values dx dy) dx dy
  points-are = points-are-segments-and-rings A (outside values level dx dy sized)

  -- four segments a ring or more
  pub fours : 4 * ring_count (terrain (above_at level) values dx dy) dx dy ≤ segment_count (terrain (above_at level) values dx dy) dx dy
  unfolding ring_count
  fours = omega (arith, fives dx dy (rings_of A dx dy) laws, points-are)

  few-points : total length (rings_of A dx dy) ≤ point_limit
  unfolding segment_count segments_of side_limit point_limit
  few-points = omega (arith, points-are, fours, segments-are-few A (outside values level dx dy sized) side_limit dy (suc dx) sized.columns sized.rows (omega arith))

  pub rings-drawn : Each Drawn (rings_of (terrain (above_at level) values dx dy) dx dy)
  unfolding side_limit coordinate_limit
  rings-drawn = each-drawn dx dy (omega (arith, sized.columns)) (omega (arith, sized.rows)) (rings_of A dx dy) few-points laws

-- An extent holds the points that it was made of. Each point more makes it no smaller. Assumes nothing.
use mathlib.Core.List.{[], ◌∷◌}
use native.Mathlib.Omega.{arith}
use Rattle.scope.specs.Cells.{Point}
use Rattle.scope.specs.Stitching.{Line}
use Rattle.laws.proofs.Conservation.{Each}
use Rattle.extents.specs.declared.Extent.{Extent}
use Rattle.extents.specs.Extents.{Holds, Inside, grown, grown_by, dot, extent_of}

-- a larger extent holds what a smaller one does
pub holds-inside : {e f : Extent} {p : Point} → Inside e f → Holds e p → Holds f p
holds-inside i h = omega arith

-- an extent lies within what it grows to
pub inside-grown : (e : Extent) (l : Line) → Inside e (grown_by e l)
unfolding grown_by grown
inside-grown e [] = omega arith
inside-grown e (p ∷ l) = let i = inside-grown (grown e p) l in omega arith

-- which holds the points by which it grew
pub grown-holds : (e : Extent) (l : Line) → Each (Holds (grown_by e l)) l
unfolding grown_by grown
grown-holds e [] = tt
grown-holds e (p ∷ l) = (let i = inside-grown (grown e p) l in omega arith, grown-holds (grown e p) l)

-- every point of a line is held by the line's extent
pub held : (l : Line) → Each (Holds (extent_of l)) l
unfolding extent_of dot
held [] = tt
held (p ∷ l) = (let i = inside-grown (dot p) l in omega arith, grown-holds (dot p) l)

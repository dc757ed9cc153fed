-- Rings are closed, so the first pair of a point against a ring is one point twice, which is collinear with every point and lies level with its whole row.
-- Assumes nothing.
use mathlib.Core.Path.{◌≡◌, refl}
use mathlib.Core.Bool.{true}
use mathlib.Core.List.{◌∷◌}
use native.Mathlib.Omega.{arith}
use lib.IntN.{pos, +ℤ_invr, zero-*ℤ, *ℤ-zero}
use borrow.Author.Tests.{eq-eqb, le-leb}
use Rattle.scope.specs.Cells.{Point}
use Rattle.scope.specs.Stitching.{Line}
use Rattle.scope.specs.Area.{last_of}
use Rattle.scope.specs.Containment.{boundary, is_zero, collinear, between, on_pair, walk, point_against}

one-point-holds-its-row : (a p : Point) → p.y ≡ a.y → on_pair a a p ≡ true
unfolding on_pair collinear is_zero between
one-point-holds-its-row a p row =
    rw (+ℤ_invr (pos a.x), +ℤ_invr (pos a.y), zero-*ℤ, *ℤ-zero, row, eq-eqb a.x a.x refl, le-leb a.y a.y (omega arith)) refl

-- any point in the row of the ring's first vertex answers 0
pub the-first-row-answers-0 : (a : Point) (l : Line) → last_of a l ≡ a → (p : Point) → p.y ≡ a.y → point_against (a ∷ l) p ≡ boundary
unfolding point_against walk
the-first-row-answers-0 a l closed p row = rw (closed, one-point-holds-its-row a p row) refl

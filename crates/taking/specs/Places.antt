-- The answer of some of a ring's pairs, and a test of rows that spares a pair the exact ones. Assumes nothing.
use Rattle.std.specs.Prelude.{Bool, ◌&&◌, ◌||◌, List, ℕ, suc, ◌-◌, ltb}
use Rattle.scope.specs.Cells.{Point}
use Rattle.scope.specs.Containment.{Answer, walk}
use Rattle.extents.specs.Points.{point_in, ring_in}

-- what the pairs of neighbours from point k to point n answer for p, with the sign so far
unfoldable pub walk_to : List ℕ → ℕ → ℕ → Point → Bool → Answer
walk_to points k n p within = walk (point_in points k) (ring_in points (suc k) (n - k)) p within

-- both rows lie before the row y, or both after it
unfoldable pub beside : ℕ → ℕ → ℕ → Bool
beside ay by y = (ltb ay y && ltb by y) || (ltb y ay && ltb y by)

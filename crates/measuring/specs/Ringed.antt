-- The area of the ring that a first point and a point count name, whatever the points are; and what a step adds to an area in two's complement.
-- Assumes nothing.
use Rattle.std.specs.Prelude.{◌≡◌, ℕ, ◌+◌, ◌*◌, cond, List, length, ℤ, pos, ◌+ℤ◌, nat_lt}
use Rattle.scope.specs.Cells.{Point}
use Rattle.scope.specs.Area.{points, twist, area, twos_complement}
use Rattle.scope.specs.GeoJson.{words_in}

-- 0 where the points do not reach so far
unfoldable pub area_in : List ℕ → ℕ → ℕ → ℤ
area_in ps first count = cond (nat_lt (length ps) (2 * (first + count))) (pos 0) (area (points (words_in ps first count)))

-- whatever area a number is, this one is that area with the step from one point to the next
unfoldable pub Turned : ℕ → Point → Point → ℕ → Type 0
Turned number p q number' = (a : ℤ) → number ≡ twos_complement a → number' ≡ twos_complement (a +ℤ twist p q)

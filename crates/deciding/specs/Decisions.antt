-- A ring against a ring: "the first vertex whose answer is not 0 decides; if there is none, 0", with the number of that vertex. Then what is asked of rings
-- whose points stand in a packed table. Assumes nothing.
use Rattle.std.specs.Prelude.{◌≡◌, List, [], ◌∷◌, ℕ, suc, ◌+◌, ◌*◌, ◌-◌, ◌≤◌, length}
use Rattle.scope.specs.Limits.{point_limit}
use Rattle.scope.specs.Stitching.{Line}
use Rattle.scope.specs.Containment.{Answer, outside, boundary, inside, point_against}
use Rattle.extents.specs.Points.{point_in}
use Rattle.deciding.specs.declared.Decision.{Decision}
use Rattle.deciding.specs.declared.Decision.TheVariants as decision-is

-- vertex k has this answer, and the vertices after it come to this
unfoldable pub decided_by : ℕ → Answer → Decision → Decision
decided_by k outside later = decision-is.Outside k
decided_by k boundary later = later
decided_by k inside later = decision-is.Inside k

-- the vertices of a ring against another, the outer one, numbered from k
unfoldable pub decision_from : ℕ → Line → Line → Decision
decision_from k outer [] = decision-is.Undecided
decision_from k outer (p ∷ l) = decided_by k (point_against outer p) (decision_from (suc k) outer l)

unfoldable pub decision_of : Line → Line → Decision
decision_of outer ring = decision_from 0 outer ring

-- document 01's -1, 0 or 1 for the ring, by its decision
unfoldable pub answer_in : Decision → Answer
answer_in (decision-is.Inside k) = inside
answer_in (decision-is.Outside k) = outside
answer_in decision-is.Undecided = boundary

-- ---- rings in a packed table

-- the words hold a ring of so many points from the point of number first on
pub record RingLies (points : List ℕ) (first count : ℕ) : Type 0 where
  pub some : 1 ≤ count
  pub few : count ≤ point_limit
  pub within : 2 * (first + count) ≤ length points

-- and its last point is the first
pub record RingCloses (points : List ℕ) (first count : ℕ) : Type 0 where
  pub lies : RingLies points first count
  pub closed : point_in points (first + (count - 1)) ≡ point_in points first

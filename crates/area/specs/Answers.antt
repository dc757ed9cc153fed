-- What `area` and `contains` answer on every input, by document 01's definitions. Assumes nothing.
use Rattle.std.specs.Prelude.{cond, List, ℕ, ℤ, Result, Ok, Err}
use Rattle.error.specs.declared.Refusal.TheVariants.{BadRing}
use Rattle.scope.specs.Area.{points, area, area_refused}
use Rattle.scope.specs.Containment.{Answer, outside, boundary, inside, ring_against, contains_refused}
use Rattle.area.specs.declared.Containment.{Containment}
use Rattle.area.specs.declared.Containment.TheVariants as place_is
use Rattle.error.specs.declared.Refusal.{Refusal}

-- number 11, or the area
unfoldable pub area_answer : List ℕ → Result ℤ Refusal
area_answer ring = cond (area_refused ring) (Err BadRing) (Ok (area (points ring)))

-- document 01's -1, 0 and 1
unfoldable pub place_of : Answer → Containment
place_of outside = place_is.Outside
place_of boundary = place_is.Boundary
place_of inside = place_is.Inside

-- number 11, or the answer of the tested ring against the outer ring
unfoldable pub contains_answer : List ℕ → List ℕ → Result Containment Refusal
contains_answer outer tested =
    cond (contains_refused outer tested) (Err BadRing) (Ok (place_of (ring_against (points outer) (points tested))))

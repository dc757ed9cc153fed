-- What the entries for C return, and what they leave in their outputs. Assumes nothing.
use Rattle.std.specs.Prelude.{Bool, cond, List, ℕ, ℤ, pos, negsuc}
use Rattle.error.specs.Number.{refusal_number}
use Rattle.error.specs.declared.Refusal.TheVariants.{BadRing}
use Rattle.scope.specs.Area.{points, area, area_refused}
use Rattle.area.specs.declared.Containment.{Containment}
use Rattle.area.specs.declared.Containment.TheVariants as place_is
use Rattle.scope.specs.Containment.{answer_number, ring_against, contains_refused}

-- 0, or number 11
unfoldable pub status_of : Bool → ℕ
status_of refused = cond refused (refusal_number BadRing) 0

-- the area of the ring; where that is refused, what stood there
unfoldable pub area_output : List ℕ → ℤ → ℤ
area_output ring old = cond (area_refused ring) old (area (points ring))

-- a place by its number
abbrev pub place_number : Containment → ℤ
place_number place_is.Inside = pos 1
place_number place_is.Boundary = pos 0
place_number place_is.Outside = negsuc 0

-- -1, 0 or 1 for the tested ring against the outer ring; where that is refused, what stood there
unfoldable pub contains_output : List ℕ → List ℕ → ℤ → ℤ
contains_output outer tested old =
    cond (contains_refused outer tested) old (answer_number (ring_against (points outer) (points tested)))

-- The fate of a ring of a contour, by the points of a ring set and not by the words of its records: polygon; hole of polygon k, with the vertex that decided it or
-- the word that every vertex answered 0; or dropped. And what one ring of the set answers for another. Number 9 comes first, then 15. Assumes nothing.
use Rattle.std.specs.Prelude.{◌≡◌, Bool, true, false, cond, ◌&&◌, List, [], ◌∷◌, ℕ, zero, suc, ◌<◌, ltb, get_or, Result, Ok, Err}
use Rattle.error.specs.declared.Refusal.TheVariants.{BadRingSet, NotThere}
use Rattle.scope.specs.Stitching.{Line}
use Rattle.scope.specs.Area.{area, positive}
use Rattle.scope.specs.Containment.{outside, ring_against}
use Rattle.scope.specs.Contour.{Fate, polygon, hole, dropped, line, takes, owner_from, contour_classes, contour_fates}
use Rattle.scope.specs.GeoJson.{ring_at, ring_set_refused}
use Rattle.deciding.specs.Decisions.{decision_of}
use Rattle.deciding.specs.declared.Decision.{Decision}
use Rattle.explaining.specs.declared.RingFate.{RingFate}
use Rattle.explaining.specs.declared.RingFate.TheVariants as fate-is
use Rattle.error.specs.declared.Refusal.{Refusal}

-- the rings of n records from record k on, by their points
unfoldable pub rings_from : List ℕ → List ℕ → ℕ → ℕ → List Line
rings_from ps directory k zero = []
rings_from ps directory k (suc n) = ring_at ps directory k ∷ rings_from ps directory (suc k) n

-- all rings of a set
unfoldable pub rings_in : List ℕ → List ℕ → ℕ → List Line
rings_in ps directory rings = rings_from ps directory 0 rings

-- ring k of a set that number 9 lets pass
pub record RingOf (ps directory : List ℕ) (rings k : ℕ) : Type 0 where
  pub passes : ring_set_refused ps directory rings ≡ false
  pub there : k < rings

-- ---- the fate of a ring

-- a fate, and for a hole what its owner answered; a contour has no line among its fates
unfoldable pub told : List Line → Line → Fate → RingFate
told all ring polygon = fate-is.Polygon
told all ring (hole k) = fate-is.Hole k (decision_of (get_or all k []) ring)
told all ring dropped = fate-is.Dropped
told all ring line = fate-is.Dropped

-- a ring that is no polygon, among all rings
unfoldable pub hole_told : List Line → Line → RingFate
hole_told all ring = told all ring (owner_from 0 (contour_classes all) all ring)

-- ring i of all rings, by document 01's fates of a contour
unfoldable pub fate_told : List Line → ℕ → RingFate
fate_told all i = told all (get_or all i []) (get_or (contour_fates all) i dropped)

unfoldable pub fate_answer : List ℕ → List ℕ → ℕ → ℕ → Result RingFate Refusal
fate_answer ps directory rings i =
    cond (ring_set_refused ps directory rings) (Err BadRingSet)
    (cond (ltb i rings) (Ok (fate_told (rings_in ps directory rings) i)) (Err NotThere))

-- ring j is a polygon by its points
unfoldable pub is_polygon_by : List ℕ → List ℕ → ℕ → Bool
is_polygon_by ps directory j = positive (area (ring_at ps directory j))

-- every polygon numbered below n answered -1 for ring i
abbrev pub AllOutside : List ℕ → List ℕ → ℕ → ℕ → Type 0
AllOutside ps directory i n = (j : ℕ) → j < n → is_polygon_by ps directory j ≡ true → ring_against (ring_at ps directory j) (ring_at ps directory i) ≡ outside

-- what an owner is: a polygon that takes the ring, with this decision, and every polygon numbered lower answered -1
pub record Owner (ps directory : List ℕ) (rings i k : ℕ) (d : Decision) : Type 0 where
  pub within : k < rings
  pub is-polygon : is_polygon_by ps directory k ≡ true
  pub decided : d ≡ decision_of (ring_at ps directory k) (ring_at ps directory i)
  pub taken : takes (ring_at ps directory k) (ring_at ps directory i) ≡ true
  pub lower-outside : AllOutside ps directory i k

-- the answer on every input, and what it shows of the polygons
pub record FateFound (ps directory : List ℕ) (rings i : ℕ) (answer : Result RingFate Refusal) : Type 0 where
  pub answers : answer ≡ fate_answer ps directory rings i
  pub of-hole : (k : ℕ) (d : Decision) → answer ≡ Ok (fate-is.Hole k d) → Owner ps directory rings i k d
  pub of-dropped : answer ≡ Ok fate-is.Dropped → AllOutside ps directory i rings

-- ---- the answer of one polygon

-- ring k's answer for ring i; any ring of the set may be asked
unfoldable pub polygon_answer : List ℕ → List ℕ → ℕ → ℕ → ℕ → Result Decision Refusal
polygon_answer ps directory rings k i =
    cond (ring_set_refused ps directory rings) (Err BadRingSet)
    (cond (ltb k rings && ltb i rings) (Ok (decision_of (ring_at ps directory k) (ring_at ps directory i))) (Err NotThere))

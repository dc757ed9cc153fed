-- Classes and owners in a contour. A fate is what a record says of its ring. Assumes nothing.
use Rattle.std.specs.Prelude.{ℕ, suc, Bool, cond, ◌&&◌, List, [], ◌∷◌, map}
use Rattle.scope.specs.Limits.{no_owner}
use Rattle.scope.specs.Stitching.{Line}
use Rattle.scope.specs.Area.{area, positive}
use Rattle.scope.specs.Containment.{ring_against, not_outside}

-- polygon, hole with its owner's number, dropped hole, and line or bare ring
pub data Fate : Type 0 where
  polygon : Fate
  hole : ℕ → Fate
  dropped : Fate
  line : Fate

-- class and owner as a record's words; k is the record's own number
unfoldable pub class_word : Fate → ℕ
class_word polygon = 0
class_word (hole owner) = 1
class_word dropped = 1
class_word line = 2

unfoldable pub owner_word : ℕ → Fate → ℕ
owner_word k polygon = k
owner_word k (hole owner) = owner
owner_word k dropped = no_owner
owner_word k line = no_owner

-- the polygon's answer for the ring is not -1
unfoldable pub takes : Line → Line → Bool
takes outer ring = not_outside (ring_against outer ring)

-- the first of the rings, numbered from k, that is a polygon and takes the ring; if there is none the ring is dropped
unfoldable pub owner_from : ℕ → List Bool → List Line → Line → Fate
owner_from k [] outers ring = dropped
owner_from k (is_polygon ∷ classes) [] ring = dropped
owner_from k (is_polygon ∷ classes) (outer ∷ outers) ring =
    cond (is_polygon && takes outer ring) (hole k) (owner_from (suc k) classes outers ring)

-- the fates of rings whose classes are known
unfoldable pub fates_by : List Bool → List Line → List Bool → List Line → List Fate
fates_by classes all [] rings = []
fates_by classes all (is_polygon ∷ rest) [] = []
fates_by classes all (is_polygon ∷ rest) (ring ∷ rings) =
    cond is_polygon polygon (owner_from 0 classes all ring) ∷ fates_by classes all rest rings

-- a contour: area above 0 is a polygon, otherwise a hole, which belongs to the polygon of lowest ring number whose answer is not -1
unfoldable pub contour_classes : List Line → List Bool
contour_classes rings = map (λ ring. positive (area ring)) rings

unfoldable pub contour_fates : List Line → List Fate
contour_fates rings = fates_by (contour_classes rings) rings (contour_classes rings) rings

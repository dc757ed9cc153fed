-- Which way a ring runs, as a map viewer sees it: x to the right, y upward. RFC 7946 (3.1.6) wants exteriors counterclockwise and holes clockwise. This speaks
-- of the points of a line alone, so that what the writer promises does not rest on how it decides. Assumes nothing.
use Rattle.std.specs.Prelude.{◌≡◌, true, List, [], ◌∷◌, ◌*◌, ℤ, pos, ◌+ℤ◌, ◌-ℤ◌}
use Rattle.scope.specs.Cells.{Point}
use Rattle.scope.specs.Stitching.{Line}
use Rattle.scope.specs.Area.{positive, negative}

-- what the side from one point to the next adds: x·y' - x'·y
unfoldable pub side_area : Point → Point → ℤ
side_area p q = pos (p.x * q.y) -ℤ pos (q.x * p.y)

-- the sum over the sides of a line: twice its signed area, with y upward
unfoldable pub signed_area : Line → ℤ
signed_area [] = pos 0
signed_area (p ∷ []) = pos 0
signed_area (p ∷ q ∷ l) = side_area p q +ℤ signed_area (q ∷ l)

-- it is not 0
unfoldable pub Wide : Line → Type 0
Wide l = signed_area l ≡ pos 0 → ⊥

unfoldable pub Counterclockwise : Line → Type 0
Counterclockwise l = positive (signed_area l) ≡ true

unfoldable pub Clockwise : Line → Type 0
Clockwise l = negative (signed_area l) ≡ true

-- each line of a list
abbrev pub EachLine : (Line → Type 0) → List Line → Type 0
EachLine P [] = Unit
EachLine P (l ∷ ls) = P l × EachLine P ls

-- a polygon, which has an exterior, its first ring: of those rings whose area is not 0 the exterior runs counterclockwise and every hole clockwise
unfoldable pub RightHand : List Line → Type 0
RightHand [] = ⊥
RightHand (exterior ∷ holes) = (Wide exterior → Counterclockwise exterior) × EachLine (λ hole. Wide hole → Clockwise hole) holes

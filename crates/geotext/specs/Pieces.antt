-- Pieces of a ring's text: one digit of a number, the points without the brackets around them, and which point is the next. Assumes nothing.
use Rattle.std.specs.Prelude.{ℕ, ◌+◌, ◌-◌, ◌/◌, ◌%◌, Bool, cond, List, [], ◌∷◌, map, ltb}
use Rattle.scope.specs.Stitching.{Line}
use Rattle.scope.specs.GeoJson.{joined, point_text}

-- the digit that counts a unit; a number below the unit has none
unfoldable pub digit_text : ℕ → ℕ → List ℕ
digit_text n unit = cond (ltb n unit) [] ((48 + n / unit % 10) ∷ [])

-- points with commas between them
unfoldable pub point_texts : Line → List ℕ
point_texts l = joined (map point_text l)

-- which of so many points is written next, where so many are left: backwards, or as stored
unfoldable pub next_of : ℕ → ℕ → Bool → ℕ
next_of count left back = cond back (left - 1) (count - left)

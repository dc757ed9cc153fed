-- The area of a ring, the two words that it is in a record, the points that words hold, and what number 11 refuses of a ring's words. Assumes nothing.
use Rattle.std.specs.Prelude.{ℕ, ◌+◌, ◌-◌, ◌*◌, ◌/◌, ◌%◌, ◌^◌, Bool, true, false, cond, ◌||◌, List, [], ◌∷◌, ltb, eqb, ℤ, pos, negsuc, ◌+ℤ◌, ◌-ℤ◌, length}
use Rattle.scope.specs.Limits.{coordinate_limit, point_limit}
use Rattle.scope.specs.Cells.{Point}
use Rattle.scope.specs.Stitching.{Line}

-- words are X, Y, X, Y, and so on
unfoldable pub points : List ℕ → Line
points [] = []
points (x ∷ []) = []
points (x ∷ y ∷ ws) = record { x = x; y = y } ∷ points ws

-- y(i-1)·x(i) - x(i-1)·y(i)
unfoldable pub twist : Point → Point → ℤ
twist p q = pos (p.y * q.x) -ℤ pos (p.x * q.y)

-- the sum over the points, each with the one before it; p stands before the first
unfoldable pub twists : Point → Line → ℤ
twists p [] = pos 0
twists p (q ∷ l) = twist p q +ℤ twists q l

unfoldable pub last_of : Point → Line → Point
last_of p [] = p
last_of p (q ∷ l) = last_of q l

-- the last point standing before the first
unfoldable pub area : Line → ℤ
area [] = pos 0
area (p ∷ l) = twists (last_of p l) (p ∷ l)

-- above 0 is a polygon, otherwise a hole
unfoldable pub positive : ℤ → Bool
positive (pos n) = ltb 0 n
positive (negsuc n) = false

unfoldable pub negative : ℤ → Bool
negative (pos n) = false
negative (negsuc n) = true

-- a whole number in two's complement, in 64 bits: one below 0 is all ones less the number that is one short of its size
unfoldable pub twos_complement : ℤ → ℕ
twos_complement (pos n) = n % 2 ^ 64
twos_complement (negsuc n) = 2 ^ 64 - 1 - n % 2 ^ 64

-- an area as a record holds it, low word first
unfoldable pub low_word : ℤ → ℕ
low_word a = twos_complement a % 2 ^ 32

unfoldable pub high_word : ℤ → ℕ
high_word a = twos_complement a / 2 ^ 32

unfoldable pub area_words : ℤ → List ℕ
area_words a = low_word a ∷ high_word a ∷ []

-- the whole number that is this one in two's complement, in 64 bits, and the area that a record's two words stand for
unfoldable pub whole_from : ℕ → ℤ
whole_from n = cond (ltb n (2 ^ 63)) (pos n) (negsuc (2 ^ 64 - 1 - n))

unfoldable pub area_from : ℕ → ℕ → ℤ
area_from low high = whole_from (low + 2 ^ 32 * high)

unfoldable pub any_above : ℕ → List ℕ → Bool
any_above limit [] = false
any_above limit (w ∷ ws) = ltb limit w || any_above limit ws

-- an odd word count, too many points, or a coordinate above the limit
unfoldable pub faulty_words : List ℕ → Bool
faulty_words ws = eqb (length ws % 2) 1 || ltb point_limit (length ws / 2) || any_above coordinate_limit ws

-- what `area` refuses with 11
unfoldable pub area_refused : List ℕ → Bool
area_refused ws = eqb (length ws) 0 || faulty_words ws

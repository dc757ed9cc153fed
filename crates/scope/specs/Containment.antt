-- A point against a ring, and a ring against a ring. Whole arithmetic with signs, written from document 01's crossing abscissa and collinearity.
-- Assumes nothing.
use Rattle.std.specs.Prelude.{ℕ, Bool, true, false, cond, ◌&&◌, ◌||◌, List, [], ◌∷◌, leb, ltb, eqb, ℤ, pos, negsuc, ◌+ℤ◌, ◌-ℤ◌, ◌*ℤ◌, length}
use Rattle.std.specs.Bool.{xor}
use Rattle.scope.specs.Cells.{Point}
use Rattle.scope.specs.Stitching.{Line}
use Rattle.scope.specs.Area.{last_of, faulty_words}

-- document 01's answers -1, 0 and 1
pub data Answer : Type 0 where
  outside boundary inside : Answer

unfoldable pub answer_number : Answer → ℤ
answer_number outside = negsuc 0
answer_number boundary = pos 0
answer_number inside = pos 1

unfoldable pub is_zero : ℤ → Bool
is_zero (pos n) = eqb n 0
is_zero (negsuc n) = false

unfoldable pub below : ℤ → ℤ → Bool
below m n = negative (m -ℤ n)
  where
    negative : ℤ → Bool
    negative (pos k) = false
    negative (negsuc k) = true

-- m < n / d, for a fraction whose denominator is not 0
unfoldable pub below_fraction : ℤ → ℤ → ℤ → Bool
below_fraction m n (pos d) = below (m *ℤ pos d) n
below_fraction m n (negsuc d) = below n (m *ℤ negsuc d)

-- the three points lie on one straight line
unfoldable pub collinear : Point → Point → Point → Bool
collinear a b p = is_zero ((pos b.x -ℤ pos a.x) *ℤ (pos p.y -ℤ pos a.y) -ℤ (pos p.x -ℤ pos a.x) *ℤ (pos b.y -ℤ pos a.y))

-- between two numbers, ends included
unfoldable pub between : ℕ → ℕ → ℕ → Bool
between m k n = (leb m k && leb k n) || (leb n k && leb k m)

-- collinear with the two ends and between them: by y when the ends have equal x, else by x
unfoldable pub on_pair : Point → Point → Point → Bool
on_pair a b p = collinear a b p && cond (eqb a.x b.x) (between a.y p.y b.y) (between a.x p.x b.x)

-- the straight line from a to b crosses the point's row at a.x + (b.x - a.x)·(p.y - a.y) / (b.y - a.y); the point's x is less than that
unfoldable pub left_of_crossing : Point → Point → Point → Bool
left_of_crossing a b p =
    below_fraction (pos p.x)
    (pos a.x *ℤ (pos b.y -ℤ pos a.y) +ℤ (pos b.x -ℤ pos a.x) *ℤ (pos p.y -ℤ pos a.y))
    (pos b.y -ℤ pos a.y)

-- one end has y above the point's and the other has not, and the point is left of the crossing
unfoldable pub flips : Point → Point → Point → Bool
flips a b p = xor (ltb p.y a.y) (ltb p.y b.y) && left_of_crossing a b p

unfoldable pub signed : Bool → Answer
signed true = inside
signed false = outside

-- over the pairs (a, first), (first, second), and so on; a pair that holds the point answers 0 at once
unfoldable pub walk : Point → Line → Point → Bool → Answer
walk a [] p within = signed within
walk a (b ∷ l) p within = cond (on_pair a b p) boundary (walk b l p (xor (flips a b p) within))

-- a point against a ring: the first pair is (last, first)
unfoldable pub point_against : Line → Point → Answer
point_against [] p = outside
point_against (a ∷ l) p = walk (last_of a l) (a ∷ l) p false

-- a ring against a ring: the first vertex whose answer is not 0 decides; if there is none, 0
unfoldable pub decide : Answer → Answer → Answer
decide outside later = outside
decide boundary later = later
decide inside later = inside

unfoldable pub ring_against : Line → Line → Answer
ring_against ring [] = boundary
ring_against ring (p ∷ l) = decide (point_against ring p) (ring_against ring l)

-- the answer is not -1
unfoldable pub not_outside : Answer → Bool
not_outside outside = false
not_outside boundary = true
not_outside inside = true

-- what `contains` refuses with 11: an empty outer ring, or faulty words in either
unfoldable pub contains_refused : List ℕ → List ℕ → Bool
contains_refused outer tested = eqb (length outer) 0 || faulty_words outer || faulty_words tested

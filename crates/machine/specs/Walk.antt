-- One walk along the links, from the first link of the first ring, gives the points and the records of all rings in order: a link that holds the mark is the
-- last of its ring, and holds with it the first link of the next. Assumes nothing.
use Rattle.std.specs.Prelude.{ℕ, zero, suc, ◌+◌, ◌-◌, ◌%◌, ◌^◌, cond, List, [], ◌∷◌, ◌++◌, ltb, ℤ, pos, ◌+ℤ◌}
use Rattle.scope.specs.Limits.{no_owner}
use Rattle.scope.specs.Cells.{Point, indexed_point}
use Rattle.scope.specs.Area.{twist, area_words}
use Rattle.machine.specs.Machine.{mark, link_point, link_next}

-- the point of an index as two words, and a link's start point
unfoldable pub index_words : ℕ → ℕ → List ℕ
index_words dx index = (indexed_point dx index).x % 2 ^ 16 ∷ (indexed_point dx index).y % 2 ^ 16 ∷ []

unfoldable pub point_words : ℕ → List ℕ → ℕ → List ℕ
point_words dx links k = index_words dx (link_point links k)

-- the words of n links from link k on, in a ring that began at link first; the words of the first stand again at a ring's end
unfoldable pub walk_words : {Word : Type 0} → (ℕ → List Word) → List ℕ → ℕ → ℕ → ℕ → List Word
walk_words words links first k zero = []
walk_words words links first k (suc n) =
    cond (ltb (link_next links k) mark)
    (words k ++ walk_words words links first (link_next links k) n)
    (words k ++ (words first ++ walk_words words links (link_next links k - mark) (link_next links k - mark) n))

-- the points of n links
abbrev pub walk_points : ℕ → List ℕ → ℕ → ℕ → ℕ → List ℕ
walk_points dx links = walk_words (point_words dx links) links

-- a link's start point, and what the step from one to the next adds to an area
unfoldable pub start_point : ℕ → List ℕ → ℕ → Point
start_point dx links k = indexed_point dx (link_point links k)

unfoldable pub link_twist : ℕ → List ℕ → ℕ → ℕ → ℤ
link_twist dx links k next = twist (start_point dx links k) (start_point dx links next)

-- the records of n links from link k on, in a ring that began at link h, whose first point has number first, and that has had size links and the area a so far;
-- words gives a record by the number of the first point, the point count and the area
unfoldable pub walk_by : (ℕ → ℕ → ℤ → List ℕ) → ℕ → List ℕ → ℕ → ℕ → ℕ → ℤ → ℕ → ℕ → List ℕ
walk_by words dx links h first size a k zero = []
walk_by words dx links h first size a k (suc n) =
    cond (ltb (link_next links k) mark)
    (walk_by words dx links h first (suc size) (a +ℤ link_twist dx links k (link_next links k)) (link_next links k) n)
    (words first (size + 2) (a +ℤ link_twist dx links k h) ++ walk_by words dx links (link_next links k - mark) (first + size + 2) 0 (pos 0) (link_next links k - mark) n)

-- a ring's record without its area: first point, point count, class of a bare ring, no owner
unfoldable pub record_words : ℕ → ℕ → List ℕ
record_words first count = first % 2 ^ 32 ∷ count % 2 ^ 32 ∷ 2 ∷ no_owner ∷ []

-- these records, which go by no area
unfoldable pub walk_records : List ℕ → ℕ → ℕ → ℕ → ℕ → List ℕ
walk_records links first size k n = walk_by (λ f count a. record_words f count) 0 links 0 first size (pos 0) k n

-- a ring's record with its area, and these records
unfoldable pub measured_words : ℕ → ℕ → ℤ → List ℕ
measured_words first count a = record_words first count ++ area_words a

abbrev pub walk_measured : ℕ → List ℕ → ℕ → ℕ → ℕ → ℤ → ℕ → ℕ → List ℕ
walk_measured = walk_by measured_words

-- GeoJSON: which ring sets number 9 refuses, and the text of one that it does not refuse, as bytes. Assumes nothing.
use Rattle.std.specs.Prelude.{ℕ, zero, suc, ◌+◌, ◌*◌, ◌/◌, ◌%◌, Bool, true, false, cond, not, ◌&&◌, ◌||◌, List, [], ◌∷◌, ◌++◌, map, reverse, ltb, eqb, ℤ, length, get_or, take, drop}
use Rattle.scope.specs.Limits.{coordinate_limit, point_limit, record_stride, no_owner}
use Rattle.scope.specs.Cells.{Point, same_point}
use Rattle.scope.specs.Stitching.{Line}
use Rattle.scope.specs.Area.{points, last_of, area, positive, negative, low_word, high_word, any_above}
use Rattle.scope.specs.Room.{directory_words}

-- ---- a ring set: points as words, and a directory of records

-- the words of record k: first point, point count, class, owner, and the area's two
unfoldable pub first_at : List ℕ → ℕ → ℕ
first_at directory k = get_or directory (record_stride * k) 0

unfoldable pub count_at : List ℕ → ℕ → ℕ
count_at directory k = get_or directory (record_stride * k + 1) 0

unfoldable pub class_at : List ℕ → ℕ → ℕ
class_at directory k = get_or directory (record_stride * k + 2) 0

unfoldable pub owner_at : List ℕ → ℕ → ℕ
owner_at directory k = get_or directory (record_stride * k + 3) 0

unfoldable pub area_low_at : List ℕ → ℕ → ℕ
area_low_at directory k = get_or directory (record_stride * k + 4) 0

unfoldable pub area_high_at : List ℕ → ℕ → ℕ
area_high_at directory k = get_or directory (record_stride * k + 5) 0

-- the words of count points from the point of number first on, and the words and the ring of record k
unfoldable pub words_in : List ℕ → ℕ → ℕ → List ℕ
words_in ps first count = take (2 * count) (drop (2 * first) ps)

unfoldable pub ring_words_at : List ℕ → List ℕ → ℕ → List ℕ
ring_words_at ps directory k = words_in ps (first_at directory k) (count_at directory k)

unfoldable pub ring_at : List ℕ → List ℕ → ℕ → Line
ring_at ps directory k = points (ring_words_at ps directory k)

-- ---- number 9, in document 01's order, with document 02's area before the class

-- the directory is shorter than the stated rings
unfoldable pub directory_short : List ℕ → ℕ → Bool
directory_short directory rings = ltb (length directory) (directory_words rings)

-- a record's range is outside the points
unfoldable pub range_outside : List ℕ → List ℕ → ℕ → Bool
range_outside ps directory k = ltb (length ps) (2 * (first_at directory k + count_at directory k))

-- its count is below 4 or over 67,108,864
unfoldable pub count_out : List ℕ → ℕ → Bool
count_out directory k = ltb (count_at directory k) 4 || ltb point_limit (count_at directory k)

-- a coordinate is above 8,192
unfoldable pub coordinate_over : List ℕ → List ℕ → ℕ → Bool
coordinate_over ps directory k = any_above coordinate_limit (ring_words_at ps directory k)

-- the last point is not the first
unfoldable pub unclosed : Line → Bool
unclosed [] = false
unclosed (p ∷ l) = not (same_point (last_of p l) p)

-- the area is not its ring's
unfoldable pub area_off : List ℕ → List ℕ → ℕ → Bool
area_off ps directory k =
    not (eqb (area_low_at directory k) (low_word (area (ring_at ps directory k))) && eqb (area_high_at directory k) (high_word (area (ring_at ps directory k))))

-- the class is not 0 or 1
unfoldable pub class_out : List ℕ → ℕ → Bool
class_out directory k = ltb 1 (class_at directory k)

unfoldable pub is_polygon : List ℕ → ℕ → Bool
is_polygon directory k = eqb (class_at directory k) 0

unfoldable pub is_hole : List ℕ → ℕ → Bool
is_hole directory k = eqb (class_at directory k) 1

-- a polygon does not own itself
unfoldable pub owned_by_another : List ℕ → ℕ → Bool
owned_by_another directory k = is_polygon directory k && not (eqb (owner_at directory k) k)

-- a hole's owner is neither a polygon's number nor 4,294,967,295
unfoldable pub owned_by_none : List ℕ → ℕ → ℕ → Bool
owned_by_none directory rings k =
    is_hole directory k && not (ltb (owner_at directory k) rings && is_polygon directory (owner_at directory k)) && not (eqb (owner_at directory k) no_owner)

-- all of these, of one record
unfoldable pub record_refused : List ℕ → List ℕ → ℕ → ℕ → Bool
record_refused ps directory rings k =
    range_outside ps directory k
    || count_out directory k
    || coordinate_over ps directory k
    || unclosed (ring_at ps directory k)
    || area_off ps directory k
    || class_out directory k
    || owned_by_another directory k
    || owned_by_none directory rings k

-- a test that some number below n passes
unfoldable pub any_below : (ℕ → Bool) → ℕ → Bool
any_below test zero = false
any_below test (suc n) = any_below test n || test n

unfoldable pub ring_set_refused : List ℕ → List ℕ → ℕ → Bool
ring_set_refused ps directory rings = directory_short directory rings || any_below (record_refused ps directory rings) rings

-- ---- the text

-- decimal digits as bytes, the highest first: b says whether n has one digit, and no number has more than d others for d = n
unfoldable pub decimal_by : ℕ → Bool → ℕ → List ℕ
decimal_by zero b n = (48 + n) ∷ []
decimal_by (suc d) true n = (48 + n) ∷ []
decimal_by (suc d) false n = decimal_by d (ltb (n / 10) 10) (n / 10) ++ ((48 + n % 10) ∷ [])

unfoldable pub decimal : ℕ → List ℕ
decimal n = decimal_by n (ltb n 10) n

-- a coordinate is its half: 3, or 2.5
unfoldable pub coordinate_text : ℕ → List ℕ
coordinate_text doubled = decimal (doubled / 2) ++ cond (eqb (doubled % 2) 0) [] (46 ∷ 53 ∷ [])

-- texts with commas between them
unfoldable pub joined : List (List ℕ) → List ℕ
joined [] = []
joined (t ∷ []) = t
joined (t ∷ u ∷ ts) = t ++ (44 ∷ joined (u ∷ ts))

-- a text in square brackets
unfoldable pub bracketed : List ℕ → List ℕ
bracketed t = 91 ∷ t ++ (93 ∷ [])

unfoldable pub point_text : Point → List ℕ
point_text p = bracketed (joined (coordinate_text p.x ∷ coordinate_text p.y ∷ []))

-- a line of points
unfoldable pub ring_text : Line → List ℕ
ring_text line = bracketed (joined (map point_text line))

-- document 02's order of a ring's points: an exterior of positive area is written backwards, and a hole of negative area
unfoldable pub backwards : ℕ → ℤ → Bool
backwards class a = cond (eqb class 0) (positive a) (negative a)

-- a ring as it is written: backwards or as stored, and from the same first point either way, since a ring ends in its first point
unfoldable pub written_order : Bool → Line → Line
written_order back ring = cond back (reverse ring) ring

unfoldable pub written_at : List ℕ → List ℕ → ℕ → Line
written_at ps directory k = written_order (backwards (class_at directory k) (area (ring_at ps directory k))) (ring_at ps directory k)

-- the numbers below n that pass a test, lowest first
unfoldable pub numbers_of : (ℕ → Bool) → ℕ → List ℕ
numbers_of test zero = []
numbers_of test (suc n) = numbers_of test n ++ cond (test n) (n ∷ []) []

-- the polygons by record number, and the holes of one by number; a dropped hole has no polygon's number as its owner
unfoldable pub polygon_numbers : List ℕ → ℕ → List ℕ
polygon_numbers directory rings = numbers_of (is_polygon directory) rings

unfoldable pub is_hole_of : List ℕ → ℕ → ℕ → Bool
is_hole_of directory owner k = is_hole directory k && eqb (owner_at directory k) owner

unfoldable pub hole_numbers : List ℕ → ℕ → ℕ → List ℕ
hole_numbers directory rings owner = numbers_of (is_hole_of directory owner) rings

-- a polygon, followed by its holes
unfoldable pub polygon_text : List ℕ → List ℕ → ℕ → ℕ → List ℕ
polygon_text ps directory rings k = bracketed (joined (map (λ r. ring_text (written_at ps directory r)) (k ∷ hole_numbers directory rings k)))

-- {"type":"MultiPolygon","coordinates":
unfoldable pub opening : List ℕ
opening =
    123 ∷ 34 ∷ 116 ∷ 121 ∷ 112 ∷ 101 ∷ 34 ∷ 58
    ∷ 34 ∷ 77 ∷ 117 ∷ 108 ∷ 116 ∷ 105 ∷ 80 ∷ 111 ∷ 108 ∷ 121 ∷ 103 ∷ 111 ∷ 110 ∷ 34 ∷ 44
    ∷ 34 ∷ 99 ∷ 111 ∷ 111 ∷ 114 ∷ 100 ∷ 105 ∷ 110 ∷ 97 ∷ 116 ∷ 101 ∷ 115 ∷ 34 ∷ 58
    ∷ []

-- one MultiPolygon, with a closing brace last
unfoldable pub geo_json_text : List ℕ → List ℕ → ℕ → List ℕ
geo_json_text ps directory rings = opening ++ (bracketed (joined (map (polygon_text ps directory rings) (polygon_numbers directory rings))) ++ (125 ∷ []))

-- One directory record by value: record k of a directory, and the tests of number 9 on a record, for whoever has records and no directory of words. Assumes
-- nothing.
use Rattle.std.specs.Prelude.{ℕ, ◌+◌, ◌*◌, ◌/◌, ◌%◌, ◌^◌, Bool, not, ◌&&◌, ◌||◌, List, ltb, eqb, length}
use Rattle.scope.specs.Limits.{coordinate_limit, point_limit, no_owner}
use Rattle.scope.specs.Area.{points, area, twos_complement, any_above}
use Rattle.scope.specs.GeoJson.{first_at, count_at, class_at, owner_at, area_low_at, area_high_at, words_in, unclosed}
use Rattle.ringset.specs.declared.Record.{Record}

-- record k of a directory
unfoldable pub record_at : List ℕ → ℕ → Record
record_at directory k = record {
  first = first_at directory k;
  count = count_at directory k;
  class = class_at directory k;
  owner = owner_at directory k;
  area_low = area_low_at directory k;
  area_high = area_high_at directory k;
}

-- an area in two's complement is another than the record's two words hold, low word first
unfoldable pub area_differs : ℕ → Record → Bool
area_differs n r = not (eqb r.area_low (n % 2 ^ 32) && eqb r.area_high (n / 2 ^ 32))

-- what number 9 says of a record's ring: the range is outside the points, the count is below 4 or over 67,108,864, a coordinate is above 8,192, the last
-- point is not the first, the area is not its ring's, or the class is not 0 or 1
unfoldable pub shape_refused : List ℕ → Record → Bool
shape_refused ps r =
    ltb (length ps) (2 * (r.first + r.count))
    || (ltb r.count 4 || ltb point_limit r.count)
    || any_above coordinate_limit (words_in ps r.first r.count)
    || unclosed (points (words_in ps r.first r.count))
    || area_differs (twos_complement (area (points (words_in ps r.first r.count)))) r
    || ltb 1 r.class

-- what it says of the owner of record k, where the record that the owner's number names has this class: a polygon does not own itself, or a hole's owner is
-- neither a polygon's number nor 4,294,967,295
unfoldable pub owner_refused : Record → ℕ → ℕ → ℕ → Bool
owner_refused r rings k owner_class =
    (eqb r.class 0 && not (eqb r.owner k))
    || (eqb r.class 1 && not (ltb r.owner rings && eqb owner_class 0) && not (eqb r.owner no_owner))

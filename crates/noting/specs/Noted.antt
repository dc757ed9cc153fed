-- Records whose point counts are known, of rings that are packed one after the other, and the records once they are noted. Then records that hold first points
-- too, and the same with the high parts of the sort keys. Assumes nothing.
use Rattle.std.specs.Prelude.{◌≡◌, Bool, cond, List, ℕ, ◌+◌, ◌*◌, ◌/◌, ◌%◌, ◌^◌, ◌≤◌, ◌<◌, length, get_or}
use Rattle.scope.specs.Limits.{coordinate_limit, point_limit}
use Rattle.scope.specs.Stitching.{Line}
use Rattle.scope.specs.Pairs.{sum_from}
use Rattle.scope.specs.Area.{area, positive}
use Rattle.scope.specs.Band.{sort_key}
use Rattle.extents.specs.Points.{ring_in}
use Rattle.extents.specs.Records.{record_first, record_count, record_ring}

-- the number of the first point of ring r, and the ring
unfoldable pub start_of : List ℕ → ℕ → ℕ
start_of directory r = sum_from (record_count directory) 0 r

unfoldable pub counted_ring : List ℕ → List ℕ → ℕ → Line
counted_ring points directory r = ring_in points (start_of directory r) (record_count directory r)

-- what the third word of a record is to hold: the low 32 bits of the sort key, or the class
unfoldable pub note_of : Bool → Line → ℕ
note_of by_size ring = cond by_size (sort_key ring % 4294967296) (cond (positive (area ring)) 0 1)

-- the first n records hold the counts of rings, whose points are there and within the limits
pub record Countable (points directory : List ℕ) (n : ℕ) : Type 0 where
  pub records-there : 4 * n ≤ length directory
  pub few : n < 2 ^ 32
  pub points-there : 2 * start_of directory n ≤ length points
  pub points-few : start_of directory n < 2 ^ 32
  pub counts-within : (r : ℕ) → r < n → (1 ≤ record_count directory r) × (record_count directory r ≤ point_limit)
  pub coordinates-within : (i : ℕ) → i < 2 * start_of directory n → get_or points i 0 ≤ coordinate_limit

-- the records once they are noted, by what is noted of a ring
pub record Noted (points directory directory' : List ℕ) (n : ℕ) (note : Line → ℕ) : Type 0 where
  pub as_long : length directory' ≡ length directory
  pub first-is : (r : ℕ) → r < n → get_or directory' (4 * r) 0 ≡ start_of directory r
  pub count-is : (r : ℕ) → r < n → get_or directory' (4 * r + 1) 0 ≡ record_count directory r
  pub note-is : (r : ℕ) → r < n → get_or directory' (4 * r + 2) 0 ≡ note (counted_ring points directory r)
  pub number_is : (r : ℕ) → r < n → get_or directory' (4 * r + 3) 0 ≡ r
  pub rest-stays : (i : ℕ) → 4 * n ≤ i → get_or directory' i 0 ≡ get_or directory i 0

-- the first n records hold rings, whose points are there and within the limits
pub record Measurable (points directory : List ℕ) (n : ℕ) : Type 0 where
  pub records-there : 4 * n ≤ length directory
  pub few : n < 2 ^ 32
  pub counts-within : (r : ℕ) → r < n → (1 ≤ record_count directory r) × (record_count directory r ≤ point_limit)
  pub points-there : (r : ℕ) → r < n → 2 * (record_first directory r + record_count directory r) ≤ length points
  pub coordinates-within : (r : ℕ) → r < n → (i : ℕ) → i < 2 * (record_first directory r + record_count directory r) → get_or points i 0 ≤ coordinate_limit

-- the third words of the first n records hold the sort keys without their low 32 bits
pub record HighNoted (points directory directory' : List ℕ) (n : ℕ) : Type 0 where
  pub as_long : length directory' ≡ length directory
  pub high_is : (r : ℕ) → r < n → get_or directory' (4 * r + 2) 0 ≡ sort_key (record_ring points directory r) / 4294967296
  pub rest-stays : (i : ℕ) → (i % 4 ≡ 2 → 4 * n ≤ i) → get_or directory' i 0 ≡ get_or directory i 0

-- One ring, noted: what is asked of its words and of its record, and what the record's words become. Assumes nothing.
use Rattle.std.specs.Prelude.{◌≡◌, false, List, ℕ, ◌+◌, ◌*◌, ◌/◌, ◌^◌, ◌≤◌, ◌<◌, length, set}
use Rattle.scope.specs.Limits.{coordinate_limit, point_limit}
use Rattle.scope.specs.Stitching.{Line}
use Rattle.scope.specs.Area.{any_above}
use Rattle.scope.specs.Band.{sort_key}
use Rattle.scope.specs.GeoJson.{words_in}
use Rattle.extents.specs.Points.{ring_in}
use Rattle.extents.specs.Records.{record_first, record_count, record_ring}

-- the points of a ring are there, and within the limits
pub record RingWithin (points : List ℕ) (first count : ℕ) : Type 0 where
  pub some : 1 ≤ count
  pub not-many : count ≤ point_limit
  pub points-there : 2 * (first + count) ≤ length points
  pub low : any_above coordinate_limit (words_in points first count) ≡ false

-- record r is there, with the count of a ring whose points begin at point `first`
pub record RecordNotable (points directory : List ℕ) (r first : ℕ) : Type 0 where
  pub few : r < 2 ^ 32
  pub points-few : first < 2 ^ 32
  pub record-there : 4 * r + 4 ≤ length directory
  pub ring-within : RingWithin points first (record_count directory r)

-- record r with its first point, its note and its number; the count stays
unfoldable pub record_noted : List ℕ → ℕ → ℕ → ℕ → List ℕ
record_noted directory r first note = set (set (set directory (4 * r) first) (4 * r + 2) note) (4 * r + 3) r

-- the count of the record, and the directory with the record noted
pub record NotedOne (points directory directory' : List ℕ) (r first : ℕ) (note : Line → ℕ) (count : ℕ) : Type 0 where
  pub counted : count ≡ record_count directory r
  pub stored : directory' ≡ record_noted directory r first (note (ring_in points first (record_count directory r)))

-- record r is there, and so is its ring
pub record RecordMeasurable (points directory : List ℕ) (r : ℕ) : Type 0 where
  pub record-there : 4 * r + 4 ≤ length directory
  pub ring-within : RingWithin points (record_first directory r) (record_count directory r)

-- record r with its sort key, without the low 32 bits, in the third word
unfoldable pub high_put : List ℕ → List ℕ → ℕ → List ℕ
high_put points directory r = set directory (4 * r + 2) (sort_key (record_ring points directory r) / 4294967296)

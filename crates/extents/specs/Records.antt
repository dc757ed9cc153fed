-- The directory while classes and owners are sought: four words a record, first point, point count, class, and the number of the ring in packed order; and
-- the table that the search goes by. Assumes nothing.
use Rattle.std.specs.Prelude.{◌≡◌, Bool, List, [], ◌∷◌, ℕ, zero, suc, ◌+◌, ◌*◌, ◌≤◌, ◌<◌, eqb, length, get_or}
use Rattle.scope.specs.Stitching.{Line}
use Rattle.scope.specs.Pairs.{sum_from}
use Rattle.extents.specs.declared.Ladder.{Ladder}
use Rattle.extents.specs.Points.{ring_in, RingThere}
use Rattle.extents.specs.Extents.{extent_of}
use Rattle.extents.specs.Ladders.{item_extent, Raised, Chunked}

unfoldable pub record_first : List ℕ → ℕ → ℕ
record_first directory r = get_or directory (4 * r) 0

unfoldable pub record_count : List ℕ → ℕ → ℕ
record_count directory r = get_or directory (4 * r + 1) 0

unfoldable pub record_class : List ℕ → ℕ → ℕ
record_class directory r = get_or directory (4 * r + 2) 0

unfoldable pub record_number : List ℕ → ℕ → ℕ
record_number directory r = get_or directory (4 * r + 3) 0

-- the ring of record r
unfoldable pub record_ring : List ℕ → List ℕ → ℕ → Line
record_ring points directory r = ring_in points (record_first directory r) (record_count directory r)

-- the rings of n records from record k on, and whether each is a polygon
unfoldable pub record_rings : List ℕ → List ℕ → ℕ → ℕ → List Line
record_rings points directory k zero = []
record_rings points directory k (suc n) = record_ring points directory k ∷ record_rings points directory (suc k) n

unfoldable pub record_classes : List ℕ → ℕ → ℕ → List Bool
record_classes directory k zero = []
record_classes directory k (suc n) = eqb (record_class directory k) 0 ∷ record_classes directory (suc k) n

-- the first n records hold rings
pub record RingsThere (points directory : List ℕ) (n : ℕ) : Type 0 where
  pub records-there : 4 * n ≤ length directory
  pub ring-there : (r : ℕ) → r < n → RingThere points (record_first directory r) (record_count directory r)

-- the numbers below n, taken in some order: every sum over them is the sum in their own order
unfoldable pub Permutes : (ℕ → ℕ) → ℕ → Type 0
Permutes f n = (w : ℕ → ℕ) → sum_from (λ k. w (f k)) 0 n ≡ sum_from w 0 n

-- the record of the ring of number i, where n ranks stand behind n extents of two words
unfoldable pub rank_of : List ℕ → ℕ → ℕ → ℕ
rank_of table n i = get_or table (2 * n + i) 0

-- the table that a search goes by: the extents of the rings by number, the rank of each, and both ladders
pub record Filed (points directory table : List ℕ) (n : ℕ) (rings chunks : Ladder) : Type 0 where
  pub rings-there : RingsThere points directory n
  pub ranks-there : 3 * n ≤ length table
  pub ranks-permute : Permutes (rank_of table n) n
  pub rings-counted : rings.item_count ≡ n
  pub rings-raised : Raised table rings
  pub extents-filed : (i : ℕ) → i < n → item_extent table rings i ≡ extent_of (record_ring points directory (rank_of table n i))
  pub points-chunked : Chunked points table chunks

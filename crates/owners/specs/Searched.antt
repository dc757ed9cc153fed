-- What one ring is to another while classes and owners are sought, by the records of both. Assumes nothing.
use Rattle.std.specs.Prelude.{◌≡◌, Bool, cond, not, ◌&&◌, List, ℕ, Option, Some, None, MatchOption, ◌+◌, ◌*◌, ◌%◌, ◌≤◌, ◌<◌, eqb, ltb, length}
use Rattle.scope.specs.Limits.{no_owner}
use Rattle.scope.specs.Contour.{takes, owner_from, owner_word}
use Rattle.scope.specs.Band.{takers}
use Rattle.extents.specs.declared.Ladder.{Ladder}
use Rattle.extents.specs.declared.Extent.{Extent}
use Rattle.extents.specs.Extents.{reach}
use Rattle.extents.specs.Ladders.{item_extent, Chunked, NextNear}
use Rattle.extents.specs.Records.{record_class, record_ring, record_rings, record_classes, RingsThere, Permutes, rank_of}

-- record r is another than record at, and its ring takes that of record at
unfoldable pub takes_other : List ℕ → List ℕ → ℕ → ℕ → Bool
takes_other points directory at r = not (eqb at r) && takes (record_ring points directory r) (record_ring points directory at)

-- an even number of other rings take that of record r, one of n
unfoldable pub evenly_taken : List ℕ → List ℕ → ℕ → ℕ → Bool
evenly_taken points directory n r = eqb (takers r 0 (record_rings points directory 0 n) (record_ring points directory r) % 2) 0

-- record r is a polygon whose ring takes that of record at
unfoldable pub may_own : List ℕ → List ℕ → ℕ → ℕ → Bool
may_own points directory at r = eqb (record_class directory r) 0 && takes (record_ring points directory r) (record_ring points directory at)

-- record r where it comes before the best so far and may own that of record at, and otherwise the best so far
unfoldable pub bettered : List ℕ → List ℕ → ℕ → ℕ → ℕ → ℕ
bettered points directory at best r = cond (ltb r best && may_own points directory at r) r best

-- the best so far as an owner's word
abbrev pub best_word : Option ℕ → ℕ
best_word None = no_owner
best_word (Some r) = r

-- the first polygon of n that takes the ring of record r, as an owner's word
unfoldable pub first_taker : List ℕ → List ℕ → ℕ → ℕ → ℕ
first_taker points directory n r =
    owner_word r (owner_from 0 (record_classes directory 0 n) (record_rings points directory 0 n) (record_ring points directory r))

-- r is the record of the ring of a number: one of n, and a word
pub record RankIs (table : List ℕ) (n number r : ℕ) : Type 0 where
  pub is-rank : r ≡ rank_of table n number
  pub below : r < n
  pub fits : r ≤ no_owner

-- what a look at two rings goes by: the table that a search goes by, without the extents of the rings
pub record Ranked (points directory table : List ℕ) (n : ℕ) (chunks : Ladder) : Type 0 where
  pub rings-there : RingsThere points directory n
  pub ranks-there : 3 * n ≤ length table
  pub ranks-permute : Permutes (rank_of table n) n
  pub points-chunked : Chunked points table chunks

-- the first number from a place on that is not apart from an extent, and the search goes on behind it; or there is none
abbrev pub NextFound : List ℕ → Ladder → Extent → ℕ → Option ℕ → ℕ → Type 0
NextFound table rings query from found next =
    MatchOption found (NextNear table rings from query rings.item_count)
    (λ i. NextNear table rings from query i × (i < rings.item_count) × (next ≡ i + 1))

-- the search begins at the first number, and is for where a ring has to reach into to take the ring of a number
pub record NearRing (table : List ℕ) (rings : Ladder) (number : ℕ) (table' : List ℕ) (rings' : Ladder) (query : Extent) (next : ℕ) : Type 0 where
  pub same-table : table' ≡ table
  pub same-rings : rings' ≡ rings
  pub reached : query ≡ reach (item_extent table rings number)
  pub begins : next ≡ 0

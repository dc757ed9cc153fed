-- The steps of filing: the ranks, then the extents, one ring after the other; and the end of a ladder. Assumes nothing.
use Rattle.std.specs.Prelude.{◌≡◌, List, ℕ, ◌+◌, ◌*◌, ◌^◌, ◌≤◌, ◌<◌, max, length, get_or}
use Rattle.extents.specs.declared.Ladder.{Ladder}
use Rattle.extents.specs.Extents.{extent_of, extent_at}
use Rattle.extents.specs.Records.{record_ring, record_number, RingsThere, Permutes, rank_of}

-- the records have the numbers below n in some order, and there is room for their ranks
pub record Rankable (directory table : List ℕ) (n : ℕ) : Type 0 where
  pub records-there : 4 * n ≤ length directory
  pub ranks-there : 3 * n ≤ length table
  pub few : n < 2 ^ 32
  pub numbers-permute : Permutes (record_number directory) n

-- each record stands at its number
pub record Ranked (directory table table' : List ℕ) (n : ℕ) : Type 0 where
  pub as_long : length table' ≡ length table
  pub ranks : (r : ℕ) → r < n → rank_of table' n (record_number directory r) ≡ r

-- each number has the rank of a record, and the records hold rings
pub record Measurable (points directory table : List ℕ) (n : ℕ) : Type 0 where
  pub rings-there : RingsThere points directory n
  pub ranks-there : 3 * n ≤ length table
  pub ranks-below : (i : ℕ) → i < n → rank_of table n i < n

-- the extent of the ring of number i stands in its two words, and the other words are as they were
pub record MeasuredOne (points directory table table' : List ℕ) (n i : ℕ) : Type 0 where
  pub as_long : length table' ≡ length table
  pub extent : extent_at table' (2 * i) ≡ extent_of (record_ring points directory (rank_of table n i))
  pub others : (k : ℕ) → (k ≡ 2 * i → ⊥) → (k ≡ 2 * i + 1 → ⊥) → get_or table' k 0 ≡ get_or table k 0

-- the extents of all rings stand by number, and the words behind them are as they were
pub record Measured (points directory table table' : List ℕ) (n : ℕ) : Type 0 where
  pub as_long : length table' ≡ length table
  pub extents : (i : ℕ) → i < n → extent_at table' (2 * i) ≡ extent_of (record_ring points directory (rank_of table n i))
  pub behind : (k : ℕ) → 2 * n ≤ k → get_or table' k 0 ≡ get_or table k 0

-- the first word behind the groups and the blocks of a ladder
unfoldable pub ladder_end : Ladder → ℕ
ladder_end l = max (l.groups + 2 * l.group_count) (l.blocks + 2 * l.block_count)

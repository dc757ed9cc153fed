-- A ladder in a table: the extents of items, one after the other, of every 64 items, and of every 64 of these; and what it says of items that are passed
-- over. Assumes nothing.
use Rattle.std.specs.Prelude.{◌≡◌, true, false, List, ℕ, ◌+◌, ◌*◌, ◌/◌, ◌≤◌, ◌<◌, length, get_or}
use Rattle.extents.specs.declared.Extent.{Extent}
use Rattle.extents.specs.declared.Ladder.{Ladder}
use Rattle.extents.specs.Points.{point_in}
use Rattle.extents.specs.Extents.{apart, Holds, Inside, extent_at}

-- the extents of an item, of a group of 64 items, and of a block of 64 groups
unfoldable pub item_extent : List ℕ → Ladder → ℕ → Extent
item_extent table l i = extent_at table (l.items + 2 * i)

unfoldable pub group_extent : List ℕ → Ladder → ℕ → Extent
group_extent table l j = extent_at table (l.groups + 2 * j)

unfoldable pub block_extent : List ℕ → Ladder → ℕ → Extent
block_extent table l k = extent_at table (l.blocks + 2 * k)

-- a ladder stands in a table: only whole groups and whole blocks have extents, and each holds those of its items or groups
pub record Raised (table : List ℕ) (l : Ladder) : Type 0 where
  pub items-there : l.items + 2 * l.item_count ≤ length table
  pub groups-there : l.groups + 2 * l.group_count ≤ length table
  pub blocks-there : l.blocks + 2 * l.block_count ≤ length table
  pub groups-whole : 64 * l.group_count ≤ l.item_count
  pub blocks-whole : 64 * l.block_count ≤ l.group_count
  pub groups-hold : (i : ℕ) → i / 64 < l.group_count → Inside (item_extent table l i) (group_extent table l (i / 64))
  pub blocks-hold : (j : ℕ) → j / 64 < l.block_count → Inside (group_extent table l j) (block_extent table l (j / 64))

-- the first item from a place on that is not apart from an extent, or the number of items where there is none
pub record NextNear (table : List ℕ) (l : Ladder) (from : ℕ) (query : Extent) (found : ℕ) : Type 0 where
  pub not-before : from ≤ found
  pub not-past : found ≤ l.item_count
  pub apart-before : (i : ℕ) → from ≤ i → i < found → apart (item_extent table l i) query ≡ true
  pub near : found < l.item_count → apart (item_extent table l found) query ≡ false

-- a ladder over the points in packed order: item i holds the points 64i to 64i + 64, the next item's first one included
pub record Chunked (points table : List ℕ) (l : Ladder) : Type 0 where
  pub raised : Raised table l
  pub chunks-hold : (i k : ℕ) → i < l.item_count → k ≤ 64 → Holds (item_extent table l i) (point_in points (64 * i + k))

-- the words below a place are as they were
pub record KeptBelow (table table' : List ℕ) (place : ℕ) : Type 0 where
  pub as_long : length table' ≡ length table
  pub kept : (i : ℕ) → i < place → get_or table' i 0 ≡ get_or table i 0

-- a ladder was raised over items that stand below `free`
pub record RaisedOver (table table' : List ℕ) (items count free : ℕ) (l : Ladder) : Type 0 where
  pub over-items : l.items ≡ items
  pub over-count : l.item_count ≡ count
  pub raised : Raised table' l
  pub below : KeptBelow table table' free
  pub above : free ≤ l.blocks + 2 * l.block_count

-- a ladder over the points was raised from `free` on
pub record ChunkedOver (points table table' : List ℕ) (free : ℕ) (l : Ladder) : Type 0 where
  pub chunked : Chunked points table' l
  pub below : KeptBelow table table' free

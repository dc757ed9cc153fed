-- Extents stored one after the other from a place on, each of which holds what it is meant to hold. Assumes nothing.
use Rattle.std.specs.Prelude.{List, ℕ, ◌+◌, ◌*◌, ◌≤◌, ◌<◌}
use Rattle.extents.specs.declared.Extent.{Extent}
use Rattle.extents.specs.Points.{point_in}
use Rattle.extents.specs.Extents.{Holds, Inside, extent_at}
use Rattle.extents.specs.Ladders.{KeptBelow}

-- so many extents were stored from a place on: that of number j meets `Meant j`
pub record Filled (Meant : ℕ → Extent → Type 0) (table table' : List ℕ) (place count : ℕ) : Type 0 where
  pub below : KeptBelow table table' place
  pub filled : (j : ℕ) → j < count → Meant j (extent_at table' (place + 2 * j))

-- the extent holds so many extents from a place on
pub record HoldsItems (table : List ℕ) (at count : ℕ) (e : Extent) : Type 0 where
  pub inside : (i : ℕ) → i < count → Inside (extent_at table (at + 2 * i)) e

-- the extent holds the 64 items of group j, where the items stand from a place on
abbrev pub HoldsGroup : List ℕ → ℕ → ℕ → Extent → Type 0
HoldsGroup table items j e = HoldsItems table (items + 128 * j) 64 e

-- the extent holds the points 64j to 64j + 64
pub record HoldsChunk (points : List ℕ) (j : ℕ) (e : Extent) : Type 0 where
  pub holds : (k : ℕ) → k ≤ 64 → Holds e (point_in points (64 * j + k))

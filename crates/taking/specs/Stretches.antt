-- Stretches of points in a packed table, what a ladder over them passes over, and a ladder that ends with a stretch. Assumes nothing.
use Rattle.std.specs.Prelude.{◌≡◌, true, List, ℕ, suc, ◌+◌, ◌*◌, ◌/◌, ◌≤◌, ◌<◌, min, length}
use Rattle.scope.specs.Cells.{Point}
use Rattle.extents.specs.declared.Ladder.{Ladder}
use Rattle.extents.specs.Points.{point_in}
use Rattle.extents.specs.Extents.{apart, ray_from}
use Rattle.extents.specs.Ladders.{item_extent}

-- the words hold the points from one to another, of which no two neighbours are equal
pub record StretchThere (points : List ℕ) (from to : ℕ) : Type 0 where
  pub not-past : from ≤ to
  pub within : 2 * to + 2 ≤ length points
  pub steps : (j : ℕ) → from ≤ j → j < to → point_in points j ≡ point_in points (suc j) → ⊥

-- every chunk in which a pair from point k to point r begins is apart from what lies right of p in its row
pub record PassedOver (table : List ℕ) (chunks : Ladder) (p : Point) (k last r : ℕ) : Type 0 where
  pub not-before : k ≤ r
  pub not-past : r ≤ last
  pub in-chunks : (j : ℕ) → k ≤ j → j < r → j / 64 < chunks.item_count
  pub chunks_apart : (j : ℕ) → k ≤ j → j < r → apart (item_extent table chunks (j / 64)) (ray_from p) ≡ true

-- a ladder's first items, and its groups and blocks that are whole among them
unfoldable pub first_items : Ladder → ℕ → Ladder
first_items l n =
    record {
      items = l.items;
      item_count = min l.item_count n;
      groups = l.groups;
      group_count = min l.group_count (min l.item_count n / 64);
      blocks = l.blocks;
      block_count = min l.block_count (min l.group_count (min l.item_count n / 64) / 64);
    }

-- the end of the stretch from point k that lies in one chunk
pub record StopsAt (k last r : ℕ) : Type 0 where
  pub not-before : k ≤ r
  pub not-past : r ≤ last
  pub goes_on : min (suc k) last ≤ r

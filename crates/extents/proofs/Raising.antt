-- A ladder that was raised: the groups were stored from the items, and the blocks from the groups, each behind what it was stored from. Assumes nothing.
use mathlib.Core.Path.{◌≡◌, refl, ◌∙◌}
use mathlib.Core.List.{List}
use Prim.Native.Nat.{ℕ, ◌+◌, ◌*◌, ◌/◌, ◌%◌, ◌≤◌, ◌<◌}
use native.Mathlib.Decide.{dec_lt}
use native.Mathlib.Omega.{arith}
use lib.ListN.{length}
use Rattle.extents.specs.declared.Extent.{Extent}
use Rattle.extents.specs.declared.Ladder.{Ladder}
use Rattle.extents.specs.Points.{point_in}
use Rattle.extents.specs.Extents.{Inside, Holds, extent_at}
use Rattle.extents.specs.Ladders.{item_extent, group_extent, block_extent, KeptBelow, Raised, RaisedOver, ChunkedOver}
use Rattle.extents.specs.Filling.{Filled, HoldsItems, HoldsGroup, HoldsChunk}
use Rattle.extents.proofs.Laws.{inside-trans}
use Rattle.extents.proofs.Stores.{extent-kept, kept_same, kept_trans}

-- ---- the extent of some items

pub holds-first : (table : List ℕ) (at : ℕ) → HoldsItems table at 1 (extent_at table at)
holds-first table at = record { inside = λ i h. let first : at + 2 * i ≡ at = omega (arith, h) in rw first inside-same }
  where
    inside-same : Inside (extent_at table at) (extent_at table at)
    inside-same = record { left-inside = omega arith; right-inside = omega arith; top-inside = omega arith; bottom-inside = omega arith }

-- one item more
pub holds-next : {table : List ℕ} {at n : ℕ} {e e' : Extent} → HoldsItems table at n e → Inside e e' → Inside (extent_at table (at + 2 * n)) e' →
    HoldsItems table at (n + 1) e'
holds-next {table} {at} {n} {e} {e'} s before last = record { inside = λ i h. by i h (dec_lt i n) }
  where
    by : (i : ℕ) → i < n + 1 → Dec (i < n) → Inside (extent_at table (at + 2 * i)) e'
    by i h (yes first) = inside-trans (s.inside i first) before
    by i h (no after) = let same : i ≡ n = omega (arith, after) in rw same last

-- ---- a level

-- the items of a group, in the table as it is while the groups are stored
pub group-meant : {table table' : List ℕ} {place : ℕ} {e : Extent} (items j : ℕ) → KeptBelow table table' place → items + 128 * j + 128 ≤ place →
    HoldsGroup table' items j e → HoldsGroup table items j e
group-meant items j s h held =
    record { inside = λ i below. rw (extent-kept s (items + 128 * j + 2 * i) (omega (arith, below))) at (held.inside i below) }

-- every item is inside its group's extent, also when words behind the groups are stored
pub level_holds : {table table' table'' : List ℕ} {place count : ℕ} (items : ℕ) → Filled (HoldsGroup table items) table table' place count →
    items + 128 * count ≤ place → KeptBelow table' table'' (place + 2 * count) →
    (i : ℕ) → i / 64 < count → Inside (extent_at table'' (items + 2 * i)) (extent_at table'' (place + 2 * (i / 64)))
level_holds {place = place} items s h later i below =
    let here : items + 128 * (i / 64) + 2 * (i % 64) ≡ items + 2 * i = omega arith in
    rw
    (extent-kept later (items + 2 * i) (omega arith), extent-kept later (place + 2 * (i / 64)) (omega arith), extent-kept s.below (items + 2 * i) (omega arith))
    (rw here at ((s.filled (i / 64) below).inside (i % 64) (omega arith)))

-- the ladder of two levels, the blocks behind the groups
abbrev pub ladder_of : ℕ → ℕ → ℕ → ℕ → ℕ → Ladder
ladder_of items count free groups blocks =
    record { items = items; item_count = count; groups = free; group_count = groups; blocks = free + 2 * groups; block_count = blocks }

module _ {table table' table'' : List ℕ} (items count free groups blocks : ℕ) where
  pub raised-over : items + 2 * count ≤ free → groups ≤ count / 64 → blocks ≤ groups / 64 → free + 2 * groups + 2 * blocks ≤ length table →
      Filled (HoldsGroup table items) table table' free groups → Filled (HoldsGroup table' free) table' table'' (free + 2 * groups) blocks →
      RaisedOver table table'' items count free (ladder_of items count free groups blocks)
  unfolding item_extent group_extent block_extent
  raised-over below_free few fewer room s t =
      record {
        over-items = refl;
        over-count = refl;
        raised = standing;
        below = kept_trans s.below t.below (omega arith);
        above = omega arith;
      }
    where
      as_long : length table'' ≡ length table
      as_long = t.below.as_long ∙ s.below.as_long

      standing : Raised table'' (ladder_of items count free groups blocks)
      standing =
          record {
            items-there = omega (arith, as_long);
            groups-there = omega (arith, as_long);
            blocks-there = omega (arith, as_long);
            groups-whole = omega (arith, few);
            blocks-whole = omega (arith, fewer);
            groups-hold = level_holds items s (omega (arith, few, below_free)) t.below;
            blocks-hold = level_holds free t (omega (arith, fewer)) (kept_same table'' (free + 2 * groups + 2 * blocks));
          }

-- ---- the points

-- a ladder over stored chunks
pub chunked-over : {points table table' table'' : List ℕ} {free count : ℕ} {l : Ladder} → Filled (HoldsChunk points) table table' free count →
    RaisedOver table' table'' free count (free + 2 * count) l → ChunkedOver points table table'' free l
unfolding item_extent
chunked-over {points} {table} {table'} {table''} {free} {count} {l} s r =
    record { chunked = record { raised = r.raised; chunks-hold = held }; below = kept_trans s.below r.below (omega arith) }
  where
    held : (i k : ℕ) → i < l.item_count → k ≤ 64 → Holds (extent_at table'' (l.items + 2 * i)) (point_in points (64 * i + k))
    held i k h within =
        let there : i < count = omega (arith, h, r.over-count) in
        rw (r.over-items, extent-kept r.below (free + 2 * i) (omega (arith, there))) ((s.filled i there).holds k within)

-- What stays when words further on are stored: a ladder, the ranks, the extents. From this and what each step leaves, the whole table. Assumes nothing.
use mathlib.Core.Path.{◌≡◌, ◌∙◌}
use mathlib.Core.List.{List}
use Prim.Native.Nat.{ℕ, ◌+◌, ◌*◌, ◌/◌, ◌≤◌, ◌<◌}
use native.Mathlib.Omega.{arith}
use lib.ListN.{length}
use Rattle.extents.specs.declared.Ladder.{Ladder}
use Rattle.extents.specs.Extents.{extent_of}
use Rattle.extents.specs.Ladders.{item_extent, group_extent, block_extent, Raised, KeptBelow, RaisedOver, ChunkedOver}
use Rattle.extents.specs.Records.{record_ring, record_number, RingsThere, Permutes, rank_of, Filed}
use Rattle.extents.proofs.Stores.{extent-kept}
use Rattle.filing.specs.Steps.{Ranked, Measurable, Measured, ladder_end}
use Rattle.extents.proofs.Permutes.{taken-below}
use Rattle.filing.proofs.Ranks.{rank_below, ranks-permute}

module _ {table table' : List ℕ} {place : ℕ} (k : KeptBelow table table' place) where
  -- a ladder below the place
  pub raised-kept : (l : Ladder) → Raised table l →
      l.items + 2 * l.item_count ≤ place → l.groups + 2 * l.group_count ≤ place → l.blocks + 2 * l.block_count ≤ place →
      Raised table' l
  unfolding item_extent group_extent block_extent
  raised-kept l r items groups blocks =
      record {
        items-there = rw k.as_long r.items-there;
        groups-there = rw k.as_long r.groups-there;
        blocks-there = rw k.as_long r.blocks-there;
        groups-whole = r.groups-whole;
        blocks-whole = r.blocks-whole;
        groups-hold =
            λ i h.
            rw (extent-kept k (l.items + 2 * i) (omega (arith, r.groups-whole)), extent-kept k (l.groups + 2 * (i / 64)) (omega arith))
            (r.groups-hold i h);
        blocks-hold =
            λ j h.
            rw (extent-kept k (l.groups + 2 * j) (omega (arith, r.blocks-whole)), extent-kept k (l.blocks + 2 * (j / 64)) (omega arith))
            (r.blocks-hold j h);
      }

-- a ladder that was raised ends within the table
pub ladder-ends : {table table' : List ℕ} {items count free : ℕ} {l : Ladder} → RaisedOver table table' items count free l → ladder_end l ≤ length table'
unfolding ladder_end
ladder-ends c = omega (arith, c.raised.groups-there, c.raised.blocks-there)

-- ---- the steps of filing, one after the other

module _ {points directory start ranked : List ℕ} {n : ℕ} (rings : RingsThere points directory n) (room : 3 * n ≤ length start) (numbers : Permutes (record_number directory) n) (a : Ranked directory start ranked n) where
  -- the rings can be measured once they are ranked
  pub ranked-measurable : Measurable points directory ranked n
  ranked-measurable =
      record {
        rings-there = rings;
        ranks-there = rw a.as_long room;
        ranks-below = rank_below directory ranked n numbers a.ranks;
      }

  module _ {measured : List ℕ} (b : Measured points directory ranked measured n) where
    -- there is room behind the ranks
    measured-room : 3 * n ≤ length measured
    measured-room = rw (b.as_long, a.as_long) room

    module _ {raised table : List ℕ} {free : ℕ} {l m : Ladder} (c : RaisedOver measured raised 0 n (3 * n) l) (e : free ≡ ladder_end l) (over : ChunkedOver points raised table free m) where
      d : ChunkedOver points raised table (ladder_end l) m
      d = rw e at over

      -- extents and ranks lie below the ladder's end
      low : 3 * n ≤ ladder_end l
      unfolding ladder_end
      low = omega (arith, c.above)

      -- a rank is as it was stored
      rank-kept : (i : ℕ) → i < n → rank_of table n i ≡ rank_of ranked n i
      unfolding rank_of
      rank-kept i h =
          d.below.kept (2 * n + i) (omega (arith, low))
          ∙ c.below.kept (2 * n + i) (omega arith)
          ∙ b.behind (2 * n + i) (omega arith)

      -- so is an extent
      extent-filed : (i : ℕ) → i < n → item_extent table l i ≡ extent_of (record_ring points directory (rank_of table n i))
      unfolding item_extent
      extent-filed i h =
          let at : l.items + 2 * i ≡ 2 * i = omega (arith, c.over-items) in
          rw (at, rank-kept i h)
          (extent-kept d.below (2 * i) (omega (arith, low)) ∙ extent-kept c.below (2 * i) (omega arith) ∙ b.extents i h)

      pub all-filed : Filed points directory table n l m
      unfolding ladder_end
      all-filed =
          record {
            rings-there = rings;
            ranks-there = rw (d.below.as_long, c.below.as_long) measured-room;
            ranks-permute =
                ranks-permute directory table n numbers
                (λ r h. rank-kept (record_number directory r) (taken-below (record_number directory) n numbers r h) ∙ a.ranks r h);
            rings-counted = c.over-count;
            rings-raised = raised-kept d.below l c.raised (omega (arith, c.over-items, c.over-count, c.above)) (omega arith) (omega arith);
            extents-filed = extent-filed;
            points-chunked = d.chunked;
          }

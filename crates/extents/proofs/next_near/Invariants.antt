-- `extents::next_near` meets its contract. The loop's invariant is `Passed`: every item passed is apart. The measure is how many items are left.
-- Assumes nothing.
use Prim.Native.Nat.{◌-◌}
use Rattle.extents.proofs.Passing.{Passed}
use Rattle.extents.proofs.next_near.Given as goal

abbrev pub invariant-loop-i : goal.invariant-loop-i
invariant-loop-i l = Passed
    l.table
    (record {
      items = l.items;
      item_count = l.item_count;
      groups = l.groups;
      group_count = l.group_count;
      blocks = l.blocks;
      block_count = l.block_count;
    })
    l.from
    l.query
    l.i

abbrev pub decreases-loop-i : goal.decreases-loop-i
decreases-loop-i l = l.item_count - l.i

-- `extents::group_at` meets its contract. The loop's invariant: the extent holds the first i items. Assumes nothing.
use Rattle.extents.specs.Filling.{HoldsItems}
use Rattle.extents.proofs.group_at.Given as goal

abbrev pub invariant-loop-i : goal.invariant-loop-i
invariant-loop-i l = HoldsItems l.table l.at l.i l.e

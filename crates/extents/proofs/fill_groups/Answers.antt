-- `extents::fill_groups` meets its contract. The loop's invariant is `Filled`: the first j extents are stored. Assumes nothing.
use native.Mathlib.Omega.{arith}
use Rattle.extents.proofs.Raising.{group-meant}
use Rattle.extents.proofs.Stores.{filled-begin, filled_next, filled-end}
use Rattle.extents.proofs.fill_groups.Goals as goal

pub loop-j-init : goal.loop-j-init
loop-j-init c = filled-begin _ _

pub loop-j-preserved : goal.loop-j-preserved
loop-j-preserved c =
    let inv = c.loop-j.invariant in
    let meant = group-meant c.args.items c.loop-j.j inv.below (omega arith) c.group_at-e.ensures in
    let fits = c.group_at-e.type_inv in
    filled_next inv meant (omega arith) (omega arith) (omega arith) c.put_extent.ensures

pub shape_of-table : goal.shape_of-table
shape_of-table c = c.loop-j.invariant.below.as_long

pub returns : goal.returns
returns c = filled-end c.loop-j.invariant (omega arith)

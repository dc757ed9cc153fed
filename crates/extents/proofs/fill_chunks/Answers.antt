-- `extents::fill_chunks` meets its contract. The loop's invariant is `Filled`: the first j extents are stored. Assumes nothing.
use native.Mathlib.Omega.{arith}
use Rattle.extents.proofs.Growing.{chunk-meant}
use Rattle.extents.proofs.Stores.{filled-begin, filled_next, filled-end}
use Rattle.extents.proofs.fill_chunks.Goals as goal

pub loop-j-init : goal.loop-j-init
loop-j-init c = filled-begin _ _

pub loop-j-preserved : goal.loop-j-preserved
loop-j-preserved c =
    let fits = c.extent_of-e.type_inv in
    filled_next c.loop-j.invariant (chunk-meant _ _ c.extent_of-e.ensures) (omega arith) (omega arith) (omega arith) c.put_extent.ensures

pub shape_of-table : goal.shape_of-table
shape_of-table c = c.loop-j.invariant.below.as_long

pub returns : goal.returns
returns c = filled-end c.loop-j.invariant (omega arith)

-- `extents::raise` meets its contract: the two fillings are the ladder's two levels, the second behind the first. Assumes nothing.
use native.Mathlib.Omega.{arith}
use Rattle.extents.proofs.Raising.{raised-over}
use Rattle.extents.proofs.raise.Goals as goal

pub returns : goal.returns
returns c =
    let args = c.args in
    raised-over
    args.items
    args.count
    args.free
    c.min-group_count.result
    c.min-block_count.result
    (omega arith)
    (omega arith)
    (omega arith)
    (omega arith)
    c.fill_groups.ensures
    c.fill_groups-2.ensures

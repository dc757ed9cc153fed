-- `extents::group_at` meets its contract. The loop's invariant: the extent holds the first i items. Assumes nothing.
use mathlib.Core.Path.{◌≡◌}
use native.Mathlib.Omega.{arith}
use Rattle.extents.proofs.Raising.{holds-first, holds-next}
use Rattle.extents.proofs.group_at.Goals as goal

pub loop-i-init : goal.loop-i-init
loop-i-init c = rw c.extent_at-e.ensures (holds-first _ _)

pub loop-i-preserved : goal.loop-i-preserved
loop-i-preserved c =
    let held = c.joined-e.ensures in
    holds-next c.loop-i.invariant held.0 (rw c.extent_at.ensures at held.1)

pub returns : goal.returns
returns c = let all : c.loop-i.i ≡ 64 = omega arith in rw all at c.loop-i.invariant

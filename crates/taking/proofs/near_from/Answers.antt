-- `taking::near_from` meets its contract: no pair is passed over, or those before the first chunk that is not apart. Assumes nothing.
use native.Mathlib.Omega.{arith}
use Rattle.extents.specs.Extents.{ray_from}
use Rattle.taking.proofs.Passing.{none_passed, before-near}
use Rattle.taking.proofs.near_from.Goals as goal

pub returns-then-chunks-chunk : goal.returns-then-chunks-chunk
returns-then-chunks-chunk c = none_passed (omega arith)

pub returns : goal.returns
unfolding ray_from
returns c = before-near c.next_near.ensures (omega arith) (omega arith) (omega arith)

-- `filing::file` meets its contract: each step hands on what the next one asks, and `all-filed` puts together what they leave. Assumes nothing.
use native.Mathlib.Omega.{arith}
use Rattle.filing.proofs.Keeping.{ranked-measurable, ladder-ends, all-filed}
use Rattle.filing.proofs.file.Goals as goal

pub measure_rings-requires : goal.measure_rings-requires
measure_rings-requires c =
    let given = c.requires in
    ranked-measurable given.0 given.1 given.3 c.rank_rings.ensures

pub ladder_end-free-requires : goal.ladder_end-free-requires
ladder_end-free-requires c =
    let raised = c.raise-rings.ensures in
    omega (arith, ladder-ends raised, raised.below.as_long, c.measure_rings.ensures.as_long, c.rank_rings.ensures.as_long, c.well_formed)

pub chunk-chunks-requires : goal.chunk-chunks-requires
chunk-chunks-requires c = rw c.ladder_end-free.ensures (ladder-ends c.raise-rings.ensures)

pub returns : goal.returns
returns c =
    let given = c.requires in
    all-filed given.0 given.1 given.3 c.rank_rings.ensures c.measure_rings.ensures c.raise-rings.ensures
    c.ladder_end-free.ensures c.chunk-chunks.ensures

-- `extents::fill_chunks` meets its contract. The loop's invariant is `Filled`: the first j extents are stored. Assumes nothing.
use Rattle.extents.specs.Filling.{Filled, HoldsChunk}
use Rattle.extents.proofs.fill_chunks.Given as goal

abbrev pub invariant-loop-j : goal.invariant-loop-j
invariant-loop-j l = Filled (HoldsChunk l.points) l.initial.table l.table l.place l.j

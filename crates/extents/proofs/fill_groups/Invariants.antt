-- `extents::fill_groups` meets its contract. The loop's invariant is `Filled`: the first j extents are stored. Assumes nothing.
use Rattle.extents.specs.Filling.{Filled, HoldsGroup}
use Rattle.extents.proofs.fill_groups.Given as goal

abbrev pub invariant-loop-j : goal.invariant-loop-j
invariant-loop-j l = Filled (HoldsGroup l.initial.table l.items) l.initial.table l.table l.place l.j

-- `noting::note_rings` meets its contract. The loop's invariant is `Walked`: the records so far are noted, and the next ring begins where they end. Assumes nothing.
use native.Mathlib.Omega.{arith}
use Rattle.noting.proofs.Walk.{walked-begin, walked-asks, walked-few, walked_next, walked_end}
use Rattle.noting.proofs.note_rings.Goals as goal

pub loop-r-init : goal.loop-r-init
loop-r-init g c = walked-begin _ c.requires

pub note_ring-first-requires : goal.note_ring-first-requires
note_ring-first-requires g c = walked-asks c.loop-r.invariant c.loop-r-test.true

pub overflow_add-first : goal.overflow_add-first
overflow_add-first g c =
    omega (arith, walked-few c.loop-r.invariant c.loop-r-test.true c.note_ring-first.ensures)

pub loop-r-preserved : goal.loop-r-preserved
loop-r-preserved g c =
    walked_next c.loop-r.invariant c.loop-r-test.true c.note_ring-first.ensures

pub shape_of-directory : goal.shape_of-directory
shape_of-directory g c = c.loop-r.invariant.so_far.as_long

pub returns : goal.returns
returns g c = walked_end c.loop-r.invariant c.loop-r-test.false

-- `area::flips` meets its contract: `left_is` makes the crossing abscissa a test of two sums, whose order goes by which end is above.
-- Assumes nothing.
use mathlib.Core.Bool.{xor}
use borrow.Author.Tests.{lt-ltb, le-ltb}
use native.Mathlib.Omega.{arith}
use Rattle.scope.specs.Containment.{flips}
use Rattle.area.proofs.Crossing.{around, left_is}
use Rattle.area.proofs.flips.Goals as goal

pub returns-then-p-b : goal.returns-then-p-b
unfolding flips xor
returns-then-p-b c = simp (lt-ltb _ _ c.if-p-a.true, lt-ltb _ _ c.if-p-b.true)

pub returns-then-p-a : goal.returns-then-p-a
unfolding flips xor around
returns-then-p-a c =
    let a = c.args in
    simp (lt-ltb _ _ c.if-p-a.true, le-ltb _ _ c.if-p-b.false, left_is, lt-ltb a.b.y a.a.y (omega arith), c.turning.ensures, c.turning-then-p-a.ensures)

pub returns-then-p-b-2 : goal.returns-then-p-b-2
unfolding flips xor around
returns-then-p-b-2 c =
    let a = c.args in
    simp (le-ltb _ _ c.if-p-a.false, lt-ltb _ _ c.if-p-b-2.true, left_is, le-ltb a.b.y a.a.y (omega arith), c.turning-then-p-b-2.ensures, c.turning-then-p-b-2-2.ensures)

pub returns : goal.returns
unfolding flips xor
returns c = simp (le-ltb _ _ c.if-p-a.false, le-ltb _ _ c.if-p-b-2.false)

-- `area::on_pair` meets its contract: `collinear-is` makes collinearity the test of two sums, and the two halves of the definition's `&&` stand in the other order.
-- Assumes nothing.
use mathlib.Core.Bool.{and-true, and-false}
use Rattle.scope.specs.Containment.{on_pair}
use Rattle.area.proofs.Crossing.{around, collinear-is}
use Rattle.area.proofs.on_pair.Goals as goal

pub returns-then-spanned : goal.returns-then-spanned
unfolding on_pair around
returns-then-spanned c =
    simp (collinear-is, ← c.spanned.ensures, c.if-spanned.true, and-true, c.turning.ensures, c.turning-then-spanned.ensures)

pub returns-else-spanned : goal.returns-else-spanned
unfolding on_pair
returns-else-spanned c = simp (← c.spanned.ensures, c.if-spanned.false, and-false)

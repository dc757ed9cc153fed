-- `rows::begin` meets its contract: the state has the sides where they are within the limit, and else no side. Assumes nothing.
use mathlib.Core.Path.{sym, ◌∙◌}
use native.Mathlib.Omega.{arith}
use borrow.Author.Tests.{not-true, not-false}
use Rattle.scope.specs.Limits.{side_limit}
use Rattle.rows.proofs.Sides.{sides-within, begun, not-begun}
use Rattle.rows.proofs.begin.Goals as goal

pub overflow_cast-dx : goal.overflow_cast-dx
unfolding side_limit
overflow_cast-dx c =
    omega (arith, (sides-within c.args.dx c.args.dy (not-true _ (sym c.sides_fit.ensures ∙ c.if-sides_fit.true))).0)

pub overflow_cast-dy : goal.overflow_cast-dy
unfolding side_limit
overflow_cast-dy c =
    omega (arith, (sides-within c.args.dx c.args.dy (not-true _ (sym c.sides_fit.ensures ∙ c.if-sides_fit.true))).1)

pub returns-then-sides_fit : goal.returns-then-sides_fit
returns-then-sides_fit c =
    begun c.args.dx c.args.dy c.args.level (not-true _ (sym c.sides_fit.ensures ∙ c.if-sides_fit.true)) _ c.blank.ensures

pub returns : goal.returns
returns c =
    not-begun c.args.dx c.args.dy c.args.level (not-false _ (sym c.sides_fit.ensures ∙ c.if-sides_fit.false)) _ c.blank-2.ensures

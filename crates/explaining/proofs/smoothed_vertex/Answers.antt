-- `explaining::smoothed_vertex` meets its contract: numbers 1 and 2 are the fit's, number 9 the check's, and behind them the vertex is told. Assumes nothing.
use mathlib.Core.Path.{sym, ◌∙◌}
use native.Mathlib.Omega.{arith}
use Rattle.scope.specs.Limits.{side_limit}
use Rattle.grid.proofs.Laws.{a-grid-that-fits-is-sized}
use Rattle.explaining.proofs.smoothed_vertex.Goals as goal

pub overflow_cast-dx : goal.overflow_cast-dx
unfolding side_limit
overflow_cast-dx c = omega (arith, a-grid-that-fits-is-sized _ _ _ (sym c.grid_fit.ensures ∙ c.in_ok-grid_fit.was))

pub overflow_cast-dy : goal.overflow_cast-dy
unfolding side_limit
overflow_cast-dy c = omega (arith, a-grid-that-fits-is-sized _ _ _ (sym c.grid_fit.ensures ∙ c.in_ok-grid_fit.was))

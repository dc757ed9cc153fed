-- `bands::band_fit` meets its contract: each test is one of the definition's, in its order. Assumes nothing.
use mathlib.Core.Path.{sym, ◌∙◌}
use native.Mathlib.Omega.{arith}
use Rattle.bands.proofs.Fit.{grid-refused, few, no-pair, pair}
use Rattle.error.proofs.Passing.{passed-on}
use Rattle.bands.proofs.band_fit.Goals as goal

pub returns-then-thresholds-lt2 : goal.returns-then-thresholds-lt2
returns-then-thresholds-lt2 c = sym (few _ _ _ _ _ (sym c.grid_fit.ensures ∙ c.in_ok-grid_fit.was) (omega arith))

pub returns-then-has_pair : goal.returns-then-has_pair
returns-then-has_pair c =
    sym (pair _ _ _ _ _ (sym c.grid_fit.ensures ∙ c.in_ok-grid_fit.was) (omega arith) (sym c.has_pair.ensures ∙ c.if-has_pair.true))

pub returns-in_err-grid_fit : goal.returns-in_err-grid_fit
returns-in_err-grid_fit c =
    rw (passed-on _ c.from_residual.ensures.1) (sym (grid-refused _ _ _ _ _ _ (sym c.grid_fit.ensures ∙ c.in_err-grid_fit.was)))

pub returns : goal.returns
returns c =
    sym (no-pair _ _ _ _ _ (sym c.grid_fit.ensures ∙ c.in_ok-grid_fit.was) (omega arith) (sym c.has_pair.ensures ∙ c.if-has_pair.false))

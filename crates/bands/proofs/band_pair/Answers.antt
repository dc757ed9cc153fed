-- `bands::band_pair` meets its contract: where the band fits, k + 1 is a place in the list. Assumes nothing.
use mathlib.Core.Path.{◌≡◌, sym, ◌∙◌}
use Prim.Native.Nat.{suc, ◌+◌}
use native.Mathlib.Omega.{arith}
use Rattle.bands.specs.Bands.{fit_pair}
use Rattle.bands.proofs.Fit.{fitting}
use Rattle.error.proofs.Passing.{passed-on}
use Rattle.bands.proofs.band_pair.Goals as goal

pub offset_bounds-thresholds-k : goal.offset_bounds-thresholds-k
offset_bounds-thresholds-k c = omega (arith, (fitting _ _ _ _ _ (sym c.band_fit.ensures ∙ c.in_ok-band_fit.was)).place)

pub bounds-thresholds-k : goal.bounds-thresholds-k
bounds-thresholds-k c =
    omega (arith, (fitting _ _ _ _ _ (sym c.band_fit.ensures ∙ c.in_ok-band_fit.was)).place)

pub overflow_add-upper : goal.overflow_add-upper
overflow_add-upper c =
    omega (arith, (fitting _ _ _ _ _ (sym c.band_fit.ensures ∙ c.in_ok-band_fit.was)).place)

pub offset_bounds-thresholds-k-2 : goal.offset_bounds-thresholds-k-2
offset_bounds-thresholds-k-2 c =
    omega (arith, (fitting _ _ _ _ _ (sym c.band_fit.ensures ∙ c.in_ok-band_fit.was)).place)

pub bounds-thresholds-k-2 : goal.bounds-thresholds-k-2
bounds-thresholds-k-2 c =
    omega (arith, (fitting _ _ _ _ _ (sym c.band_fit.ensures ∙ c.in_ok-band_fit.was)).place)

pub returns-in_err-band_fit : goal.returns-in_err-band_fit
unfolding fit_pair
returns-in_err-band_fit c = rw (passed-on _ c.from_residual.ensures.1, sym c.band_fit.ensures ∙ c.in_err-band_fit.was)

pub returns : goal.returns
unfolding fit_pair
returns c =
    let next : c.args.k + 1 ≡ suc c.args.k = omega arith in
    rw (sym c.band_fit.ensures ∙ c.in_ok-band_fit.was, ← next)

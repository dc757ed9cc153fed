-- `contour_c::contour_rows_begin` meets its contract: the step that `begin` comes to is settled. Assumes nothing.
use Rattle.contour_c.proofs.Called.{begun-entry}
use Rattle.contour_c.proofs.contour_rows_begin.Goals as goal

pub returns : goal.returns
returns c =
    let told = begun-entry _ c.args.state.now _ _ c.begin-step.ensures c.settle.ensures.value c.settle.ensures.state_after in
    record { value = told.0; state_after = rw (← c.level_of.ensures) told.1 }

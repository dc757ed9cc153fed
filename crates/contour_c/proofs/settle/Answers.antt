-- `contour_c::settle` meets its contract: in each arm of the `match` the answer's variant gives the status, the words of the state and the number of rings.
-- Assumes nothing.
use Rattle.contour_c.proofs.Called.{call-taken, call-refused}
use Rattle.contour_c.proofs.settle.Goals as goal

pub returns-in-Ok : goal.returns-in-Ok
returns-in-Ok c =
    let told = call-taken c.args.state.now c.args.step.state c.args.rings.now _ c.in-Ok.is c.store_state.ensures in
    record { value = told.0; state_after = told.1.0; rings_after = told.1.1 }

pub returns-in-Err : goal.returns-in-Err
returns-in-Err c =
    let told = call-refused c.args.state.now c.args.step.state c.args.rings.now _ c.in-Err.is c.number.ensures in
    record { value = told.0; state_after = told.1.0; rings_after = told.1.1 }

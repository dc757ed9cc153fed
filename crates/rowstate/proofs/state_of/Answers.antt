-- `rowstate::state_of` meets its contract: each number stands in its word. Assumes nothing.
use Rattle.rowstate.proofs.States.{state-read}
use Rattle.rowstate.proofs.state_of.Goals as goal

pub returns : goal.returns
returns c =
    state-read c.args.words.now _ _ _ _ c.paired.ensures c.float_of-threshold.ensures c.level_of.ensures c.samples_in.ensures

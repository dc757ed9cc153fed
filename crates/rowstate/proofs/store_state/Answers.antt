-- `rowstate::store_state` meets its contract: each number goes to its word. Assumes nothing.
use Rattle.rowstate.proofs.States.{state-stored}
use Rattle.rowstate.proofs.store_state.Goals as goal

pub returns : goal.returns
returns c =
    state-stored c.args.state c.args.words.now _ _ _ _ c.bits_of-bits.ensures c.low_half.ensures c.high_half.ensures c.rule_number.ensures c.store_samples.ensures

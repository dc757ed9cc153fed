-- `contourbuilder::own_whole` meets its contract: the records without areas are there, and spreading them out leaves whole ones. Assumes nothing.
use Rattle.contourbuilder.proofs.Whole.{either-written}
use Rattle.contourbuilder.proofs.own_whole.Goals as goal

pub returns : goal.returns
returns g c =
    either-written _ _ _ c.requires.0.countable _ c.own_short.ensures c.spread.ensures

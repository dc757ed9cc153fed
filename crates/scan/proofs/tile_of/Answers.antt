-- `scan::tile_of` meets its contract, the definition's own arithmetic. Assumes nothing.
use borrow.Author.Rules.{rules}
use Rattle.scan.specs.Rows.{tile_of}
use Rattle.scan.proofs.tile_of.Goals as goal

pub returns : goal.returns
unfolding tile_of
returns c = search rules

-- `isoringbuilder::pack_whole` meets its contract: where packing stores the records there is room to spread them out. Assumes nothing.
use Rattle.isoringbuilder.proofs.Packing.{spared-whole, stored-whole, room-to-spread}
use borrow.Author.Rules.{rules}
use Rattle.error.proofs.Passing.{passed-on}
use Rattle.isoringbuilder.proofs.pack_whole.Goals as goal

pub returns-in_err-count : goal.returns-in_err-count
returns-in_err-count c =
    rw (passed-on _ c.from_residual.ensures.1, ← c.in_err-count.was) (spared-whole c.pack.ensures _ c.in_err-count.was)

pub spread-requires : goal.spread-requires
spread-requires c =
    (search rules, room-to-spread c.pack.ensures _ c.in_ok-count.was)

pub returns : goal.returns
returns c =
    stored-whole c.pack.ensures _ c.in_ok-count.was c.spread.ensures

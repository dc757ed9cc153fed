-- `bands::write_behind` meets its contract: what is stored in the part of a table from a word on is stored from that word on. Assumes nothing.
use Rattle.bands.proofs.Packs.{stored-part}
use Rattle.bands.proofs.write_behind.Goals as goal

pub returns : goal.returns
returns c =
    let called = c.write_rings in
    record { points_after = stored-part c.args.words c.args.points.now _ _ called.ensures.points_after; directory_after = stored-part c.args.records c.args.directory.now _ _ called.ensures.directory_after }

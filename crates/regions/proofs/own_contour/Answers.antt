-- `regions::own_contour` meets its contract. What noting leaves is the order by number, so the rings are there to be filed and their numbers permute; with
-- the owners found, the directory is by law the contour's. Assumes nothing.
use native.Mathlib.Omega.{arith}
use Rattle.regions.proofs.Arranged.{noted-arranged, rings-there, numbers-permute}
use Rattle.regions.proofs.Regions.{contour-written}
use Rattle.regions.proofs.own_contour.Goals as goal

pub file-filing-requires : goal.file-filing-requires
file-filing-requires c =
    let a = noted-arranged c.requires.countable.records-there c.note_rings.ensures in
    (rings-there a c.requires.rings-there, omega (arith, c.requires.room), c.requires.countable.few, numbers-permute a)

pub returns : goal.returns
returns c =
    contour-written c.requires.countable.records-there c.note_rings.ensures c.own_all.ensures

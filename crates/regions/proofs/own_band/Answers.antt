-- `regions::own_band` meets its contract. Noted and sorted, the rings can be measured again, and with the high parts of the keys the second sorting leaves the
-- sorted order, so the rings are there to be filed and their numbers permute. Finding the classes leaves what was filed, and with the owners found the
-- directory is by law the band's. Assumes nothing.
use native.Mathlib.Omega.{arith}
use Rattle.regions.specs.Regions.{sorted_by}
use Rattle.regions.proofs.Arranged.{rings-there, numbers-permute, arranged-measurable, classed-alone, still-filed}
use Rattle.regions.proofs.Regions.{low-arranged, band-arranged, band-written}
use Rattle.regions.proofs.own_band.Goals as goal

pub note_high-requires : goal.note_high-requires
note_high-requires c =
    arranged-measurable (low-arranged c.requires.countable.records-there c.note_rings.ensures c.sort_first.ensures) c.requires.countable

pub file-filing-requires : goal.file-filing-requires
file-filing-requires c =
    let a = band-arranged c.requires.countable.records-there c.note_rings.ensures c.sort_first.ensures c.note_high.ensures c.sort_first-2.ensures in
    (rings-there a c.requires.rings-there, omega (arith, c.requires.room), c.requires.countable.few, numbers-permute a)

pub own_all-requires : goal.own_all-requires
own_all-requires c =
    still-filed (classed-alone c.class_all.ensures) c.file-filing.ensures

pub returns : goal.returns
unfolding sorted_by
returns c =
    let a = band-arranged c.requires.countable.records-there c.note_rings.ensures c.sort_first.ensures c.note_high.ensures c.sort_first-2.ensures in
    band-written a c.class_all.ensures c.own_all.ensures

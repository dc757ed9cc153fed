-- `contourbuilder::own_rings` meets its contract: the parts of the points and of the link table that are lent are as long as asked, and what lies past the part
-- that is worked in stays. Assumes nothing.
use mathlib.Core.Path.{sym, ◌∙◌}
use lib.Seq.{length-take-le}
use Rattle.contourbuilder.proofs.Owning.{ownable-rings, none_written, owners-written}
use Rattle.contourbuilder.proofs.own_rings.Goals as goal

pub slice_bounds-drawn-end : goal.slice_bounds-drawn-end
slice_bounds-drawn-end g c =
    sym (length-take-le _ _ (ownable-rings c.in-Ok.is _ _ _ _ _ c.requires).1)

pub slice_bounds-own_whole-end : goal.slice_bounds-own_whole-end
slice_bounds-own_whole-end g c =
    (ownable-rings c.in-Ok.is _ _ _ _ _ c.requires).0

pub slice_bounds-own_whole-end-in-Ok : goal.slice_bounds-own_whole-end-in-Ok
slice_bounds-own_whole-end-in-Ok g c =
    sym (length-take-le _ _ (ownable-rings c.in-Ok.is _ _ _ _ _ c.requires).0)

pub own_whole-requires : goal.own_whole-requires
own_whole-requires g c =
    let asked = ownable-rings c.in-Ok.is _ _ _ _ _ c.requires in
    (asked.2, asked.3)

pub returns-in-Ok : goal.returns-in-Ok
returns-in-Ok g c =
    let fits = (ownable-rings c.in-Ok.is _ _ _ _ _ c.requires).0 in
    let called = c.own_whole in
    owners-written c.in-Ok.is _ _ _ called.new.scratch _ _ _ _ fits (called.auto.scratch ∙ length-take-le _ _ fits) called.ensures

pub returns-in_default : goal.returns-in_default
returns-in_default g c = none_written c.in_default.is _ _ _ _ _ _

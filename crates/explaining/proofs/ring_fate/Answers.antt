-- `explaining::ring_fate` meets its contract: a ring that is no polygon has the fate that is told of it, and what an answer shows follows. Assumes nothing.
use mathlib.Core.Path.{sym, ◌∙◌}
use borrow.Author.Tests.{lt-ltb}
use Rattle.explaining.specs.Fates.{fate_answer}
use Rattle.explaining.proofs.Owners.{fate_of, fate_found}
use Rattle.explaining.proofs.ring_fate.Goals as goal

pub returns : goal.returns
unfolding fate_answer
returns c =
    let same = c.in_ok-contour.ensures in
    let checked = rw (same.0, same.1, same.2) at c.in_ok-contour.contour.checked in
    let decided = rw (same.0, same.1) at c.polygon_at.ensures in
    let told = rw (same.0, same.1, same.2) at c.hole_told.ensures in
    fate_found _ _ _ _
    (rw (checked, lt-ltb _ _ c.if-rings-ring.false, fate_of _ _ _ _ c.if-rings-ring.false, sym decided ∙ c.if-polygon_at.false, told))

-- `contour_c::contour_rings` meets its contract: what the library ensures gives the status and the output. Assumes nothing.
use Rattle.contour_c.proofs.contour_rings.Goals as goal

pub returns : goal.returns
returns c =
    rw (← c.level_of-level.ensures) (record { answer = c.contour_rings-built.result; built = c.contour_rings-built.ensures; status-is = c.told.ensures.value; rings-are = c.told.ensures.output_after })

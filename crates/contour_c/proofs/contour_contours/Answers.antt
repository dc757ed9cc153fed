-- `contour_c::contour_contours` meets its contract: what the library ensures gives the status and the output. Assumes nothing.
use Rattle.contour_c.proofs.contour_contours.Goals as goal

pub returns : goal.returns
returns c =
    rw (← c.level_of-level.ensures) (record { answer = c.contours-built.result; built = c.contours-built.ensures; status-is = c.told.ensures.value; rings-are = c.told.ensures.output_after })

-- `contour_c::contour_lines` meets its contract: what the library ensures gives the status and the output. Assumes nothing.
use Rattle.smoothing.specs.Values.{placing_of}
use Rattle.contour_c.specs.Rings.{asked}
use Rattle.contour_c.proofs.contour_lines.Goals as goal

pub returns : goal.returns
unfolding asked placing_of
returns c =
    rw (← c.level_of-level.ensures) (record { answer = c.contour_lines-built.result; built = c.contour_lines-built.ensures; status-is = c.told.ensures.value; rings-are = c.told.ensures.output_after })

-- `contour_c::contour_geojson_length` meets its contract: what the library ensures gives the status and the output. Assumes nothing.
use Rattle.contour_c.proofs.contour_geojson_length.Goals as goal

pub returns : goal.returns
returns c = rw (← c.geojson_length-needed.ensures) (record { value = c.told.ensures.value; length_after = c.told.ensures.output_after })

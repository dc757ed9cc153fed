-- `contour_geojson::write_rings` meets its contract: a set that the writer takes, with room for its text, is written. Assumes nothing.
use Rattle.contour_geojson.proofs.Steps.{never-refused, set-stands}
use Rattle.contour_geojson.proofs.write_rings.Goals as goal

pub returns-in-Err : goal.returns-in-Err
returns-in-Err c =
    let called = c.write_geojson in
    never-refused c.requires called.ensures.value called.ensures.text_after c.in-Err.is

pub returns-in-Ok : goal.returns-in-Ok
returns-in-Ok c =
    let called = c.write_geojson in
    set-stands c.requires called.ensures.value called.ensures.text_after c.in-Ok.is

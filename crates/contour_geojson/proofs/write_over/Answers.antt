-- `contour_geojson::write_over` meets its contract: the tables have the room, so the build gives all rings and their set is one that the writer takes. Assumes
-- nothing.
use Rattle.contour_geojson.proofs.Rooms.{no-refusal, set-is-writable, contour-stands}
use Rattle.contour_geojson.proofs.write_over.Goals as goal

pub write_rings-requires : goal.write_rings-requires
write_rings-requires c =
    set-is-writable _ _ _ _ c.requires.0 c.requires.1 c.contours.ensures c.in-Ok.is

pub returns-in-Err : goal.returns-in-Err
returns-in-Err c =
    no-refusal _ _ _ _ c.requires.0 c.requires.1 c.contours.ensures c.in-Err.is

pub returns-in-Ok : goal.returns-in-Ok
returns-in-Ok c =
    contour-stands _ _ _ _ c.requires.0 c.requires.1 c.contours.ensures c.in-Ok.is c.write_rings.ensures

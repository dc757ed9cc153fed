-- `telling::tell_vertex` meets its contract: both coordinates are told, or the refusal's number. Assumes nothing.
use mathlib.Core.Path.{refl}
use Rattle.telling.specs.Outputs.{vertex_status, x_kind_of, x_fraction_of, y_kind_of, y_fraction_of}
use Rattle.telling.proofs.tell_vertex.Goals as goal

pub returns-in-Ok : goal.returns-in-Ok
unfolding vertex_status x_kind_of x_fraction_of y_kind_of y_fraction_of
returns-in-Ok c =
    rw c.in-Ok.is (record { value = refl; x_kind_after = c.tell_coordinate.ensures.kind_after; x_fraction_after = c.tell_coordinate.ensures.fraction_after; y_kind_after = c.tell_coordinate-in-Ok.ensures.kind_after; y_fraction_after = c.tell_coordinate-in-Ok.ensures.fraction_after })

pub returns-in-Err : goal.returns-in-Err
unfolding vertex_status x_kind_of x_fraction_of y_kind_of y_fraction_of
returns-in-Err c = rw c.in-Err.is (record { value = c.number.ensures; x_kind_after = refl; x_fraction_after = refl; y_kind_after = refl; y_fraction_after = refl })

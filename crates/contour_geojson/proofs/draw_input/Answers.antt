-- `contour_geojson::draw_input` meets its contract: what was read is a terrain that the program draws, and its text is the input's. Assumes nothing.
use mathlib.Core.Path.{sym}
use native.Mathlib.Omega.{arith}
use lib.Seq.{length-take-le}
use Rattle.contour_geojson.proofs.Steps.{nothing_read, samples-few, values-there, grid-is-small, input-drawn}
use Rattle.contour_geojson.proofs.draw_input.Goals as goal

pub returns-in_default : goal.returns-in_default
returns-in_default c = nothing_read _ _ _ c.in_default.ensures c.args.text.now

pub overflow_mul-n : goal.overflow_mul-n
overflow_mul-n c = omega (arith, samples-few _ _ _ _ c.in-Some.ensures)

pub slice_bounds-values-end : goal.slice_bounds-values-end
slice_bounds-values-end c = values-there _ _ _ _ c.in-Some.ensures

pub slice_bounds-write_contour-end : goal.slice_bounds-write_contour-end
slice_bounds-write_contour-end c = sym (length-take-le _ _ (values-there _ _ _ _ c.in-Some.ensures))

pub write_contour-requires : goal.write_contour-requires
write_contour-requires c = (grid-is-small _ _ _ _ c.in-Some.ensures, c.requires)

pub returns : goal.returns
returns c = input-drawn _ _ _ _ c.in-Some.ensures c.write_contour.ensures

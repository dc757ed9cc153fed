-- `contour_geojson::read_full` is safe and ends: what is left to fill gets less. Assumes nothing.
use Rattle.std.proofs.Common.{length, ◌-◌}
use Rattle.contour_geojson.proofs.read_full.Given as goal

abbrev pub decreases-loop-done : goal.decreases-loop-done
decreases-loop-done g l = length l.initial.bytes - l.done

-- `geotext::coordinate_length` meets its contract: it adds the lengths of the digits and of the half. Assumes nothing.
use native.Mathlib.Omega.{arith}
use Rattle.geotext.proofs.Lengths.{coordinate-length}
use Rattle.geotext.proofs.coordinate_length.Goals as goal

pub returns : goal.returns
returns c = omega (arith, coordinate-length c.args.doubled c.ranges.doubled.fits)

-- `rows::sides_fit` meets its contract: the tests of both sides are the definition's. Assumes nothing.
use Rattle.rows.proofs.Sides.{sides-tested}
use Rattle.rows.proofs.sides_fit.Goals as goal

pub returns : goal.returns
returns c = rw (c.side_fits.ensures, c.side_fits-2.ensures) (sides-tested c.args.dx c.args.dy)

-- `smoothing::smoothed` meets its contract: where a fraction is found the coordinate moves by it. Assumes nothing.
use lib.Ieee.{of_bits}
use Rattle.scope.specs.Smoothing.{half, moved}
use Rattle.smoothing.specs.Coordinates.{fraction}
use Rattle.smoothing.proofs.Found.{was-found, was-not-found}
use Rattle.smoothing.proofs.smoothed.Goals as goal

pub returns-in-Some : goal.returns-in-Some
unfolding of_bits half moved fraction
returns-in-Some c =
    let found = was-found _ _ _ c.in-Some.ensures in
    rw (c.real_of-x.ensures, found.0, found.1)

pub returns-in-None : goal.returns-in-None
returns-in-None c = rw (c.real_of-x.ensures, was-not-found _ _ c.in-None.ensures)

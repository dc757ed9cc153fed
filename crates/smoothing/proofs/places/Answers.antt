-- `smoothing::places` meets its contract: placements are unequal where one of four fields differs. Assumes nothing.
use mathlib.Core.Path.{◌≡◌, refl, ◌∙◌}
use mathlib.Core.Bool.{Bool, true, false, not, ◌&&◌, ◌||◌}
use lib.Ieee.{ne, of_int, of_bits}
use Rattle.scope.specs.Smoothing.{whole, placing}
use Rattle.smoothing.specs.Values.{placing_of}
use Rattle.smoothing.proofs.places.Goals as goal

one-differs : (a b c d : Bool) → not (a && (b && (c && d))) ≡ not a || not b || not c || not d
one-differs false b c d = refl
one-differs true false c d = refl
one-differs true true false d = refl
one-differs true true true d = refl

pub returns : goal.returns
unfolding ne of_bits of_int whole placing placing_of
returns c = c.ne.ensures ∙ one-differs _ _ _ _

-- `telling::tell_coordinate` meets its contract: each arm is the definition's. Assumes nothing.
use mathlib.Core.Path.{refl}
use Rattle.telling.specs.Outputs.{kind_of, fraction_of}
use Rattle.telling.proofs.tell_coordinate.Goals as goal

pub returns-in-Stayed : goal.returns-in-Stayed
unfolding kind_of fraction_of
returns-in-Stayed c = rw c.in-Stayed.is (record { kind_after = refl; fraction_after = refl })

pub returns-in-Moved : goal.returns-in-Moved
unfolding kind_of fraction_of
returns-in-Moved c = rw c.in-Moved.is (record { kind_after = refl; fraction_after = refl })

pub returns-in-NotANumber : goal.returns-in-NotANumber
unfolding kind_of fraction_of
returns-in-NotANumber c = rw c.in-NotANumber.is (record { kind_after = refl; fraction_after = refl })

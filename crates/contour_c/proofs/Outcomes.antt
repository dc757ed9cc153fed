-- An answer that is refused as a test says, and otherwise holds a value, gives the status and the output by that test. Assumes nothing.
use mathlib.Core.Path.{◌≡◌, refl}
use mathlib.Core.Bool.{Bool, true, false, cond}
use Prim.Native.Nat.{ℕ}
use Rattle.std.specs.Prelude.{Ok, Err}
use Rattle.error.specs.declared.Refusal.TheVariants.{BadRing}
use Rattle.scope.specs.Containment.{Answer, outside, boundary, inside, answer_number}
use Rattle.area.specs.Answers.{place_of}
use Rattle.contour_c.specs.Entries.{status_of, place_number}
use Rattle.contour_c.specs.Told.{told_status, told_output}

module _ {Value : Type 0} (value : Value) where
  pub status-told : (refused : Bool) → told_status (cond refused (Err BadRing) (Ok value)) ≡ status_of refused
  unfolding told_status status_of
  status-told true = refl
  status-told false = refl

  pub output-told : (refused : Bool) (old : Value) → told_output old (cond refused (Err BadRing) (Ok value)) ≡ cond refused old value
  unfolding told_output
  output-told true old = refl
  output-told false old = refl

-- the number of a place is the number of its answer
pub number-told : (answer : Answer) → place_number (place_of answer) ≡ answer_number answer
unfolding place_of answer_number
number-told outside = refl
number-told boundary = refl
number-told inside = refl

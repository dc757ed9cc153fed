-- What the check of a ring set, the length of its text and the writer return to C, and what they leave in their outputs, by what the library answers. The text itself
-- is as the library leaves it. Assumes nothing.
use Rattle.std.specs.Prelude.{Bool, cond, ℕ, Result, Ok, Err}
use Rattle.error.specs.Number.{refusal_number}
use Rattle.error.specs.declared.Refusal.TheVariants.{BadRingSet}
use Rattle.error.specs.declared.Refusal.{Refusal}
use Rattle.contour_c.specs.Told.{told_status, told_output}

-- 0, or number 9
unfoldable pub check_status : Bool → ℕ
check_status refused = cond refused (refusal_number BadRingSet) 0

-- 0 or the refusal's number, and the length set or as it was
abbrev pub text_status : Result ℕ Refusal → ℕ
text_status answer = told_status answer

abbrev pub text_length : ℕ → Result ℕ Refusal → ℕ
text_length old answer = told_output old answer

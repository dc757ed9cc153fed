-- What a call's answer tells C: the status, which is 0 or the refusal's number, and an output, which a refusal leaves as it was. Assumes nothing.
use Rattle.std.specs.Prelude.{ℕ, Result, Ok, Err}
use Rattle.error.specs.Number.{refusal_number}
use Rattle.error.specs.declared.Refusal.{Refusal}

unfoldable pub told_status : {A : Type 0} → Result A Refusal → ℕ
told_status (Ok value) = 0
told_status (Err why) = refusal_number why

unfoldable pub told_output : {A : Type 0} → A → Result A Refusal → A
told_output old (Ok value) = value
told_output old (Err why) = old

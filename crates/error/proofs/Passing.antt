-- A `?` passes a refusal on as it is: what the answer of a call says of its `Err` is what the caller returns. Assumes nothing.
use mathlib.Core.Path.{◌≡◌}
use Rattle.std.specs.Prelude.{Result, Err}
use Rattle.std.specs.Result.{IsErrAnd}
use Rattle.std.proofs.lemmas.Result.{err_from_is_err_and}
use Rattle.error.specs.declared.Refusal.{Refusal}

pub passed-on : {A : Type 0} {why : Refusal} (answer : Result A Refusal) → IsErrAnd answer (λ refusal. refusal ≡ why) → answer ≡ Err why
passed-on answer told = let it = err_from_is_err_and answer told in rw (it.1, it.2)

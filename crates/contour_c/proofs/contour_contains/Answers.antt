-- `contour_c::contour_contains` meets its contract: what `contains` ensures gives the status and the output. Assumes nothing.
use mathlib.Core.Path.{◌≡◌, refl, sym, ◌∙◌, ap}
use mathlib.Core.Bool.{Bool, true, false, cond}
use mathlib.Core.List.{List}
use Prim.Native.Nat.{ℕ}
use native.Mathlib.Omega.{arith}
use borrow.Author.Rules.{rules}
use lib.IntN.{ℤ}
use Rattle.std.specs.Prelude.{Result, Ok, Err}
use Rattle.error.specs.Number.{refusal_number}
use Rattle.error.specs.declared.Refusal.{Refusal}
use Rattle.error.specs.declared.Refusal.TheVariants.{BadRing}
use Rattle.scope.specs.Area.{points}
use Rattle.scope.specs.Containment.{Answer, answer_number, ring_against, contains_refused}
use Rattle.area.specs.declared.Containment.{Containment}
use Rattle.area.specs.Answers.{contains_answer, place_of}
use Rattle.contour_c.specs.Entries.{status_of, place_number, contains_output}
use Rattle.contour_c.proofs.Outcomes.{number-told}
use Rattle.contour_c.proofs.contour_contains.Goals as goal

abbrev answer_by : Bool → Answer → Result Containment Refusal
answer_by refused answer = cond refused (Err BadRing) (Ok (place_of answer))

-- a place is that of the answer, and nothing is refused
placed : (refused : Bool) (answer : Answer) (old : ℤ) {place : Containment} → answer_by refused answer ≡ Ok place
    → (0 ≡ status_of refused) × (place_number place ≡ cond refused old (answer_number answer))
unfolding status_of
placed true answer old e = absurd (let z : ◌≡◌ {A = ℕ} 0 1 = cc in omega arith)
placed false answer old {place} e = let same : place ≡ place_of answer = cc in (refl, ap place_number same ∙ number-told answer)

-- a refusal is number 11
refused-by : (refused : Bool) (answer : Answer) (old : ℤ) {why : Refusal} → answer_by refused answer ≡ Err why
    → (refusal_number why ≡ status_of refused) × (old ≡ cond refused old (answer_number answer))
unfolding status_of
refused-by true answer old {why} e = let same : why ≡ BadRing = cc in (ap refusal_number same, refl)
refused-by false answer old e = absurd (let z : ◌≡◌ {A = ℕ} 0 1 = cc in omega arith)

pub returns-in-Ok : goal.returns-in-Ok
unfolding contains_answer contains_output
returns-in-Ok c =
    let told = placed (contains_refused c.args.outer.now c.args.tested.now) (ring_against (points c.args.outer.now) (points c.args.tested.now)) c.args.answer.now (sym c.contains.ensures ∙ c.in-Ok.is) in
    record { value = told.0; answer_after = search rules ∙ c.place_number.ensures ∙ told.1 }

pub returns-in-Err : goal.returns-in-Err
unfolding contains_answer contains_output
returns-in-Err c =
    let told = refused-by (contains_refused c.args.outer.now c.args.tested.now) (ring_against (points c.args.outer.now) (points c.args.tested.now)) c.args.answer.now (sym c.contains.ensures ∙ c.in-Err.is) in
    record { value = c.number.ensures ∙ told.0; answer_after = told.1 }

-- What the writer's contracts come to: one result for every entry, numbers 9 and 10 exactly, room of just the length is enough, and a refusal changes nothing.
-- By cases on the two tests. Assumes nothing.
use mathlib.Core.Path.{◌≡◌, refl, sym, ◌∙◌}
use mathlib.Core.Logic.{◌↔◌}
use mathlib.Core.Bool.{Bool, true, false, true≢false, false≢true}
use mathlib.Core.List.{List}
use Prim.Native.Nat.{ℕ, ◌≤◌, ◌<◌}
use native.Mathlib.Omega.{arith}
use lib.Dec.{ltb}
use lib.ListN.{length}
use borrow.Author.Tests.{ltb-true, ltb-false}
use Rattle.error.specs.declared.Refusal.{Refusal}
use Rattle.error.specs.declared.Refusal.TheVariants.{BadRingSet, TextShort}
use Rattle.scope.specs.Tables.{written}
use Rattle.scope.specs.GeoJson.{ring_set_refused, geo_json_text}
use Rattle.geojson.specs.Written.{length_answer, written_answer, text_after}
use Rattle.std.specs.Prelude.{Result, Ok, Err}

-- what both contracts say of an answer, and of the text at exit
pub record Length (ps directory : List ℕ) (rings : ℕ) (answer : Result ℕ Refusal) : Type 0 where
  pub answers : answer ≡ length_answer ps directory rings

pub record Writing (ps directory : List ℕ) (rings : ℕ) (text : List ℕ) (answer : Result ℕ Refusal) (text' : List ℕ) : Type 0 where
  pub answers : answer ≡ written_answer ps directory rings text
  pub text-is : text' ≡ text_after ps directory rings text

-- ---- one result

module _ {ps directory : List ℕ} {rings : ℕ} where
  pub one-length : {p q : Result ℕ Refusal} → Length ps directory rings p → Length ps directory rings q → p ≡ q
  one-length a b = a.answers ∙ sym b.answers

  pub one-text : {text : List ℕ} {p q : Result ℕ Refusal} {p' q' : List ℕ} → Writing ps directory rings text p p' → Writing ps directory rings text q q' → (p ≡ q) × (p' ≡ q')
  one-text a b = (a.answers ∙ sym b.answers, a.text-is ∙ sym b.text-is)

-- ---- each answer exactly

answers-apart : {why : Refusal} {n : ℕ} → Err why ≡ Ok n → ⊥
answers-apart e = let z : ◌≡◌ {A = ℕ} 0 1 = cc in omega arith

refusals-apart : ◌≡◌ {A = Result ℕ Refusal} (Err BadRingSet) (Err TextShort) → ⊥
refusals-apart e = let z : ◌≡◌ {A = ℕ} 0 1 = cc in omega arith

-- number 9 where the set does not pass, and else the length
pub record LengthExact (ps directory : List ℕ) (rings : ℕ) (answer : Result ℕ Refusal) : Type 0 where
  pub set-refused-exactly : (ring_set_refused ps directory rings ≡ true) ↔ (answer ≡ Err BadRingSet)
  pub given-exactly : (ring_set_refused ps directory rings ≡ false) ↔ (answer ≡ Ok (length (geo_json_text ps directory rings)))

pub length-exact : {ps directory : List ℕ} {rings : ℕ} {answer : Result ℕ Refusal} → Length ps directory rings answer → LengthExact ps directory rings answer
unfolding length_answer
length-exact {ps} {directory} {rings} {answer} k = by (ring_set_refused ps directory rings) refl
  where
    by : (a : Bool) → ring_set_refused ps directory rings ≡ a → LengthExact ps directory rings answer
    by true e =
        let is : answer ≡ Err BadRingSet = k.answers ∙ rw e in
        record {
          set-refused-exactly = (λ _. is, λ _. e);
          given-exactly = (λ h. absurd (true≢false (sym e ∙ h)), λ q. absurd (answers-apart (sym is ∙ q)));
        }
    by false e =
        let is : answer ≡ Ok (length (geo_json_text ps directory rings)) = k.answers ∙ rw e in
        record {
          set-refused-exactly = (λ h. absurd (false≢true (sym e ∙ h)), λ q. absurd (answers-apart (sym q ∙ is)));
          given-exactly = (λ _. is, λ _. e);
        }

-- number 9 where the set does not pass, 10 where it passes and the text is shorter than the length, and else the text: room of just the length is enough
pub record WritingExact (ps directory : List ℕ) (rings : ℕ) (text : List ℕ) (answer : Result ℕ Refusal) (text' : List ℕ) : Type 0 where
  pub set-refused-exactly : (ring_set_refused ps directory rings ≡ true) ↔ (answer ≡ Err BadRingSet)
  pub text-short-exactly : ((ring_set_refused ps directory rings ≡ false) × (length text < length (geo_json_text ps directory rings))) ↔ (answer ≡ Err TextShort)
  pub written-exactly : ((ring_set_refused ps directory rings ≡ false) × (length (geo_json_text ps directory rings) ≤ length text))
      ↔ (answer ≡ Ok (length (geo_json_text ps directory rings)))
  pub refusal-changes-nothing : (why : Refusal) → answer ≡ Err why → text' ≡ text
  pub text-stands-first : {n : ℕ} → answer ≡ Ok n → text' ≡ written (geo_json_text ps directory rings) text

pub writing-exact : {ps directory : List ℕ} {rings : ℕ} {text : List ℕ} {answer : Result ℕ Refusal} {text' : List ℕ} → Writing ps directory rings text answer text' →
    WritingExact ps directory rings text answer text'
unfolding written_answer text_after
writing-exact {ps} {directory} {rings} {text} {answer} {text'} k =
    by (ring_set_refused ps directory rings) refl (ltb (length text) (length (geo_json_text ps directory rings))) refl
  where
    by : (a : Bool) → ring_set_refused ps directory rings ≡ a → (b : Bool) → ltb (length text) (length (geo_json_text ps directory rings)) ≡ b →
        WritingExact ps directory rings text answer text'
    by true e b f =
        let is : answer ≡ Err BadRingSet = k.answers ∙ rw e in
        record {
          set-refused-exactly = (λ _. is, λ _. e);
          text-short-exactly = (λ h. absurd (true≢false (sym e ∙ h.0)), λ q. absurd (refusals-apart (sym is ∙ q)));
          written-exactly = (λ h. absurd (true≢false (sym e ∙ h.0)), λ q. absurd (answers-apart (sym is ∙ q)));
          refusal-changes-nothing = λ why q. k.text-is ∙ rw e;
          text-stands-first = λ q. absurd (answers-apart (sym is ∙ q));
        }
    by false e true f =
        let is : answer ≡ Err TextShort = k.answers ∙ rw (e, f) in
        let short : length text < length (geo_json_text ps directory rings) = ltb-true _ _ f in
        record {
          set-refused-exactly = (λ h. absurd (false≢true (sym e ∙ h)), λ q. absurd (refusals-apart (sym q ∙ is)));
          text-short-exactly = (λ _. is, λ _. (e, short));
          written-exactly = (λ h. absurd (omega (arith, h.1)), λ q. absurd (answers-apart (sym is ∙ q)));
          refusal-changes-nothing = λ why q. k.text-is ∙ rw (e, f);
          text-stands-first = λ q. absurd (answers-apart (sym is ∙ q));
        }
    by false e false f =
        let is : answer ≡ Ok (length (geo_json_text ps directory rings)) = k.answers ∙ rw (e, f) in
        let enough : length (geo_json_text ps directory rings) ≤ length text = ltb-false _ _ f in
        record {
          set-refused-exactly = (λ h. absurd (false≢true (sym e ∙ h)), λ q. absurd (answers-apart (sym q ∙ is)));
          text-short-exactly = (λ h. absurd (omega (arith, h.1)), λ q. absurd (answers-apart (sym q ∙ is)));
          written-exactly = (λ _. is, λ _. (e, enough));
          refusal-changes-nothing = λ why q. absurd (answers-apart (sym q ∙ is));
          text-stands-first = λ q. k.text-is ∙ rw (e, f);
        }

-- From a call for a terrain that comes row by row to what its entry for C returns and leaves: where the call is taken and where it is refused, and for each of
-- the three entries; that the next call reads the state that was left; and that any two results of an entry coincide. Assumes nothing.
use mathlib.Core.Path.{◌≡◌, sym, ◌∙◌, ap}
use mathlib.Core.List.{List}
use Prim.Native.Nat.{ℕ}
use lib.Dec.{T}
use lib.Ieee.{binary64, fits}
use lib.ListN.{length}
use Rattle.scope.specs.declared.Level.{Level}
use Rattle.error.specs.Number.{refusal_number}
use Rattle.error.specs.declared.Refusal.{Refusal}
use Rattle.rows.specs.Called.{Outcome}
use Rattle.rows.specs.Values.{outcome_of}
use Rattle.rows.specs.declared.Rows.{Rows}
use Rattle.rows.specs.declared.Step.{Step}
use Rattle.rowstate.specs.Words.{state_in, state_out}
use Rattle.rowstate.proofs.NextCall.{Stored, stored-is-read}
use Rattle.contour_c.specs.Told.{told_status, told_output}
use Rattle.contour_c.specs.Rings.{built_status, built_rings}
use Rattle.contour_c.specs.ByRow.{state_words, RowEntry}
use Rattle.std.specs.Prelude.{Result, Ok, Err}

-- ---- by the answer

module _ (words : List ℕ) (s : Rows) (rings : ℕ) {answer : Result ℕ Refusal} where
  pub call-taken : (n : ℕ) {words' : List ℕ} → answer ≡ Ok n → words' ≡ state_out s words → (0 ≡ built_status answer) × ((words' ≡ state_words words s answer) × (n ≡ built_rings rings answer))
  unfolding told_status state_words told_output
  call-taken n is stored = (ap built_status (sym is), (stored ∙ ap (state_words words s) (sym is), ap (built_rings rings) (sym is)))

  pub call-refused : (why : Refusal) {status : ℕ} → answer ≡ Err why → status ≡ refusal_number why → (status ≡ built_status answer) × ((words ≡ state_words words s answer) × (rings ≡ built_rings rings answer))
  unfolding told_status state_words told_output
  call-refused why is number = (number ∙ ap built_status (sym is), (ap (state_words words s) (sym is), ap (built_rings rings) (sym is)))

-- ---- by the step that a call comes to

-- a begin
pub begun-entry : (step : Step) (words : List ℕ) (s : Rows) (answer : Result ℕ Refusal) {status : ℕ} {words' : List ℕ} → step ≡ record { state = s; answer = answer }
    → status ≡ built_status step.answer → words' ≡ state_words words step.state step.answer → (status ≡ built_status answer) × (words' ≡ state_words words s answer)
begun-entry step words s answer begun status-is words_are =
    (status-is ∙ ap (λ (t : Step). built_status t.answer) begun, words_are ∙ ap (λ (t : Step). state_words words t.state t.answer) begun)

-- a row or an end over the state that the words hold, by the tables that it leaves
module _ (call : Rows → Outcome) (held : Rows) {found : Rows} (same-state : found ≡ held) (step : Step) (words : List ℕ) (rings : ℕ) where
  pub called-entry : {lines' links' points' directory' : List ℕ} {status : ℕ} {words' : List ℕ} {rings' : ℕ} → outcome_of step lines' links' points' directory' ≡ call found
      → (status ≡ built_status step.answer) × ((words' ≡ state_words words step.state step.answer) × (rings' ≡ built_rings rings step.answer))
      → RowEntry (call held) words rings status words' lines' links' points' directory' rings'
  called-entry answered settled =
      let called = answered ∙ ap call same-state in
      record {
        status-is = settled.0 ∙ ap (λ (o : Outcome). built_status o.answer) called;
        words_are = settled.1.0 ∙ ap (λ (o : Outcome). state_words words o.state o.answer) called;
        lines_are = ap (λ (o : Outcome). o.lines) called;
        links-are = ap (λ (o : Outcome). o.links) called;
        points-are = ap (λ (o : Outcome). o.points) called;
        directory-is = ap (λ (o : Outcome). o.directory) called;
        rings-are = settled.1.1 ∙ ap (λ (o : Outcome). built_rings rings o.answer) called;
      }

-- ---- the next call

-- where a row or an end is taken, the words hold its state; `NextCall` of `rowstate` says which states are stored, begin's among them
pub next-call-reads : {o : Outcome} {words : List ℕ} {rings status : ℕ} {words' lines' links' points' directory' : List ℕ} {rings' : ℕ} (level : Level) (n : ℕ)
    → RowEntry o words rings status words' lines' links' points' directory' rings' → o.answer ≡ Ok n → Stored level o.state → T (fits binary64 level.threshold) → length words ≡ 141
    → state_in words' ≡ o.state
unfolding state_words
next-call-reads {o} {words} level n entry is stored held room =
    ap state_in (entry.words_are ∙ ap (state_words words o.state) is) ∙ stored-is-read level o.state words stored held room

-- ---- one result

-- two results that meet the contract of contour_rows_row, or that of contour_rows_end, on the same entry are equal
pub one-row-entry : {o : Outcome} {words : List ℕ} {rings : ℕ} {p q : ℕ} {pw pl pk pp pd qw ql qk qp qd : List ℕ} {pr qr : ℕ} → RowEntry o words rings p pw pl pk pp pd pr → RowEntry o words rings q qw ql qk qp qd qr
    → (p ≡ q) × (pw ≡ qw) × (pl ≡ ql) × (pk ≡ qk) × (pp ≡ qp) × (pd ≡ qd) × (pr ≡ qr)
one-row-entry a b = (
  a.status-is ∙ sym b.status-is,
  a.words_are ∙ sym b.words_are,
  a.lines_are ∙ sym b.lines_are,
  a.links-are ∙ sym b.links-are,
  a.points-are ∙ sym b.points-are,
  a.directory-is ∙ sym b.directory-is,
  a.rings-are ∙ sym b.rings-are,
)

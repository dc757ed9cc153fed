-- The tests of a terrain's sides, and the state before the first row. By the tests of the definitions. Assumes nothing.
use mathlib.Core.Path.{◌≡◌, refl, sym, ◌∙◌, ap}
use mathlib.Core.Bool.{Bool, true, false, not, ◌||◌, ◌&&◌}
use Prim.Native.Nat.{ℕ, zero, suc, ◌≤◌}
use lib.Dec.{eqb, ltb, leb}
use native.Mathlib.Omega.{arith}
use borrow.Author.Tests.{lt-ltb, ne_eqb, ltb-true, ltb-false, eqb-true, le-leb, lt-leb, not-false}
use Rattle.error.specs.declared.Refusal.TheVariants.{BadSide}
use Rattle.scope.specs.Limits.{side_limit}
use Rattle.laws.proofs.Tests.{neither}
use Rattle.grid.specs.Grid.{bad_side}
use Rattle.scope.specs.declared.Level.{Level}
use Rattle.rows.specs.Called.{blank, begun_state, begun_answer}
use Rattle.rows.specs.declared.Rows.{Rows}
use Rattle.rows.specs.declared.Step.{Step}
use Rattle.std.specs.Prelude.{Ok, Err}

-- at most is not above
pub not-above : (m n : ℕ) → leb m n ≡ not (ltb n m)
not-above m n = by (ltb n m) refl
  where
    by : (b : Bool) → ltb n m ≡ b → leb m n ≡ not (ltb n m)
    by true e = lt-leb m n (ltb-true n m e) ∙ sym (ap not e)
    by false e = le-leb m n (ltb-false n m e) ∙ sym (ap not e)

-- above zero is not zero
not-none : (n : ℕ) → ltb 0 n ≡ not (eqb n 0)
not-none zero = refl
not-none (suc n) = lt-ltb 0 (suc n) (omega arith) ∙ sym (ap not (ne_eqb (suc n) 0 (λ e. omega arith)))

none_of : (a b c d : Bool) → (not a && not b) && (not c && not d) ≡ not (a || b || c || d)
none_of true b c d = refl
none_of false true c d = refl
none_of false false true d = refl
none_of false false false d = refl

twice : (b : Bool) → not (not b) ≡ b
twice true = refl
twice false = refl

module _ (dx dy : ℕ) where
  -- the tests of both sides are the definition's
  pub sides-tested : (ltb 0 dx && leb dx side_limit) && (ltb 0 dy && leb dy side_limit) ≡ not (bad_side dx dy)
  unfolding bad_side
  sides-tested =
      rw (not-none dx, not-none dy, not-above dx side_limit, not-above dy side_limit)
      (none_of (eqb dx 0) (ltb side_limit dx) (eqb dy 0) (ltb side_limit dy))

  -- sides that are not refused are within the limit
  pub sides-within : bad_side dx dy ≡ false → (dx ≤ side_limit) × (dy ≤ side_limit)
  unfolding bad_side
  sides-within good =
      let upper = neither (eqb dx 0 || ltb side_limit dx || eqb dy 0) (ltb side_limit dy) good in
      let lower = neither (eqb dx 0 || ltb side_limit dx) (eqb dy 0) upper.0 in
      (ltb-false side_limit dx (neither (eqb dx 0) (ltb side_limit dx) lower.0).1, ltb-false side_limit dy upper.1)

  -- where a row or the end has its turn, the sides and the rows drawn are within the limit
  pub row_within : (drawn : ℕ) → bad_side dx dy || not (ltb drawn dy) ≡ false → (dx ≤ side_limit) × (drawn ≤ side_limit)
  row_within drawn good =
      let both = neither (bad_side dx dy) (not (ltb drawn dy)) good in
      let within = sides-within both.0 in
      (within.0, omega (arith, within.1, ltb-true drawn dy (not-false (ltb drawn dy) both.1)))

  pub end-within : (drawn : ℕ) → bad_side dx dy || not (eqb drawn dy) ≡ false → (dx ≤ side_limit) × (drawn ≤ side_limit)
  end-within drawn good =
      let both = neither (bad_side dx dy) (not (eqb drawn dy)) good in
      let within = sides-within both.0 in
      (within.0, omega (arith, within.1, eqb-true drawn dy (not-false (eqb drawn dy) both.1)))

  -- the test of a turn, by what the code has of the sides
  module _ (fit : Bool) (is-fit : fit ≡ not (bad_side dx dy)) where
    pub turn-tested : (other : Bool) → not fit || other ≡ bad_side dx dy || other
    turn-tested other = ap (λ (b : Bool). not b || other) is-fit ∙ ap (λ (b : Bool). b || other) (twice (bad_side dx dy))

    pub row-tested : (drawn : ℕ) → not fit || leb dy drawn ≡ bad_side dx dy || not (ltb drawn dy)
    row-tested drawn = turn-tested (leb dy drawn) ∙ ap (λ (b : Bool). bad_side dx dy || b) (not-above dy drawn)

  -- what `begin` gives where the sides are within the limit, and where they are not
  module _ (level : Level) where
    pub begun : bad_side dx dy ≡ false → (s : Rows) → s ≡ blank level dx dy → ◌≡◌ {A = Step} (record { state = s; answer = Ok 0 }) (record { state = begun_state level dx dy; answer = begun_answer dx dy })
    unfolding begun_state begun_answer
    begun good s is = rw (good, is)

    pub not-begun : bad_side dx dy ≡ true → (s : Rows) → s ≡ blank level 0 0 → ◌≡◌ {A = Step} (record { state = s; answer = Err BadSide }) (record { state = begun_state level dx dy; answer = begun_answer dx dy })
    unfolding begun_state begun_answer
    not-begun bad s is = rw (bad, is)

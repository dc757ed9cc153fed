-- When a grid is refused and with which number, that a grid that fits can be scanned, and that there is one result. By the tests of the definitions.
-- Assumes nothing.
use mathlib.Core.Path.{◌≡◌, refl, sym, ◌∙◌}
use mathlib.Core.Bool.{Bool, true, false, cond, ◌||◌}
use Prim.Native.Nat.{ℕ, ◌*◌, ◌≤◌, ◌<◌}
use native.Mathlib.Omega.{arith}
use lib.Dec.{eqb, ltb}
use borrow.Author.Tests.{ltb-false, eqb-true, not-false, lt-ltb, le-ltb, eq-eqb, ne_eqb}
use Rattle.error.specs.declared.Refusal.TheVariants.{BadSide, BadDimension}
use Rattle.scope.specs.Limits.{side_limit}
use Rattle.laws.proofs.Tests.{neither}
use Rattle.grid.specs.Grid.{bad_side, bad_count, grid_fit, Sized}
use Rattle.std.specs.Prelude.{Result, Ok, Err}
use Rattle.error.specs.declared.Refusal.{Refusal}

untested : (a b : Bool) → cond {A = Result (Unit {0}) Refusal} a (Err BadSide) (cond b (Err BadDimension) (Ok tt)) ≡ Ok tt → (a ≡ false) × (b ≡ false)
untested true b h = absurd (let z : ◌≡◌ {A = ℕ} 0 1 = cc in omega arith)
untested false true h = absurd (let z : ◌≡◌ {A = ℕ} 0 1 = cc in omega arith)
untested false false h = (refl, refl)

module _ (count dx dy : ℕ) (fits : grid_fit count dx dy ≡ Ok tt) where
  good : (bad_side dx dy ≡ false) × (bad_count count dx dy ≡ false)
  unfolding grid_fit
  good = untested (bad_side dx dy) (bad_count count dx dy) fits

  -- a grid that fits can be scanned
  pub a-grid-that-fits-is-sized : Sized count dx dy
  unfolding bad_side bad_count
  a-grid-that-fits-is-sized =
      let upper = neither (eqb dx 0 || ltb side_limit dx || eqb dy 0) (ltb side_limit dy) good.0 in
      let lower = neither (eqb dx 0 || ltb side_limit dx) (eqb dy 0) upper.0 in
      record {
        columns = ltb-false side_limit dx (neither (eqb dx 0) (ltb side_limit dx) lower.0).1;
        rows = ltb-false side_limit dy upper.1;
        filled = eqb-true count (dx * dy) (not-false (eqb count (dx * dy)) good.1);
      }

any : (b : Bool) → b || true ≡ true
any true = refl
any false = refl

module _ (count dx dy : ℕ) where
  -- number 1 is given where a side is 0 or above the limit, and no other number then
  side-refused : bad_side dx dy ≡ true → Err BadSide ≡ grid_fit count dx dy
  unfolding grid_fit
  side-refused bad = rw bad

  pub no-columns-are-refused : dx ≡ 0 → Err BadSide ≡ grid_fit count dx dy
  unfolding bad_side
  no-columns-are-refused none = side-refused (rw (eq-eqb dx 0 none))

  pub too-many-columns-are-refused : side_limit < dx → Err BadSide ≡ grid_fit count dx dy
  unfolding bad_side
  too-many-columns-are-refused many = side-refused (rw (lt-ltb side_limit dx many, any (eqb dx 0)))

  pub no-rows-are-refused : dy ≡ 0 → Err BadSide ≡ grid_fit count dx dy
  unfolding bad_side
  no-rows-are-refused none = side-refused (rw (eq-eqb dy 0 none, any (eqb dx 0 || ltb side_limit dx)))

  pub too-many-rows-are-refused : side_limit < dy → Err BadSide ≡ grid_fit count dx dy
  unfolding bad_side
  too-many-rows-are-refused many = side-refused (rw (lt-ltb side_limit dy many, any (eqb dx 0 || ltb side_limit dx || eqb dy 0)))

  -- where both sides are right, number 2 is given where the value count is not dx·dy
  module _ (columns : 0 < dx) (few-columns : dx ≤ side_limit) (rows : 0 < dy) (few-rows : dy ≤ side_limit) where
    sides-are-right : bad_side dx dy ≡ false
    unfolding bad_side
    sides-are-right =
        rw (ne_eqb dx 0 (λ e. omega arith), le-ltb side_limit dx few-columns, ne_eqb dy 0 (λ e. omega arith), le-ltb side_limit dy few-rows)

    pub a-wrong-count-is-refused : (count ≡ dx * dy → ⊥) → Err BadDimension ≡ grid_fit count dx dy
    unfolding grid_fit bad_count
    a-wrong-count-is-refused wrong = rw (sides-are-right, ne_eqb count (dx * dy) wrong)

    pub a-right-count-fits : count ≡ dx * dy → (Ok tt) ≡ grid_fit count dx dy
    unfolding grid_fit bad_count
    a-right-count-fits right = rw (sides-are-right, eq-eqb count (dx * dy) right)

-- two results that meet the contract on the same entry are equal
pub one-grid-fit : (count dx dy : ℕ) (p q : Result (Unit {0}) Refusal) → p ≡ grid_fit count dx dy → q ≡ grid_fit count dx dy → p ≡ q
one-grid-fit count dx dy p q hp hq = hp ∙ sym hq

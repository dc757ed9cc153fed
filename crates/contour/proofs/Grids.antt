-- Numbers 1 and 2, exactly: a side that is 0 or above the limit, and where both sides are right a value count that is not dx·dy. An answer that refuses as the
-- grid's fit does refuses so. By cases on the sides and the count. Assumes nothing.
use mathlib.Core.Path.{◌≡◌, sym, ◌∙◌}
use mathlib.Core.Logic.Iff
use mathlib.Core.Logic.{◌↔◌, ◌≢◌, ◌⊎◌, inl, inr}
use Prim.Native.Nat.{ℕ, ◌*◌, ◌≤◌, ◌<◌}
use native.Mathlib.Decide.{ℕ_discrete, dec_lt}
use native.Mathlib.Omega.{arith}
use Rattle.error.specs.Number.{refusal_number}
use Rattle.error.specs.declared.Refusal.{Refusal}
use Rattle.error.specs.declared.Refusal.TheVariants.{BadSide, BadDimension}
use Rattle.scope.specs.Limits.{side_limit}
use Rattle.grid.specs.Grid.{bad_side, bad_count, grid_fit}
use Rattle.grid.proofs.Laws.{no-columns-are-refused, too-many-columns-are-refused, no-rows-are-refused, too-many-rows-are-refused, a-wrong-count-is-refused, a-right-count-fits}
use Rattle.contour.proofs.Lowest.{of_three, Early, fit-number}
use Rattle.std.specs.Prelude.{Result, Ok, Err}

-- a side is 0 or above the limit, or it is neither
abbrev pub WrongSide : ℕ → Type 0
WrongSide side = (side ≡ 0) ⊎ (side_limit < side)

abbrev pub RightSide : ℕ → Type 0
RightSide side = (1 ≤ side) × (side ≤ side_limit)

-- an answer against the first two numbers
pub record GridExact {Made : Type 0} (refuse : Refusal → Made) (answer : Made) (count dx dy : ℕ) : Type 0 where
  pub bad-side-exactly : (WrongSide dx ⊎ WrongSide dy) ↔ (answer ≡ refuse BadSide)
  pub bad-count-exactly : (RightSide dx × RightSide dy × (count ≢ dx * dy)) ↔ (answer ≡ refuse BadDimension)

either : (side : ℕ) → WrongSide side ⊎ RightSide side
either side = by (ℕ_discrete side 0) (dec_lt side_limit side)
  where
    by : Dec (side ≡ 0) → Dec (side_limit < side) → WrongSide side ⊎ RightSide side
    by (yes none) more = inl (inl none)
    by (no some) (yes more) = inl (inr more)
    by (no some) (no few) = inr (omega (arith, some), omega arith)

module _ (count dx dy : ℕ) where
  -- a grid is refused with number 1 or 2
  pub grid-early : (most : ℕ) → 2 ≤ most → Early most (grid_fit count dx dy)
  unfolding grid_fit
  grid-early most h =
      of_three (Early most) (Err BadSide) (Err BadDimension) (Ok tt)
      (λ why e. omega (arith, fit-number BadSide why e))
      (λ why e. omega (arith, fit-number BadDimension why e))
      (λ why e. absurd (let z : ◌≡◌ {A = ℕ} 0 1 = cc in omega arith))
      (bad_side dx dy) (bad_count count dx dy)

  wrong-is-refused : (WrongSide dx ⊎ WrongSide dy) → Err BadSide ≡ grid_fit count dx dy
  wrong-is-refused (inl (inl none)) = no-columns-are-refused count dx dy none
  wrong-is-refused (inl (inr more)) = too-many-columns-are-refused count dx dy more
  wrong-is-refused (inr (inl none)) = no-rows-are-refused count dx dy none
  wrong-is-refused (inr (inr more)) = too-many-rows-are-refused count dx dy more

  -- what a refusal tells of the grid, by all cases of its sides and its count
  told : (P : Type 0) (why : Refusal) → grid_fit count dx dy ≡ Err why → ((WrongSide dx ⊎ WrongSide dy) → ◌≡◌ {A = Result (Unit {0}) Refusal} (Err BadSide) (Err why) → P)
      → (RightSide dx × RightSide dy × (count ≢ dx * dy) → ◌≡◌ {A = Result (Unit {0}) Refusal} (Err BadDimension) (Err why) → P) → P
  told P why e wrong miscounted = by (either dx) (either dy) (ℕ_discrete count (dx * dy))
    where
      by : WrongSide dx ⊎ RightSide dx → WrongSide dy ⊎ RightSide dy → Dec (count ≡ dx * dy) → P
      by (inl w) side counted = wrong (inl w) (wrong-is-refused (inl w) ∙ e)
      by (inr x) (inl w) counted = wrong (inr w) (wrong-is-refused (inr w) ∙ e)
      by (inr x) (inr y) (yes right) =
          let fits : ◌≡◌ {A = Result (Unit {0}) Refusal} (Ok tt) (Err why) = a-right-count-fits count dx dy x.0 x.1 y.0 y.1 right ∙ e in
          absurd (let z : ◌≡◌ {A = ℕ} 0 1 = cc in omega arith)
      by (inr x) (inr y) (no other) = miscounted (x, y, other) (a-wrong-count-is-refused count dx dy x.0 x.1 y.0 y.1 other ∙ e)

  -- an answer that refuses as the grid's fit does
  pub grid-exact : {Made : Type 0} {refuse : Refusal → Made} {answer : Made} → ((why : Refusal) → refusal_number why ≤ 2 → (grid_fit count dx dy ≡ Err why) ↔ (answer ≡ refuse why))
      → GridExact refuse answer count dx dy
  grid-exact to = record {
    bad-side-exactly =
        Iff.trans (λ w. sym (wrong-is-refused w), λ e. told (WrongSide dx ⊎ WrongSide dy) BadSide e (λ w same. w) (λ m other. absurd (let z : ◌≡◌ {A = ℕ} 0 1 = cc in omega arith)))
        (to BadSide (omega arith));
    bad-count-exactly =
        Iff.trans (
          λ m. sym (a-wrong-count-is-refused count dx dy m.0.0 m.0.1 m.1.0 m.1.1 m.2),
          λ e. told (RightSide dx × RightSide dy × (count ≢ dx * dy)) BadDimension e (λ w other. absurd (let z : ◌≡◌ {A = ℕ} 0 1 = cc in omega arith)) (λ m same. m),
        ) (to BadDimension (omega arith));
  }

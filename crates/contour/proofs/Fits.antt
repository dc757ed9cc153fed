-- Numbers 1 to 4 of a band, exactly: the grid's two, then under two thresholds, then no place k + 1 among them. An answer that refuses as the band's fit does refuses
-- so. By cases on the grid's fit and on the two tests of the list. Assumes nothing.
use mathlib.Core.Path.{◌≡◌, refl, sym}
use mathlib.Core.Logic.Iff
use mathlib.Core.Logic.{◌↔◌, ◌≢◌}
use mathlib.Core.Bool.{cond}
use Prim.Native.Nat.{ℕ, suc, ◌≤◌, ◌<◌}
use native.Mathlib.Omega.{arith}
use lib.Dec.{ltb}
use Rattle.error.specs.Number.{refusal_number}
use Rattle.error.specs.declared.Refusal.{Refusal}
use Rattle.error.specs.declared.Refusal.TheVariants.{FewThresholds, NoPair}
use Rattle.grid.specs.Grid.{grid_fit}
use Rattle.bands.specs.Bands.{list_fit, band_fit}
use Rattle.contour.proofs.Lowest.{three, first-exactly, second-exactly, third-exactly, of_three, less-exactly, enough-exactly, Early, fit-number}
use Rattle.contour.proofs.Grids.{GridExact, grid-early, grid-exact}
use Rattle.std.specs.Prelude.{Result, Ok, Err}

few≢fits : ◌≢◌ {A = Result (Unit {0}) Refusal} (Err FewThresholds) (Ok tt)
few≢fits e = let z : ◌≡◌ {A = ℕ} 0 1 = cc in omega arith

few≢no-pair : ◌≢◌ {A = Result (Unit {0}) Refusal} (Err FewThresholds) (Err NoPair)
few≢no-pair e = let z : ◌≡◌ {A = ℕ} 0 1 = cc in omega arith

fits≢no-pair : ◌≢◌ {A = Result (Unit {0}) Refusal} (Ok tt) (Err NoPair)
fits≢no-pair e = let z : ◌≡◌ {A = ℕ} 0 1 = cc in omega arith

-- an answer against the first four numbers: 1 and 2 are the grid's, 3 is given where it fits and there are under two thresholds, and 4 where it fits, there are
-- two or more, and k + 1 is no place among them
pub record FitExact {Made : Type 0} (refuse : Refusal → Made) (answer : Made) (count dx dy thresholds k : ℕ) : Type 0 where
  pub grid-exactly : GridExact refuse answer count dx dy
  pub few-thresholds-exactly : ((grid_fit count dx dy ≡ Ok tt) × (thresholds < 2)) ↔ (answer ≡ refuse FewThresholds)
  pub no-pair-exactly : ((grid_fit count dx dy ≡ Ok tt) × (2 ≤ thresholds) × (thresholds ≤ suc k)) ↔ (answer ≡ refuse NoPair)

module _ (thresholds k : ℕ) where
  abbrev list : Result (Unit {0}) Refusal
  list = cond (ltb thresholds 2) (Err FewThresholds) (cond (ltb (suc k) thresholds) (Ok tt) (Err NoPair))

  list-gives : (why : Refusal) → list ≡ Err why → (3 ≤ refusal_number why) × (refusal_number why ≤ 4)
  list-gives =
      of_three (λ fit. (why : Refusal) → fit ≡ Err why → (3 ≤ refusal_number why) × (refusal_number why ≤ 4)) (Err FewThresholds) (Ok tt) (Err NoPair)
      (λ why e. (omega (arith, fit-number FewThresholds why e), omega (arith, fit-number FewThresholds why e)))
      (λ why e. absurd (let z : ◌≡◌ {A = ℕ} 0 1 = cc in omega arith))
      (λ why e. (omega (arith, fit-number NoPair why e), omega (arith, fit-number NoPair why e)))
      (ltb thresholds 2) (ltb (suc k) thresholds)

  -- behind a grid
  grid-first : (fit : Result (Unit {0}) Refusal) (why : Refusal) → refusal_number why ≤ 2 → (fit ≡ Err why) ↔ (list_fit fit thresholds k ≡ Err why)
  unfolding list_fit
  grid-first (Ok _) why low = (λ e. absurd (let z : ◌≡◌ {A = ℕ} 0 1 = cc in omega arith), λ e. absurd (omega (arith, list-gives why e)))
  grid-first (Err f) why low = Iff.rfl

  behind : (fit x : Result (Unit {0}) Refusal) → Early 2 fit → ((why : Refusal) → x ≡ Err why → 3 ≤ refusal_number why) → ((fit ≡ Ok tt) × (list ≡ x)) ↔ (list_fit fit thresholds k ≡ x)
  unfolding list_fit
  behind (Ok _) x early late = (λ h. h.1, λ e. (refl, e))
  behind (Err f) x early late = (λ h. absurd (let z : ◌≡◌ {A = ℕ} 0 1 = cc in omega arith), λ e. absurd (omega (arith, early f refl, late f (sym e))))

  list-early : (fit : Result (Unit {0}) Refusal) → Early 2 fit → Early 4 (list_fit fit thresholds k)
  unfolding list_fit
  list-early (Ok _) early why e = (list-gives why e).1
  list-early (Err f) early why e = omega (arith, early why e)

  few-exactly : (thresholds < 2) ↔ (list ≡ Err FewThresholds)
  few-exactly =
      Iff.trans (less-exactly thresholds 2)
      (first-exactly (Err FewThresholds) (Ok tt) (Err NoPair) few≢fits few≢no-pair fits≢no-pair (ltb thresholds 2) (ltb (suc k) thresholds))

  pair-exactly : (suc k < thresholds) ↔ (list ≡ Ok tt)
  pair-exactly =
      Iff.trans (λ h. (omega arith, h), λ h. h.1)
      (Iff.trans (Iff.and (enough-exactly thresholds 2) (less-exactly (suc k) thresholds))
      (second-exactly (Err FewThresholds) (Ok tt) (Err NoPair) few≢fits few≢no-pair fits≢no-pair (ltb thresholds 2) (ltb (suc k) thresholds)))

  no-pair-exactly : ((2 ≤ thresholds) × (thresholds ≤ suc k)) ↔ (list ≡ Err NoPair)
  no-pair-exactly =
      Iff.trans (Iff.and (enough-exactly thresholds 2) (enough-exactly (suc k) thresholds))
      (third-exactly (Err FewThresholds) (Ok tt) (Err NoPair) few≢fits few≢no-pair fits≢no-pair (ltb thresholds 2) (ltb (suc k) thresholds))

module _ (count dx dy thresholds k : ℕ) where
  early : Early 2 (grid_fit count dx dy)
  early = grid-early count dx dy 2 (omega arith)

  pub band-early : Early 4 (band_fit count dx dy thresholds k)
  unfolding band_fit
  band-early = list-early thresholds k (grid_fit count dx dy) early

  -- a band fits exactly where the grid does and k + 1 is a place in the list
  pub band-fits-exactly : ((grid_fit count dx dy ≡ Ok tt) × (suc k < thresholds)) ↔ (band_fit count dx dy thresholds k ≡ Ok tt)
  unfolding band_fit
  band-fits-exactly =
      Iff.trans (Iff.and Iff.rfl (pair-exactly thresholds k))
      (behind thresholds k (grid_fit count dx dy) (Ok tt) early (λ why e. absurd (let z : ◌≡◌ {A = ℕ} 0 1 = cc in omega arith)))

  -- an answer that refuses as the band's fit does
  pub fit-exact : {Made : Type 0} {refuse : Refusal → Made} {answer : Made} → ((why : Refusal) → refusal_number why ≤ 4 → (band_fit count dx dy thresholds k ≡ Err why) ↔ (answer ≡ refuse why))
      → FitExact refuse answer count dx dy thresholds k
  unfolding band_fit
  fit-exact to = record {
    grid-exactly = grid-exact count dx dy (λ why low. Iff.trans (grid-first thresholds k (grid_fit count dx dy) why low) (to why (omega arith)));
    few-thresholds-exactly =
        Iff.trans (Iff.and Iff.rfl (few-exactly thresholds k))
        (Iff.trans (behind thresholds k (grid_fit count dx dy) (Err FewThresholds) early (λ why e. omega (arith, fit-number FewThresholds why e))) (to FewThresholds (omega arith)));
    no-pair-exactly =
        Iff.trans three
        (Iff.trans (Iff.and Iff.rfl (no-pair-exactly thresholds k))
        (Iff.trans (behind thresholds k (grid_fit count dx dy) (Err NoPair) early (λ why e. omega (arith, fit-number NoPair why e))) (to NoPair (omega arith))));
  }

-- Each way out of the first four tests of a band is what the definition says, and what is known where a band fits. Assumes nothing.
use mathlib.Core.Path.{◌≡◌, refl, sym, ◌∙◌, ap}
use mathlib.Core.Bool.{Bool, true, false, cond}
use mathlib.Core.List.{List}
use Prim.Native.Nat.{ℕ, suc, ◌-◌, ◌≤◌, ◌<◌}
use native.Mathlib.Decide.{dec_lt}
use native.Mathlib.Omega.{arith}
use lib.Dec.{ltb}
use lib.Ieee.{Float}
use lib.ListN.{length}
use borrow.Author.Tests.{lt-ltb, le-ltb, ltb-true}
use Rattle.error.specs.declared.Refusal.{Refusal}
use Rattle.error.specs.declared.Refusal.TheVariants.{FewThresholds, NoPair}
use Rattle.scope.specs.declared.Rule.{Rule}
use Rattle.scope.specs.declared.Level.{Level}
use Rattle.grid.specs.Grid.{grid_fit}
use Rattle.bands.specs.Bands.{list_fit, band_fit, level_at, fit_pair}
use Rattle.std.specs.Prelude.{Result, Ok, Err}
use Rattle.bands.specs.declared.BandLevels.{BandLevels}

-- more than one threshold is left from place k on exactly where k + 1 is a place
pub pair_left : (thresholds k : ℕ) → k < thresholds → ltb 1 (thresholds - k) ≡ ltb (suc k) thresholds
pair_left thresholds k h = by (dec_lt (suc k) thresholds)
  where
    by : Dec (suc k < thresholds) → ltb 1 (thresholds - k) ≡ ltb (suc k) thresholds
    by (yes below) = lt-ltb 1 (thresholds - k) (omega arith) ∙ sym (lt-ltb (suc k) thresholds below)
    by (no over) = le-ltb 1 (thresholds - k) (omega arith) ∙ sym (le-ltb (suc k) thresholds (omega arith))

module _ (count dx dy thresholds k : ℕ) where
  pub grid-refused : (why : Refusal) → grid_fit count dx dy ≡ Err why → band_fit count dx dy thresholds k ≡ Err why
  unfolding band_fit list_fit
  grid-refused why e = rw e

  module _ (fits : grid_fit count dx dy ≡ Ok tt) where
    pub few : thresholds < 2 → band_fit count dx dy thresholds k ≡ Err FewThresholds
    unfolding band_fit list_fit
    few h = rw (fits, lt-ltb thresholds 2 h)

    pub no-pair : 2 ≤ thresholds → ltb (suc k) thresholds ≡ false → band_fit count dx dy thresholds k ≡ Err NoPair
    unfolding band_fit list_fit
    no-pair h n = rw (fits, le-ltb thresholds 2 h, n)

    pub pair : 2 ≤ thresholds → ltb (suc k) thresholds ≡ true → band_fit count dx dy thresholds k ≡ Ok tt
    unfolding band_fit list_fit
    pair h n = rw (fits, le-ltb thresholds 2 h, n)

  pub record Fitting : Type 0 where
    pub grid : grid_fit count dx dy ≡ Ok tt
    pub place : suc k < thresholds

  pub fitting : band_fit count dx dy thresholds k ≡ Ok tt → Fitting
  unfolding band_fit list_fit
  fitting e = by (grid_fit count dx dy) (ltb thresholds 2) (ltb (suc k) thresholds) refl refl refl e
    where
      by : (fit : Result (Unit {0}) Refusal) (a b : Bool) → grid_fit count dx dy ≡ fit → ltb thresholds 2 ≡ a → ltb (suc k) thresholds ≡ b → list_fit fit thresholds k ≡ Ok tt → Fitting
      by (Err why) a b ef ea eb z = absurd (let o : ◌≡◌ {A = ℕ} 0 1 = cc in omega arith)
      by (Ok _) true b ef ea eb z = absurd (let w : cond {A = Result (Unit {0}) Refusal} true (Err FewThresholds) (cond (ltb (suc k) thresholds) (Ok tt) (Err NoPair)) ≡ Ok tt = rw ea at z in let o : ◌≡◌ {A = ℕ} 0 1 = cc in omega arith)
      by (Ok _) false true ef ea eb z = record { grid = ef; place = ltb-true (suc k) thresholds eb }
      by (Ok _) false false ef ea eb z = absurd (let w : ◌≡◌ {A = Result (Unit {0}) Refusal} (Err NoPair) (Ok tt) = rw (ea, eb) at z in let o : ◌≡◌ {A = ℕ} 0 1 = cc in omega arith)

-- what is known of the levels that a band is drawn between, and of a refusal
module _ (count dx dy k : ℕ) (thresholds : List Float) (rule : Rule) where
  abbrev fit : Result (Unit {0}) Refusal
  fit = band_fit count dx dy (length thresholds) k

  pub record Paired (lower upper : Level) : Type 0 where
    pub fits : band_fit count dx dy (length thresholds) k ≡ Ok tt
    pub grid : grid_fit count dx dy ≡ Ok tt
    pub lower-is : lower ≡ level_at thresholds rule k
    pub upper_is : upper ≡ level_at thresholds rule (suc k)

  pub paired : (answer : Result BandLevels Refusal) (levels : BandLevels) → answer ≡ Ok levels → answer ≡ fit_pair (band_fit count dx dy (length thresholds) k) thresholds rule k → Paired levels.lower levels.upper
  unfolding fit_pair
  paired answer levels e f = by fit refl (sym e ∙ f)
    where
      by : (v : Result (Unit {0}) Refusal) → fit ≡ v → Ok levels ≡ fit_pair v thresholds rule k → Paired levels.lower levels.upper
      by (Err why) g z = absurd (let o : ◌≡◌ {A = ℕ} 0 1 = cc in omega arith)
      by (Ok _) g z = record {
        fits = g;
        grid = (fitting count dx dy (length thresholds) k g).grid;
        lower-is = let same : levels ≡ record { lower = level_at thresholds rule k; upper = level_at thresholds rule (suc k) } = cc in ap (λ (l : BandLevels). l.lower) same;
        upper_is = let same : levels ≡ record { lower = level_at thresholds rule k; upper = level_at thresholds rule (suc k) } = cc in ap (λ (l : BandLevels). l.upper) same;
      }

  pub pair-refused : (answer : Result BandLevels Refusal) (why : Refusal) → answer ≡ Err why → answer ≡ fit_pair (band_fit count dx dy (length thresholds) k) thresholds rule k
      → band_fit count dx dy (length thresholds) k ≡ Err why
  unfolding fit_pair
  pair-refused answer why e f = by fit refl (sym e ∙ f)
    where
      by : (v : Result (Unit {0}) Refusal) → fit ≡ v → Err why ≡ fit_pair v thresholds rule k → fit ≡ Err why
      by (Err other) g z = let same : other ≡ why = cc in g ∙ ap Err same
      by (Ok _) g z = absurd (let o : ◌≡◌ {A = ℕ} 0 1 = cc in omega arith)

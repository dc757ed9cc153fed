-- Samples at the level of a threshold and a rule's number: where the number is 0 or not, the literal 0 or 1 may stand for it, and the level's own number gives
-- the samples at that level. Assumes nothing.
use mathlib.Core.Path.{◌≡◌, sym, ap, ◌∙◌}
use mathlib.Core.List.{List}
use Prim.Native.Nat.{ℕ}
use lib.Ieee.{Float}
use Rattle.scope.specs.declared.Level.{Level}
use Rattle.scope.specs.Terrain.{above_at}
use Rattle.cells.specs.Rules.{level_of, rule_number}
use Rattle.cells.proofs.Rules.{one-for-it, a-level-comes-back}
use Rattle.words.specs.Bits.{packed, samples_from}

module _ (values : List Float) (i n : ℕ) where
  abbrev pub samples_at : Level → ℕ
  samples_at level = packed (samples_from (above_at level) values i) n

  pub by_zero : (threshold : Float) {number word : ℕ} → number ≡ 0 → word ≡ samples_at (level_of threshold 0) → word ≡ samples_at (level_of threshold number)
  by_zero threshold is e = e ∙ ap (λ (k : ℕ). samples_at (level_of threshold k)) (sym is)

  pub by_one : (threshold : Float) {number word : ℕ} → (number ≡ 0 → ⊥) → word ≡ samples_at (level_of threshold 1) → word ≡ samples_at (level_of threshold number)
  by_one threshold {number} is e = e ∙ ap samples_at (one-for-it threshold number is)

  pub by-its-number : (level : Level) {number word : ℕ} → number ≡ rule_number level.rule → word ≡ samples_at (level_of level.threshold number) → word ≡ samples_at level
  by-its-number level is e = e ∙ ap samples_at (ap (level_of level.threshold) is ∙ a-level-comes-back level)

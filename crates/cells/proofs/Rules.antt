-- The rules by their numbers: a number that is not 0 has one before it, and so the second rule; and a rule comes back from its number. Assumes nothing.
use mathlib.Core.Path.{◌≡◌, refl, ap}
use Prim.Native.Nat.{ℕ, zero, suc}
use lib.Ieee.{Float}
use Rattle.scope.specs.declared.Rule.{Rule}
use Rattle.scope.specs.declared.Rule.TheVariants.{AtLeast, MoreThan}
use Rattle.scope.specs.declared.Level.{Level}
use Rattle.cells.specs.Rules.{rule_of, level_of, rule_number}

pub past-zero : (n : ℕ) → (n ≡ 0 → ⊥) → MoreThan ≡ rule_of n
unfolding rule_of
past-zero zero h = absurd (h refl)
past-zero (suc n) h = refl

-- so a number may be put in its place, 0 or 1
pub one-for-it : (threshold : Float) (n : ℕ) → (n ≡ 0 → ⊥) → level_of threshold 1 ≡ level_of threshold n
unfolding level_of rule_of
one-for-it threshold n h = ap (λ (r : Rule). record { threshold = threshold; rule = r }) (past-zero n h)

pub a-rule-comes-back : (rule : Rule) → rule_of (rule_number rule) ≡ rule
unfolding rule_of rule_number
a-rule-comes-back AtLeast = refl
a-rule-comes-back MoreThan = refl

pub a-level-comes-back : (level : Level) → level_of level.threshold (rule_number level.rule) ≡ level
unfolding level_of
a-level-comes-back level = ap (λ (r : Rule). record { threshold = level.threshold; rule = r }) (a-rule-comes-back level.rule)

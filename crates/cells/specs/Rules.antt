-- The rules by numbers, for a caller who is lent no enum: 0 is at least, and any other number is more than. Assumes nothing.
use Rattle.std.specs.Prelude.{ℕ, zero, suc, Float}
use Rattle.scope.specs.declared.Rule.{Rule}
use Rattle.scope.specs.declared.Rule.TheVariants.{AtLeast, MoreThan}
use Rattle.scope.specs.declared.Level.{Level}

unfoldable pub rule_of : ℕ → Rule
rule_of zero = AtLeast
rule_of (suc n) = MoreThan

unfoldable pub level_of : Float → ℕ → Level
level_of threshold number = record { threshold = threshold; rule = rule_of number }

unfoldable pub rule_number : Rule → ℕ
rule_number AtLeast = 0
rule_number MoreThan = 1

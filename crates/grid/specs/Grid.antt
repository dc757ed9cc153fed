-- When a grid fits, and the first two refusals. Assumes nothing.
use Rattle.std.specs.Prelude.{◌≡◌, Bool, not, cond, ◌||◌, ℕ, ◌*◌, ◌≤◌, eqb, ltb, Result, Ok, Err}
use Rattle.error.specs.declared.Refusal.{Refusal}
use Rattle.error.specs.declared.Refusal.TheVariants.{BadSide, BadDimension}
use Rattle.scope.specs.Limits.{side_limit}

-- number 1: a side is 0 or above 4,096
unfoldable pub bad_side : ℕ → ℕ → Bool
bad_side dx dy = eqb dx 0 || ltb side_limit dx || eqb dy 0 || ltb side_limit dy

-- number 2: the value count is not dx·dy
unfoldable pub bad_count : ℕ → ℕ → ℕ → Bool
bad_count count dx dy = not (eqb count (dx * dy))

-- the lowest refusal that applies, alone
unfoldable pub grid_fit : ℕ → ℕ → ℕ → Result (Unit {0}) Refusal
grid_fit count dx dy = cond (bad_side dx dy) (Err BadSide) (cond (bad_count count dx dy) (Err BadDimension) (Ok tt))

-- what the scan asks of a grid: sides within the limit, and a value for each sample
pub record Sized (count dx dy : ℕ) : Type 0 where
  pub columns : dx ≤ side_limit
  pub rows : dy ≤ side_limit
  pub filled : count ≡ dx * dy

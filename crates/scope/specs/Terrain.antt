-- The terrain: samples above or not, and the sheet that everything else is drawn from. `is_above` is the one definition that touches floats.
-- A sheet is counted from one column and one row outside the grid: the sample in column x and row y of the grid stands at x + 1, y + 1.
-- Assumes nothing.
use Rattle.std.specs.Prelude.{ℕ, zero, suc, ◌+◌, ◌*◌, Bool, false, ◌&&◌, List, ltb, Float, get_or}
use Rattle.std.specs.Float.{nan}
use Rattle.std.specs.Float.Ieee.{le, lt}
use Rattle.scope.specs.declared.Rule.{Rule}
use Rattle.scope.specs.declared.Rule.TheVariants.{AtLeast, MoreThan}
use Rattle.scope.specs.declared.Level.{Level}

-- a sample is above when value >= threshold, or, under document 02's other rule, when value > threshold; where a NaN stands on either side it is not
unfoldable pub is_above : Rule → Float → Float → Bool
is_above AtLeast threshold value = le threshold value
is_above MoreThan threshold value = lt threshold value

-- whether a value is above at a level
unfoldable pub above_at : Level → Float → Bool
above_at level value = is_above level.rule level.threshold value

-- the level of document 01's rule at a threshold
abbrev pub at_least : Float → Level
at_least threshold = record { threshold = threshold; rule = AtLeast }

-- column, row: whether the sample there is above
abbrev pub Sheet : Type 0
Sheet = ℕ → ℕ → Bool

-- the sheet of a grid of dx columns and dy rows: everything outside the grid is not above
unfoldable pub sheet : ℕ → ℕ → (ℕ → ℕ → Bool) → Sheet
sheet dx dy inside zero r = false
sheet dx dy inside (suc x) zero = false
sheet dx dy inside (suc x) (suc y) = ltb x dx && ltb y dy && inside x y

-- the sheet of dx·dy values, row after row, under a rule that decides a sample
unfoldable pub terrain : (Float → Bool) → List Float → ℕ → ℕ → Sheet
terrain rule values dx dy = sheet dx dy (λ x y. rule (get_or values (y * dx + x) nan))

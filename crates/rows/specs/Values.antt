-- The code's values as the definitions of the calls have them. Assumes nothing.
use Rattle.std.specs.Prelude.{List, ℕ}
use Rattle.rows.specs.Called.{Outcome}
use Rattle.rows.specs.declared.Step.{Step}

-- what a call has returned, and the tables
abbrev pub outcome_of : Step → List ℕ → List ℕ → List ℕ → List ℕ → Outcome
outcome_of step lines links points directory = record { state = step.state; answer = step.answer; lines = lines; links = links; points = points; directory = directory }

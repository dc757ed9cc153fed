-- The code's values as the trial has them. Assumes nothing.
use Rattle.std.specs.Prelude.{List, ℕ}
use Rattle.trying.specs.Trying.{Tried}
use Rattle.trying.specs.declared.Trial.{Trial}

-- the frontier's words and the counts
abbrev pub tried_of : List ℕ → Trial → Tried
tried_of words trial = record { words = words; trial = trial }

-- The code's values as the row machine has them. Assumes nothing.
use Rattle.std.specs.Prelude.{List, ℕ}
use Rattle.giving.specs.Giving.{Given}
use Rattle.giving.specs.declared.Play.{Play}

-- the tables and the counts
abbrev pub given_of : List ℕ → List ℕ → List ℕ → List ℕ → Play → Given
given_of lines links points directory play = record { lines = lines; links = links; points = points; directory = directory; play = play }

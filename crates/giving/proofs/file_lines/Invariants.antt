-- `giving::file_lines` meets its contract. The loop's invariant: the table is the definition's, filed as far as slot i. Assumes nothing.
use mathlib.Core.Path.{◌≡◌}
use Rattle.giving.specs.Giving.{slots_filed}
use Rattle.giving.proofs.file_lines.Given as goal

abbrev pub invariant-loop-i : goal.invariant-loop-i
invariant-loop-i l = l.lines ≡ slots_filed l.dx l.links l.initial.lines l.i

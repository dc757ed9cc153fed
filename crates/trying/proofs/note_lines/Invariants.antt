-- `trying::note_lines` meets its contract. The loop's invariant: the lines of the slots so far are noted. Assumes nothing.
use mathlib.Core.Path.{◌≡◌}
use Rattle.trying.specs.Notes.{slots_noted}
use Rattle.trying.proofs.note_lines.Given as goal

abbrev pub invariant-loop-i : goal.invariant-loop-i
invariant-loop-i l = l.lines ≡ slots_noted l.dx l.links l.initial.lines l.i

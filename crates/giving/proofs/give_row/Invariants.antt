-- `giving::give_row` meets its contract. The loop's invariant: the tables and the counts are those after the cells of the words so far, and the samples on
-- the left of the next cell are known. Assumes nothing.
use mathlib.Core.Path.{◌≡◌}
use Prim.Native.Nat.{◌*◌}
use Rattle.sweep.specs.Sweep.{between, swept}
use Rattle.sweep.proofs.Rows.{Beside}
use Rattle.giving.specs.Giving.{cell_given}
use Rattle.giving.specs.Values.{given_of}
use Rattle.giving.proofs.give_row.Given as goal

abbrev pub invariant-loop-w : goal.invariant-loop-w
invariant-loop-w l = Beside l.upper l.lower l.w l.upper_left l.lower_left
    × (given_of l.lines l.links l.points l.directory l.play ≡ swept (cell_given (between l.upper l.lower) l.dx l.r) (given_of l.initial.lines l.initial.links l.initial.points l.initial.directory l.initial.play) 0 (64 * l.w))

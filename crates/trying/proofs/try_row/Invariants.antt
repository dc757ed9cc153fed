-- `trying::try_row` meets its contract. The loop's invariant: what is tried is what the cells of the words so far come to, and the samples on the left of the
-- next cell are known.  Assumes nothing.
use mathlib.Core.Path.{◌≡◌}
use Prim.Native.Nat.{◌*◌}
use Rattle.sweep.specs.Sweep.{between, swept}
use Rattle.sweep.proofs.Rows.{Beside}
use Rattle.trying.specs.Trying.{cell_tried}
use Rattle.trying.specs.Values.{tried_of}
use Rattle.trying.proofs.try_row.Given as goal

abbrev pub invariant-loop-w : goal.invariant-loop-w
invariant-loop-w l = Beside l.upper l.lower l.w l.upper_left l.lower_left
    × (tried_of l.words l.trial ≡ swept (cell_tried (between l.upper l.lower) l.dx) (tried_of l.initial.words l.initial.trial) 0 (64 * l.w))

-- `rowstate::store_samples` meets its contract. The loop's invariant is that the halves left, over the words so far, are all. Assumes nothing.
use mathlib.Core.Path.{◌≡◌}
use Prim.Native.Nat.{◌+◌, ◌-◌, ◌*◌, ◌≤◌}
use lib.Seq.{sets}
use Rattle.rowstate.specs.Words.{halves_from, samples_out}
use Rattle.rowstate.proofs.store_samples.Given as goal

abbrev pub invariant-loop-w : goal.invariant-loop-w
invariant-loop-w l = (samples_out l.above l.dx l.initial.words ≡ sets l.words (11 + 2 * l.w) (halves_from l.above l.w (l.count - l.w))) × (l.count ≤ 65)

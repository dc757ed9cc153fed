-- `rowstate::samples_in` meets its contract. The loop's invariant is that the samples left, over those so far, are all. Assumes nothing.
use mathlib.Core.Path.{◌≡◌}
use Prim.Native.Nat.{◌-◌, ◌≤◌}
use lib.Seq.{sets}
use Rattle.rowstate.specs.Words.{samples_from, samples_in}
use Rattle.rowstate.proofs.samples_in.Given as goal

abbrev pub invariant-loop-w : goal.invariant-loop-w
invariant-loop-w l = (samples_in l.words l.dx ≡ sets l.above l.w (samples_from l.words l.w (l.count - l.w))) × (l.count ≤ 65)

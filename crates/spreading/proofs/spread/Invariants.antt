-- `spreading::spread` meets its contract. The loop's invariant is `SpreadTo`: the records from k on are spread out. Assumes nothing.
use Prim.Native.Nat.{◌^◌, ◌<◌}
use Rattle.spreading.proofs.Stores.{SpreadTo}
use Rattle.spreading.proofs.spread.Given as goal

abbrev pub invariant-loop-k : goal.invariant-loop-k
invariant-loop-k l = (l.n < 2 ^ 32) × SpreadTo l.points l.initial.directory l.n l.directory l.k

-- `ringrecord::words_from_records` meets its contract. The loop's invariant says what is done: after k turns the first words are those of the first k records, and
-- the others are as they were. Assumes nothing.
use mathlib.Core.Path.{◌≡◌}
use Prim.Native.Nat.{◌≤◌}
use Rattle.ringrecord.proofs.Copied.{words_to}
use Rattle.ringrecord.proofs.words_from_records.Given as goal

abbrev pub invariant-loop-k : goal.invariant-loop-k
invariant-loop-k l = (l.k ≤ l.n) × (l.directory ≡ words_to l.records l.k l.initial.directory)

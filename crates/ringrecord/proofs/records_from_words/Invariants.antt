-- `ringrecord::records_from_words` meets its contract. The loop's invariant says what is done: after k turns the first k records are those of the words, and the
-- others are as they were. Assumes nothing.
use mathlib.Core.Path.{◌≡◌}
use Prim.Native.Nat.{◌≤◌}
use Rattle.ringrecord.proofs.Copied.{records_to}
use Rattle.ringrecord.proofs.records_from_words.Given as goal

abbrev pub invariant-loop-k : goal.invariant-loop-k
invariant-loop-k l = (l.k ≤ l.n) × (l.records ≡ records_to l.directory l.k l.initial.records)

-- `words::word_of` meets its contract. The invariant of both loops is `Holds`: the word holds all samples but the first `j`, and then but the first `k`
-- whole eights. Assumes nothing.
use Prim.Native.Nat.{◌*◌, ◌≤◌}
use Rattle.scope.specs.Terrain.{above_at}
use Rattle.cells.specs.Rules.{level_of}
use Rattle.words.proofs.Packing.{Holds}
use Rattle.words.proofs.word_of.Given as goal

abbrev pub invariant-loop-j : goal.invariant-loop-j
invariant-loop-j l = Holds (above_at (level_of l.threshold l.number)) l.values l.i l.n l.j l.word × (l.eights * 8 ≤ l.j)

abbrev pub invariant-loop-k : goal.invariant-loop-k
invariant-loop-k l = Holds (above_at (level_of l.threshold l.number)) l.values l.i l.n (l.k * 8) l.word

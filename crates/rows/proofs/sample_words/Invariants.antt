-- `rows::sample_words` meets its contract. The loop's invariant is `Sampled`: the words so far are those of the row. Assumes nothing.
use Rattle.scope.specs.Terrain.{above_at, terrain}
use Rattle.rows.proofs.Samples.{Sampled}
use Rattle.rows.proofs.sample_words.Given as goal

abbrev pub invariant-loop-w : goal.invariant-loop-w
invariant-loop-w l = Sampled (terrain (above_at l.level) l.values l.dx 1) l.w l.row

-- `owners::store_all` meets its contract. The loop's invariant is `StoredTo`: the records of the numbers so far have their words, and every other word is as it
-- was. Assumes nothing.
use Rattle.extents.specs.Records.{rank_of}
use Rattle.owners.proofs.Words.{StoredTo}
use Rattle.owners.proofs.store_all.Given as goal

abbrev pub invariant-loop-i : goal.invariant-loop-i
invariant-loop-i g l = StoredTo g.F.Finding.OFFSET (g.F.Finding.word l.points l.initial.directory l.n) (rank_of l.table l.n) l.n l.initial.directory l.directory l.i

-- `owners::store_all` meets its contract. The loop's invariant is `StoredTo`: the records of the numbers so far have their words, and every other word is as it
-- was. Assumes nothing.
use native.Mathlib.Omega.{arith}
use Rattle.owners.proofs.Words.{stored-end, beside, filed-stays, found-next}
use Rattle.owners.proofs.store_all.Goals as goal

pub new-search-requires : goal.new-search-requires
new-search-requires g c =
    filed-stays g.met.F.Finding.behind.0 (beside {word = g.F.Finding.word c.args.points.now c.args.directory.now c.args.n} c.loop-i.invariant) c.requires

pub loop-i-preserved : goal.loop-i-preserved
loop-i-preserved g c =
    let law = g.met.F.Finding in
    let same = c.new-search.ensures in
    found-next c.new-search.result (law.behind.1, c.requires.rings-there.records-there) law.stays c.loop-i.invariant
    (same.points, same.directory, same.table, same.n) c.rank_at-at.ensures c.find-word.ensures c.OFFSET.ensures

pub returns : goal.returns
returns g c = stored-end _ _ _ _ _ c.loop-i.invariant c.requires.ranks-permute (omega arith)

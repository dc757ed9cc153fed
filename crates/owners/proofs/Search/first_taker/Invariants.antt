-- `owners::Search::first_taker` meets its contract. The loop's invariant is `Choosing`: of the numbers so far, looked at or passed over, the best is the first polygon
-- that takes the ring. Assumes nothing.
use Rattle.owners.specs.Searched.{best_word}
use Rattle.owners.proofs.Searches.{Choosing}
use Rattle.owners.proofs.Search.first_taker.Given as goal

abbrev pub invariant-loop-i : goal.invariant-loop-i
invariant-loop-i l = Choosing l.self l.number l.at (best_word l.best) l.i-iterator

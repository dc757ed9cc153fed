-- `owners::Search::even_takers` meets its contract. The loop's invariant is `Counting`: of the numbers so far, looked at or passed over, an even number take the ring
-- or an odd one. Assumes nothing.
use Rattle.owners.proofs.Searches.{Counting}
use Rattle.owners.proofs.Search.even_takers.Given as goal

abbrev pub invariant-loop-i : goal.invariant-loop-i
invariant-loop-i l = Counting l.self l.number l.at l.even l.i-iterator

-- `area::contains` meets its contract. The outer loop's invariant is `Passed`, the inner loop's is `Walked`: what is left to pass answers as the whole does.
-- Assumes nothing.
use Rattle.area.specs.Points.{meant}
use Rattle.area.proofs.Walks.{Passed, Walked}
use Rattle.area.proofs.contains.Given as goal

abbrev pub invariant-loop-k : goal.invariant-loop-k
invariant-loop-k l = Walked l.outer (meant l.p) (meant l.last) l.within l.k

abbrev pub invariant-vertices : goal.invariant-vertices
invariant-vertices l = Passed l.outer l.tested l.v

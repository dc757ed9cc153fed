-- `area::sum_up` meets its contract. The loop's invariant is `Summing`. Assumes nothing.
use Rattle.area.specs.Points.{meant}
use Rattle.area.proofs.Summing.{Summing}
use Rattle.area.proofs.sum_up.Given as goal

abbrev pub invariant-loop-i : goal.invariant-loop-i
invariant-loop-i l = Summing l.ring (meant l.last) l.gained l.lost l.over l.i

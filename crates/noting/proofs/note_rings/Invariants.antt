-- `noting::note_rings` meets its contract. The loop's invariant is `Walked`: the records so far are noted, and the next ring begins where they end. Assumes nothing.
use Rattle.noting.proofs.Walk.{Walked}
use Rattle.noting.proofs.note_rings.Given as goal

abbrev pub invariant-loop-r : goal.invariant-loop-r
invariant-loop-r g l = Walked l.points l.initial.directory l.n g.N.Note.note l.directory l.first l.r

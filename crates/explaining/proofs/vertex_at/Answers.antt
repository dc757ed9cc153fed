-- `explaining::vertex_at` meets its contract: the words at the record's vertex are the ring's. Assumes nothing.
use mathlib.Core.Path.{sym, ap, ◌∙◌}
use native.Mathlib.Omega.{arith}
use lib.ListN.{get_or}
use Rattle.scope.specs.Stitching.{Line}
use Rattle.extents.specs.Points.{point_in}
use Rattle.explaining.specs.Vertices.{vertex_of_ring}
use Rattle.explaining.proofs.Rings.{ring-lies, ring-is, vertex-in}
use Rattle.explaining.proofs.vertex_at.Goals as goal

pub bounds-set-at : goal.bounds-set-at
bounds-set-at c = omega (arith, (ring-lies (record { passes = c.args.set.checked; there = c.requires.0 })).within)

pub bounds-set-at-2 : goal.bounds-set-at-2
bounds-set-at-2 c = omega (arith, (ring-lies (record { passes = c.args.set.checked; there = c.requires.0 })).within)

pub returns : goal.returns
unfolding vertex_of_ring point_in
returns c =
    rw (c.from.ensures, c.from-2.ensures, c.record_at-record.ensures.0)
    (sym (ap (λ (l : Line). get_or l c.args.vertex (record { x = 0; y = 0 })) (ring-is (record { passes = c.args.set.checked; there = c.requires.0 })) ∙ vertex-in _ _ _ _ _ c.requires.1))

-- `telling::tell_fate` meets its contract: each arm is the definition's. Assumes nothing.
use mathlib.Core.Path.{refl}
use Rattle.scope.specs.Limits.{no_owner}
use Rattle.scope.specs.Contour.{class_word, owner_word}
use Rattle.telling.specs.Outputs.{no_vertex, fate_status, fate_class, fate_owner, fate_vertex}
use Rattle.telling.proofs.tell_fate.Goals as goal

pub returns-in-Polygon : goal.returns-in-Polygon
unfolding fate_status fate_class fate_owner fate_vertex class_word owner_word no_vertex
returns-in-Polygon c = rw (c.in-Ok.is, c.in-Polygon.is) (record { value = refl; ring_class_after = refl; owner_after = refl; vertex_after = refl })

pub returns-in-Hole : goal.returns-in-Hole
unfolding fate_status fate_class fate_owner fate_vertex class_word owner_word
returns-in-Hole c = rw (c.in-Ok.is, c.in-Hole.is) (record { value = refl; ring_class_after = refl; owner_after = refl; vertex_after = c.vertex_word.ensures })

pub returns-in-Dropped : goal.returns-in-Dropped
unfolding fate_status fate_class fate_owner fate_vertex class_word owner_word no_vertex no_owner
returns-in-Dropped c = rw (c.in-Ok.is, c.in-Dropped.is) (record { value = refl; ring_class_after = refl; owner_after = refl; vertex_after = refl })

pub returns-in-Err : goal.returns-in-Err
unfolding fate_status fate_class fate_owner fate_vertex
returns-in-Err c = rw c.in-Err.is (record { value = c.number.ensures; ring_class_after = refl; owner_after = refl; vertex_after = refl })

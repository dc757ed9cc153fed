-- A placement and a vertex of the code as document 01's. Assumes nothing.
use Rattle.scope.specs.Smoothing.{Placing, Vertex}
use Rattle.smoothing.specs.declared.Placement.{Placement}
use Rattle.smoothing.specs.declared.Vertex as declared

unfoldable pub placing_of : Placement → Placing
placing_of q = record { x_origin = q.x_origin; y_origin = q.y_origin; x_step = q.x_step; y_step = q.y_step }

unfoldable pub vertex_of : declared.Vertex → Vertex
vertex_of v = record { x = v.x; y = v.y }

-- A point of the code as document 01's, and the words of a line's vertex, by the link that starts at its point. Assumes nothing.
use Rattle.std.specs.Prelude.{ℕ, Bool, List, [], ◌∷◌, Float}
use Rattle.scope.specs.Cells.{Point, indexed_point}
use Rattle.scope.specs.Smoothing.{Placing, line_vertex}
use Rattle.scope.specs.Tables.{vertex_words}
use Rattle.machine.specs.Machine.{link_point}
use Rattle.cells.specs.declared.Point as declared

abbrev pub point_of : declared.Point → Point
point_of p = record { x = p.x; y = p.y }

-- x, then y
unfoldable pub vertex_at : Bool → List Float → Float → ℕ → ℕ → Placing → List ℕ → ℕ → List Float
vertex_at smooth values t dx dy q links k = vertex_words (line_vertex smooth values t dx dy q (indexed_point dx (link_point links k)) ∷ [])

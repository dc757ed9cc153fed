-- What a caller in C is told: 0 or the refusal's number, and in each output a number for what the library answers; where it refuses, what stood there.
-- Assumes nothing.
use Rattle.std.specs.Prelude.{ℕ, Float, ℤ, Result, Ok, Err}
use Rattle.error.specs.Number.{refusal_number}
use Rattle.scope.specs.Contour.{polygon, hole, dropped, class_word, owner_word}
use Rattle.scope.specs.Containment.{answer_number}
use Rattle.deciding.specs.Decisions.{answer_in}
use Rattle.deciding.specs.declared.Decision.{Decision}
use Rattle.deciding.specs.declared.Decision.TheVariants as decision-is
use Rattle.smoothing.specs.declared.Coordinate.{Coordinate}
use Rattle.smoothing.specs.declared.Coordinate.TheVariants as coordinate-is
use Rattle.explaining.specs.declared.RingFate.{RingFate}
use Rattle.explaining.specs.declared.RingFate.TheVariants as fate-is
use Rattle.error.specs.declared.Refusal.{Refusal}
use Rattle.smoothing.specs.declared.VertexMoves.{VertexMoves}

-- the vertex that decides, or 4,294,967,295 where every vertex answers 0
unfoldable pub no_vertex : ℕ
no_vertex = 4294967295

unfoldable pub vertex_word : Decision → ℕ
vertex_word (decision-is.Inside v) = v
vertex_word (decision-is.Outside v) = v
vertex_word decision-is.Undecided = no_vertex

-- ---- a fate: class and owner as in a record, and the deciding vertex

unfoldable pub fate_status : Result RingFate Refusal → ℕ
fate_status (Ok fate-is.Polygon) = 0
fate_status (Ok (fate-is.Hole k d)) = 0
fate_status (Ok fate-is.Dropped) = 0
fate_status (Err why) = refusal_number why

unfoldable pub fate_class : ℕ → Result RingFate Refusal → ℕ
fate_class old (Ok fate-is.Polygon) = class_word polygon
fate_class old (Ok (fate-is.Hole k d)) = class_word (hole k)
fate_class old (Ok fate-is.Dropped) = class_word dropped
fate_class old (Err why) = old

-- the ring's own number comes first
unfoldable pub fate_owner : ℕ → ℕ → Result RingFate Refusal → ℕ
fate_owner ring old (Ok fate-is.Polygon) = owner_word ring polygon
fate_owner ring old (Ok (fate-is.Hole k d)) = owner_word ring (hole k)
fate_owner ring old (Ok fate-is.Dropped) = owner_word ring dropped
fate_owner ring old (Err why) = old

unfoldable pub fate_vertex : ℕ → Result RingFate Refusal → ℕ
fate_vertex old (Ok fate-is.Polygon) = no_vertex
fate_vertex old (Ok (fate-is.Hole k d)) = vertex_word d
fate_vertex old (Ok fate-is.Dropped) = no_vertex
fate_vertex old (Err why) = old

-- ---- an answer: -1, 0 or 1, and the deciding vertex

unfoldable pub answer_status : Result Decision Refusal → ℕ
answer_status (Ok d) = 0
answer_status (Err why) = refusal_number why

unfoldable pub answer_output : ℤ → Result Decision Refusal → ℤ
answer_output old (Ok d) = answer_number (answer_in d)
answer_output old (Err why) = old

unfoldable pub answer_vertex : ℕ → Result Decision Refusal → ℕ
answer_vertex old (Ok d) = vertex_word d
answer_vertex old (Err why) = old

-- ---- a vertex: for each coordinate 0, 1 or 2, and the fraction where it moves

unfoldable pub kind_of : Coordinate → ℕ
kind_of coordinate-is.Stayed = 0
kind_of (coordinate-is.Moved f) = 1
kind_of coordinate-is.NotANumber = 2

unfoldable pub fraction_of : Float → Coordinate → Float
fraction_of old coordinate-is.Stayed = old
fraction_of old (coordinate-is.Moved f) = f
fraction_of old coordinate-is.NotANumber = old

unfoldable pub vertex_status : Result VertexMoves Refusal → ℕ
vertex_status (Ok m) = 0
vertex_status (Err why) = refusal_number why

unfoldable pub x_kind_of : ℕ → Result VertexMoves Refusal → ℕ
x_kind_of old (Ok m) = kind_of m.x
x_kind_of old (Err why) = old

unfoldable pub x_fraction_of : Float → Result VertexMoves Refusal → Float
x_fraction_of old (Ok m) = fraction_of old m.x
x_fraction_of old (Err why) = old

unfoldable pub y_kind_of : ℕ → Result VertexMoves Refusal → ℕ
y_kind_of old (Ok m) = kind_of m.y
y_kind_of old (Err why) = old

unfoldable pub y_fraction_of : Float → Result VertexMoves Refusal → Float
y_fraction_of old (Ok m) = fraction_of old m.y
y_fraction_of old (Err why) = old

-- What smoothing does to a vertex, coordinate by coordinate: it stays, it moves by a fraction given as a float, or the fraction is not a number; and the
-- coordinate that each of these comes to. Assumes nothing.
use Rattle.std.specs.Prelude.{ℕ, ◌-◌, ◌/◌, cond, List, Float}
use Rattle.std.specs.Float.{nan, binary64}
use Rattle.std.specs.Float.Ieee.{is_nan, add, sub, div}
use Rattle.scope.specs.Cells.{Point}
use Rattle.scope.specs.Smoothing.{half, real_of, sample_at, moves, Vertex}
use Rattle.smoothing.specs.declared.Coordinate.{Coordinate}
use Rattle.smoothing.specs.declared.Coordinate.TheVariants.{Stayed, Moved, NotANumber}
use Rattle.smoothing.specs.declared.VertexMoves.{VertexMoves}

-- (t - v0) / (v1 - v0)
unfoldable pub fraction : Float → Float → Float → Float
fraction t v0 v1 = div binary64 (sub binary64 t v0) (sub binary64 v1 v0)

unfoldable pub moved_by : Float → Coordinate
moved_by f = cond (is_nan f) NotANumber (Moved f)

-- a doubled coordinate that is whole, above 0 and below the side moves, by the fraction between its two samples; others stay
unfoldable pub coordinate_moves : ℕ → ℕ → Float → Coordinate
coordinate_moves side doubled f = cond (moves side doubled) (moved_by f) Stayed

-- both coordinates of a vertex: v1 is sample (xt, yt), v0 the one before it in the row for x, in the column for y
unfoldable pub vertex_moves : List Float → Float → ℕ → ℕ → Point → VertexMoves
vertex_moves values t dx dy p =
    let xt : ℕ = p.x / 2 in
    let yt : ℕ = p.y / 2 in
    let v1 : Float = sample_at values dx xt yt in
    record {
      x = coordinate_moves dx p.x (fraction t (sample_at values dx (xt - 1) yt) v1);
      y = coordinate_moves dy p.y (fraction t (sample_at values dx xt (yt - 1)) v1);
    }

-- where a coordinate comes to: its real one, or x + fraction - 0.5
unfoldable pub coordinate_by : ℕ → Coordinate → Float
coordinate_by doubled Stayed = real_of doubled
coordinate_by doubled (Moved f) = sub binary64 (add binary64 (real_of doubled) f) half
coordinate_by doubled NotANumber = nan

unfoldable pub vertex_by : Point → VertexMoves → Vertex
vertex_by p m = record { x = coordinate_by p.x m.x; y = coordinate_by p.y m.y }

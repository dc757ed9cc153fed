-- Smoothed and placed lines, in IEEE 754 operations, each rounded once, left to right. Assumes nothing.
use Rattle.std.specs.Prelude.{ℕ, ◌+◌, ◌-◌, ◌*◌, ◌/◌, ◌%◌, Bool, false, cond, ◌&&◌, ◌||◌, List, map, ltb, eqb, Float, pos, negsuc, get_or}
use Rattle.std.specs.Float.{nan, fin, binary64}
use Rattle.std.specs.Float.Ieee.{add, sub, mul, div, ne, of_int}
use Rattle.scope.specs.Cells.{Point}
use Rattle.scope.specs.Stitching.{Line}

unfoldable pub whole : ℕ → Float
whole n = of_int binary64 (pos n)

-- 0.5, and the real coordinate of a doubled one
unfoldable pub half : Float
half = fin false 1 (negsuc 0)

unfoldable pub real_of : ℕ → Float
real_of doubled = mul binary64 (whole doubled) half

-- x + (t - v0) / (v1 - v0) - 0.5
unfoldable pub moved : Float → Float → Float → Float → Float
moved t v0 v1 x = sub binary64 (add binary64 x (div binary64 (sub binary64 t v0) (sub binary64 v1 v0))) half

unfoldable pub sample_at : List Float → ℕ → ℕ → ℕ → Float
sample_at values dx x y = get_or values (y * dx + x) nan

-- the coordinate is whole, above 0 and below the side
unfoldable pub moves : ℕ → ℕ → Bool
moves side doubled = eqb (doubled % 2) 0 && ltb 0 doubled && ltb doubled (2 * side)

pub record Vertex : Type 0 where
  pub x : Float
  pub y : Float

unfoldable pub smoothed : List Float → Float → ℕ → ℕ → Point → Vertex
smoothed values t dx dy p =
    let xt : ℕ = p.x / 2 in
    let yt : ℕ = p.y / 2 in
    let v1 : Float = sample_at values dx xt yt in
    record {
      x = cond (moves dx p.x) (moved t (sample_at values dx (xt - 1) yt) v1 (real_of p.x)) (real_of p.x);
      y = cond (moves dy p.y) (moved t (sample_at values dx xt (yt - 1)) v1 (real_of p.y)) (real_of p.y);
    }

unfoldable pub unsmoothed : Point → Vertex
unsmoothed p = record { x = real_of p.x; y = real_of p.y }

-- origin and step travel together as one placement
pub record Placing : Type 0 where
  pub x_origin : Float
  pub y_origin : Float
  pub x_step : Float
  pub y_step : Float

-- the origin differs from (0, 0) or the step from (1, 1), by float comparison
unfoldable pub placing : Placing → Bool
placing q = ne q.x_origin (whole 0) || ne q.y_origin (whole 0) || ne q.x_step (whole 1) || ne q.y_step (whole 1)

-- x·step + origin
unfoldable pub placed_at : Placing → Vertex → Vertex
placed_at q v =
    cond (placing q)
    (record { x = add binary64 (mul binary64 v.x q.x_step) q.x_origin; y = add binary64 (mul binary64 v.y q.y_step) q.y_origin })
    v

-- a vertex of a line, smoothed or not, then placed
unfoldable pub line_vertex : Bool → List Float → Float → ℕ → ℕ → Placing → Point → Vertex
line_vertex smooth values t dx dy q p = placed_at q (cond smooth (smoothed values t dx dy p) (unsmoothed p))

unfoldable pub line_vertices : Bool → List Float → Float → ℕ → ℕ → Placing → Line → List Vertex
line_vertices smooth values t dx dy q ring = map (line_vertex smooth values t dx dy q) ring

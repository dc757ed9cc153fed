-- Where placement changes nothing: it is "done only when the origin differs from (0, 0) or the step from (1, 1), by float comparison". Assumes nothing.
use mathlib.Core.Path.{◌≡◌, refl}
use mathlib.Core.Bool.{Bool, true, false}
use lib.IntN.{pos}
use lib.Ieee.{fin, ne, of_int}
use Rattle.scope.specs.Smoothing.{Vertex, Placing, whole, placing, placed_at}

pub nothing-differs-nothing-moves : (q : Placing) (v : Vertex) → placing q ≡ false → placed_at q v ≡ v
unfolding placed_at
nothing-differs-nothing-moves q v h = rw h

-- the origin (0, 0), with zeros of either sign, and the step (1, 1)
abbrev pub unplaced : Bool → Bool → Placing
unplaced s s' = record { x_origin = fin s 0 (pos 0); y_origin = fin s' 0 (pos 0); x_step = whole 1; y_step = whole 1 }

differs-in-nothing : (s s' : Bool) → placing (unplaced s s') ≡ false
unfolding placing ne whole of_int
differs-in-nothing true true = refl
differs-in-nothing true false = refl
differs-in-nothing false true = refl
differs-in-nothing false false = refl

pub origin-0-and-step-1-leave-every-vertex : (s s' : Bool) (v : Vertex) → placed_at (unplaced s s') v ≡ v
origin-0-and-step-1-leave-every-vertex s s' v = nothing-differs-nothing-moves (unplaced s s') v (differs-in-nothing s s')

-- Stitching: what a new segment does, by what the open lines show. Lines are lists of points.
-- Document 01 gives the open lines no order. Here a new line goes to the end, f followed by g stands at f's place, and where a line goes the last one
-- takes its place. Assumes nothing.
use Rattle.std.specs.Prelude.{ℕ, suc, ◌-◌, Bool, false, cond, List, [], ◌∷◌, ◌++◌, ltb, eqb, length, get_or, set, take}
use Rattle.scope.specs.Cells.{Point, same_point, Segment}

abbrev pub Line : Type 0
Line = List Point

unfoldable pub starts_at : Point → Line → Bool
starts_at p [] = false
starts_at p (q ∷ l) = same_point p q

unfoldable pub ends_at : Point → Line → Bool
ends_at p [] = false
ends_at p (q ∷ []) = same_point p q
ends_at p (q ∷ q' ∷ l) = ends_at p (q' ∷ l)

-- the number of the first line that passes the test, or the number of lines where none does
unfoldable pub find : (Line → Bool) → List Line → ℕ
find test [] = 0
find test (l ∷ ls) = cond (test l) 0 (suc (find test ls))

-- line i goes, and the last line takes its place
unfoldable pub without : List Line → ℕ → List Line
without ls i = take (length ls - 1) (set ls i (get_or ls (length ls - 1) []))

-- the open lines, and the rings emitted so far, by number
pub record Drawing : Type 0 where
  pub lines : List Line
  pub rings : List Line

unfoldable pub nothing : Drawing
nothing = record { lines = []; rings = [] }

-- the five rules, at the line f that ends at s and the line g that starts at e
unfoldable pub close : Drawing → ℕ → Point → Drawing
close d f e = record { lines = without d.lines f; rings = d.rings ++ ((get_or d.lines f [] ++ (e ∷ [])) ∷ []) }

unfoldable pub join : Drawing → ℕ → ℕ → Drawing
join d f g = record { lines = without (set d.lines f (get_or d.lines f [] ++ get_or d.lines g [])) g; rings = d.rings }

unfoldable pub append : Drawing → ℕ → Point → Drawing
append d f e = record { lines = set d.lines f (get_or d.lines f [] ++ (e ∷ [])); rings = d.rings }

unfoldable pub prepend : Drawing → ℕ → Point → Drawing
prepend d g s = record { lines = set d.lines g (s ∷ get_or d.lines g []); rings = d.rings }

unfoldable pub start : Drawing → Point → Point → Drawing
start d s e = record { lines = d.lines ++ ((s ∷ e ∷ []) ∷ []); rings = d.rings }

-- which rule applies: f and g are below n exactly where there is such a line
unfoldable pub stitch_at : Drawing → Point → Point → ℕ → ℕ → ℕ → Drawing
stitch_at d s e f g n =
    cond (ltb f n)
    (cond (ltb g n) (cond (eqb f g) (close d f e) (join d f g)) (append d f e))
    (cond (ltb g n) (prepend d g s) (start d s e))

unfoldable pub stitch : Drawing → Segment → Drawing
stitch d σ = stitch_at d σ.from σ.to (find (ends_at σ.from) d.lines) (find (starts_at σ.to) d.lines) (length d.lines)

-- the segments drawn in order
unfoldable pub stitch_all : Drawing → List Segment → Drawing
stitch_all d [] = d
stitch_all d (σ ∷ σs) = stitch_all (stitch d σ) σs

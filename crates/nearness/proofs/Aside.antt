-- A point off a ring's extent against the ring: outside, or on the boundary and in the row of the first vertex. The flips of a closed walk cancel, and only
-- the first pair, from the last vertex to the first, may be of one point. Assumes nothing.
use mathlib.Core.Path.{◌≡◌, refl, sym, ap, ◌∙◌}
use mathlib.Core.Bool.{Bool, true, false, xor}
use mathlib.Core.List.{[], ◌∷◌}
use mathlib.Core.Logic.{◌⊎◌, inl, inr}
use Prim.Native.Nat.{ℕ}
use Rattle.scope.specs.Cells.{Point}
use Rattle.scope.specs.Stitching.{Line}
use Rattle.scope.specs.Area.{last_of}
use Rattle.scope.specs.Containment.{outside, boundary, on_pair, signed, walk, point_against}
use Rattle.laws.proofs.Conservation.{Each}
use Rattle.extents.specs.declared.Extent.{Extent}
use Rattle.extents.specs.Extents.{Holds, extent_of}
use Rattle.extents.specs.Points.{Stepping}
use Rattle.nearness.proofs.Held.{held}
use Rattle.nearness.proofs.Off.{Off, turn, off-flips, off-pair, off-row}

-- twice the same is nothing
twice : (t w : Bool) → xor t (xor t w) ≡ w
unfolding xor
twice true true = refl
twice true false = refl
twice false true = refl
twice false false = refl

-- from t to u, and on
through : (t u w : Bool) → xor u (xor (xor t u) w) ≡ xor t w
unfolding xor
through true true true = refl
through true true false = refl
through true false true = refl
through true false false = refl
through false true true = refl
through false true false = refl
through false false true = refl
through false false false = refl

last_has : (P : Point → Type 0) (a : Point) (l : Line) → P a → Each P l → P (last_of a l)
unfolding last_of
last_has P a [] h hs = h
last_has P a (b ∷ l) h hs = last_has P b l hs.0 hs.1

-- no pair of the walk holds the point, and of the flips only those of its two ends are left
walk_ends : {e : Extent} {p : Point} (o : Off e p) (a : Point) (l : Line) (within : Bool) → Holds e a → Each (Holds e) l → Stepping (a ∷ l) →
    walk a l p within ≡ signed (xor (turn o (last_of a l)) (xor (turn o a) within))
unfolding walk last_of
walk_ends o a [] within ha hl s = ap signed (sym (twice (turn o a) within))
walk_ends o a (b ∷ l) within ha hl s =
    rw (off-pair ha hl.0 o s.0, off-flips ha hl.0 o)
    (walk_ends o b l (xor (xor (turn o a) (turn o b)) within) hl.0 hl.1 s.1
    ∙ ap (λ t. signed (xor (turn o (last_of b l)) t)) (through (turn o a) (turn o b) within))

-- the point is outside the ring, or on its boundary and in the given row
abbrev pub Aside : Line → ℕ → Point → Type 0
Aside outer row p = (point_against outer p ≡ outside) ⊎ ((point_against outer p ≡ boundary) × (p.y ≡ row))

-- the row of the first vertex
abbrev pub first_row : Line → ℕ
first_row [] = 0
first_row (a ∷ l) = a.y

pub aside : (outer : Line) (p : Point) → Stepping outer → Off (extent_of outer) p → Aside outer (first_row outer) p
unfolding point_against walk signed
aside [] p s o = inl refl
aside (a ∷ l) p s o = from (on_pair z a p) refl
  where
    z : Point
    z = last_of a l

    hold : Each (Holds (extent_of (a ∷ l))) (a ∷ l)
    hold = held (a ∷ l)

    hold-last : Holds (extent_of (a ∷ l)) z
    hold-last = last_has (Holds (extent_of (a ∷ l))) a l hold.0 hold.1

    from : (t : Bool) → on_pair z a p ≡ t → Aside (a ∷ l) a.y p
    from true e = inr (rw e refl, off-row hold-last hold.0 o e)
    from false e =
        inl (rw (e, off-flips hold-last hold.0 o)
        (walk_ends o a l (xor (xor (turn o z) (turn o a)) false) hold.0 hold.1 s
        ∙ ap signed (ap (xor (turn o z)) (through (turn o z) (turn o a) false) ∙ twice (turn o z) false)))

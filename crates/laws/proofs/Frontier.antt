-- Where open lines start and end: on the edges between finished and unfinished cells. A point that one role has reached and the other has not lies
-- between its two cells, of which one is finished and the other is not. Assumes nothing.
use mathlib.Core.Path.{◌≡◌, refl, sym, ◌∙◌, ap, ap₂}
use mathlib.Core.Bool.{Bool, true, false, not}
use mathlib.Core.List.{List, [], ◌∷◌, map}
use Prim.Native.Nat.{ℕ, zero, suc, ◌≤◌, ◌<◌}
use native.Mathlib.Nat.{not-suc-le-zero}
use native.Mathlib.Decide.{dec_le, dec_lt, ℕ_discrete}
use native.Mathlib.Omega.{arith}
use Rattle.scope.specs.Terrain.{Sheet}
use Rattle.scope.specs.declared.Side.{Side}
use Rattle.scope.specs.declared.Side.TheVariants.{Left, Right, Top, Bottom}
use Rattle.scope.specs.Cells.{same_side, Point, Stroke, Segment, same_point, when, point_of, placed, drawn, cell_number, cell_segments}
use Rattle.scope.specs.Drawing.{segments_after}
use Rattle.laws.proofs.Total.{total}
use Rattle.laws.proofs.Ends.{and_left, same-eq}
use Rattle.laws.proofs.Edges.{Outside, Cell, cell, neighbour, left-is-right, top-is-bottom}
use Rattle.laws.proofs.Strokes.{Role, begin, finish, other, side_by, leaving, fitting, head-fits, rest-fits, strokes-fit}
use Rattle.laws.proofs.Visits.{not-visited, visited-above, visited-before}
use Rattle.laws.proofs.Marks.{point_by, marked, on_side, home_of, point-of-stroke, home-there, drawable, in_cell, measure, only-there, marked_by, across-left, across-top, across-right, across-bottom}
use Rattle.laws.proofs.Rings.{in-columns}

-- the edges between finished and unfinished cells after c cells of row r
pub data OnFrontier (dx r c : ℕ) (p : Point) : Type 0 where
  lower : (k : ℕ) → k < c → k ≤ dx → p ≡ point_of k r Bottom → OnFrontier dx r c p
  upper : (k : ℕ) → c ≤ k → k ≤ dx → 0 < r → p ≡ point_of k r Top → OnFrontier dx r c p
  between : 0 < c → p ≡ point_of c r Left → OnFrontier dx r c p

-- a point that strokes have in a role is the point of a side that they may use
pub data Found (free : Role → Side → Bool) (role : Role) (c r : ℕ) (p : Point) : Type 0 where
  found_at : (d : Side) → free role d ≡ true → p ≡ point_of c r d → Found free role c r p

find-side : (role : Role) (c r : ℕ) (p : Point) (free : Role → Side → Bool) (strokes : List Stroke) → fitting free strokes ≡ true → 1 ≤ marked role (map (placed c r) strokes) p → Found free role c r p
unfolding marked total
find-side role c r p free [] h u = absurd (omega arith)
find-side role c r p free (stroke ∷ strokes) h u = by (same_point p (point_by role (placed c r stroke))) refl (find-side role c r p (leaving free stroke) strokes (rest-fits free stroke strokes h))
  where
    wider : Found (leaving free stroke) role c r p → Found free role c r p
    wider (found_at d k e) = found_at d (and_left (free role d) (not (same_side d (side_by role stroke))) k) e

    by : (b : Bool) → same_point p (point_by role (placed c r stroke)) ≡ b → (1 ≤ marked role (map (placed c r) strokes) p → Found (leaving free stroke) role c r p) → Found free role c r p
    by true e ih = found_at (side_by role stroke) (head-fits free stroke strokes h role) (same-eq p (point_by role (placed c r stroke)) e ∙ point-of-stroke role c r stroke)
    by false e ih = wider (ih (omega (arith, ap (when 1) e)))

module _ (A : Sheet) {dx dy : ℕ} (out : Outside A dx dy) (r c : ℕ) (hc : c ≤ suc dx) where
  abbrev drawn_so_far : List Segment
  drawn_so_far = segments_after A dx r c

  data Visited (k : Cell) : Type 0 where
    above : k.column ≤ dx → k.row < r → Visited k
    before : k.row ≡ r → k.column < c → Visited k

  -- a role's count at a point is that of the role's cell there, where that is finished
  count-there : (role : Role) (p : Point) (k : Cell) → home_of role A p ≡ k → Visited k → marked role drawn_so_far p ≡ marked role (cell_segments A k.column k.row) p
  count-there role p k q (above hx hy) =
      marked_by A out role p (segments_after A dx r c)
      ∙ visited-above A dx (measure A out role p) k.column k.row (only-there A out role p k q) r c hc hx hy
      ∙ sym (marked_by A out role p (cell_segments A k.column k.row))
  count-there role p k q (before hy hx) =
      marked_by A out role p (segments_after A dx r c)
      ∙ ap (λ (n : ℕ). total (measure A out role p) (segments_after A dx n c)) (sym hy)
      ∙ visited-before A dx (measure A out role p) k.column k.row (only-there A out role p k q) c hc hx
      ∙ sym (marked_by A out role p (cell_segments A k.column k.row))

  -- and 0 where it is not
  none-there : (role : Role) (p : Point) (k : Cell) → home_of role A p ≡ k → (Visited k → ⊥) → marked role drawn_so_far p ≡ 0
  none-there role p k q away = by (dec_le k.column dx) (dec_lt k.row r)
    where
      by : Dec (k.column ≤ dx) → Dec (k.row < r) → marked role (segments_after A dx r c) p ≡ 0
      by (yes hx) (yes hy) = absurd (away (above hx hy))
      by (yes hx) (no hy) =
          marked_by A out role p (segments_after A dx r c)
          ∙ not-visited A dx (measure A out role p) k.column k.row (only-there A out role p k q) r c hc (omega arith) (λ e. behind e (dec_lt k.column c))
        where
          behind : k.row ≡ r → Dec (k.column < c) → c ≤ k.column
          behind e (yes h) = absurd (away (before e h))
          behind e (no h) = omega arith
      by (no hx) hy =
          marked_by A out role p (segments_after A dx r c)
          ∙ not-visited A dx (measure A out role p) 0 (suc r) (λ c' r' h ne. only-there A out role p k q c' r' h (λ e f. hx (omega arith))) r c hc (omega arith) (λ e. absurd (omega arith))

  right-column : (role : Role) (x y : ℕ) → on_side role A x y Right ≡ true → suc x ≤ dx
  right-column begin x y h = in-columns A out (suc x) (suc y) (and_left (A (suc x) (suc y)) (not (A (suc x) y)) h)
  right-column finish x y h = in-columns A out (suc x) y (and_left (A (suc x) y) (not (A (suc x) (suc y))) h)

  -- a cell whose neighbour is not finished
  edge : (role : Role) (p : Point) (x y : ℕ) (d : Side) → Visited (cell x y) → (Visited (neighbour x y d) → ⊥) → on_side role A x y d ≡ true → p ≡ point_of x y d → OnFrontier dx r c p
  edge role p zero y Left seen away h e = absurd (not-suc-le-zero (drawable A out role 0 y Left h))
  edge role p (suc x) y Left (above hx hy) away h e = absurd (away (above (omega arith) hy))
  edge role p (suc x) y Left (before hy hx) away h e = absurd (away (before hy (omega arith)))
  edge role p x y Right (above hx hy) away h e = absurd (away (above (right-column role x y h) hy))
  edge role p x y Right (before hy hx) away h e =
      between (omega arith) (e ∙ sym (left-is-right A x y) ∙ ap₂ (λ (m n : ℕ). point_of m n Left) (next (dec_lt (suc x) c)) hy)
    where
      next : Dec (suc x < c) → suc x ≡ c
      next (yes k) = absurd (away (before hy k))
      next (no k) = omega arith
  edge role p x zero Top seen away h e = absurd (not-suc-le-zero (drawable A out role x 0 Top h))
  edge role p x (suc y) Top (above hx hy) away h e = absurd (away (above hx (omega arith)))
  edge role p x (suc y) Top (before hy hx) away h e = absurd (away (above (omega arith) (omega arith)))
  edge role p x y Bottom (above hx hy) away h e =
      upper x (back (dec_lt x c)) hx (omega arith) (e ∙ sym (top-is-bottom A x y) ∙ ap (λ (n : ℕ). point_of x n Top) (next (dec_lt (suc y) r)))
    where
      next : Dec (suc y < r) → suc y ≡ r
      next (yes k) = absurd (away (above hx k))
      next (no k) = omega arith

      back : Dec (x < c) → c ≤ x
      back (yes k) = absurd (away (before (next (dec_lt (suc y) r)) k))
      back (no k) = omega arith
  edge role p x y Bottom (before hy hx) away h e = lower x hx (omega arith) (e ∙ ap (λ (n : ℕ). point_of x n Bottom) hy)

  -- the neighbour's side of the same edge has the other role
  seen-across : (role : Role) (p : Point) (x y : ℕ) (d : Side) → on_side role A x y d ≡ true → p ≡ point_of x y d → 1 ≤ marked (other role) (cell_segments A (neighbour x y d).column (neighbour x y d).row) p
  seen-across role p zero y Left h e = absurd (not-suc-le-zero (drawable A out role 0 y Left h))
  seen-across role p (suc x) y Left h e = rw (e, left-is-right A x y) (in_cell A out (other role) x y Right (sym (across-left role A x y) ∙ h))
  seen-across role p x y Right h e = rw (e, ← left-is-right A x y) (in_cell A out (other role) (suc x) y Left (sym (across-right role A x y) ∙ h))
  seen-across role p x zero Top h e = absurd (not-suc-le-zero (drawable A out role x 0 Top h))
  seen-across role p x (suc y) Top h e = rw (e, top-is-bottom A x y) (in_cell A out (other role) x y Bottom (sym (across-top role A x y) ∙ h))
  seen-across role p x y Bottom h e = rw (e, ← top-is-bottom A x y) (in_cell A out (other role) x (suc y) Top (sym (across-bottom role A x y) ∙ h))

  visited? : (k : Cell) → Dec (Visited k)
  visited? k = by (both? (dec_le k.column dx) (dec_lt k.row r)) (both? (ℕ_discrete k.row r) (dec_lt k.column c))
    where
      both? : {P Q : Type 0} → Dec P → Dec Q → Dec (P × Q)
      both? (yes x) (yes y) = yes (x, y)
      both? (yes x) (no y) = no (λ w. y w.1)
      both? (no x) y = no (λ w. x w.0)

      neither : (((k.column ≤ dx) × (k.row < r)) → ⊥) → (((k.row ≡ r) × (k.column < c)) → ⊥) → Visited k → ⊥
      neither x y (above hx hy) = x (hx, hy)
      neither x y (before hy hx) = y (hy, hx)

      by : Dec ((k.column ≤ dx) × (k.row < r)) → Dec ((k.row ≡ r) × (k.column < c)) → Dec (Visited k)
      by (yes w) y = yes (above w.0 w.1)
      by (no x) (yes w) = yes (before w.0 w.1)
      by (no x) (no y) = no (neither x y)

  cell-fits : (x y : ℕ) → fitting (λ role. on_side role A x y) (drawn (cell_number A x y)) ≡ true
  unfolding cell_number
  cell-fits x y = strokes-fit (A x (suc y)) (A (suc x) (suc y)) (A (suc x) y) (A x y)

  -- reached in one role and not in the other
  pub half-reached : (role : Role) (p : Point) → 1 ≤ marked role drawn_so_far p → marked (other role) drawn_so_far p ≡ 0 → OnFrontier dx r c p
  half-reached role p reached not-other = by (home_of role A p).column (home_of role A p).row refl (visited? (home_of role A p))
    where
      at : (x y : ℕ) → Visited (cell x y) → Found (λ role. on_side role A x y) role x y p → OnFrontier dx r c p
      at x y seen (found_at d h e) =
          edge role p x y d seen
          (λ next. absurd (omega (arith, seen-across role p x y d h e, count-there (other role) p (neighbour x y d) (ap (home_of (other role) A) e ∙ home-there A out role x y d h) next)))
          h e

      by : (x y : ℕ) → home_of role A p ≡ cell x y → Dec (Visited (cell x y)) → OnFrontier dx r c p
      by x y q (no away) = absurd (omega (arith, none-there role p (cell x y) q away))
      by x y q (yes seen) =
          at x y seen
          (find-side role x y p (λ role. on_side role A x y) (drawn (cell_number A x y)) (cell-fits x y) (unfold cell_segments in omega (arith, count-there role p (cell x y) q seen)))

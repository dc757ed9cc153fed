-- Cells at the border of the sheet: above the first row and left of the first column nothing is above, so a cell there draws at most one stroke, which meets at most one
-- line. No ring closes in the first row, and after the first cell of a row neither the open lines nor their segments are fewer. Assumes nothing.
use mathlib.Core.Path.{◌≡◌, refl, sym, ◌∙◌, ap, ap₂, subst}
use mathlib.Core.Bool.{Bool, true, false}
use mathlib.Core.List.{List, [], ◌∷◌, ◌++◌, map, append-nil}
use Prim.Native.Nat.{ℕ, zero, suc, ◌+◌, ◌≤◌}
use native.Mathlib.Omega.{arith}
use lib.ListN.{length}
use Rattle.scope.specs.Terrain.{Sheet}
use Rattle.scope.specs.declared.Side.{Side}
use Rattle.scope.specs.declared.Side.TheVariants.{Left, Right, Top, Bottom}
use Rattle.scope.specs.Cells.{Stroke, ◌⟶◌, Segment, placed, on_finished, number_of, case_table, drawn, met, closed, cell_number, cell_segments}
use Rattle.scope.specs.Stitching.{nothing, stitch_all}
use Rattle.scope.specs.Drawing.{along, down, up_to, with_cell, segments_after, drawing_after, open_after, rings_after}
use Rattle.laws.proofs.Total.{total}
use Rattle.laws.proofs.Edges.{Outside}
use Rattle.laws.proofs.Strokes.{begin, finish, fitting, head-fits, strokes-fit}
use Rattle.laws.proofs.Marks.{on_side}
use Rattle.laws.proofs.Cellwise.{Sound, fresh}
use Rattle.laws.proofs.Grid.{after, ready, more-segments}
use Rattle.laws.proofs.Laws.{open-lines-change-by-the-table}
use Rattle.laws.proofs.Sizes.{size, held_in, held-or-closed}
use Rattle.laws.proofs.Drawn.{rings-stay}

-- no stroke, or one that meets at most one line
data Single : List Stroke → Type 0 where
  none : Single []
  one : (s e : Side) → on_finished s + on_finished e ≤ 1 → Single (s ⟶ e ∷ [])

-- nothing is above on the upper side, or on the left
single-below : (ll lr : Bool) → Single (drawn (number_of ll lr false false))
unfolding drawn case_table number_of
single-below false false = none
single-below true false = one Bottom Left (unfold on_finished in omega arith)
single-below false true = one Right Bottom (unfold on_finished in omega arith)
single-below true true = one Right Left (unfold on_finished in omega arith)

single-right : (lr ur : Bool) → Single (drawn (number_of false lr ur false))
unfolding drawn case_table number_of
single-right false false = none
single-right true false = one Right Bottom (unfold on_finished in omega arith)
single-right false true = one Top Right (unfold on_finished in omega arith)
single-right true true = one Top Bottom (unfold on_finished in omega arith)

none-closed : (lr ur : Bool) → closed (number_of false lr ur false) ≡ 0
unfolding closed drawn case_table number_of met on_finished
none-closed false false = refl
none-closed true false = refl
none-closed false true = refl
none-closed true true = refl

module _ (A : Sheet) {dx dy : ℕ} (out : Outside A dx dy) where
  next-segments : (r c : ℕ) → segments_after A dx r (suc c) ≡ segments_after A dx r c ++ map (placed c r) (drawn (cell_number A c r))
  unfolding segments_after up_to along with_cell cell_segments
  next-segments r c = refl

  fits : (r c : ℕ) → fitting (λ role. on_side role A c r) (drawn (cell_number A c r)) ≡ true
  unfolding cell_number
  fits r c = strokes-fit (A c (suc r)) (A (suc c) (suc r)) (A (suc c) r) (A c r)

  -- such a cell closes no ring
  keeps-rings : (r c : ℕ) → c ≤ dx → Single (drawn (cell_number A c r)) → (stitch_all nothing (segments_after A dx r (suc c))).rings ≡ (stitch_all nothing (segments_after A dx r c)).rings
  keeps-rings r c hc single = ap (λ (σs : List Segment). (stitch_all nothing σs).rings) (next-segments r c) ∙ by (drawn (cell_number A c r)) single (fits r c)
    where
      sound : Sound (segments_after A dx r c)
      sound = (after A out r c (omega arith)).sound

      by : (strokes : List Stroke) → Single strokes → fitting (λ role. on_side role A c r) strokes ≡ true
          → (stitch_all nothing (segments_after A dx r c ++ map (placed c r) strokes)).rings ≡ (stitch_all nothing (segments_after A dx r c)).rings
      by _ none k = ap (λ (σs : List Segment). (stitch_all nothing σs).rings) (append-nil (segments_after A dx r c))
      by _ (one s e few) k =
          rings-stay (segments_after A dx r c) (placed c r (s ⟶ e)) (on_finished s) (on_finished e) sound
          (fresh A out c r (segments_after A dx r c) (λ role. on_side role A c r) (ready A out c r hc sound) s e
          (head-fits (λ role. on_side role A c r) (s ⟶ e) [] k begin) (head-fits (λ role. on_side role A c r) (s ⟶ e) [] k finish))
          few

  first-row-single : (c : ℕ) → Single (drawn (cell_number A c 0))
  unfolding cell_number
  first-row-single c =
      subst (λ (b : Bool). Single (drawn (number_of (A c 1) (A (suc c) 1) b (A c 0)))) (sym (out.no-row-before (suc c)))
      (subst (λ (b : Bool). Single (drawn (number_of (A c 1) (A (suc c) 1) false b))) (sym (out.no-row-before c)) (single-below (A c 1) (A (suc c) 1)))

  -- the first row has no ring
  pub no-ring-in-the-first-row : (c : ℕ) → c ≤ suc dx → rings_after A dx 0 c ≡ []
  unfolding rings_after drawing_after
  no-ring-in-the-first-row zero hc = unfold segments_after up_to along down stitch_all nothing in refl
  no-ring-in-the-first-row (suc c) hc = keeps-rings 0 c (omega arith) (first-row-single c) ∙ no-ring-in-the-first-row c (omega arith)

  -- ---- the first cell of a row
  first-column-single : (r : ℕ) → Single (drawn (cell_number A 0 r))
  unfolding cell_number
  first-column-single r =
      subst (λ (b : Bool). Single (drawn (number_of b (A 1 (suc r)) (A 1 r) (A 0 r)))) (sym (out.no-column-before (suc r)))
      (subst (λ (b : Bool). Single (drawn (number_of false (A 1 (suc r)) (A 1 r) b))) (sym (out.no-column-before r)) (single-right (A 1 (suc r)) (A 1 r)))

  first-column-opens : (r : ℕ) → closed (cell_number A 0 r) ≡ 0
  unfolding cell_number
  first-column-opens r =
      ap₂ (λ (x y : Bool). closed (number_of x (A 1 (suc r)) (A 1 r) y)) (out.no-column-before (suc r)) (out.no-column-before r) ∙ none-closed (A 1 (suc r)) (A 1 r)

  pub first-cell-keeps-lines : (r : ℕ) → length (open_after A dx r 0) ≤ length (open_after A dx r 1)
  first-cell-keeps-lines r = omega (arith, open-lines-change-by-the-table A out r 0 (omega arith), first-column-opens r)

  pub first-cell-keeps-segments : (r : ℕ) → held_in (open_after A dx r 0) ≤ held_in (open_after A dx r 1)
  unfolding open_after drawing_after
  first-cell-keeps-segments r =
      omega (
        arith,
        held-or-closed (segments_after A dx r 0),
        held-or-closed (segments_after A dx r 1),
        ap (total size) (keeps-rings r 0 (omega arith) (first-column-single r)),
        more-segments A out r 0,
      )

-- A row of cells drawn by the row machine: where it holds document 01's drawing before the row, and there is room after each of the row's cells, it holds the
-- drawing after each of them; and the links that were ever used are then as many as were ever held. Assumes nothing.
use mathlib.Core.Path.{◌≡◌, refl, sym, ◌∙◌, ap, subst}
use mathlib.Core.Bool.{Bool, cond}
use mathlib.Core.List.{List}
use Prim.Native.Nat.{ℕ, zero, suc, max, ◌+◌, ◌-◌, ◌*◌, ◌/◌, ◌≤◌, ◌<◌}
use native.Mathlib.Nat.{zero-add, add-zero, add-suc}
use native.Mathlib.Omega.{arith}
use borrow.Author.Tests.{lt-ltb, le-ltb}
use Rattle.scope.specs.Terrain.{Sheet}
use Rattle.scope.specs.Cells.{cell_number}
use Rattle.scope.specs.Drawing.{along, down, up_to, segments_after, drawing_after, open_after}
use Rattle.laws.proofs.Sizes.{held_in}
use Rattle.laws.proofs.Edges.{Outside}
use Rattle.scan.specs.Rows.{Kept}
use Rattle.sweep.specs.Sweep.{between, swept, row_cells}
use Rattle.sweep.proofs.Rows.{number-kept}
use Rattle.machine.proofs.Leaving.{all}
use Rattle.giving.specs.Giving.{Given, number_given, cell_given, row_given}
use Rattle.giving.proofs.Most.{most_of, most-of-none, most-of-more}
use Rattle.giving.proofs.RowHolds.{Setting, Modest, RowHolds, RowFits}
use Rattle.giving.proofs.RowCarrier.{cell_holds}
use Rattle.giving.proofs.Fresh.{cell-follows}

-- the first c cells of row r, by the numbers that the sheet gives them
unfoldable pub cells_given : Sheet → ℕ → ℕ → Given → ℕ → Given
cells_given A dx r g c = swept (λ g c. number_given dx r g (cell_number A c r) c) g 0 c

cells-more : (A : Sheet) (dx r : ℕ) (g : Given) (c : ℕ) → cells_given A dx r g (suc c) ≡ number_given dx r (cells_given A dx r g c) (cell_number A c r) c
unfolding cells_given swept
cells-more A dx r g c = ap (λ (k : ℕ). number_given dx r (swept (λ g c. number_given dx r g (cell_number A c r) c) g 0 c) (cell_number A k r) k) (zero-add c)

module _ (S : Setting) (modest : Modest S) (A : Sheet) (out : Outside A S.dx S.dy) (r : ℕ) (g : Given) (start : RowHolds S all (drawing_after A S.dx r 0) g)
    (fits : (c : ℕ) → c ≤ suc S.dx → RowFits S (drawing_after A S.dx r c)) where
  open S use {dx}

  -- after each cell
  pub cells-hold : (c : ℕ) → c ≤ suc dx → RowHolds S all (drawing_after A dx r c) (cells_given A dx r g c)
  cells-hold zero hc = unfold cells_given swept in start
  cells-hold (suc c) hc =
      subst (RowHolds S all (drawing_after A dx r (suc c))) (sym (cells-more A dx r g c))
      (cell_holds S modest A out r c (cells_given A dx r g c) (omega arith) (fits c (omega arith)) (fits (suc c) hc) (cells-hold c (omega arith)))

  -- the links that were ever used
  pub cells-follow : (c : ℕ) → c ≤ suc dx → (cells_given A dx r g c).play.fresh ≡ max g.play.fresh (most_of held_in A dx r c)
  cells-follow zero hc = unfold cells_given swept in omega (arith, most-of-none held_in A dx r)
  cells-follow (suc c) hc = omega (arith, step, cells-follow c (omega arith), most-of-more held_in A dx r c)
    where
      now : RowHolds S all (drawing_after A dx r c) (cells_given A dx r g c)
      now = cells-hold c (omega arith)

      step : (cells_given A dx r g (suc c)).play.fresh ≡ max (cells_given A dx r g c).play.fresh (held_in (open_after A dx r (suc c)))
      step =
          ap (λ (g' : Given). g'.play.fresh) (cells-more A dx r g c)
          ∙ (cell-follows dx (cells_given A dx r g c) (omega (arith, now.stock.fresh-is)) (omega (arith, now.held-is, (fits c (omega arith)).links-fit, modest.links-small)) A r c).fresh-is
          ∙ ap (max (cells_given A dx r g c).play.fresh) (sym (ap (λ (g' : Given). g'.play.held) (cells-more A dx r g c)) ∙ unfold open_after in (cells-hold (suc c) hc).held-is)

  -- ---- the row between two kept rows of samples
  module _ {upper lower : List ℕ} (above : Kept A r upper) (below : Kept A (suc r) lower) where
    -- a cell of the row is the sheet's, and past the row there is none
    inside : (g : Given) (c : ℕ) → c ≤ dx → cell_given (between upper lower) dx r g c ≡ number_given dx r g (cell_number A c r) c
    unfolding cell_given
    inside g c hc =
        ap (λ (b : Bool). cond b g (number_given dx r g (cell_number (between upper lower) c 0) c)) (le-ltb dx c hc)
        ∙ ap (λ (n : ℕ). number_given dx r g n c) (number-kept A out above below c)

    outside : (g : Given) (c : ℕ) → dx < c → cell_given (between upper lower) dx r g c ≡ g
    unfolding cell_given
    outside g c hc = ap (λ (b : Bool). cond b g (number_given dx r g (cell_number (between upper lower) c 0) c)) (lt-ltb dx c hc)

    first-cells : (c : ℕ) → c ≤ suc dx → swept (cell_given (between upper lower) dx r) g 0 c ≡ cells_given A dx r g c
    unfolding swept
    first-cells zero hc = unfold cells_given in refl
    first-cells (suc c) hc =
        ap (cell_given (between upper lower) dx r (swept (cell_given (between upper lower) dx r) g 0 c)) (zero-add c)
        ∙ ap (λ (g' : Given). cell_given (between upper lower) dx r g' c) (first-cells c (omega arith))
        ∙ inside (cells_given A dx r g c) c (omega arith)
        ∙ sym (cells-more A dx r g c)

    other-cells : (t : ℕ) → swept (cell_given (between upper lower) dx r) g 0 (suc dx + t) ≡ cells_given A dx r g (suc dx)
    unfolding swept
    other-cells zero = ap (swept (cell_given (between upper lower) dx r) g 0) (add-zero (suc dx)) ∙ first-cells (suc dx) (omega arith)
    other-cells (suc t) =
        ap (swept (cell_given (between upper lower) dx r) g 0) (add-suc (suc dx) t)
        ∙ outside (swept (cell_given (between upper lower) dx r) g 0 (suc dx + t)) (0 + (suc dx + t)) (omega arith)
        ∙ other-cells t

    pub row-is-its-cells : row_given upper lower dx r g ≡ cells_given A dx r g (suc dx)
    unfolding row_given row_cells
    row-is-its-cells = ap (swept (cell_given (between upper lower) dx r) g 0) whole ∙ other-cells (64 * (dx / 64 + 1) - suc dx)
      where
        whole : 64 * (dx / 64 + 1) ≡ suc dx + (64 * (dx / 64 + 1) - suc dx)
        whole = omega arith

    -- after the row it holds the drawing of one row more
    pub row-holds : RowHolds S all (drawing_after A dx (suc r) 0) (row_given upper lower dx r g)
    unfolding drawing_after segments_after up_to down along
    row-holds = subst (RowHolds S all (drawing_after A dx (suc r) 0)) (sym row-is-its-cells) (cells-hold (suc dx) (omega arith))

    pub row-follows : (row_given upper lower dx r g).play.fresh ≡ max g.play.fresh (most_of held_in A dx r (suc dx))
    row-follows = ap (λ (g' : Given). g'.play.fresh) row-is-its-cells ∙ cells-follow (suc dx) (omega arith)

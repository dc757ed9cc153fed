-- The pass from cell to cell and from row to row, as the table machine runs, and how many links it can have drawn by then: two a cell.
-- The steps are the machine's own, and the bounds go by induction. Assumes nothing.
use mathlib.Core.Path.{◌≡◌, refl, sym, ◌∙◌, ap}
use mathlib.Core.Bool.{false}
use mathlib.Core.List.{List, []}
use Prim.Native.Nat.{ℕ, zero, suc, ◌+◌, ◌-◌, ◌*◌, ◌^◌, ◌≤◌, ◌<◌}
use native.Mathlib.Nat.{add-zero, add-suc, suc-mul}
use native.Mathlib.Numerals.{add-one}
use native.Mathlib.Omega.{arith}
use Rattle.scope.specs.Limits.{side_limit}
use Rattle.scope.specs.Terrain.{Sheet}
use Rattle.scope.specs.Cells.{cell_number}
use Rattle.scope.specs.Drawing.{along, down, up_to}
use Rattle.words.specs.Panes.{active, Shows, number_in}
use Rattle.words.specs.declared.Pane.{Pane}
use Rattle.words.proofs.Laws.{nothing-drawn, number-shown}
use Rattle.cells.proofs.Laws.{a-cell-draws-at-most-two}
use Rattle.laws.proofs.Edges.{Outside}
use Rattle.scan.specs.Rows.{Quiet}
use Rattle.scan.proofs.Rows.{nothing-active-outside, an-active-cell-is-inside, Unseen, Next, unseen-end}
use Rattle.machine.specs.Machine.{Run, draw_strokes, draw_cell, run_after, run_over}
use Rattle.drawing.specs.Values.{number_drawn}
use Rattle.stitching.specs.Rows.{cells_drawn, row_drawn}
use Rattle.drawing.proofs.Indexes.{links-fit}

module _ (A : Sheet) (dx : ℕ) where
  -- ---- one cell more

  one_more : (from : Run) (r c : ℕ) → row_drawn A dx from r (suc c) ≡ number_drawn dx (row_drawn A dx from r c) (cell_number A c r) c r
  unfolding row_drawn along draw_cell
  one_more from r c = refl

  few-in-row : (from : Run) (r c : ℕ) → (row_drawn A dx from r c).next ≤ from.next + 2 * c
  few-in-row from r zero = unfold row_drawn along in omega arith
  few-in-row from r (suc c) =
      omega (arith, few-in-row from r c, a-cell-draws-at-most-two (cell_number A c r), ap (λ (run : Run). run.next) (one_more from r c))

  row_more : (from : Run) (r c : ℕ) → row_drawn A dx from r (suc c) ≡ draw_cell A dx (row_drawn A dx from r c) c r
  unfolding row_drawn along
  row_more from r c = refl

  -- from any cell of a row on
  cells-more : (from : Run) (r c n : ℕ) → cells_drawn A dx from r c (suc n) ≡ draw_cell A dx (cells_drawn A dx from r c n) (c + n) r
  unfolding cells_drawn
  cells-more from r c n = refl

  drawn-next : (from : Run) (r c n number : ℕ) → number ≡ cell_number A (c + n) r →
      cells_drawn A dx from r c (n + 1) ≡ number_drawn dx (cells_drawn A dx from r c n) number (c + n) r
  unfolding cells_drawn draw_cell
  drawn-next from r c n number e = rw (add-one n, e) refl

  few-drawn : (from : Run) (r c n : ℕ) → (cells_drawn A dx from r c n).next ≤ from.next + 2 * n
  unfolding cells_drawn draw_cell
  few-drawn from r c zero = omega arith
  few-drawn from r c (suc n) = omega (arith, few-drawn from r c n, a-cell-draws-at-most-two (cell_number A (c + n) r))

  pub word-few : {run : Run} (from : Run) (r c n : ℕ) → run ≡ cells_drawn A dx from r c n → run.next ≤ from.next + 2 * n
  word-few from r c n so_far = rw so_far (few-drawn from r c n)

  further-in-row : (from : Run) (r c n : ℕ) → cells_drawn A dx (row_drawn A dx from r c) r c n ≡ row_drawn A dx from r (c + n)
  further-in-row from r c zero = unfold cells_drawn in ap (row_drawn A dx from r) (sym (add-zero c))
  further-in-row from r c (suc n) =
      rw (add-suc c n, cells-more (row_drawn A dx from r c) r c n, row_more from r (c + n))
      (ap (λ (run : Run). draw_cell A dx run (c + n) r) (further-in-row from r c n))

  -- ---- cells that draw nothing

  same-run : (run : Run) (r c : ℕ) → active A r c ≡ false → draw_cell A dx run c r ≡ run
  unfolding draw_cell draw_strokes
  same-run run r c h = rw (nothing-drawn A r c h, add-zero run.next) refl

  cells_stay : (from : Run) (r c n t : ℕ) → ((j : ℕ) → j < t → active A r (c + n + j) ≡ false) →
      cells_drawn A dx from r c (n + t) ≡ cells_drawn A dx from r c n
  cells_stay from r c n zero h = ap (cells_drawn A dx from r c) (add-zero n)
  cells_stay from r c n (suc t) h =
      rw (add-suc n t, cells-more from r c (n + t))
      (same-run (cells_drawn A dx from r c (n + t)) r (c + (n + t)) (ap (active A r) (omega arith) ∙ h t (omega arith))
      ∙ cells_stay from r c n t (λ j l. h j (omega arith)))

  row_stays : (from : Run) (r c t : ℕ) → ((j : ℕ) → j < t → active A r (c + j) ≡ false) → row_drawn A dx from r (c + t) ≡ row_drawn A dx from r c
  row_stays from r c zero h = ap (row_drawn A dx from r) (add-zero c)
  row_stays from r c (suc t) h =
      rw (add-suc c t, row_more from r (c + t))
      (same-run (row_drawn A dx from r (c + t)) r (c + t) (h t (omega arith))
      ∙ row_stays from r c t (λ j l. h j (omega arith)))

  -- ---- from row to row

  -- a row goes on from what stands before it, whatever the first row began with
  same_row : (from begin : Run) (r c : ℕ) → row_drawn A dx from r c ≡ along (draw_cell A dx) begin dx from r c
  unfolding row_drawn along
  same_row from begin r zero = refl
  same_row from begin r (suc c) = ap (λ (run : Run). draw_cell A dx run c r) (same_row from begin r c)

  pub run-begins : (run : Run) → run ≡ run_after A dx run 0 0
  unfolding run_after up_to along down
  run-begins run = refl

  pub next_row : (run : Run) (r : ℕ) → row_drawn A dx (run_after A dx run r 0) r (suc dx) ≡ run_after A dx run (suc r) 0
  next_row run r = same_row (run_after A dx run r 0) run r (suc dx) ∙ (unfold run_after up_to along down in refl)

  pub run_ends : {run : Run} (begin : Run) (r dy : ℕ) → run ≡ run_after A dx begin r 0 → r ≡ suc dy → run.tables ≡ (run_after A dx begin dy (suc dx)).tables
  unfolding run_after up_to along down
  run_ends begin r dy e rows = rw (e, rows)

  few-in-rows : (run : Run) (r : ℕ) → (run_after A dx run r 0).next ≤ run.next + 2 * (r * suc dx)
  few-in-rows run zero = omega (arith, ap (λ (run : Run). run.next) (run-begins run))
  few-in-rows run (suc r) =
      omega (arith, few-in-rows run r, few-in-row (run_after A dx run r 0) r (suc dx), suc-mul r (suc dx), ap (λ (run : Run). run.next) (next_row run r))

  pub a-row-more-fits : {run : Run} (lines links : List ℕ) (r : ℕ) → run ≡ run_after A dx (run_over lines links) r 0 → dx ≤ side_limit → r ≤ side_limit →
      run.next + 2 * (dx + 64) < 2 ^ 32
  unfolding run_over
  a-row-more-fits lines links r e hx hr =
      rw e (omega (arith, few-in-rows (run_over lines links) r, links-fit dx r hx hr))

  -- ---- the active cells of a word

  module _ {dy r c at j number : ℕ} {left : List ℕ} {pane : Pane} {run : Run} (from : Run) (out : Outside A dx dy) (shows : Shows A r c pane) (next : Next A r c at j left)
      (so_far : run ≡ cells_drawn A dx from r c at) (e : number ≡ number_in pane j) where
    pub active-inside : c + j ≤ dx
    active-inside = an-active-cell-is-inside A out r (c + j) next.active-there

    pub active-drawn : {after : Run} → after ≡ number_drawn dx run number (c + j) r → after ≡ cells_drawn A dx from r c (j + 1)
    active-drawn d =
        let there : at + (j - at) ≡ j = omega (arith, next.further) in
        d
        ∙ rw (so_far ∙ sym (cells_stay from r c at (j - at) next.none_between) ∙ ap (cells_drawn A dx from r c) there)
        (sym (drawn-next from r c j number (e ∙ number-shown A r c shows next.in-word)))

  pub word-drawn : {r c at : ℕ} {left : List ℕ} {run : Run} (from : Run) → Unseen A r c at left → left ≡ [] → run ≡ cells_drawn A dx from r c at → run ≡ cells_drawn A dx from r c 64
  word-drawn {r} {c} {at} from u none so_far =
      let whole : at + (64 - at) ≡ 64 = omega (arith, u.seen) in
      so_far ∙ sym (cells_stay from r c at (64 - at) (unseen-end A r c u none)) ∙ ap (cells_drawn A dx from r c) whole

  -- ---- along a row

  -- a word of cells more, drawn or without active cells
  pub word_more : {run after : Run} (from : Run) (r w : ℕ) → run ≡ row_drawn A dx from r (64 * w) → after ≡ cells_drawn A dx run r (64 * w) 64 →
      after ≡ row_drawn A dx from r (64 * (w + 1))
  word_more from r w so_far e =
      let next : 64 * w + 64 ≡ 64 * (w + 1) = omega arith in
      e ∙ ap (λ (run : Run). cells_drawn A dx run r (64 * w) 64) so_far ∙ further-in-row from r (64 * w) 64 ∙ ap (row_drawn A dx from r) next

  pub quiet-word-more : {run : Run} (from : Run) (r w : ℕ) → run ≡ row_drawn A dx from r (64 * w) → Quiet A r w → run ≡ row_drawn A dx from r (64 * (w + 1))
  quiet-word-more from r w so_far quiet =
      let next : 64 * w + 64 ≡ 64 * (w + 1) = omega arith in
      so_far ∙ sym (row_stays from r (64 * w) 64 quiet) ∙ ap (row_drawn A dx from r) next

  pub row-drawn : {dy : ℕ} {run : Run} (from : Run) (r c : ℕ) → Outside A dx dy → run ≡ row_drawn A dx from r c → dx < c → run ≡ row_drawn A dx from r (suc dx)
  row-drawn from r c out so_far far =
      let last : c ≡ suc dx + (c - suc dx) = omega arith in
      so_far ∙ ap (row_drawn A dx from r) last
      ∙ row_stays from r (suc dx) (c - suc dx) (λ j l. nothing-active-outside A out r (suc dx + j) (omega arith))

  pub row-few : {run : Run} (from : Run) (r c : ℕ) → run ≡ row_drawn A dx from r c → run.next ≤ from.next + 2 * c
  row-few from r c so_far = rw so_far (few-in-row from r c)

  pub row-begun : (run : Run) (r : ℕ) → run ≡ row_drawn A dx run r 0
  row-begun run r = unfold row_drawn along in refl

-- The counts from cell to cell and from row to row: each cell changes them by the case table, and they stay small.
-- The steps are the laws of the drawing; the bound on the segments is two for each cell. Assumes nothing.
use mathlib.Core.Path.{◌≡◌, refl, sym, ◌∙◌, ap}
use mathlib.Core.Bool.{false}
use mathlib.Core.List.{List, [], append-nil}
use Prim.Native.Nat.{ℕ, zero, suc, ◌+◌, ◌-◌, ◌*◌, ◌^◌, ◌≤◌, ◌<◌}
use native.Mathlib.Nat.{add-zero, add-suc, suc-mul, mul-le-mul, le-max_right, max-eq_left}
use native.Mathlib.Omega.{arith}
use lib.ListN.{length}
use Rattle.scope.specs.Terrain.{Sheet}
use Rattle.scope.specs.Limits.{side_limit}
use Rattle.scope.specs.Cells.{Segment, cell_number, cell_segments, opened, closed}
use Rattle.scope.specs.Stitching.{nothing, stitch_all}
use Rattle.scope.specs.Drawing.{with_cell, along, down, up_to, segments_after, drawing_after, open_after, segments_of, segment_count, higher, peak}
use Rattle.words.specs.Panes.{active, Shows, number_in}
use Rattle.words.specs.declared.Pane.{Pane}
use Rattle.words.proofs.Laws.{nothing-drawn, number-shown}
use Rattle.cells.proofs.Laws.{a-cell-draws-at-most-two}
use Rattle.laws.proofs.Edges.{Outside}
use Rattle.laws.proofs.Laws.{open-lines-are-half-the-pairs, shared-pairs-are-few, open-lines-change-by-the-table, segments-change-by-the-table, no-line-is-left}
use Rattle.scan.specs.Scanned.{Drawn, counts_after, scanned}
use Rattle.scan.specs.declared.Counts.{Counts}
use Rattle.scan.proofs.Rows.{nothing-active-outside, an-active-cell-is-inside, Unseen, Next, unseen-end}

-- before the first cell
pub counts-begin : (A : Sheet) (dx : ℕ) → record { segments = 0; open_lines = 0; peak = 0 } ≡ counts_after A dx 0 0
unfolding counts_after segments_after open_after drawing_after stitch_all nothing up_to along down
counts-begin A dx = refl

-- a whole row is where the next begins
pub row_done : (A : Sheet) (dx r : ℕ) → counts_after A dx r (suc dx) ≡ counts_after A dx (suc r) 0
unfolding counts_after segments_after open_after drawing_after up_to along down
row_done A dx r = refl

-- ---- cells that draw nothing

module _ (A : Sheet) (dx : ℕ) where
  no-segments : (r c : ℕ) → active A r c ≡ false → segments_after A dx r (suc c) ≡ segments_after A dx r c
  unfolding segments_after up_to along with_cell cell_segments
  no-segments r c h = rw (nothing-drawn A r c h) (append-nil (segments_after A dx r c))

  pub same_lines : (r c : ℕ) → active A r c ≡ false → length (open_after A dx r (suc c)) ≡ length (open_after A dx r c)
  unfolding open_after drawing_after
  same_lines r c h = ap (λ (σs : List Segment). length (stitch_all nothing σs).lines) (no-segments r c h)

  -- the open lines are never more than their peak so far
  peak-after : (r c : ℕ) → length (open_after A dx r (suc c)) ≤ up_to (higher A dx) 0 dx r (suc c)
  peak-after r c = unfold up_to along higher in le-max_right (up_to (higher A dx) 0 dx r c) (length (open_after A dx r (suc c)))

  peak-holds : (r c : ℕ) → length (open_after A dx r c) ≤ up_to (higher A dx) 0 dx r c
  peak-holds r (suc c) = peak-after r c
  peak-holds zero zero = unfold open_after drawing_after segments_after up_to along down stitch_all nothing in omega arith
  peak-holds (suc r) zero = unfold open_after drawing_after segments_after up_to along down in peak-after r dx

  same-peak : (r c : ℕ) → active A r c ≡ false → up_to (higher A dx) 0 dx r (suc c) ≡ up_to (higher A dx) 0 dx r c
  same-peak r c h =
      unfold up_to along higher in
      max-eq_left (omega (arith, peak-holds r c, same_lines r c h))

  same-counts : (r c : ℕ) → active A r c ≡ false → counts_after A dx r (suc c) ≡ counts_after A dx r c
  unfolding counts_after
  same-counts r c h = rw (no-segments r c h, same_lines r c h, same-peak r c h) refl

  -- along t such cells
  pub counts-stay : (r c t : ℕ) → ((j : ℕ) → j < t → active A r (c + j) ≡ false) → counts_after A dx r (c + t) ≡ counts_after A dx r c
  counts-stay r c zero h = ap (counts_after A dx r) (add-zero c)
  counts-stay r c (suc t) h =
      rw (add-suc c t) (same-counts r (c + t) (h t (omega arith)) ∙ counts-stay r c t (λ j l. h j (omega arith)))

module _ (A : Sheet) {dx dy : ℕ} (out : Outside A dx dy) where
  -- ---- the counts stay small

  few-in-row : (r c : ℕ) → length (segments_after A dx r c) ≤ length (segments_after A dx r 0) + 2 * c
  few-in-row r zero = omega arith
  few-in-row r (suc c) =
      omega (arith, few-in-row r c, segments-change-by-the-table A out r c, a-cell-draws-at-most-two (cell_number A c r))

  few-in-rows : (r : ℕ) → length (segments_after A dx r 0) ≤ 2 * (r * suc dx)
  few-in-rows zero = unfold segments_after up_to along down in omega arith
  few-in-rows (suc r) =
      omega (arith, few-in-row r (suc dx), few-in-rows r, suc-mul r (suc dx), ap length (whole r))
    where
      whole : (r : ℕ) → segments_after A dx r (suc dx) ≡ segments_after A dx (suc r) 0
      whole r = unfold segments_after up_to along down in refl

  pub segments-are-few : (limit r c : ℕ) → dx ≤ limit → r ≤ limit → c ≤ suc dx →
      length (segments_after A dx r c) ≤ 2 * (limit * suc limit) + 2 * suc limit
  segments-are-few limit r c hx hr hc =
      omega (arith, few-in-row r c, few-in-rows r, mul-le-mul {n₁ = r} {m₁ = suc dx} {n₂ = limit} {m₂ = suc limit} hr (omega arith))

  -- there is room for the counts of a word of cells more
  pub counts-fit : {before : Counts} (r c : ℕ) → before ≡ counts_after A dx r c → dx ≤ side_limit → r ≤ side_limit → c ≤ dx →
      (before.segments + 128 < 2 ^ 32) × (before.open_lines + 64 < 2 ^ 32)
  unfolding side_limit counts_after
  counts-fit r c e hx hr hc =
      rw e (
        omega (arith, segments-are-few side_limit r c hx hr (omega arith)),
        omega (arith, open-lines-are-half-the-pairs A out r c (omega arith), shared-pairs-are-few A out r c (omega arith)),
      )

  -- what drawing a cell asks of the counts
  cell-fits : (r c : ℕ) → dx ≤ side_limit → r ≤ side_limit → c ≤ dx →
      (length (segments_after A dx r c) + 2 < 2 ^ 32)
      × (length (open_after A dx r c) + 2 < 2 ^ 32)
      × (closed (cell_number A c r) ≤ length (open_after A dx r c) + opened (cell_number A c r))
  unfolding side_limit
  cell-fits r c hx hr hc = (
    omega (arith, segments-are-few side_limit r c hx hr (omega arith)),
    omega (arith, open-lines-are-half-the-pairs A out r c (omega arith), shared-pairs-are-few A out r c (omega arith)),
    omega (arith, open-lines-change-by-the-table A out r c hc),
  )

  -- ---- one cell more

  next-open : (r c : ℕ) (after : Counts) → c ≤ dx → Drawn (counts_after A dx r c) (cell_number A c r) after →
      after.open_lines ≡ length (open_after A dx r (suc c))
  unfolding counts_after
  next-open r c after h d = omega (arith, d.fewer-or-more, open-lines-change-by-the-table A out r c h)

  next-counts : (r c : ℕ) (after : Counts) → c ≤ dx → Drawn (counts_after A dx r c) (cell_number A c r) after →
      after ≡ counts_after A dx r (suc c)
  unfolding counts_after
  next-counts r c after h d =
      let segments : after.segments ≡ length (segments_after A dx r (suc c)) = d.more-segments ∙ sym (segments-change-by-the-table A out r c) in
      let lines : after.open_lines ≡ length (open_after A dx r (suc c)) = next-open r c after h d in
      let highest : after.peak ≡ up_to (higher A dx) 0 dx r (suc c) =
      d.highest ∙ (rw lines (unfold up_to along higher in refl))
      in
      rw (← segments, ← lines, ← highest) refl

  -- ---- the active cells of a word

  module _ {r c at j : ℕ} {left : List ℕ} {counts : Counts} {pane : Pane} (shows : Shows A r c pane) (next : Next A r c at j left)
      (so_far : counts ≡ counts_after A dx r (c + at)) where
    inside : c + j ≤ dx
    inside = an-active-cell-is-inside A out r (c + j) next.active-there

    at-the-cell : counts ≡ counts_after A dx r (c + j)
    at-the-cell = so_far ∙ sym (counts-stay A dx r (c + at) (j - at) next.none_between) ∙ ap (counts_after A dx r) (omega (arith, next.further))

    number_is : {number : ℕ} → number ≡ number_in pane j → number ≡ cell_number A (c + j) r
    number_is e = e ∙ number-shown A r c shows next.in-word

    pub active-fits : {number : ℕ} → number ≡ number_in pane j → dx ≤ side_limit → r ≤ side_limit →
        (counts.segments + 2 < 2 ^ 32) × (counts.open_lines + 2 < 2 ^ 32) × (closed number ≤ counts.open_lines + opened number)
    unfolding counts_after
    active-fits e hx hr = rw (at-the-cell, number_is e) (cell-fits r (c + j) hx hr inside)

    pub active-drawn : {number : ℕ} {after : Counts} → number ≡ number_in pane j → Drawn counts number after →
        after ≡ counts_after A dx r (c + (j + 1))
    active-drawn {number} {after} e d =
        next-counts r (c + j) after inside (rw (← at-the-cell, ← number_is e) d) ∙ ap (counts_after A dx r) (omega arith)

  pub word-counted : {r c at : ℕ} {left : List ℕ} {counts : Counts} → Unseen A r c at left → left ≡ [] → counts ≡ counts_after A dx r (c + at) → counts ≡ counts_after A dx r (c + 64)
  word-counted {r} {c} {at} u none so_far =
      so_far ∙ sym (counts-stay A dx r (c + at) (64 - at) (unseen-end A r c u none)) ∙ ap (counts_after A dx r) (omega (arith, u.seen))

  -- ---- along a row

  pub row-counted : (r c : ℕ) {counts : Counts} → counts ≡ counts_after A dx r c → dx < c → counts ≡ counts_after A dx r (suc dx)
  row-counted r c so_far far =
      so_far ∙ ap (counts_after A dx r) (omega arith)
      ∙ counts-stay A dx r (suc dx) (c - suc dx) (λ j l. nothing-active-outside A out r (suc dx + j) (omega arith))

  -- ---- the whole grid

  pub counts_end : counts_after A dx dy (suc dx) ≡ scanned A dx dy
  unfolding counts_after scanned segment_count segments_of peak
  counts_end = rw (no-line-is-left A out)

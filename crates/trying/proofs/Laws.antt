-- The laws of the trial that others cite: how a row begins, that the first row counts right whatever the words hold, that a whole row counts right over words that note
-- the lines, and that the largest numbers are those after some cell of the row. Assumes nothing.
use mathlib.Core.Path.{◌≡◌, refl, sym, ◌∙◌, ap, ap₂, subst}
use mathlib.Core.Bool.{Bool, false}
use mathlib.Core.List.{List, []}
use Prim.Native.Nat.{ℕ, zero, suc, ◌+◌, ◌-◌, ◌≤◌, ◌<◌}
use native.Mathlib.Nat.{zero-add, add-zero, add-suc}
use native.Mathlib.Omega.{arith}
use lib.ListN.{length}
use Rattle.scope.specs.Terrain.{Sheet}
use Rattle.scope.specs.Limits.{side_limit}
use Rattle.scope.specs.Cells.{drawn, case_table, cell_number, number_of}
use Rattle.scope.specs.Stitching.{Line}
use Rattle.scope.specs.Drawing.{along, down, up_to, segments_after, open_after, rings_after}
use Rattle.laws.proofs.Total.{total}
use Rattle.laws.proofs.Edges.{Outside}
use Rattle.laws.proofs.Sizes.{held_in}
use Rattle.laws.proofs.Borders.{no-ring-in-the-first-row, first-cell-keeps-lines, first-cell-keeps-segments}
use Rattle.sweep.specs.Sweep.{sample_in, between, swept, row_cells}
use Rattle.trying.specs.declared.Trial.{Trial}
use Rattle.trying.specs.Trying.{Tried, strokes_reached, number_tried, cell_tried, row_tried}
use Rattle.trying.proofs.Kept.{highest, from_one}
use Rattle.trying.proofs.Rows.{sheet_tried, NotedAfter, CountedAfter, row-noted, row-counted}

-- a trial as it begins, by the open lines and the segments in them
abbrev pub beginning : ℕ → ℕ → Trial
beginning lines held = record { lines = lines; peak = lines; held = held; most = held; rings = 0; points = 0 }

pub row-begins : (A : Sheet) (dx r : ℕ) → CountedAfter A dx r 0 (beginning (length (open_after A dx r 0)) (held_in (open_after A dx r 0)))
unfolding highest
row-begins A dx r = record { lines_are = refl; peak-is = refl; held-are = refl; most-is = refl; rings-are = zero-add (length (rings_after A dx r 0)); points-are = zero-add (total length (rings_after A dx r 0)) }

-- words that note the lines after a row note those before the next
pub next_row : (A : Sheet) (dx r : ℕ) (words : List ℕ) → NotedAfter A dx r (suc dx) words → NotedAfter A dx (suc r) 0 words
unfolding segments_after up_to along down
next_row A dx r words known = known

-- what a trial has counted over a whole row: what is open then, the largest after any cell, and what closed
pub record RowCounted (A : Sheet) (dx r : ℕ) (t : Trial) : Type 0 where
  pub lines_are : t.lines ≡ length (open_after A dx r (suc dx))
  pub peak-is : t.peak ≡ highest (λ c. length (open_after A dx r (suc c))) dx
  pub held-are : t.held ≡ held_in (open_after A dx r (suc dx))
  pub most-is : t.most ≡ highest (λ c. held_in (open_after A dx r (suc c))) dx
  pub rings-are : t.rings + length (rings_after A dx r 0) ≡ length (rings_after A dx r (suc dx))
  pub points-are : t.points + total length (rings_after A dx r 0) ≡ total length (rings_after A dx r (suc dx))

module _ (A : Sheet) {dx dy : ℕ} (out : Outside A dx dy) where
  -- the row's start is no higher than its first cell, so the largest numbers are those after a cell
  pub whole_row : (r : ℕ) (t : Trial) → CountedAfter A dx r (suc dx) t → RowCounted A dx r t
  whole_row r t k = record {
    lines_are = k.lines_are;
    peak-is = k.peak-is ∙ from_one (λ c. length (open_after A dx r c)) (first-cell-keeps-lines A out r) dx;
    held-are = k.held-are;
    most-is = k.most-is ∙ from_one (λ c. held_in (open_after A dx r c)) (first-cell-keeps-segments A out r) dx;
    rings-are = k.rings-are;
    points-are = k.points-are;
  }

  -- ---- rows of words
  module _ (r : ℕ) (upper lower : List ℕ) (above : (x : ℕ) → x < row_cells dx → sample_in upper x ≡ A (suc x) r) (below : (x : ℕ) → x < row_cells dx → sample_in lower x ≡ A (suc x) (suc r)) where
    same_number : (c : ℕ) → c < row_cells dx → cell_number (between upper lower) c 0 ≡ cell_number A c r
    unfolding cell_number between
    same_number zero h =
        ap₂ (λ (a b : Bool). number_of false a b false) (below 0 h) (above 0 h)
        ∙ ap₂ (λ (a b : Bool). number_of a (A 1 (suc r)) (A 1 r) b) (sym (out.no-column-before (suc r))) (sym (out.no-column-before r))
    same_number (suc c) h =
        ap₂ (λ (a b : Bool). number_of (sample_in lower c) a b (sample_in upper c)) (below (suc c) h) (above (suc c) h)
        ∙ ap₂ (λ (a b : Bool). number_of a (A (suc (suc c)) (suc r)) (A (suc (suc c)) r) b) (below c (omega arith)) (above c (omega arith))

    same-cells : (t : Tried) (n : ℕ) → n ≤ row_cells dx → swept (cell_tried (between upper lower) dx) t 0 n ≡ swept (sheet_tried A dx r) t 0 n
    unfolding swept cell_tried
    same-cells t zero h = refl
    same-cells t (suc n) h =
        ap₂ (λ (x : Tried) (k : ℕ). number_tried dx x k (0 + n)) (same-cells t n (omega arith))
        (ap (λ (c : ℕ). cell_number (between upper lower) c 0) (zero-add n) ∙ same_number n (omega arith) ∙ ap (λ (c : ℕ). cell_number A c r) (sym (zero-add n)))

    -- past the last column nothing is drawn
    quiet-past : (c : ℕ) → dx < c → (t : Tried) → sheet_tried A dx r t c ≡ t
    unfolding cell_number
    quiet-past c h t =
        ap₂ (λ (a b : Bool). number_tried dx t (number_of a b (A (suc c) r) (A c r)) c) (out.no-column-after c (suc r) h) (out.no-column-after (suc c) (suc r) (omega arith))
        ∙ ap₂ (λ (a b : Bool). number_tried dx t (number_of false false a b) c) (out.no-column-after (suc c) r (omega arith)) (out.no-column-after c r h)
        ∙ unfold number_tried strokes_reached drawn case_table number_of in refl

    one-past : (t : Tried) (n : ℕ) → dx < n → swept (sheet_tried A dx r) t 0 (suc n) ≡ swept (sheet_tried A dx r) t 0 n
    unfolding swept
    one-past t n h = quiet-past (0 + n) (omega arith) (swept (sheet_tried A dx r) t 0 n)

    past_row : (t : Tried) (k : ℕ) → swept (sheet_tried A dx r) t 0 (suc dx + k) ≡ swept (sheet_tried A dx r) t 0 (suc dx)
    past_row t zero = ap (swept (sheet_tried A dx r) t 0) (add-zero (suc dx))
    past_row t (suc k) =
        ap (swept (sheet_tried A dx r) t 0) (add-suc (suc dx) k)
        ∙ one-past t (suc dx + k) (omega arith)
        ∙ past_row t k

    -- the row of words is the sheet's row of dx + 1 cells
    pub row_is : (t : Tried) → row_tried upper lower dx t ≡ swept (sheet_tried A dx r) t 0 (suc dx)
    unfolding row_tried
    row_is t =
        same-cells t (row_cells dx) (omega arith)
        ∙ ap (swept (sheet_tried A dx r) t 0) longer
        ∙ past_row t (row_cells dx - suc dx)
      where
        longer : row_cells dx ≡ suc dx + (row_cells dx - suc dx)
        longer = unfold row_cells in omega arith

    module _ (columns : dx ≤ side_limit) (rows : r ≤ side_limit) where
      pub row-tried-notes : (t : Tried) → NotedAfter A dx r 0 t.words → NotedAfter A dx r (suc dx) (row_tried upper lower dx t).words
      row-tried-notes t known =
          subst (λ (x : Tried). NotedAfter A dx r (suc dx) x.words) (sym (row_is t)) (row-noted A out columns r rows t known (suc dx) (omega arith))

      pub row-tried-counts : (t : Tried) → CountedAfter A dx r 0 t.trial → NotedAfter A dx r 0 t.words → RowCounted A dx r (row_tried upper lower dx t).trial
      row-tried-counts t now known =
          subst (λ (x : Tried). RowCounted A dx r x.trial) (sym (row_is t))
          (whole_row r (swept (sheet_tried A dx r) t 0 (suc dx)).trial (row-counted A out columns r rows t now (λ h. known) (suc dx) (omega arith)))

  -- ---- the first row, over any words
  pub first-row-counted : dx ≤ side_limit → (t : Tried) → CountedAfter A dx 0 0 t.trial → (c : ℕ) → c ≤ suc dx → CountedAfter A dx 0 c (swept (sheet_tried A dx 0) t 0 c).trial
  first-row-counted columns t now c hc = row-counted A out columns 0 (unfold side_limit in omega arith) t now (λ h. absurd (omega arith)) c hc

  pub first-row-tried-counts : (upper lower : List ℕ) → ((x : ℕ) → x < row_cells dx → sample_in upper x ≡ A (suc x) 0) → ((x : ℕ) → x < row_cells dx → sample_in lower x ≡ A (suc x) 1)
      → dx ≤ side_limit → (t : Tried) → CountedAfter A dx 0 0 t.trial → RowCounted A dx 0 (row_tried upper lower dx t).trial
  first-row-tried-counts upper lower above below columns t now =
      subst (λ (x : Tried). RowCounted A dx 0 x.trial) (sym (row_is 0 upper lower above below t))
      (whole_row 0 (swept (sheet_tried A dx 0) t 0 (suc dx)).trial (first-row-counted columns t now (suc dx) (omega arith)))

  -- and it closes no ring
  pub first-row-has-none : (c : ℕ) → c ≤ suc dx → (t : Trial) → CountedAfter A dx 0 c t → (t.rings ≡ 0) × (t.points ≡ 0)
  first-row-has-none c hc t k = (
    omega (arith, k.rings-are, ap length (no-ring-in-the-first-row A out c hc)),
    omega (arith, k.points-are, ap (total length) (no-ring-in-the-first-row A out c hc), nothing-there),
  )
    where
      nothing-there : total {X = Line} length [] ≡ 0
      nothing-there = unfold total in refl

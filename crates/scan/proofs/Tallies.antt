-- Sixty-four cells at once: the counts after them by how many of them draw one segment and two, and leave one open line more and one fewer, where the
-- peak cannot rise among them. A cell's part is computed over its sixteen numbers; the sums go by induction on the cells. Assumes nothing.
use mathlib.Core.Path.{◌≡◌, refl, sym, ◌∙◌, ap}
use mathlib.Core.Bool.{Bool, false, ◌||◌}
use Prim.Native.Nat.{ℕ, zero, suc, ◌+◌, ◌-◌, ◌≤◌, ◌<◌, max}
use native.Mathlib.Nat.{add-zero, add-suc, max-eq_left}
use native.Mathlib.Decide.{dec_lt}
use native.Mathlib.Omega.{arith}
use lib.Count.{ones}
use lib.Dec.{eqb}
use lib.ListN.{length}
use borrow.Author.Tests.{eqb-true}
use Rattle.scope.specs.Terrain.{Sheet}
use Rattle.scope.specs.Cells.{when, number_of, cell_number, case_table, drawn, on_finished, met, opened, closed}
use Rattle.scope.specs.Drawing.{along, up_to, segments_after, open_after, higher}
use Rattle.words.specs.Panes.{apart, active, saddle, opening, closing, Shows, changes_in, saddles_in, opening_in, closing_in}
use Rattle.words.specs.declared.Pane.{Pane}
use Rattle.words.proofs.Packing.{bit-small}
use Rattle.words.proofs.Laws.{changes-shown, saddles-shown, opening-shown, closing-shown, tally, ones-tally}
use Rattle.laws.proofs.Edges.{Outside}
use Rattle.laws.proofs.Strokes.{every-cell}
use Rattle.laws.proofs.Laws.{open-lines-change-by-the-table, segments-change-by-the-table}
use Rattle.scan.specs.Scanned.{counts_after}
use Rattle.scan.specs.declared.Counts.{Counts}
use Rattle.scan.proofs.Rows.{nothing-active-outside}
use Rattle.scan.proofs.Steps.{same_lines}

-- a test of the four samples of cell (c, r)
abbrev pub by-samples : (Bool → Bool → Bool → Bool → Bool) → Sheet → ℕ → ℕ → Bool
by-samples test A r c = test (A c (suc r)) (A (suc c) (suc r)) (A (suc c) r) (A c r)

-- ---- one cell

module _ (A : Sheet) (r c : ℕ) where
  cell-draws : length (drawn (cell_number A c r)) ≡ when 1 (active A r c) + when 1 (by-samples saddle A r c)
  unfolding cell_number number_of drawn case_table
  cell-draws =
      eqb-true _ _
      (every-cell (λ ll lr ur ul. eqb (length (drawn (number_of ll lr ur ul))) (when 1 ((apart ur lr || apart ul ll) || apart ur ul) + when 1 (saddle ll lr ur ul))) refl
      (A c (suc r)) (A (suc c) (suc r)) (A (suc c) r) (A c r))

  cell_opens : opened (cell_number A c r) ≡ when 1 (by-samples opening A r c)
  unfolding cell_number number_of opened met on_finished drawn case_table
  cell_opens =
      eqb-true _ _
      (every-cell (λ ll lr ur ul. eqb (opened (number_of ll lr ur ul)) (when 1 (opening ll lr ur ul))) refl
      (A c (suc r)) (A (suc c) (suc r)) (A (suc c) r) (A c r))

  cell-closes : closed (cell_number A c r) ≡ when 1 (by-samples closing A r c)
  unfolding cell_number number_of closed met on_finished drawn case_table
  cell-closes =
      eqb-true _ _
      (every-cell (λ ll lr ur ul. eqb (closed (number_of ll lr ur ul)) (when 1 (closing ll lr ur ul))) refl
      (A c (suc r)) (A (suc c) (suc r)) (A (suc c) r) (A c r))

-- ---- n cells

a-few : (f : ℕ → Bool) (n : ℕ) → tally f n ≤ n
unfolding tally
a-few f zero = omega arith
a-few f (suc n) = omega (arith, a-few f n, bit-small (f n))

module _ (A : Sheet) {dx dy : ℕ} (out : Outside A dx dy) (r c : ℕ) where
  abbrev many : (Sheet → ℕ → ℕ → Bool) → ℕ → ℕ
  many test n = tally (λ j. test A r (c + j)) n

  more-segments : (n : ℕ) → length (segments_after A dx r (c + n)) ≡ length (segments_after A dx r c) + (many active n + many (by-samples saddle) n)
  unfolding tally
  more-segments zero = rw (add-zero c) (omega arith)
  more-segments (suc n) =
      rw (add-suc c n) (omega (arith, more-segments n, segments-change-by-the-table A out r (c + n), cell-draws A r (c + n)))

  -- outside, a cell opens and closes nothing
  none-outside : (n : ℕ) → dx < n → (by-samples opening A r n ≡ false) × (by-samples closing A r n ≡ false)
  none-outside n h =
      rw (out.no-column-after n r h, out.no-column-after n (suc r) h, out.no-column-after (suc n) r (omega arith), out.no-column-after (suc n) (suc r) (omega arith))
      (refl, refl)

  more-lines : (n : ℕ) → length (open_after A dx r (c + n)) + many (by-samples closing) n ≡ length (open_after A dx r c) + many (by-samples opening) n
  unfolding tally
  more-lines zero = rw (add-zero c) refl
  more-lines (suc n) =
      rw (add-suc c n)
      (elim (dec_lt dx (c + n)) [
        | yes far ↦
            omega (
              arith,
              more-lines n,
              same_lines A dx r (c + n) (nothing-active-outside A out r (c + n) far),
              ap (when 1) (none-outside (c + n) far).0,
              ap (when 1) (none-outside (c + n) far).1,
            )
        | no near ↦ omega (arith, more-lines n, open-lines-change-by-the-table A out r (c + n) (omega arith), cell_opens A r (c + n), cell-closes A r (c + n))
      ])

  same-peak-so-far : (n : ℕ) → length (open_after A dx r c) + many (by-samples opening) n ≤ up_to (higher A dx) 0 dx r c →
      up_to (higher A dx) 0 dx r (c + n) ≡ up_to (higher A dx) 0 dx r c
  same-peak-so-far zero h = ap (up_to (higher A dx) 0 dx r) (add-zero c)
  same-peak-so-far (suc n) h =
      let before = same-peak-so-far n (omega (arith, h, one_later n)) in
      rw (add-suc c n)
      (step (c + n) ∙ max-eq_left (omega (arith, h, before, ap (λ (k : ℕ). length (open_after A dx r k)) (add-suc c n), more-lines (suc n))) ∙ before)
    where
      one_later : (n : ℕ) → many (by-samples opening) n ≤ many (by-samples opening) (suc n)
      one_later n = unfold tally in omega arith

      step : (k : ℕ) → up_to (higher A dx) 0 dx r (suc k) ≡ max (up_to (higher A dx) 0 dx r k) (length (open_after A dx r (suc k)))
      step k = unfold up_to along higher in refl

  -- ---- a word of cells by its pane's tally

  module _ {pane : Pane} {changes segs opens closes : ℕ} {before : Counts} (shows : Shows A r c pane) (all : changes ≡ changes_in pane)
      (so_far : before ≡ counts_after A dx r c)
      (tallied : (segs ≡ ones changes + ones (saddles_in pane)) × (opens ≡ ones (opening_in pane)) × (closes ≡ ones (closing_in pane))) where
    segs-are : segs ≡ many active 64 + many (by-samples saddle) 64
    segs-are =
        tallied.0
        ∙ rw (all, changes-shown A r c shows, saddles-shown A r c shows, ones-tally (λ j. active A r (c + j)) 64, ones-tally (λ j. by-samples saddle A r (c + j)) 64) refl

    opens-are : opens ≡ many (by-samples opening) 64
    opens-are = tallied.1 ∙ rw (opening-shown A r c shows) (ones-tally (λ j. by-samples opening A r (c + j)) 64)

    closes-are : closes ≡ many (by-samples closing) 64
    closes-are = tallied.2 ∙ rw (closing-shown A r c shows) (ones-tally (λ j. by-samples closing A r (c + j)) 64)

    pub few-segments : segs ≤ 128
    few-segments = omega (arith, segs-are, a-few (λ j. active A r (c + j)) 64, a-few (λ j. by-samples saddle A r (c + j)) 64)

    pub few-opened : opens ≤ 64
    few-opened = omega (arith, opens-are, a-few (λ j. by-samples opening A r (c + j)) 64)

    pub few-closed : closes ≤ before.open_lines + opens
    unfolding counts_after
    few-closed = omega (arith, opens-are, closes-are, more-lines 64, ap (λ (k : Counts). k.open_lines) so_far)

    pub pane-tallied : before.open_lines + opens ≤ before.peak →
        record { segments = before.segments + segs; open_lines = before.open_lines + opens - closes; peak = before.peak } ≡ counts_after A dx r (c + 64)
    unfolding counts_after
    pane-tallied low =
        let now-segments : before.segments + segs ≡ length (segments_after A dx r (c + 64)) =
        omega (arith, segs-are, more-segments 64, ap (λ (k : Counts). k.segments) so_far)
        in
        let now-lines : before.open_lines + opens - closes ≡ length (open_after A dx r (c + 64)) =
        omega (arith, opens-are, closes-are, more-lines 64, ap (λ (k : Counts). k.open_lines) so_far)
        in
        let was : before.peak ≡ up_to (higher A dx) 0 dx r c = ap (λ (k : Counts). k.peak) so_far in
        let now-peak : before.peak ≡ up_to (higher A dx) 0 dx r (c + 64) =
        was ∙ sym (same-peak-so-far 64 (omega (arith, low, opens-are, was, ap (λ (k : Counts). k.open_lines) so_far)))
        in
        rw (now-segments, now-lines, now-peak) refl

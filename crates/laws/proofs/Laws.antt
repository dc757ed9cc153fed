-- The laws of document 01's definitions, for any sheet with nothing above outside the grid, at any sides. Contracts and later proofs cite this file.
-- Assumes nothing.
use mathlib.Core.Path.{◌≡◌, refl, sym, ◌∙◌, ap, ap₂, subst}
use mathlib.Core.Bool.{Bool, true, false, ◌&&◌}
use mathlib.Core.List.{List, [], ◌∷◌, ◌++◌}
use Prim.Native.Nat.{ℕ, zero, suc, ◌+◌, ◌-◌, ◌*◌, ◌/◌, ◌≤◌, ◌<◌}
use native.Mathlib.Nat.{add-zero, zero-add, add-suc}
use native.Mathlib.Omega.{arith}
use lib.Dec.{ltb}
use lib.ListN.{length, length-append}
use borrow.Author.Tests.{le-ltb}
use Rattle.scope.specs.Terrain.{Sheet, sheet}
use Rattle.scope.specs.Cells.{Point, Segment, drawn, cell_number, opened, closed}
use Rattle.scope.specs.Stitching.{Line, nothing, stitch_all}
use Rattle.scope.specs.Drawing.{along, down, up_to, segments_after, drawing_after, open_after, rings_after, segments_of, rings_of, segment_count, ring_count, peak}
use Rattle.scope.specs.Pairs.{differ, sum_from, pairs_along, shared_pairs, pairs_of_rows, pairs_of_sheet}
use Rattle.laws.proofs.Total.{total}
use Rattle.laws.proofs.Counting.{same}
use Rattle.laws.proofs.Conservation.{pair_sum, drawn_sum, segment_sum, conserved-from-none, Each, Closed, rings-closed}
use Rattle.laws.proofs.Edges.{Outside}
use Rattle.laws.proofs.Strokes.{finish}
use Rattle.laws.proofs.Marks.{marked}
use Rattle.laws.proofs.Cellwise.{open_count}
use Rattle.laws.proofs.Sums.{sum-nothing, sum-at-most}
use Rattle.laws.proofs.Grid.{after, one_cell, more-segments}
use Rattle.laws.proofs.Rings.{RingLaw, fault, cell-good, all_none, ring-laws}
use Rattle.laws.proofs.Peak.{peak-at-most, peak-is-highest, peak-is-reached}

-- the sheet of a grid is such a sheet
pub nothing-above-outside : (dx dy : ℕ) (inside : ℕ → ℕ → Bool) → Outside (sheet dx dy inside) dx dy
unfolding sheet
nothing-above-outside dx dy inside = record {
  no-column-before = λ r. refl;
  no-row-before = λ c. by c;
  no-column-after = columns;
  no-row-after = rows;
}
  where
    by : (c : ℕ) → sheet dx dy inside c 0 ≡ false
    by zero = refl
    by (suc c) = refl

    columns : (c r : ℕ) → dx < c → sheet dx dy inside c r ≡ false
    columns zero r h = refl
    columns (suc c) zero h = refl
    columns (suc c) (suc r) h = ap (λ (b : Bool). b && ltb r dy && inside c r) (le-ltb c dx (omega arith))

    none : (b : Bool) → b && false ≡ false
    none true = refl
    none false = refl

    rows : (c r : ℕ) → dy < r → sheet dx dy inside c r ≡ false
    rows zero r h = refl
    rows (suc c) zero h = refl
    rows (suc c) (suc r) h = ap (λ (b : Bool). b && inside c r) (ap (λ (b : Bool). ltb c dx && b) (le-ltb r dy (omega arith)) ∙ none (ltb c dx))

pub at_most_one : (a b : Bool) → differ a b ≤ 1
at_most_one true true = omega arith
at_most_one true false = omega arith
at_most_one false true = omega arith
at_most_one false false = omega arith

module _ (A : Sheet) {dx dy : ℕ} (out : Outside A dx dy) where
  -- ---- 1. after every number of cells, twice the open lines is the number of shared pairs, and that is at most dx + 2

  count-is-length : (r c : ℕ) → open_count (segments_after A dx r c) ≡ length (open_after A dx r c)
  unfolding open_count open_after drawing_after
  count-is-length r c = refl

  pub open-lines-are-half-the-pairs : (r c : ℕ) → c ≤ suc dx → 2 * length (open_after A dx r c) ≡ shared_pairs A dx r c
  open-lines-are-half-the-pairs r c h = omega (arith, (after A out r c h).half-the-pairs, count-is-length r c)

  pub shared-pairs-are-few : (r c : ℕ) → c ≤ suc dx → shared_pairs A dx r c ≤ dx + 2
  unfolding shared_pairs pairs_along
  shared-pairs-are-few r c h =
      omega (
        arith,
        at_most_one (A c r) (A c (suc r)),
        sum-at-most (λ i. differ (A i (suc r)) (A (suc i) (suc r))) (λ i. at_most_one (A i (suc r)) (A (suc i) (suc r))) 0 c,
        sum-at-most (λ i. differ (A i r) (A (suc i) r)) (λ i. at_most_one (A i r) (A (suc i) r)) c (suc dx - c),
      )

  pub the-peak-is-low : peak A dx dy ≤ (dx + 2) / 2
  the-peak-is-low =
      peak-at-most A dx ((dx + 2) / 2) dy
      (λ r c h. omega (arith, open-lines-are-half-the-pairs r (suc c) (omega arith), shared-pairs-are-few r (suc c) (omega arith)))

  -- the peak is the largest half of the shared pairs after any cell
  pub the-peak-is-highest : (r c : ℕ) → r ≤ dy → c ≤ dx → shared_pairs A dx r (suc c) ≤ 2 * peak A dx dy
  the-peak-is-highest r c hr hc = omega (arith, open-lines-are-half-the-pairs r (suc c) (omega arith), peak-is-highest A dx dy r c hr hc)

  pub the-peak-is-reached : (r : ℕ) × (c : ℕ) × (r ≤ dy) × (c ≤ dx) × (shared_pairs A dx r (suc c) ≡ 2 * peak A dx dy)
  the-peak-is-reached =
      let w = peak-is-reached A dx dy in
      (w.0, w.1, w.2, w.3, omega (arith, open-lines-are-half-the-pairs w.0 (suc w.1) (omega (arith, w.3)), w.4))

  -- the change at each cell is the case table's
  pub open-lines-change-by-the-table : (r c : ℕ) → c ≤ dx → length (open_after A dx r (suc c)) + closed (cell_number A c r) ≡ length (open_after A dx r c) + opened (cell_number A c r)
  unfolding opened closed
  open-lines-change-by-the-table r c h =
      omega (arith, (one_cell A out r c h (after A out r c (omega arith)).sound).1, count-is-length r c, count-is-length r (suc c))

  pub segments-change-by-the-table : (r c : ℕ) → length (segments_after A dx r (suc c)) ≡ length (segments_after A dx r c) + length (drawn (cell_number A c r))
  segments-change-by-the-table r c = more-segments A out r c

  -- so the segments after a cell are no more than those of the whole sheet
  row-grows : (r c k : ℕ) → length (segments_after A dx r c) ≤ length (segments_after A dx r (c + k))
  row-grows r c zero = omega (arith, ap (λ (n : ℕ). length (segments_after A dx r n)) (add-zero c))
  row-grows r c (suc k) = omega (arith, row-grows r c k, segments-change-by-the-table r (c + k), ap (λ (n : ℕ). length (segments_after A dx r n)) (add-suc c k))

  next_row : (r : ℕ) → segments_after A dx (suc r) 0 ≡ segments_after A dx r (suc dx)
  unfolding segments_after up_to along down
  next_row r = refl

  rows_grow : (r k : ℕ) → length (segments_after A dx r (suc dx)) ≤ length (segments_after A dx (r + k) (suc dx))
  rows_grow r zero = omega (arith, ap (λ (n : ℕ). length (segments_after A dx n (suc dx))) (add-zero r))
  rows_grow r (suc k) =
      omega (
        arith,
        rows_grow r k,
        ap length (next_row (r + k)),
        row-grows (suc (r + k)) 0 (suc dx),
        ap (λ (n : ℕ). length (segments_after A dx (suc (r + k)) n)) (zero-add (suc dx)),
        ap (λ (n : ℕ). length (segments_after A dx n (suc dx))) (add-suc r k),
      )

  pub segments-are-no-more : (r c : ℕ) → r ≤ dy → c ≤ suc dx → length (segments_after A dx r c) ≤ segment_count A dx dy
  unfolding segment_count segments_of
  segments-are-no-more r c hr hc =
      omega (arith, row-grows r c (suc dx - c), ap (λ (n : ℕ). length (segments_after A dx r n)) columns, rows_grow r (dy - r), ap (λ (n : ℕ). length (segments_after A dx n (suc dx))) rows)
    where
      columns : c + (suc dx - c) ≡ suc dx
      columns = omega arith

      rows : r + (dy - r) ≡ dy
      rows = omega arith

  same-open : (r : ℕ) → length (open_after A dx (suc r) 0) ≡ length (open_after A dx r (suc dx))
  unfolding open_after drawing_after
  same-open r = ap (λ (σs : List Segment). length (stitch_all nothing σs).lines) (next_row r)

  -- and the open lines never more than the peak
  pub open-lines-are-no-more : (r c : ℕ) → r ≤ dy → c ≤ suc dx → length (open_after A dx r c) ≤ peak A dx dy
  open-lines-are-no-more zero zero hr hc = unfold open_after drawing_after segments_after up_to along down stitch_all nothing in omega arith
  open-lines-are-no-more (suc r) zero hr hc =
      omega (arith, peak-is-highest A dx dy r dx (omega arith) (omega arith), same-open r)
  open-lines-are-no-more r (suc c) hr hc = peak-is-highest A dx dy r c hr (omega arith)

  -- ---- 2. after the last cell no line is open

  below_all : (i : ℕ) → differ (A i (suc dy)) (A (suc i) (suc dy)) ≡ 0
  below_all i = ap₂ differ (out.no-row-after i (suc dy) (omega arith)) (out.no-row-after (suc i) (suc dy) (omega arith))

  none-shared : shared_pairs A dx dy (suc dx) ≡ 0
  unfolding shared_pairs pairs_along
  none-shared =
      omega (
        arith,
        sum-nothing (λ i. differ (A i (suc dy)) (A (suc i) (suc dy))) below_all 0 (suc dx),
        ap₂ differ (out.no-column-after (suc dx) dy (omega arith)) (out.no-column-after (suc dx) (suc dy) (omega arith)),
        ap (sum_from (λ i. differ (A i dy) (A (suc i) dy)) (suc dx)) done,
        empty,
      )
    where
      done : suc dx - suc dx ≡ 0
      done = omega arith

      empty : sum_from (λ i. differ (A i dy) (A (suc i) dy)) (suc dx) 0 ≡ 0
      empty = unfold sum_from in refl

  pub no-line-is-left : open_after A dx dy (suc dx) ≡ []
  no-line-is-left = by (open_after A dx dy (suc dx)) (omega (arith, open-lines-are-half-the-pairs dy (suc dx) (omega arith), none-shared))
    where
      by : (ls : List Line) → length ls ≡ 0 → ls ≡ []
      by [] h = refl
      by (l ∷ ls) h = absurd (omega arith)

  -- ---- 3. conservation

  pub sums-are-conserved : (ω : Point → Point → ℕ) (r c : ℕ) → drawn_sum ω (drawing_after A dx r c) ≡ segment_sum ω (segments_after A dx r c)
  unfolding drawing_after
  sums-are-conserved ω r c = conserved-from-none ω (segments_after A dx r c)

  closed_after : (r c : ℕ) → Each Closed (rings_after A dx r c)
  unfolding rings_after drawing_after nothing
  closed_after r c = rings-closed nothing (segments_after A dx r c) tt

  rings-sum : (ω : Point → Point → ℕ) (r c : ℕ) → total (pair_sum ω) (open_after A dx r c) + total (pair_sum ω) (rings_after A dx r c) ≡ segment_sum ω (segments_after A dx r c)
  unfolding open_after rings_after drawn_sum
  rings-sum ω r c = sums-are-conserved ω r c

  -- the points of all rings are S + R
  one-more-point : (p : Point) (l : Line) → pair_sum (λ a b. 1) (p ∷ l) + 1 ≡ length (p ∷ l)
  unfolding pair_sum
  one-more-point p [] = refl
  one-more-point p (q ∷ l) = omega (arith, one-more-point q l)

  one_more : (ring : Line) → Closed ring → pair_sum (λ a b. 1) ring + 1 ≡ length ring
  one_more ring loop =
      subst (λ (l : Line). pair_sum (λ a b. 1) l + 1 ≡ length l) (sym loop.2) (one-more-point loop.0 (loop.1 ++ (loop.0 ∷ [])))

  points-of : (rings : List Line) → Each Closed rings → total length rings ≡ total (pair_sum (λ a b. 1)) rings + length rings
  unfolding total
  points-of [] loops = refl
  points-of (ring ∷ rings) loops = omega (arith, one_more ring loops.0, points-of rings loops.1)

  one_each : (σs : List Segment) → segment_sum (λ a b. 1) σs ≡ length σs
  unfolding segment_sum total
  one_each [] = refl
  one_each (σ ∷ σs) = omega (arith, one_each σs)

  pub points-are-segments-and-rings : total length (rings_of A dx dy) ≡ segment_count A dx dy + ring_count A dx dy
  unfolding rings_of segment_count segments_of ring_count
  points-are-segments-and-rings =
      omega (
        arith,
        points-of (rings_after A dx dy (suc dx)) (closed_after dy (suc dx)),
        rings-sum (λ a b. 1) dy (suc dx),
        one_each (segments_after A dx dy (suc dx)),
        ap (total (pair_sum (λ a b. 1))) no-line-is-left,
        nothing-there,
      )
    where
      nothing-there : total (pair_sum (λ a b. 1)) [] ≡ 0
      nothing-there = unfold total in refl

  -- rings are no more than segments
  two-points : (rings : List Line) → Each Closed rings → 2 * length rings ≤ total length rings
  unfolding total
  two-points [] loops = omega arith
  two-points (ring ∷ rings) loops = omega (arith, two-points rings loops.1, ap length loops.0.2, length-append loops.0.1 (loops.0.0 ∷ []))

  pub rings-are-no-more : (r c : ℕ) → length (rings_after A dx r c) ≤ length (segments_after A dx r c)
  rings-are-no-more r c =
      omega (arith, points-of (rings_after A dx r c) (closed_after r c), two-points (rings_after A dx r c) (closed_after r c), rings-sum (λ a b. 1) r c, one_each (segments_after A dx r c))

  -- ---- 4. every ring is closed, has five points or more, neighbours differ, it is inside the grid, each point lies between two neighbouring samples,
  -- and no point stands twice but the first

  pub rings-are-rings : (r c : ℕ) → r ≤ dy → c ≤ suc dx → Each (RingLaw dx dy) (rings_after A dx r c)
  rings-are-rings r c hr hc =
      ring-laws A dx dy (rings_after A dx r c) (closed_after r c)
      (unfold segment_sum in omega (arith, rings-sum (fault A dx dy) r c, all_none A dx dy (λ σ. fault A dx dy σ.from σ.to) (cell-good A out) r c hr hc))
      (λ p. unfold segment_sum marked in omega (arith, rings-sum (λ a b. same p b) r c, (after A out r c hc).sound.once finish p))

  -- ---- 5. S is the number of neighbouring pairs of the whole sheet that differ

  pub segments-are-the-pairs : segment_count A dx dy ≡ pairs_of_sheet A dx dy
  unfolding segment_count segments_of pairs_of_sheet pairs_of_rows
  segments-are-the-pairs =
      omega (arith, (after A out dy (suc dx) (omega arith)).pairs-met, count-is-length dy (suc dx), ap length no-line-is-left)

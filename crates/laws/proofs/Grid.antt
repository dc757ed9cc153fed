-- The drawing after any number of cells: it is sound, twice its open lines is the number of pairs that finished and unfinished cells share, and
-- segments and open lines together are the pairs to the right of and below the finished cells. Induction over the cells in row order; a row's end
-- costs nothing, since the pair there lies outside the grid. Assumes nothing.
use mathlib.Core.Path.{◌≡◌, refl, sym, ◌∙◌, ap, ap₂, subst}
use mathlib.Core.Bool.{Bool}
use mathlib.Core.List.{List}
use Prim.Native.Nat.{ℕ, zero, suc, ◌+◌, ◌-◌, ◌*◌, ◌≤◌}
use native.Mathlib.Nat.{le_of_suc-le-suc}
use native.Mathlib.Omega.{arith}
use lib.ListN.{length, length-append, length-map}
use Rattle.scope.specs.Terrain.{Sheet}
use Rattle.scope.specs.Cells.{Segment, placed, point_of, drawn, cell_number, cell_segments, met}
use Rattle.scope.specs.Stitching.{nothing, stitch_all}
use Rattle.scope.specs.Drawing.{along, down, up_to, with_cell, segments_after}
use Rattle.scope.specs.Pairs.{differ, sum_from, pairs_along, pairs_between, shared_pairs, pairs_of_rows}
use Rattle.laws.proofs.Total.{total}
use Rattle.laws.proofs.Counting.{ends, starts, ended, begun}
use Rattle.laws.proofs.Edges.{Outside}
use Rattle.laws.proofs.Strokes.{other, strokes-fit, met-pairs, twice-strokes}
use Rattle.laws.proofs.Marks.{marked, on_side, unmarked, shared}
use Rattle.laws.proofs.Cellwise.{Sound, open_count, Ready, strokes-drawn}
use Rattle.laws.proofs.Sums.{sum-last, sum-nothing}

module _ (A : Sheet) {dx dy : ℕ} (out : Outside A dx dy) where
  -- what holds after c cells of row r
  pub record After (r c : ℕ) : Type 0 where
    pub sound : Sound (segments_after A dx r c)
    pub half-the-pairs : 2 * open_count (segments_after A dx r c) ≡ shared_pairs A dx r c
    pub pairs-met : length (segments_after A dx r c) + open_count (segments_after A dx r c) ≡ pairs_of_rows A dx r + pairs_between A r 0 (suc c) + pairs_along A (suc r) 0 c

  pub ready : (c r : ℕ) → c ≤ dx → Sound (segments_after A dx r c) → Ready A out c r (segments_after A dx r c) (λ role. on_side role A c r)
  ready c r inside sound = record {
    as-sampled = λ role d h. h;
    unmarked-side = λ role d h. unmarked A out role c r d inside h;
    shared-side = λ role d h. shared A out role c r d inside (sound.once (other role) (point_of c r d)) h;
  }

  pub one_cell : (r c : ℕ) → c ≤ dx → Sound (segments_after A dx r c)
      → Sound (segments_after A dx r (suc c)) × (open_count (segments_after A dx r (suc c)) + met (drawn (cell_number A c r)) ≡ open_count (segments_after A dx r c) + length (drawn (cell_number A c r)))
  unfolding segments_after up_to along with_cell cell_segments cell_number
  one_cell r c inside sound =
      strokes-drawn A out c r (drawn (cell_number A c r)) (segments_after A dx r c) (λ role. on_side role A c r) sound (ready c r inside sound)
      (strokes-fit (A c (suc r)) (A (suc c) (suc r)) (A (suc c) r) (A c r))

  pub more-segments : (r c : ℕ) → length (segments_after A dx r (suc c)) ≡ length (segments_after A dx r c) + length (drawn (cell_number A c r))
  unfolding segments_after up_to along with_cell cell_segments
  more-segments r c = omega (arith, length-append (segments_after A dx r c) (cell_segments A c r), length-map (drawn (cell_number A c r)) (placed c r))

  -- the pairs that differ, of a cell's sides
  shared_step : (r c : ℕ) → c ≤ dx
      → shared_pairs A dx r (suc c) + differ (A c r) (A c (suc r)) + differ (A c r) (A (suc c) r) ≡ shared_pairs A dx r c + differ (A (suc c) r) (A (suc c) (suc r)) + differ (A c (suc r)) (A (suc c) (suc r))
  unfolding shared_pairs pairs_along
  shared_step r c inside =
      omega (arith, sum-last (λ i. differ (A i (suc r)) (A (suc i) (suc r))) c, first, ap (upper (suc c)) shorter)
    where
      upper : ℕ → ℕ → ℕ
      upper = sum_from (λ i. differ (A i r) (A (suc i) r))

      shorter : suc dx - suc c ≡ dx - c
      shorter = omega arith

      longer : suc dx - c ≡ suc (dx - c)
      longer = omega arith

      first : upper c (suc dx - c) ≡ differ (A c r) (A (suc c) r) + upper (suc c) (dx - c)
      first = ap (upper c) longer ∙ unfold sum_from in refl

  after-cell : (r c : ℕ) → c ≤ dx → After r c → After r (suc c)
  unfolding cell_number
  after-cell r c inside before = record {
    sound = (one_cell r c inside before.sound).0;
    half-the-pairs = omega (arith, before.half-the-pairs, shared_step r c inside, (one_cell r c inside before.sound).1, met-pairs ll lr ur ul, twice-strokes ll lr ur ul);
    pairs-met =
        unfold pairs_along pairs_between in
        omega (
          arith,
          before.pairs-met,
          more-segments r c,
          (one_cell r c inside before.sound).1,
          met-pairs ll lr ur ul,
          twice-strokes ll lr ur ul,
          sum-last (λ i. differ (A i r) (A i (suc r))) (suc c),
          sum-last (λ i. differ (A i (suc r)) (A (suc i) (suc r))) c,
        );
  }
    where
      ll : Bool
      ll = A c (suc r)

      lr : Bool
      lr = A (suc c) (suc r)

      ur : Bool
      ur = A (suc c) r

      ul : Bool
      ul = A c r

  -- outside the grid no pair differs
  none_before : (r : ℕ) → differ (A 0 r) (A 0 (suc r)) ≡ 0
  none_before r = ap₂ differ (out.no-column-before r) (out.no-column-before (suc r))

  none_after : (r : ℕ) → differ (A (suc dx) r) (A (suc dx) (suc r)) ≡ 0
  none_after r = ap₂ differ (out.no-column-after (suc dx) r (omega arith)) (out.no-column-after (suc dx) (suc r) (omega arith))

  same-segments : (r : ℕ) → segments_after A dx (suc r) 0 ≡ segments_after A dx r (suc dx)
  unfolding segments_after up_to along down
  same-segments r = refl

  shared-row : (r : ℕ) → shared_pairs A dx (suc r) 0 ≡ shared_pairs A dx r (suc dx)
  unfolding shared_pairs pairs_along
  shared-row r = omega (arith, none_before (suc r), none_after r, ap (lower 0) whole, ap (upper (suc dx)) done, no_pairs (suc r), empty r)
    where
      lower : ℕ → ℕ → ℕ
      lower = sum_from (λ i. differ (A i (suc r)) (A (suc i) (suc r)))

      upper : ℕ → ℕ → ℕ
      upper = sum_from (λ i. differ (A i r) (A (suc i) r))

      whole : suc dx - 0 ≡ suc dx
      whole = omega arith

      done : suc dx - suc dx ≡ 0
      done = omega arith

      no_pairs : (j : ℕ) → sum_from (λ i. differ (A i (suc j)) (A (suc i) (suc j))) 0 0 ≡ 0
      no_pairs j = unfold sum_from in refl

      empty : (j : ℕ) → sum_from (λ i. differ (A i j) (A (suc i) j)) (suc dx) 0 ≡ 0
      empty j = unfold sum_from in refl

  after-row : (r : ℕ) → After r (suc dx) → After (suc r) 0
  after-row r before = record {
    sound = subst Sound (sym (same-segments r)) before.sound;
    half-the-pairs = ap (λ (σs : List Segment). 2 * open_count σs) (same-segments r) ∙ before.half-the-pairs ∙ sym (shared-row r);
    pairs-met =
        ap (λ (σs : List Segment). length σs + open_count σs) (same-segments r)
        ∙ before.pairs-met
        ∙ unfold pairs_of_rows pairs_between pairs_along sum_from in omega (arith, none_before (suc r));
  }

  -- row 0 of the sheet lies outside the grid
  top-row : (i : ℕ) → differ (A i 0) (A (suc i) 0) ≡ 0
  top-row i = ap₂ differ (out.no-row-before i) (out.no-row-before (suc i))

  at-start : After 0 0
  unfolding segments_after up_to along down
  at-start = record {
    sound = record {
      balanced = record {
        at-ends = λ p. unfold ends ended begun stitch_all nothing total in refl;
        at-starts = λ p. unfold starts ended begun stitch_all nothing total in refl;
      };
      once = λ role p. unfold marked total in omega arith;
    };
    half-the-pairs =
        unfold open_count stitch_all nothing shared_pairs pairs_along in
        omega (arith, none_before 0, sum-nothing (λ i. differ (A i 0) (A (suc i) 0)) top-row 0 (suc dx - 0), sum-nothing-more);
    pairs-met =
        unfold open_count stitch_all nothing pairs_of_rows pairs_between pairs_along in
        omega (arith, none_before 0, sum-nothing (λ i. differ (A i 0) (A (suc i) 0)) top-row 0 (suc dx), sum-nothing-more, sum-last (λ i. differ (A i 0) (A i 1)) 0, between);
  }
    where
      sum-nothing-more : sum_from (λ i. differ (A i 1) (A (suc i) 1)) 0 0 ≡ 0
      sum-nothing-more = unfold sum_from in refl

      between : sum_from (λ i. differ (A i 0) (A i 1)) 0 0 ≡ 0
      between = unfold sum_from in refl

  row-through : (r : ℕ) → After r 0 → (c : ℕ) → c ≤ suc dx → After r c
  row-through r begin-row zero h = begin-row
  row-through r begin-row (suc c) h = after-cell r c (le_of_suc-le-suc h) (row-through r begin-row c (omega arith))

  row-start : (r : ℕ) → After r 0
  row-start zero = at-start
  row-start (suc r) = after-row r (row-through r (row-start r) (suc dx) (omega arith))

  pub after : (r c : ℕ) → c ≤ suc dx → After r c
  after r c h = row-through r (row-start r) c h

-- The whole run: after every cell the tables hold document 01's drawing, as long as they have room for the peak and for the segments. Induction over the
-- cells in row order. Assumes nothing.
use mathlib.Core.Path.{◌≡◌, refl, sym, ◌∙◌, ap, subst}
use mathlib.Core.List.{List, [], ◌++◌, map}
use Prim.Native.Nat.{ℕ, zero, suc, ◌+◌, ◌*◌, ◌^◌, ◌≤◌, ◌<◌}
use native.Mathlib.Nat.{le_of_suc-le-suc, not-suc-le-zero}
use native.Mathlib.Omega.{arith}
use lib.ListN.{length, drop, length-append, length-map}
use Rattle.scope.specs.Terrain.{Sheet}
use Rattle.scope.specs.Cells.{Segment, placed, drawn, cell_number, cell_segments}
use Rattle.scope.specs.Stitching.{nothing, stitch_all}
use Rattle.scope.specs.Drawing.{along, down, up_to, with_cell, segments_after, drawing_after, open_after, rings_after, segment_count, peak}
use Rattle.laws.proofs.Total.{total}
use Rattle.laws.proofs.Edges.{Outside}
use Rattle.laws.proofs.Strokes.{strokes-fit}
use Rattle.laws.proofs.Tips.{WordsApart, words-apart-after}
use Rattle.laws.proofs.Laws.{segments-are-no-more, open-lines-are-no-more, rings-are-no-more}
use Rattle.machine.specs.Machine.{mark, Run, entry_of, draw_cell, run_after, run_over}
use Rattle.machine.proofs.Steps.{Kept, Carried}
use Rattle.machine.proofs.Leaving.{all}
use Rattle.machine.proofs.Shapes.{Shape, shape_of}
use Rattle.machine.proofs.WholeCell.{whole-cell}
use Rattle.machine.proofs.RunCarrier.{RunFits, run-carrier, strokes-run}

module _ (A : Sheet) {dx dy : ℕ} (out : Outside A dx dy) (h room : ℕ) (kept : Kept) (peak-fits : peak A dx dy ≤ h) (links-fit : segment_count A dx dy ≤ room) (numbers : room ≤ mark) (h-small : h < 2 ^ 32) where
  -- what holds after c cells of row r
  pub record RunHolds (r c : ℕ) (run : Run) : Type 0 where
    pub carried : Carried dx h room kept (length (segments_after A dx r c)) all (stitch_all nothing (segments_after A dx r c)) run.tables
    pub next-is : run.next ≡ length (segments_after A dx r c)

  low : (r c : ℕ) → r ≤ dy → c ≤ suc dx → length (stitch_all nothing (segments_after A dx r c)).lines ≤ h
  low r c hr hc = unfold open_after drawing_after in omega (arith, open-lines-are-no-more A out r c hr hc)

  apart : (r c : ℕ) → c ≤ suc dx → WordsApart dx (stitch_all nothing (segments_after A dx r c)).lines
  apart r c hc = unfold drawing_after in words-apart-after A out r c hc

  fits : (r c : ℕ) → r ≤ dy → c ≤ suc dx → RunFits dx h room kept (length (segments_after A dx r c)) (stitch_all nothing (segments_after A dx r c))
  fits r c hr hc = record {
    links-fit = within;
    lines_fit = low r c hr hc;
    rings-fit = unfold rings_after drawing_after in omega (arith, within, rings-are-no-more A out r c);
  }
    where
      within : length (segments_after A dx r c) ≤ room
      within = omega (arith, segments-are-no-more A out r c hr hc)

  one-cell-more : (r c : ℕ) → segments_after A dx r (suc c) ≡ segments_after A dx r c ++ map (placed c r) (drawn (cell_number A c r))
  unfolding segments_after up_to along with_cell cell_segments
  one-cell-more r c = refl

  run-cell : (r c : ℕ) (run : Run) → r ≤ dy → c ≤ dx → RunHolds r c run → RunHolds r (suc c) (draw_cell A dx run c r)
  unfolding draw_cell cell_number
  run-cell r c run hr hc k = record {
    carried =
        subst (λ (σs : List Segment). Carried dx h room kept (length σs) all (stitch_all nothing σs) (draw_cell A dx run c r).tables) (sym (one-cell-more r c))
        (subst (Carried dx h room kept (length (segments_after A dx r c ++ map (placed c r) (drawn (cell_number A c r)))) all (stitch_all nothing (segments_after A dx r c ++ map (placed c r) (drawn (cell_number A c r)))))
        (strokes-run dx h room kept numbers h-small c r (entry_of dx run.tables.lines c) run (drawn (cell_number A c r)) shape)
        (whole-cell A out r c hc (run-carrier dx h room kept numbers h-small) run (record { carried = k.carried; next-is = k.next-is }) (drawn (cell_number A c r)) shape
        (strokes-fit (A c (suc r)) (A (suc c) (suc r)) (A (suc c) r) (A c r))
        (apart r c (omega arith))
        (subst (λ (σs : List Segment). WordsApart dx (stitch_all nothing σs).lines) (one-cell-more r c) (apart r (suc c) (omega arith)))
        (fits r c hr (omega arith))
        (subst (λ (σs : List Segment). RunFits dx h room kept (length σs) (stitch_all nothing σs)) (one-cell-more r c) (fits r (suc c) hr (omega arith)))).carried);
    next-is =
        ap (λ (n : ℕ). n + length (drawn (cell_number A c r))) k.next-is
        ∙ omega (arith, ap length (one-cell-more r c), length-append (segments_after A dx r c) (map (placed c r) (drawn (cell_number A c r))), length-map (drawn (cell_number A c r)) (placed c r));
  }
    where
      shape : Shape (drawn (cell_number A c r))
      shape = unfold cell_number in shape_of (A c (suc r)) (A (suc c) (suc r)) (A (suc c) r) (A c r)

  module _ (lines links : List ℕ) (lines_long : dx + 2 + 4 * h ≤ length lines) (links-long : 2 * room ≤ length links)
      (lines-kept : drop (dx + 2 + 4 * h) lines ≡ kept.past-lines) (links-kept : drop (2 * room) links ≡ kept.past-links) where
    abbrev from : Run
    from = run_over lines links

    at-start : RunHolds 0 0 (run_after A dx from 0 0)
    unfolding run_after run_over segments_after up_to along down stitch_all nothing
    at-start = record {
      carried = record {
        chains = [];
        loops = [];
        held = record {
          count-is = refl;
          chains-are = refl;
          lines-held = λ i hi. absurd (not-suc-le-zero hi);
          once = λ k. unfold total in omega arith;
          unused = λ k hk. unfold total in refl;
          rings-are = refl;
          rings-held = tt;
        };
        filed = λ i hi p tip live. absurd (not-suc-le-zero hi);
        lines_long = lines_long;
        links-long = links-long;
        lines-past = lines-kept;
        links-past = links-kept;
      };
      next-is = refl;
    }

    along-row : (r c : ℕ) → r ≤ dy → c ≤ suc dx → RunHolds r 0 (run_after A dx from r 0) → RunHolds r c (run_after A dx from r c)
    unfolding run_after up_to along
    along-row r zero hr hc k = k
    along-row r (suc c) hr hc k = run-cell r c (run_after A dx from r c) hr (le_of_suc-le-suc hc) (along-row r c hr (omega arith) k)

    row-over : (r : ℕ) → RunHolds r (suc dx) (run_after A dx from r (suc dx)) → RunHolds (suc r) 0 (run_after A dx from (suc r) 0)
    unfolding run_after up_to along down segments_after
    row-over r k = record { carried = k.carried; next-is = k.next-is }

    row-start : (r : ℕ) → r ≤ dy → RunHolds r 0 (run_after A dx from r 0)
    row-start zero hr = at-start
    row-start (suc r) hr = row-over r (along-row r (suc dx) (omega arith) (omega arith) (row-start r (omega arith)))

    -- after every cell of the grid
    pub run_holds : (r c : ℕ) → r ≤ dy → c ≤ suc dx → RunHolds r c (run_after A dx from r c)
    run_holds r c hr hc = along-row r c hr hc (row-start r hr)

-- The row machine draws by the five rules, and a cell's strokes as its definition says: so after a cell it holds document 01's drawing, where it held it before the
-- cell and there is room before and after. Assumes nothing.
use mathlib.Core.Path.{◌≡◌, refl, sym, subst}
use mathlib.Core.List.{List, [], ◌++◌, map}
use Prim.Native.Nat.{ℕ, suc, ◌≤◌, ◌<◌}
use native.Mathlib.Omega.{arith}
use lib.ListN.{length}
use Rattle.scope.specs.Terrain.{Sheet}
use Rattle.scope.specs.Cells.{Point, Segment, Stroke, placed, drawn, cell_number, cell_segments}
use Rattle.scope.specs.Stitching as rules
use Rattle.scope.specs.Stitching.{Drawing, nothing, stitch_all}
use Rattle.scope.specs.Drawing.{along, up_to, with_cell, segments_after, drawing_after}
use Rattle.laws.proofs.Edges.{Outside}
use Rattle.laws.proofs.Strokes.{strokes-fit}
use Rattle.laws.proofs.Tips.{WordsApart, words-apart-after}
use Rattle.machine.specs.Machine as machine
use Rattle.machine.specs.Machine.{Entry, entry_of, side_word}
use Rattle.machine.proofs.Leaving.{all}
use Rattle.machine.proofs.Carrier.{lines-appended, lines-started, Carrier, stroke_drawn, strokes_drawn}
use Rattle.machine.proofs.Shapes.{at_left, at_top, at_right, at-bottom, Shape, quiet, onward, backward, opening-down, opening-up, meeting-up, meeting-down, saddle-five, saddle-ten, shape_of}
use Rattle.machine.proofs.WholeCell.{whole-cell}
use Rattle.giving.specs.Giving.{Given, with_taken, ring_given, stroke_given, strokes_given, number_given}
use Rattle.giving.proofs.OpenSegments.{held-started, held-no-fewer}
use Rattle.giving.proofs.RowHolds.{Setting, Modest, RowHolds, RowFits}
use Rattle.giving.proofs.RowRules.{append-holds, prepend-holds, start-holds, join-holds}
use Rattle.giving.proofs.RowClose.{close-holds}

module _ (S : Setting) where
  -- what has room after an append or a start had it before
  pub append-fits : (d : Drawing) (f : ℕ) (p : Point) → f < length d.lines → RowFits S (rules.append d f p) → RowFits S d
  append-fits d f p hf fits = record {
    lines_fit = omega (arith, fits.lines_fit, lines-appended d f p);
    links-fit = omega (arith, fits.links-fit, held-no-fewer d f p hf);
    rings-fit = unfold rules.append in fits.rings-fit;
    points-fit = unfold rules.append in fits.points-fit;
    rings-within = unfold rules.append in fits.rings-within;
  }

  pub start_fits : (d : Drawing) (p q : Point) → RowFits S (rules.start d p q) → RowFits S d
  start_fits d p q fits = record {
    lines_fit = omega (arith, fits.lines_fit, lines-started d p q);
    links-fit = omega (arith, fits.links-fit, held-started d p q);
    rings-fit = unfold rules.start in fits.rings-fit;
    points-fit = unfold rules.start in fits.points-fit;
    rings-within = unfold rules.start in fits.rings-within;
  }

  module _ (modest : Modest S) where
    open S use {dx}

    -- ---- the machine
    abbrev pub row-carrier : Carrier dx
    row-carrier = record {
      State = Given;
      frontier = λ g. g.lines;
      Carries = λ n live d g. RowHolds S live d g;
      Fits = λ n d. RowFits S d;
      filed = λ n live d g now. now.carried.filed;
      appended = λ g s f e w. with_taken g (λ t k. machine.appended dx t k s f e w);
      prepended = λ g s f w. with_taken g (λ t k. machine.prepended dx t k s f w);
      started = λ g s e v w. with_taken g (λ t k. machine.started dx t k s e v w);
      joined = λ g s a b. with_taken g (λ t k. machine.joined dx t k s a b);
      closed = λ g s f. ring_given dx g f;
      append-carried = λ n live live' d g now s e f hf there fits alone keeps. append-holds S modest live live' d g now s e f hf there fits alone keeps;
      prepend-carried = λ n live live' d g now s e f hf there fits alone keeps. prepend-holds S modest live live' d g now s e f hf there fits alone keeps;
      start-carried = λ n live live' d g now s e fits alone keeps. start-holds S modest live live' d g now s e fits alone keeps;
      join-carried = λ n d g now before apart s e a b ha hb ne there there' fits columns. join-holds S modest d g now s e before apart a b ha hb ne there there' fits columns;
      close-carried = λ n d g now before apart s e f hf there there' fits columns. close-holds S modest d g now before apart e f hf there' fits columns;
      fits-append = λ n d f p hf fits. append-fits d f p hf fits;
      fits-start = λ n d p q fits. start_fits d p q fits;
    }

    -- ---- its strokes are those of the definition
    pub strokes-row : (c r : ℕ) (entry : Entry) (g : Given) (strokes : List Stroke) → Shape strokes → strokes_drawn row-carrier c entry r g strokes ≡ strokes_given dx c r entry g strokes
    unfolding strokes_drawn stroke_drawn strokes_given stroke_given side_word
    strokes-row c r entry g [] quiet = refl
    strokes-row c r entry g _ (onward at_left at_right) = refl
    strokes-row c r entry g _ (onward at_left at-bottom) = refl
    strokes-row c r entry g _ (onward at_top at_right) = refl
    strokes-row c r entry g _ (onward at_top at-bottom) = refl
    strokes-row c r entry g _ (backward at_right at_left) = refl
    strokes-row c r entry g _ (backward at_right at_top) = refl
    strokes-row c r entry g _ (backward at-bottom at_left) = refl
    strokes-row c r entry g _ (backward at-bottom at_top) = refl
    strokes-row c r entry g _ opening-down = refl
    strokes-row c r entry g _ opening-up = refl
    strokes-row c r entry g _ meeting-up = refl
    strokes-row c r entry g _ meeting-down = refl
    strokes-row c r entry g _ saddle-five = refl
    strokes-row c r entry g _ saddle-ten = refl

    -- ---- a cell
    module _ (A : Sheet) (out : Outside A dx S.dy) where
      one-cell-more : (r c : ℕ) → segments_after A dx r (suc c) ≡ segments_after A dx r c ++ map (placed c r) (drawn (cell_number A c r))
      unfolding segments_after up_to along with_cell cell_segments
      one-cell-more r c = refl

      apart : (r c : ℕ) → c ≤ suc dx → WordsApart dx (stitch_all nothing (segments_after A dx r c)).lines
      apart r c hc = unfold drawing_after in words-apart-after A out r c hc

      pub cell_holds : (r c : ℕ) (g : Given) → c ≤ dx → RowFits S (drawing_after A dx r c) → RowFits S (drawing_after A dx r (suc c)) → RowHolds S all (drawing_after A dx r c) g
          → RowHolds S all (drawing_after A dx r (suc c)) (number_given dx r g (cell_number A c r) c)
      unfolding drawing_after number_given
      cell_holds r c g hc fits fits' now =
          subst (λ (σs : List Segment). RowHolds S all (stitch_all nothing σs) (number_given dx r g (cell_number A c r) c)) (sym (one-cell-more r c))
          (subst (RowHolds S all (stitch_all nothing (segments_after A dx r c ++ map (placed c r) (drawn (cell_number A c r)))))
          (strokes-row c r (entry_of dx g.lines c) g (drawn (cell_number A c r)) shape)
          (whole-cell A out r c hc row-carrier g now (drawn (cell_number A c r)) shape
          (unfold cell_number in strokes-fit (A c (suc r)) (A (suc c) (suc r)) (A (suc c) r) (A c r))
          (apart r c (omega arith))
          (subst (λ (σs : List Segment). WordsApart dx (stitch_all nothing σs).lines) (one-cell-more r c) (apart r (suc c) (omega arith)))
          fits
          (subst (λ (σs : List Segment). RowFits S (stitch_all nothing σs)) (one-cell-more r c) fits')))
        where
          shape : Shape (drawn (cell_number A c r))
          shape = unfold cell_number in shape_of (A c (suc r)) (A (suc c) (suc r)) (A (suc c) r) (A c r)

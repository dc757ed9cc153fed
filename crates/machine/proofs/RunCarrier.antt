-- The table machine draws by the five rules: its tables, with the number of the next link, carry a drawing of n segments in the links below n. What it draws over
-- a cell's strokes is what its definition says. Assumes nothing.
use mathlib.Core.Path.{◌≡◌, refl, sym, ap, subst}
use mathlib.Core.Bool.{Bool, true, false, cond}
use mathlib.Core.List.{List, []}
use Prim.Native.Nat.{ℕ, suc, ◌+◌, ◌^◌, ◌≤◌, ◌<◌}
use native.Mathlib.Omega.{arith}
use lib.Dec.{eqb}
use lib.ListN.{length}
use Rattle.scope.specs.declared.Side.{Side}
use Rattle.scope.specs.declared.Side.TheVariants.{Left, Right, Top, Bottom}
use Rattle.scope.specs.Cells.{Point, Stroke, point_of, point_index, indexed_point}
use Rattle.scope.specs.Stitching as rules
use Rattle.scope.specs.Stitching.{Line, Drawing}
use Rattle.laws.proofs.Tips.{edge_word}
use Rattle.machine.specs.Machine as machine
use Rattle.machine.specs.Machine.{mark, Tables, Run, Entry, draw_stroke, draw_strokes}
use Rattle.machine.proofs.Held.{rings-counted}
use Rattle.machine.proofs.Leaving.{all}
use Rattle.machine.proofs.Steps as steps
use Rattle.machine.proofs.Steps.{Kept, Carried, next-handed}
use Rattle.machine.proofs.Leaves as leaves
use Rattle.machine.proofs.Carrier.{lines-appended, lines-prepended, lines-started, rings-appended, rings-started, rings-closed, Carrier, stroke_drawn, strokes_drawn}
use Rattle.machine.proofs.Shapes.{at_left, at_top, at_right, at-bottom, Shape, quiet, onward, backward, opening-down, opening-up, meeting-up, meeting-down, saddle-five, saddle-ten}

-- one segment more, by a rule that takes the next link
abbrev pub with-next : Run → (Tables → ℕ → Tables) → Run
with-next run rule = record { tables = rule run.tables run.next; next = suc run.next }

module _ (dx h room : ℕ) (kept : Kept) where
  -- the tables hold the drawing, and the next link is the one behind its segments
  pub record RunCarries (n : ℕ) (live : Point → Type 0) (d : Drawing) (run : Run) : Type 0 where
    pub carried : Carried dx h room kept n live d run.tables
    pub next-is : run.next ≡ n

  -- room for the segments, the open lines and the rings
  pub record RunFits (n : ℕ) (d : Drawing) : Type 0 where
    pub links-fit : n ≤ room
    pub lines_fit : length d.lines ≤ h
    pub rings-fit : length d.rings ≤ room

  module _ (numbers : room ≤ mark) (h-small : h < 2 ^ 32) where
    -- ---- the five rules

    -- a rule that carries the drawing after it with link n does so with the next link
    pub next-carried : (n : ℕ) (live live' : Point → Type 0) (d d' : Drawing) (run : Run) (rule : Tables → ℕ → Tables) → RunCarries n live d run
        → Carried dx h room kept (suc n) live' d' (rule run.tables n) → RunCarries (suc n) live' d' (with-next run rule)
    next-carried n live live' d d' run rule now after = record {
      carried = subst (λ (k : ℕ). Carried dx h room kept (suc n) live' d' (rule run.tables k)) (sym now.next-is) after;
      next-is = ap suc now.next-is;
    }

    -- a ring more is still few
    pub rings-few : (n : ℕ) (d : Drawing) (run : Run) (now : Carried dx h room kept n all d run.tables) (s e f : ℕ) → RunFits (suc n) (rules.close d f (indexed_point dx e)) → length now.loops + 1 < 2 ^ 32
    unfolding mark
    rings-few n d run now s e f fits' =
        omega (
          arith,
          numbers,
          fits'.rings-fit,
          rings-closed d f (indexed_point dx e),
          rings-counted dx run.tables.links run.tables.progress.head now.loops d.rings run.tables.progress.tail now.held.rings-held,
        )

    -- ---- the machine
    abbrev pub run-carrier : Carrier dx
    run-carrier = record {
      State = Run;
      frontier = λ run. run.tables.lines;
      Carries = RunCarries;
      Fits = RunFits;
      filed = λ n live d run now. now.carried.filed;
      appended = λ run s f e w. with-next run (λ t k. machine.appended dx t k s f e w);
      prepended = λ run s g w. with-next run (λ t k. machine.prepended dx t k s g w);
      started = λ run s e v w. with-next run (λ t k. machine.started dx t k s e v w);
      joined = λ run s f g. with-next run (λ t k. machine.joined dx t k s f g);
      closed = λ run s f. with-next run (λ t k. machine.closed dx t k s f);
      append-carried = λ n live live' d run now s e f hf there fits alone keeps.
          next-carried n live live' d (rules.append d f (indexed_point dx e)) run (λ t k. machine.appended dx t k s f e (edge_word dx (indexed_point dx e))) now
          (steps.append-carried dx h room kept n (suc n) live live' d run.tables now.carried n (next-handed now.carried (omega (arith, fits.links-fit))) s e
          f hf (omega (arith, fits.lines_fit, lines-appended d f (indexed_point dx e))) there alone keeps);
      prepend-carried = λ n live live' d run now s e g hg there fits alone keeps.
          next-carried n live live' d (rules.prepend d g (indexed_point dx s)) run (λ t k. machine.prepended dx t k s g (edge_word dx (indexed_point dx s))) now
          (steps.prepend-carried dx h room kept n (suc n) live live' d run.tables now.carried n (next-handed now.carried (omega (arith, fits.links-fit))) s e
          g hg (omega (arith, fits.lines_fit, lines-prepended d g (indexed_point dx s))) there alone keeps);
      start-carried = λ n live live' d run now s e fits alone keeps.
          next-carried n live live' d (rules.start d (indexed_point dx s) (indexed_point dx e)) run (λ t k. machine.started dx t k s e (edge_word dx (indexed_point dx s)) (edge_word dx (indexed_point dx e))) now
          (steps.start-carried dx h room kept n (suc n) live live' d run.tables now.carried n (next-handed now.carried (omega (arith, fits.links-fit))) s e
          (omega (arith, fits.lines_fit, lines-started d (indexed_point dx s) (indexed_point dx e))) (omega (arith, fits.lines_fit, lines-started d (indexed_point dx s) (indexed_point dx e))) alone keeps);
      join-carried = λ n d run now fits apart s e f g hf hg ne there there' fits' columns.
          next-carried n all all d (rules.join d f g) run (λ t k. machine.joined dx t k s f g) now
          (leaves.join-carried dx h room kept n (suc n) d run.tables now.carried n (next-handed now.carried (omega (arith, fits'.links-fit))) s e fits.lines_fit apart f g hf hg ne there there' columns);
      close-carried = λ n d run now fits apart s e f hf there there' fits' columns.
          next-carried n all all d (rules.close d f (indexed_point dx e)) run (λ t k. machine.closed dx t k s f) now
          (leaves.close-carried dx h room kept n (suc n) d run.tables now.carried n (next-handed now.carried (omega (arith, fits'.links-fit))) s e fits.lines_fit apart f hf there there'
          (omega (arith, fits.links-fit)) columns
          (rings-few n d run now.carried s e f fits'));
      fits-append = λ n d f p hf fits.
          record {
            links-fit = omega (arith, fits.links-fit);
            lines_fit = omega (arith, fits.lines_fit, lines-appended d f p);
            rings-fit = subst (λ (l : List Line). length l ≤ room) (rings-appended d f p) fits.rings-fit;
          };
      fits-start = λ n d p q fits.
          record {
            links-fit = omega (arith, fits.links-fit);
            lines_fit = omega (arith, fits.lines_fit, lines-started d p q);
            rings-fit = subst (λ (l : List Line). length l ≤ room) (rings-started d p q) fits.rings-fit;
          };
    }

    -- ---- its strokes are those of the definition
    module _ (c r : ℕ) (entry : Entry) (run : Run) where
      abbrev at : Side → ℕ
      at d = point_index dx (point_of c r d)

      -- the machine closes or joins, and takes one link either way
      met : (b : Bool) (s f g : ℕ) → cond b (with-next run (λ t k. machine.closed dx t k s f)) (with-next run (λ t k. machine.joined dx t k s f g))
          ≡ with-next run (λ t k. cond b (machine.closed dx t k s f) (machine.joined dx t k s f g))
      met true s f g = refl
      met false s f g = refl

      pub strokes-run : (strokes : List Stroke) → Shape strokes → (strokes_drawn run-carrier c entry r run strokes).tables ≡ draw_strokes dx c r entry run.tables strokes run.next
      unfolding strokes_drawn stroke_drawn draw_strokes draw_stroke
      strokes-run [] quiet = refl
      strokes-run _ (onward at_left at_right) = refl
      strokes-run _ (onward at_left at-bottom) = refl
      strokes-run _ (onward at_top at_right) = refl
      strokes-run _ (onward at_top at-bottom) = refl
      strokes-run _ (backward at_right at_left) = refl
      strokes-run _ (backward at_right at_top) = refl
      strokes-run _ (backward at-bottom at_left) = refl
      strokes-run _ (backward at-bottom at_top) = refl
      strokes-run _ opening-down = refl
      strokes-run _ opening-up = refl
      strokes-run _ meeting-up = ap (λ (now : Run). now.tables) (met (eqb entry.left entry.top) (at Left) entry.left entry.top)
      strokes-run _ meeting-down = ap (λ (now : Run). now.tables) (met (eqb entry.top entry.left) (at Top) entry.top entry.left)
      strokes-run _ saddle-five = refl
      strokes-run _ saddle-ten = ap (λ (now : Run). machine.started dx now.tables now.next (at Right) (at Bottom) (dx + 1) c) (met (eqb entry.left entry.top) (at Left) entry.left entry.top)

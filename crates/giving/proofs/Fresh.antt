-- How many links were ever used follows from how many are held: after each stroke and after each cell it is the larger of what it was and of what is held then,
-- since the stroke that closes a line takes no link. Assumes nothing.
use mathlib.Core.Path.{◌≡◌}
use mathlib.Core.Bool.{Bool, true, false, cond}
use mathlib.Core.List.{List, []}
use Prim.Native.Nat.{ℕ, suc, max, ◌+◌, ◌^◌, ◌≤◌, ◌<◌}
use native.Mathlib.Omega.{arith}
use lib.Dec.{eqb}
use Rattle.scope.specs.Terrain.{Sheet}
use Rattle.scope.specs.Cells.{Stroke, drawn, cell_number}
use Rattle.machine.specs.Machine.{Tables, Entry, entry_of, side_word}
use Rattle.machine.proofs.Shapes.{at_left, at_top, at_right, at-bottom, Shape, quiet, onward, backward, opening-down, opening-up, meeting-up, meeting-down, saddle-five, saddle-ten, shape_of}
use Rattle.giving.specs.Giving.{Given, with_taken, ring_given, stroke_given, strokes_given, number_given}
use Rattle.giving.proofs.Stock.{held_more, fresh-follows}

-- after strokes that hold n links more at the most
pub record Follows (n : ℕ) (g g' : Given) : Type 0 where
  pub fresh-is : g'.play.fresh ≡ max g.play.fresh g'.play.held
  pub held-few : g'.play.held ≤ g.play.held + n

module _ (dx : ℕ) (g : Given) (within : g.play.held ≤ g.play.fresh) (small : g.play.held + 2 < 2 ^ 32) where
  -- one stroke
  taken : (rule : Tables → ℕ → Tables) → Follows 1 g (with_taken g rule)
  unfolding with_taken
  taken rule = record {
    fresh-is = omega (arith, fresh-follows g.play g.links within (omega arith), held_more g.play g.links (omega arith));
    held-few = omega (arith, held_more g.play g.links (omega arith));
  }

  closed : (f : ℕ) → Follows 1 g (ring_given dx g f)
  unfolding ring_given
  closed f = record { fresh-is = omega arith; held-few = omega arith }

  met : (b : Bool) (f : ℕ) (rule : Tables → ℕ → Tables) → Follows 1 g (cond b (ring_given dx g f) (with_taken g rule))
  met true f rule = closed f
  met false f rule = taken rule

  -- and one more that takes a link
  then-taken : (g₁ : Given) (rule : Tables → ℕ → Tables) → Follows 1 g g₁ → Follows 2 g (with_taken g₁ rule)
  unfolding with_taken
  then-taken g₁ rule first = record {
    fresh-is = omega (arith, first.fresh-is, first.held-few, fresh-follows g₁.play g₁.links (omega (arith, first.fresh-is)) (omega (arith, first.held-few)), held_more g₁.play g₁.links (omega (arith, first.held-few)));
    held-few = omega (arith, first.held-few, held_more g₁.play g₁.links (omega (arith, first.held-few)));
  }

  at_most_two : (g' : Given) → Follows 1 g g' → Follows 2 g g'
  at_most_two g' f = record { fresh-is = f.fresh-is; held-few = omega (arith, f.held-few) }

  pub strokes-follow : (c r : ℕ) (entry : Entry) (strokes : List Stroke) → Shape strokes → Follows 2 g (strokes_given dx c r entry g strokes)
  unfolding strokes_given stroke_given side_word
  strokes-follow c r entry [] quiet = record { fresh-is = omega arith; held-few = omega arith }
  strokes-follow c r entry _ (onward at_left at_right) = at_most_two _ (taken _)
  strokes-follow c r entry _ (onward at_left at-bottom) = at_most_two _ (taken _)
  strokes-follow c r entry _ (onward at_top at_right) = at_most_two _ (taken _)
  strokes-follow c r entry _ (onward at_top at-bottom) = at_most_two _ (taken _)
  strokes-follow c r entry _ (backward at_right at_left) = at_most_two _ (taken _)
  strokes-follow c r entry _ (backward at_right at_top) = at_most_two _ (taken _)
  strokes-follow c r entry _ (backward at-bottom at_left) = at_most_two _ (taken _)
  strokes-follow c r entry _ (backward at-bottom at_top) = at_most_two _ (taken _)
  strokes-follow c r entry _ opening-down = at_most_two _ (taken _)
  strokes-follow c r entry _ opening-up = at_most_two _ (taken _)
  strokes-follow c r entry _ meeting-up = at_most_two _ (met (eqb entry.left entry.top) entry.left _)
  strokes-follow c r entry _ meeting-down = at_most_two _ (met (eqb entry.top entry.left) entry.top _)
  strokes-follow c r entry _ saddle-five = then-taken _ _ (taken _)
  strokes-follow c r entry _ saddle-ten = then-taken _ _ (met (eqb entry.left entry.top) entry.left _)

  -- a cell
  pub cell-follows : (A : Sheet) (r c : ℕ) → Follows 2 g (number_given dx r g (cell_number A c r) c)
  unfolding number_given cell_number
  cell-follows A r c = strokes-follow c r (entry_of dx g.lines c) (drawn (cell_number A c r)) (shape_of (A c (suc r)) (A (suc c) (suc r)) (A (suc c) r) (A c r))

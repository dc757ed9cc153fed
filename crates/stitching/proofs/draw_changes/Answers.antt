-- `stitching::draw_changes` meets its contract. The loop's invariant: the run is that after the cells that are seen, and the places of the other active ones
-- are left. Assumes nothing.
use mathlib.Core.Path.{refl, ◌∙◌}
use Prim.Native.Nat.{◌+◌}
use native.Mathlib.Omega.{arith}
use Rattle.scope.specs.Limits.{side_limit}
use Rattle.scan.proofs.Samples.{terrain-outside}
use Rattle.scan.proofs.Rows.{unseen-begin, unseen-next}
use Rattle.stitching.specs.Rows.{cells_drawn}
use Rattle.stitching.proofs.Steps.{word-few, active-inside, active-drawn, word-drawn}
use Rattle.stitching.proofs.draw_changes.Goals as goal

pub loop-j-init : goal.loop-j-init
unfolding cells_drawn
loop-j-init c = (
  0,
  unseen-begin _ _ _ c.requires.shows (omega (arith, c.requires.changes_value)) (c.into_iter-j-iterator.ensures.into_iter_gives ∙ c.set_bits-j-items.ensures),
  refl,
)

pub number_in-number-requires : goal.number_in-number-requires
number_in-number-requires c = (unseen-next _ _ _ c.loop-j.invariant.1 c.in-Some.ensures.steps).in-word

pub overflow_cast-c : goal.overflow_cast-c
unfolding side_limit
overflow_cast-c c =
    let next = unseen-next _ _ _ c.loop-j.invariant.1 c.in-Some.ensures.steps in
    omega (arith, c.args.grid.sized.columns, active-inside _ _ _ (terrain-outside _ _ _ _) c.requires.shows next c.loop-j.invariant.2 c.number_in-number.ensures)

pub overflow_add-c : goal.overflow_add-c
unfolding side_limit
overflow_add-c c =
    let next = unseen-next _ _ _ c.loop-j.invariant.1 c.in-Some.ensures.steps in
    omega (arith, c.args.grid.sized.columns, active-inside _ _ _ (terrain-outside _ _ _ _) c.requires.shows next c.loop-j.invariant.2 c.number_in-number.ensures)

pub draw_cell-run-requires : goal.draw_cell-run-requires
draw_cell-run-requires c =
    let so_far = c.loop-j.invariant in
    let next = unseen-next _ _ _ so_far.1 c.in-Some.ensures.steps in record {
      within = record {
        columns = c.args.grid.sized.columns;
        column = active-inside _ _ _ (terrain-outside _ _ _ _) c.requires.shows next so_far.2 c.number_in-number.ensures;
        row = omega arith;
      };
      next_bound = omega (arith, next.further, next.in-word, c.requires.next_bound, word-few _ _ _ _ _ _ so_far.2);
    }

pub loop-j-preserved : goal.loop-j-preserved
loop-j-preserved c =
    let so_far = c.loop-j.invariant in
    let next = unseen-next _ _ _ so_far.1 c.in-Some.ensures.steps in (
      c.in-Some.j + 1,
      next.unseen-then,
      active-drawn _ _ _ (terrain-outside _ _ _ _) c.requires.shows next so_far.2 c.number_in-number.ensures c.draw_cell-run.ensures,
    )

pub returns : goal.returns
returns c =
    let so_far = c.loop-j.invariant in word-drawn _ _ _ so_far.1 c.in-None.ensures.steps.0 so_far.2

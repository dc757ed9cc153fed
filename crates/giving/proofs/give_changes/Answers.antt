-- `giving::give_changes` meets its contract. The loop's invariant: the tables and the counts are those after the cells that are seen, and the places of the
-- other active ones are left. Assumes nothing.
use mathlib.Core.Path.{◌∙◌}
use Prim.Native.Nat.{◌+◌}
use native.Mathlib.Omega.{arith}
use Rattle.scope.specs.Limits.{side_limit}
use Rattle.words.proofs.Laws.{number-shown}
use Rattle.scan.proofs.Rows.{unseen-begin, unseen-next}
use Rattle.sweep.proofs.Steps.{word-begun, active-swept, word-swept}
use Rattle.giving.proofs.Cells.{still, cell-of, word-stops}
use Rattle.giving.proofs.give_changes.Goals as goal

pub loop-j-init : goal.loop-j-init
loop-j-init c = (
  0,
  unseen-begin _ _ _ c.requires.shows c.requires.changes_value (c.into_iter-j-iterator.ensures.into_iter_gives ∙ c.set_bits-j-items.ensures),
  word-begun _ _ _,
)

pub overflow_add-c : goal.overflow_add-c
unfolding side_limit
overflow_add-c c =
    let next = unseen-next _ _ _ c.loop-j.invariant.1 c.in-Some.ensures.steps in
    omega (arith, c.requires.within.columns, c.requires.within.column, next.in-word)

pub returns-then-dx-c : goal.returns-then-dx-c
returns-then-dx-c c =
    let so_far = c.loop-j.invariant in
    word-stops _ _ _ _ (unseen-next _ _ _ so_far.1 c.in-Some.ensures.steps) c.if-dx-c.true so_far.2

pub number_in-number-requires : goal.number_in-number-requires
number_in-number-requires c = (unseen-next _ _ _ c.loop-j.invariant.1 c.in-Some.ensures.steps).in-word

pub overflow_add-c-in-loop-j : goal.overflow_add-c-in-loop-j
unfolding side_limit
overflow_add-c-in-loop-j c =
    let next = unseen-next _ _ _ c.loop-j.invariant.1 c.in-Some.ensures.steps in
    omega (arith, c.requires.within.columns, c.requires.within.column, next.in-word)

pub give_cell-play-requires : goal.give_cell-play-requires
give_cell-play-requires c =
    record { columns = c.requires.within.columns; column = c.if-dx-c.false; row = c.requires.within.row }

pub loop-j-preserved : goal.loop-j-preserved
loop-j-preserved c =
    let so_far = c.loop-j.invariant in
    let next = unseen-next _ _ _ so_far.1 c.in-Some.ensures.steps in (
      c.in-Some.j + 1,
      next.unseen-then,
      active-swept _ _ _ (still _ _ _) _ next so_far.2
          (c.give_cell-play.ensures
          ∙ cell-of _ _ _ _ _ c.if-dx-c.false (c.number_in-number.ensures ∙ number-shown _ _ _ c.requires.shows next.in-word)),
    )

pub returns : goal.returns
returns c =
    let so_far = c.loop-j.invariant in word-swept _ _ _ (still _ _ _) _ so_far.1 c.in-None.ensures.steps.0 so_far.2

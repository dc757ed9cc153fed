-- `trying::try_changes` meets its contract. The loop's invariant: what is tried is what the cells that are seen come to, and the places of the other active
-- ones are left. Assumes nothing.
use mathlib.Core.Path.{◌∙◌}
use Prim.Native.Nat.{◌+◌}
use native.Mathlib.Omega.{arith}
use Rattle.scope.specs.Limits.{side_limit}
use Rattle.words.proofs.Laws.{number-shown}
use Rattle.scan.proofs.Rows.{unseen-begin, unseen-next}
use Rattle.sweep.proofs.Steps.{word-begun, active-swept, word-swept}
use Rattle.trying.proofs.ByNumber.{still, cell-of}
use Rattle.trying.proofs.try_changes.Goals as goal

pub loop-j-init : goal.loop-j-init
loop-j-init c = (
  0,
  unseen-begin _ _ _ c.requires.shows c.requires.changes_value (c.into_iter-j-iterator.ensures.into_iter_gives ∙ c.set_bits-j-items.ensures),
  word-begun _ _ _,
)

pub number_in-number-requires : goal.number_in-number-requires
number_in-number-requires c = (unseen-next _ _ _ c.loop-j.invariant.1 c.in-Some.ensures.steps).in-word

pub overflow_add-c : goal.overflow_add-c
unfolding side_limit
overflow_add-c c =
    let next = unseen-next _ _ _ c.loop-j.invariant.1 c.in-Some.ensures.steps in
    omega (arith, c.requires.dx_le_side_limit.0, c.requires.dx_le_side_limit.1, next.in-word)

pub try_cell-trial-requires : goal.try_cell-trial-requires
unfolding side_limit
try_cell-trial-requires c =
    let next = unseen-next _ _ _ c.loop-j.invariant.1 c.in-Some.ensures.steps in
    (c.requires.dx_le_side_limit.0, omega (arith, c.requires.dx_le_side_limit.0, c.requires.dx_le_side_limit.1, next.in-word))

pub loop-j-preserved : goal.loop-j-preserved
loop-j-preserved c =
    let so_far = c.loop-j.invariant in
    let next = unseen-next _ _ _ so_far.1 c.in-Some.ensures.steps in (
      c.in-Some.j + 1,
      next.unseen-then,
      active-swept _ _ _ (still _ _) _ next so_far.2
          (c.try_cell-trial.ensures ∙ cell-of _ _ _ _ (c.number_in-number.ensures ∙ number-shown _ _ _ c.requires.shows next.in-word)),
    )

pub returns : goal.returns
returns c =
    let so_far = c.loop-j.invariant in word-swept _ _ _ (still _ _) _ so_far.1 c.in-None.ensures.steps.0 so_far.2

-- `scan::with_changes` meets its contract. The loop's invariant: the counts are those after the cells that are seen, and the places of the other active ones
-- are left. Assumes nothing.
use mathlib.Core.Path.{sym, ◌∙◌, ap}
use Prim.Native.Nat.{◌+◌}
use native.Mathlib.Nat.{add-zero}
use native.Mathlib.Omega.{arith}
use Rattle.words.specs.Panes.{number_in}
use Rattle.scan.specs.Scanned.{counts_after}
use Rattle.scan.proofs.Samples.{terrain-outside}
use Rattle.scan.proofs.Rows.{unseen-begin, unseen-next}
use Rattle.scan.proofs.Steps.{active-fits, active-drawn, word-counted}
use Rattle.scan.proofs.with_changes.Goals as goal

pub loop-j-init : goal.loop-j-init
loop-j-init c = (
  0,
  unseen-begin _ _ _ c.requires.shows c.requires.changes_value (c.into_iter-j-iterator.ensures.into_iter_gives ∙ c.set_bits-j-items.ensures),
  c.requires.before_value ∙ ap (counts_after _ _ _) (sym (add-zero c.args.c)),
)

pub number_in-requires : goal.number_in-requires
number_in-requires c = omega (arith, (unseen-next _ _ _ c.loop-j.invariant.1 c.in-Some.ensures.steps).in-word)

pub with_cell-counts-requires : goal.with_cell-counts-requires
with_cell-counts-requires c =
    let so_far = c.loop-j.invariant in
    let next = unseen-next _ _ _ so_far.1 c.in-Some.ensures.steps in
    active-fits _ (terrain-outside _ _ _ _) c.requires.shows next so_far.2
    (c.number_in.ensures ∙ ap (number_in c.args.pane) (omega (arith, next.in-word))) c.args.grid.sized.columns (omega (arith, c.args.grid.sized.rows))

pub loop-j-preserved : goal.loop-j-preserved
loop-j-preserved c =
    let so_far = c.loop-j.invariant in
    let next = unseen-next _ _ _ so_far.1 c.in-Some.ensures.steps in (
      c.in-Some.j + 1,
      next.unseen-then,
      active-drawn _ (terrain-outside _ _ _ _) c.requires.shows next so_far.2
          (c.number_in.ensures ∙ ap (number_in c.args.pane) (omega (arith, next.in-word))) c.with_cell-counts.ensures,
    )

pub returns : goal.returns
returns c =
    let so_far = c.loop-j.invariant in word-counted _ (terrain-outside _ _ _ _) so_far.1 c.in-None.ensures.steps.0 so_far.2

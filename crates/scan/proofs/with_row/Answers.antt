-- `scan::with_row` meets its contract. The loop's invariant: the words of the row are walked so far, their tiles are marked, and the counts are those after
-- the cells of these words. Assumes nothing.
use mathlib.Core.Path.{refl, ◌∙◌, ap}
use native.Mathlib.Omega.{arith}
use Rattle.scope.specs.Limits.{side_limit}
use Rattle.scan.specs.Scanned.{counts_after}
use Rattle.scan.proofs.Samples.{terrain-outside}
use Rattle.scan.proofs.Rows.{walk_begins, walk-goes-on, walk_ends, pane-there, row-begins, word-noted, row_ends}
use Rattle.scan.proofs.Steps.{row-counted}
use Rattle.scan.proofs.with_row.Goals as goal

pub loop-w-init : goal.loop-w-init
loop-w-init c =
    (walk_begins _ _ (terrain-outside _ _ _ _) c.requires.kept, row-begins _ _ c.requires.marked, c.requires.before_value)

pub with_pane-counts-requires : goal.with_pane-counts-requires
unfolding side_limit
with_pane-counts-requires c =
    let so_far = c.loop-w.invariant in record { r_le_dy = (omega arith, omega arith, omega arith); marks_len = so_far.1.rows-marked.marks-size; shows = pane-there _ _ so_far.0 refl c.lower_word-lower_word.ensures c.pane_of-pane.ensures; before_value = so_far.2 }

pub loop-w-preserved : goal.loop-w-preserved
unfolding side_limit
loop-w-preserved c =
    let so_far = c.loop-w.invariant in (
      walk-goes-on _ _ so_far.0 refl c.lower_word-lower_word.ensures (omega arith) c.bit_at-upper.ensures c.bit_at-lower.ensures,
      word-noted _ _ so_far.1 c.with_pane-counts.ensures.noted,
      c.with_pane-counts.ensures.value ∙ ap (counts_after _ _ _) (omega arith),
    )

pub returns : goal.returns
returns c =
    let so_far = c.loop-w.invariant in record {
      value = row-counted _ (terrain-outside _ _ _ _) _ _ so_far.2 (omega arith);
      kept_2 = walk_ends _ _ (terrain-outside _ _ _ _) so_far.0 (omega arith);
      marked_2 = row_ends _ _ (terrain-outside _ _ _ _) so_far.1 (omega arith);
    }

-- `giving::give_row` meets its contract. The loop's invariant: the tables and the counts are those after the cells of the words so far, and the samples on
-- the left of the next cell are known. Assumes nothing.
use mathlib.Core.Path.{refl}
use native.Mathlib.Omega.{arith}
use Rattle.sweep.proofs.Rows.{beside-begins, beside-next, pane-between}
use Rattle.sweep.proofs.Steps.{row-begun, word_more, row-swept}
use Rattle.giving.specs.Giving.{row_given}
use Rattle.giving.proofs.give_row.Goals as goal

pub loop-w-init : goal.loop-w-init
loop-w-init c = (beside-begins _ _, row-begun _ _)

pub give_changes-play-requires : goal.give_changes-play-requires
give_changes-play-requires c =
    record {
      within = record { columns = c.requires.columns; column = omega arith; row = c.requires.row };
      shows = pane-between _ _ c.loop-w.invariant.0 refl refl (omega arith) (omega arith)
          c.pane_of-pane.ensures;
      changes_value = c.changes_in-changes.ensures;
    }

pub loop-w-preserved : goal.loop-w-preserved
loop-w-preserved c =
    let so_far = c.loop-w.invariant in (
      beside-next _ _ _ refl refl c.bit_at-upper_left.ensures c.bit_at-lower_left.ensures,
      word_more _ _ _ so_far.1 c.give_changes-play.ensures,
    )

pub returns : goal.returns
unfolding row_given
returns c = row-swept _ _ _ _ c.loop-w.invariant.1 (omega arith) (omega arith)

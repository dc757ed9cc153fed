-- `scan::with_pane` meets its contract: where no cell is active the counts stay, and else the word's tile has a mark and the counts go by the tally or cell
-- by cell. Assumes nothing.
use mathlib.Core.Path.{◌≡◌, sym, ◌∙◌}
use native.Mathlib.Omega.{arith}
use Rattle.words.specs.Panes.{changes_in}
use Rattle.scan.proofs.Rows.{none-changes, quiet-word-noted, marked-word-noted, a-tile-has-a-mark}
use Rattle.scan.proofs.Samples.{terrain-outside}
use Rattle.scan.proofs.Steps.{counts-stay, counts-fit}
use Rattle.scan.proofs.Tallies.{few-segments, few-opened, few-closed, pane-tallied}
use Rattle.scan.proofs.with_pane.Goals as goal

pub returns-then-changes-eq0 : goal.returns-then-changes-eq0
returns-then-changes-eq0 c =
    let none : changes_in c.args.pane ≡ 0 = omega (arith, c.changes_in-changes.ensures) in
    let quiet = none-changes _ _ _ c.requires.shows none in
    record { value = c.requires.before_value ∙ sym (counts-stay _ _ _ _ 64 quiet); noted = quiet-word-noted _ _ _ _ quiet }

pub bounds-marks-tile_of : goal.bounds-marks-tile_of
bounds-marks-tile_of c =
    omega (arith, c.tile_of.ensures, a-tile-has-a-mark {r = c.args.r} {w = c.args.w} (omega (arith, c.args.grid.sized.rows)) c.requires.r_le_dy.1)

pub overflow_add-most : goal.overflow_add-most
overflow_add-most c =
    omega (arith, (counts-fit _ (terrain-outside _ _ _ _) _ _ c.requires.before_value c.args.grid.sized.columns (omega (arith, c.args.grid.sized.rows)) c.requires.r_le_dy.2).1, few-opened _ (terrain-outside _ _ _ _) _ _ c.requires.shows c.changes_in-changes.ensures c.requires.before_value c.tally_of-tally.ensures)

pub overflow_add-result : goal.overflow_add-result
overflow_add-result c =
    omega (arith, (counts-fit _ (terrain-outside _ _ _ _) _ _ c.requires.before_value c.args.grid.sized.columns (omega (arith, c.args.grid.sized.rows)) c.requires.r_le_dy.2).0, few-segments _ (terrain-outside _ _ _ _) _ _ c.requires.shows c.changes_in-changes.ensures c.requires.before_value c.tally_of-tally.ensures)

pub overflow_sub-result : goal.overflow_sub-result
overflow_sub-result c =
    few-closed _ (terrain-outside _ _ _ _) _ _ c.requires.shows c.changes_in-changes.ensures c.requires.before_value c.tally_of-tally.ensures

pub returns-then-most-before : goal.returns-then-most-before
returns-then-most-before c =
    let inside = a-tile-has-a-mark {r = c.args.r} {w = c.args.w} (omega (arith, c.args.grid.sized.rows)) c.requires.r_le_dy.1 in
    record { value = pane-tallied _ (terrain-outside _ _ _ _) _ _ c.requires.shows c.changes_in-changes.ensures c.requires.before_value c.tally_of-tally.ensures (omega arith); noted = rw c.tile_of.ensures (marked-word-noted _ _ _ _ (omega (arith, inside, c.requires.marks_len))) }

pub with_changes-requires : goal.with_changes-requires
with_changes-requires c =
    record { r_le_dy = c.requires.r_le_dy.0; shows = c.requires.shows; changes_value = c.changes_in-changes.ensures; before_value = c.requires.before_value }

pub returns : goal.returns
returns c =
    let inside = a-tile-has-a-mark {r = c.args.r} {w = c.args.w} (omega (arith, c.args.grid.sized.rows)) c.requires.r_le_dy.1 in
    record { value = c.with_changes.ensures; noted = rw c.tile_of.ensures (marked-word-noted _ _ _ _ (omega (arith, inside, c.requires.marks_len))) }

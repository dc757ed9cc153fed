-- `stitching::stitch_row` meets its contract. The loop's invariant: the words of the row are walked so far, and the run is that after the cells of these
-- words. Assumes nothing.
use mathlib.Core.Path.{refl}
use native.Mathlib.Omega.{arith}
use Rattle.scope.specs.Limits.{side_limit}
use Rattle.scan.proofs.Samples.{terrain-outside}
use Rattle.scan.proofs.Rows.{walk_begins, walk-goes-on, walk-goes-over, walk_ends, pane-there, a-tile-has-a-mark}
use Rattle.stitching.proofs.Steps.{row-begun, row-few, word_more, quiet-word-more, row-drawn}
use Rattle.stitching.proofs.stitch_row.Goals as goal

pub loop-w-init : goal.loop-w-init
loop-w-init c =
    (walk_begins _ _ (terrain-outside _ _ _ _) c.requires.kept, row-begun _ _ _ _)

pub bounds-marks-tile_of : goal.bounds-marks-tile_of
unfolding side_limit
bounds-marks-tile_of c =
    omega (arith, c.tile_of.ensures, a-tile-has-a-mark {r = c.args.r} {w = c.loop-w.w} (omega (arith, c.args.grid.sized.rows)) (omega arith))

pub loop-w-preserved-then-marks-tile_of-eq0 : goal.loop-w-preserved-then-marks-tile_of-eq0
unfolding side_limit
loop-w-preserved-then-marks-tile_of-eq0 c =
    let so_far = c.loop-w.invariant in
    let quiet = c.requires.marked.marked c.args.r c.loop-w.w (omega arith) (omega arith) (rw (← c.tile_of.ensures) c.if-marks-tile_of-eq0.true) in (
      walk-goes-over _ _ so_far.0 quiet,
      quiet-word-more _ _ _ _ _ so_far.1 quiet,
    )

pub draw_changes-run-requires : goal.draw_changes-run-requires
draw_changes-run-requires c =
    let so_far = c.loop-w.invariant in record { r_le_dy = c.requires.r_le_dy; shows = pane-there _ _ so_far.0 refl c.lower_word-lower_word.ensures c.pane_of-pane.ensures; changes_value = c.changes_in-changes.ensures; next_bound = omega (arith, c.requires.dx_bound, row-few _ _ _ _ _ so_far.1) }

pub loop-w-preserved : goal.loop-w-preserved
unfolding side_limit
loop-w-preserved c =
    let so_far = c.loop-w.invariant in (
      walk-goes-on _ _ so_far.0 refl c.lower_word-lower_word.ensures (omega arith) c.bit_at-upper.ensures c.bit_at-lower.ensures,
      word_more _ _ _ _ _ so_far.1 c.draw_changes-run.ensures,
    )

pub returns : goal.returns
returns c =
    let so_far = c.loop-w.invariant in
    record { result_after = row-drawn _ _ _ _ _ (terrain-outside _ _ _ _) so_far.1 (omega arith); kept_2 = walk_ends _ _ (terrain-outside _ _ _ _) so_far.0 (omega arith) }

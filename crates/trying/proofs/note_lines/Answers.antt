-- `trying::note_lines` meets its contract. The loop's invariant: the lines of the slots so far are noted. Assumes nothing.
use mathlib.Core.Path.{◌≡◌, ◌∙◌}
use native.Mathlib.Omega.{arith}
use Rattle.scope.specs.Limits.{side_limit}
use Rattle.trying.specs.Notes.{frontier_noted}
use Rattle.trying.proofs.Slots.{column-word-small, none-noted, line-noted}
use Rattle.trying.proofs.note_lines.Goals as goal

pub overflow_add-dx : goal.overflow_add-dx
unfolding side_limit
overflow_add-dx c = omega arith

pub loop-i-init : goal.loop-i-init
loop-i-init c = none-noted _ _ _

pub overflow_cast-start : goal.overflow_cast-start
overflow_cast-start c = omega (arith, column-word-small _ _ c.requires c.column_word-start.ensures)

pub overflow_cast-end : goal.overflow_cast-end
overflow_cast-end c = omega (arith, column-word-small _ _ c.requires c.column_word-end.ensures)

pub loop-i-preserved : goal.loop-i-preserved
loop-i-preserved c =
    line-noted _ _ _ _ c.loop-i.invariant c.slot_at-line.ensures c.link_point.ensures c.column_word-start.ensures c.column_word-end.ensures c.note.ensures

pub returns : goal.returns
unfolding frontier_noted
returns c =
    let all : c.loop-i.i ≡ c.args.count = omega arith in
    c.loop-i.invariant ∙ rw (all, c.clear.ensures)

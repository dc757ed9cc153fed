-- `giving::file_lines` meets its contract. The loop's invariant: the table is the definition's, filed as far as slot i. Assumes nothing.
use mathlib.Core.Path.{◌≡◌, refl, ap, ◌∙◌}
use native.Mathlib.Omega.{arith}
use Rattle.giving.specs.Giving.{slots_filed}
use Rattle.giving.proofs.Walks.{one-slot-more}
use Rattle.giving.proofs.file_lines.Goals as goal

pub loop-i-init : goal.loop-i-init
unfolding slots_filed
loop-i-init c = refl

pub loop-i-preserved : goal.loop-i-preserved
loop-i-preserved c =
    one-slot-more _ _ _ _ c.loop-i.invariant (c.column_word-start.ensures ∙ rw (c.link_point.ensures, c.slot_at-line.ensures)) c.put.ensures
    (c.column_word.ensures ∙ rw c.slot_at-line.ensures) c.put-in-loop-i.ensures

pub returns : goal.returns
returns c =
    let last : c.loop-i.i ≡ c.args.count = omega arith in
    c.loop-i.invariant ∙ ap (slots_filed _ _ _) last

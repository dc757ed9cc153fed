-- `rows::advance` meets its contract: the table is short at once, or the answer that the trial leads to settles the call. Assumes nothing.
use mathlib.Core.Path.{◌∙◌}
use native.Mathlib.Omega.{arith}
use Rattle.scope.specs.Limits.{record_stride}
use Rattle.rows.specs.Called.{refused_by}
use Rattle.rows.proofs.Calls.{short-at-once, refused-after, taken-after}
use Rattle.rows.proofs.advance.Goals as goal

pub returns-then-room-open_words : goal.returns-then-room-open_words
unfolding refused_by
returns-then-room-open_words c =
    short-at-once c.args.state _ _ _ _ _ (omega (arith, c.open_words.ensures))

pub returns-in_default : goal.returns-in_default
unfolding record_stride
returns-in_default c =
    refused-after c.args.state c.args.lower.now c.args.lines.now c.args.links.now c.args.points.now c.args.directory.now
    (omega (arith, c.open_words.ensures)) _ c.trial_of-trial.ensures.value _ c.trial_of-trial.ensures.lines_after
    _ c.answer_of-answer.ensures _ c.in_default.is _ c.restore.ensures

pub returns : goal.returns
unfolding record_stride
returns c =
    c.draw.ensures
    ∙ taken-after c.args.state c.args.lower.now c.args.lines.now c.args.links.now c.args.points.now c.args.directory.now
    (omega (arith, c.open_words.ensures)) _ c.trial_of-trial.ensures.value _ c.trial_of-trial.ensures.lines_after
    _ c.answer_of-answer.ensures _ c.in-Ok.is

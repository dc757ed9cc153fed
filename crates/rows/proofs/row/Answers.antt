-- `rows::row` meets its contract: it is refused by its length, then by its turn, and else its samples are the lower ones of a row of cells. Assumes nothing.
use mathlib.Core.Path.{sym, ◌∙◌}
use native.Mathlib.Omega.{arith}
use Rattle.scope.specs.Limits.{side_limit}
use Rattle.rows.specs.Called.{refused_by}
use Rattle.rows.proofs.Sides.{row-tested, row_within}
use Rattle.rows.proofs.Samples.{no-words}
use Rattle.rows.proofs.Calls.{length-refused, row-turn-refused, row-advances}
use Rattle.rows.proofs.row.Goals as goal

pub returns-then-values-state : goal.returns-then-values-state
unfolding refused_by
returns-then-values-state c =
    length-refused c.args.state _ _ _ _ _ (λ e. omega arith)

pub returns-then-sides_fit-state : goal.returns-then-sides_fit-state
unfolding refused_by
returns-then-sides_fit-state c =
    row-turn-refused c.args.state _ _ _ _ _ (omega arith) (sym (row-tested _ _ _ c.sides_fit.ensures _) ∙ c.if-sides_fit-state.true)

pub sample_words-requires : goal.sample_words-requires
unfolding side_limit
sample_words-requires c =
    let within = row_within c.args.state.dx c.args.state.dy _ (sym (row-tested _ _ _ c.sides_fit.ensures _) ∙ c.if-sides_fit-state.false) in
    record { sized = record { columns = within.0; rows = omega arith; filled = omega arith }; row_value = no-words }

pub advance-requires : goal.advance-requires
advance-requires c =
    row_within c.args.state.dx c.args.state.dy _ (sym (row-tested _ _ _ c.sides_fit.ensures _) ∙ c.if-sides_fit-state.false)

pub returns : goal.returns
returns c =
    c.advance.ensures
    ∙ row-advances c.args.state c.args.values.now _ _ _ _ (omega (arith, c.if-values-state.false)) (sym (row-tested _ _ _ c.sides_fit.ensures _) ∙ c.if-sides_fit-state.false) _ c.sample_words.ensures

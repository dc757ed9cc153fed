-- `rows::end` meets its contract: it is refused by its turn or by the row of cells, or that row is drawn and both work tables are cleared. Assumes nothing.
use mathlib.Core.Path.{sym, ◌∙◌, ap}
use native.Mathlib.Omega.{arith}
use Rattle.packing.specs.Cleared.{cleared}
use Rattle.rows.specs.Called.{Outcome, refused_by}
use Rattle.rows.proofs.Sides.{turn-tested, end-within}
use Rattle.rows.proofs.Calls.{columns-stay, end-turn-refused, end_refused, end-zeroes}
use Rattle.rows.proofs.end.Goals as goal

pub returns-then-sides_fit-state : goal.returns-then-sides_fit-state
unfolding refused_by
returns-then-sides_fit-state c =
    end-turn-refused c.args.state _ _ _ _ (sym (turn-tested _ _ _ c.sides_fit.ensures _) ∙ c.if-sides_fit-state.true)

pub advance-step-requires : goal.advance-step-requires
advance-step-requires c =
    end-within c.args.state.dx c.args.state.dy _ (sym (turn-tested _ _ _ c.sides_fit.ensures _) ∙ c.if-sides_fit-state.false)

pub open_words-requires : goal.open_words-requires
open_words-requires c =
    let stay = ap (λ (o : Outcome). o.state.dx) c.advance-step.ensures ∙ columns-stay c.args.state _ _ _ _ _ in
    omega (arith, stay, (end-within c.args.state.dx c.args.state.dy _ (sym (turn-tested _ _ _ c.sides_fit.ensures _) ∙ c.if-sides_fit-state.false)).0)

pub returns-then-is_ok : goal.returns-then-is_ok
returns-then-is_ok c =
    end-zeroes c.args.state _ _ _ _ (sym (turn-tested _ _ _ c.sides_fit.ensures _) ∙ c.if-sides_fit-state.false) _ c.advance-step.ensures (sym c.is_ok.ensures.value ∙ c.if-is_ok.true)
    _ _ (c.clear.ensures ∙ ap (cleared _) c.open_words.ensures) (c.clear-then-is_ok.ensures ∙ ap (cleared _) c.link_words.ensures)

pub returns-else-is_ok : goal.returns-else-is_ok
returns-else-is_ok c =
    end_refused c.args.state _ _ _ _ (sym (turn-tested _ _ _ c.sides_fit.ensures _) ∙ c.if-sides_fit-state.false) _ c.advance-step.ensures (sym c.is_ok.ensures.value ∙ c.if-is_ok.false)

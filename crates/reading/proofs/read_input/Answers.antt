-- `reading::read_input` meets its contract: where a step finds nothing the parser finds nothing, and past all of them it finds the input whose values the
-- table holds. Assumes nothing.
use mathlib.Core.Path.{sym, ◌∙◌}
use native.Mathlib.Omega.{arith}
use Rattle.scope.specs.Smoothing.{whole}
use Rattle.reading.proofs.Inputs.{SidesFit, sides-fit}
use Rattle.reading.proofs.Answers.{head-found, head-none, rows-found, rows_none, count_fits, sides-refused, rows-refused, more-refused, all-parsed, faulty, copied-written, values-many, terrain}
use Rattle.reading.proofs.read_input.Goals as goal
use Rattle.reading.proofs.read_input.Goals.{Else-not-sides_fit}

-- past the test of the sides
sides : (c : Else-not-sides_fit) → SidesFit c.in_ok-head.head.dx c.in_ok-head.head.dy
sides c = sides-fit _ _ (sym c.sides_fit.ensures ∙ c.if-not-sides_fit.false)

pub returns-in_err-head : goal.returns-in_err-head
returns-in_err-head c = rw c.from_residual.ensures (faulty _ _ (head-none _ c.in_err-head.ensures))

pub returns-then-not-sides_fit : goal.returns-then-not-sides_fit
returns-then-not-sides_fit c =
    let head = head-found _ _ c.in_ok-head.ensures in
    faulty _ _ (sides-refused _ _ _ _ _ head.0 (sym c.sides_fit.ensures ∙ c.if-not-sides_fit.true))

pub overflow_mul-count : goal.overflow_mul-count
overflow_mul-count c = omega (arith, count_fits _ _ (sides (goal.at.overflow_mul-count c).Else-not-sides_fit))

pub read_values-requires : goal.read_values-requires
read_values-requires c =
    let fit = sides (goal.at.read_values-requires c).Else-not-sides_fit in
    (fit.some-columns, count_fits _ _ fit, (head-found _ _ c.in_ok-head.ensures).1)

pub returns-in_err-last : goal.returns-in_err-last
returns-in_err-last c =
    let head = head-found _ _ c.in_ok-head.ensures in
    let fit = sym c.sides_fit.ensures ∙ c.if-not-sides_fit.false in
    rw c.from_residual-in_err-last.ensures (faulty _ _ (rows-refused _ _ _ _ _ head.0 fit (rows_none _ _ _ _ _ _ c.in_err-last.ensures)))

pub returns-then-last-text : goal.returns-then-last-text
returns-then-last-text c =
    let head = head-found _ _ c.in_ok-head.ensures in
    let fit = sym c.sides_fit.ensures ∙ c.if-not-sides_fit.false in
    let rows = rows-found _ _ _ _ _ _ _ c.in_ok-last.ensures in
    faulty _ _ (more-refused _ _ _ _ _ head.0 fit rows.read _ rows.read-are (omega (arith, rows.next-within)))

pub slice_bounds-copy_from_slice-end : goal.slice_bounds-copy_from_slice-end
slice_bounds-copy_from_slice-end c = omega (arith, count_fits _ _ (sides (goal.at.slice_bounds-copy_from_slice-end c).Else-not-sides_fit))

pub returns : goal.returns
unfolding whole
returns c =
    let head = head-found _ _ c.in_ok-head.ensures in
    let fit = sym c.sides_fit.ensures ∙ c.if-not-sides_fit.false in
    let rows = rows-found _ _ _ _ _ _ _ c.in_ok-last.ensures in
    let all = all-parsed c.args.text.now _ _ _ _ head.0 fit rows.read c.in_ok-last.last rows.read-are (omega (arith, c.if-last-text.false)) in
    terrain _ _ _ _ _ all _ _ _ c.from.ensures
    (copied-written _ _ _ _ c.args.values.now _ (values-many _ _ _ _ _ all) rows.values-are c.copy_from_slice.ensures.after)

-- `contour_c::contour_check` meets its contract: on either side of the test, what `ring_set_faulty` ensures gives the status. Assumes nothing.
use mathlib.Core.Path.{sym, ◌∙◌, ap}
use Rattle.contour_c.specs.Texts.{check_status}
use Rattle.contour_c.proofs.contour_check.Goals as goal

pub returns-then-ring_set_faulty : goal.returns-then-ring_set_faulty
unfolding check_status
returns-then-ring_set_faulty c = c.number.ensures ∙ ap check_status (sym c.if-ring_set_faulty.true ∙ c.ring_set_faulty.ensures)

pub returns : goal.returns
unfolding check_status
returns c = ap check_status (sym c.if-ring_set_faulty.false ∙ c.ring_set_faulty.ensures)

-- `contour_c::contour_polygon_answer` meets its contract: what `polygon_answer` of `explaining` ensures is what is told. Assumes nothing.
use Rattle.contour_c.proofs.Why.{answer-entry}
use Rattle.contour_c.proofs.contour_polygon_answer.Goals as goal

pub returns : goal.returns
returns c =
    let t = c.tell_answer.ensures in
    let told = answer-entry _ _ c.polygon_answer-answered.ensures (t.value, (t.answer_after, t.vertex_after)) in
    record { value = told.0; answer_after = told.1.0; vertex_after = told.1.1 }

-- `telling::tell_answer` meets its contract: each arm is the definition's. Assumes nothing.
use mathlib.Core.Path.{refl}
use Rattle.scope.specs.Containment.{answer_number}
use Rattle.deciding.specs.Decisions.{answer_in}
use Rattle.telling.specs.Outputs.{answer_status, answer_output, answer_vertex}
use Rattle.telling.proofs.tell_answer.Goals as goal

pub returns-in-Inside : goal.returns-in-Inside
unfolding answer_status answer_output answer_vertex answer_in answer_number
returns-in-Inside c =
    rw c.in-Ok.is (record { value = refl; answer_after = rw c.in-Inside.is refl; vertex_after = c.vertex_word.ensures })

pub returns-in-Outside : goal.returns-in-Outside
unfolding answer_status answer_output answer_vertex answer_in answer_number
returns-in-Outside c =
    rw c.in-Ok.is (record { value = refl; answer_after = rw c.in-Outside.is refl; vertex_after = c.vertex_word.ensures })

pub returns-in-Undecided : goal.returns-in-Undecided
unfolding answer_status answer_output answer_vertex answer_in answer_number
returns-in-Undecided c =
    rw c.in-Ok.is (record { value = refl; answer_after = rw c.in-Undecided.is refl; vertex_after = c.vertex_word.ensures })

pub returns-in-Err : goal.returns-in-Err
unfolding answer_status answer_output answer_vertex
returns-in-Err c = rw c.in-Err.is (record { value = c.number.ensures; answer_after = refl; vertex_after = refl })

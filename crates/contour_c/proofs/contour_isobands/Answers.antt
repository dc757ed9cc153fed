-- `contour_c::contour_isobands` meets its contract: what the library ensures gives the status and the output. Assumes nothing.
use Rattle.contour_c.proofs.contour_isobands.Goals as goal

pub returns : goal.returns
returns c =
    rw (← c.rule_of.ensures) (record { answer = c.isobands-built.result; built = c.isobands-built.ensures; status-is = c.told.ensures.value; rings-are = c.told.ensures.output_after })

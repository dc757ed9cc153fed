-- `measuring::measure` meets its contract: the difference of the two sums, modulo 2^64, is the area in two's complement. Assumes nothing.
use Rattle.std.proofs.Common.{sym, ap, ◌∙◌, arith}
use Rattle.scope.specs.Area.{twos_complement}
use Rattle.measuring.proofs.Complement.{wrapped-difference}
use Rattle.measuring.proofs.measure.Goals as goal

pub returns : goal.returns
returns c =
    let sums = c.sum_up-sums in (
      sums.ensures.over-is,
      wrapped-difference sums.result.gained sums.result.lost _ (omega arith) (omega arith) ∙ ap twos_complement (sym sums.ensures.area-is),
    )

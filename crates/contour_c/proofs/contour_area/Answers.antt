-- `contour_c::contour_area` meets its contract: what `area` ensures gives the status and the output. Assumes nothing.
use mathlib.Core.Path.{◌∙◌, ap}
use borrow.Author.Rules.{rules}
use lib.IntN.{ℤ}
use Rattle.area.specs.Answers.{area_answer}
use Rattle.contour_c.specs.Entries.{area_output}
use Rattle.contour_c.specs.Told.{told_output}
use Rattle.contour_c.proofs.Outcomes.{status-told, output-told}
use Rattle.contour_c.proofs.contour_area.Goals as goal

pub returns : goal.returns
unfolding area_answer area_output
returns c =
    record {
      value = c.told.ensures.value ∙ rw c.area-found.ensures (status-told _ _);
      area_after = c.told.ensures.output_after ∙ ap (λ (old : ℤ). told_output old c.area-found.result) {y = c.args.area.now} (search rules) ∙ rw c.area-found.ensures (output-told _ _ c.args.area.now);
    }

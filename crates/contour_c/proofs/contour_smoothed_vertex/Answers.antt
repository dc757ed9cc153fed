-- `contour_c::contour_smoothed_vertex` meets its contract: what `smoothed_vertex` of `explaining` ensures is what is told. Assumes nothing.
use mathlib.Core.Path.{◌∙◌, ap}
use Rattle.scope.specs.declared.Level.{Level}
use Rattle.cells.specs.Rules.{level_of}
use Rattle.explaining.specs.Vertices.{vertex_answer}
use Rattle.contour_c.proofs.Why.{vertex-entry}
use Rattle.contour_c.proofs.contour_smoothed_vertex.Goals as goal

pub returns : goal.returns
unfolding level_of
returns c =
    let args = c.args in
    let told = c.tell_vertex.ensures in
    vertex-entry
    (c.smoothed_vertex-answered.ensures ∙ ap (λ (l : Level). vertex_answer args.values.now l.threshold args.dx args.dy args.points.now args.directory.now args.rings args.ring args.vertex) c.level_of-level.ensures)
    (told.value, (told.x_kind_after, (told.x_fraction_after, (told.y_kind_after, told.y_fraction_after))))

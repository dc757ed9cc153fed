-- `rows::draw` meets its contract: the frontier is filed, the row is drawn, and the frontier is noted. `row-drawn` puts these together. Assumes nothing.
use Rattle.rows.proofs.Calls.{row-drawn}
use Rattle.rows.proofs.draw.Goals as goal

pub returns : goal.returns
returns c =
    row-drawn c.args.state c.args.lower.now c.args.lines.now c.args.links.now c.args.points.now c.args.directory.now _ _ _ _ _ _ _ _ _ _
    c.file_lines.ensures c.give_row-play.ensures c.note_lines.ensures c.max.ensures

-- `drawing::draw_stroke` meets its contract: each way through the tests is the rule for two sides that are met or not. Assumes nothing.
use mathlib.Core.Path.{sym, ap, ◌∙◌}
use Rattle.lines.specs.Values.{edges_of}
use Rattle.drawing.specs.Values.{point_at, line_at}
use Rattle.drawing.proofs.Sides.{the-other-side-met}
use Rattle.drawing.proofs.Strokes.{by-connecting, by-appending, by-prepending, by-starting}
use Rattle.drawing.proofs.draw_stroke.Goals as goal

pub returns-in-Left : goal.returns-in-Left
returns-in-Left c =
    by-connecting c.args.cell.dx c.args.cell.c _ c.args.stroke.from c.args.stroke.to (edges_of c.args.cell.met)
    c.args.cell.at c.meets.ensures c.meets-then-meets.ensures (ap (point_at c.args.cell.at) (sym c.in-Left.is)) c.if-meets.true
    c.if-meets-2.true (ap (line_at (edges_of c.args.cell.met)) (sym c.in-Left.is)) c.line_at-g.ensures c.connect-progress.ensures

pub returns-in_default : goal.returns-in_default
returns-in_default c =
    let top = the-other-side-met c.args.stroke.from (sym c.meets.ensures ∙ c.if-meets.true) c.in_default.not-Left in
    by-connecting c.args.cell.dx c.args.cell.c _ c.args.stroke.from c.args.stroke.to (edges_of c.args.cell.met)
    c.args.cell.at c.meets.ensures c.meets-then-meets.ensures (ap (point_at c.args.cell.at) (sym top)) c.if-meets.true
    c.if-meets-2.true (ap (line_at (edges_of c.args.cell.met)) (sym top)) c.line_at-g.ensures c.connect-progress-in_default.ensures

pub returns-then-meets : goal.returns-then-meets
returns-then-meets c =
    by-appending c.args.cell.dx c.args.cell.c _ c.args.stroke.from c.args.stroke.to (edges_of c.args.cell.met)
    c.args.cell.at c.meets.ensures c.meets-then-meets.ensures c.point_at-s.ensures c.if-meets.true
    c.if-meets-2.false c.line_at-f.ensures c.point_at-e.ensures c.word_at-we.ensures c.append-progress.ensures

pub returns-then-meets-3 : goal.returns-then-meets-3
returns-then-meets-3 c =
    by-prepending c.args.cell.dx c.args.cell.c _ c.args.stroke.from c.args.stroke.to (edges_of c.args.cell.met)
    c.args.cell.at c.meets.ensures c.meets-2.ensures c.point_at-s.ensures c.if-meets.false
    c.if-meets-3.true c.line_at-g.ensures c.word_at-ws.ensures c.prepend-progress.ensures

pub returns : goal.returns
returns c =
    by-starting c.args.cell.dx c.args.cell.c _ c.args.stroke.from c.args.stroke.to (edges_of c.args.cell.met)
    c.args.cell.at c.meets.ensures c.meets-2.ensures c.point_at-s.ensures c.if-meets.false
    c.if-meets-3.false c.point_at-e.ensures c.word_at-ws.ensures c.word_at-we.ensures c.start-progress.ensures

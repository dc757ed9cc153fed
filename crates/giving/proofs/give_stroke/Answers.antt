-- `giving::give_stroke` meets its contract: each way through the tests is the rule for two sides that are met or not. Assumes nothing.
use Rattle.lines.specs.Values.{edges_of}
use Rattle.giving.proofs.Strokes.{by-closing, by-joining, by-appending, by-prepending, by-starting}
use Rattle.giving.proofs.give_stroke.Goals as goal

pub returns-then-f-g : goal.returns-then-f-g
returns-then-f-g c =
    by-closing c.args.cell.dx c.args.cell.c c.args.cell.r (edges_of c.args.cell.met) _ c.args.stroke.from c.args.stroke.to
    c.meets-ends.ensures c.meets-starts.ensures c.if-ends.true c.if-starts.true
    c.line_at-f.ensures c.line_at-g.ensures c.if-f-g.true c.give_ring.ensures

pub returns-then-starts : goal.returns-then-starts
returns-then-starts c =
    by-joining c.args.cell.dx c.args.cell.c c.args.cell.r (edges_of c.args.cell.met) _ c.args.stroke.from c.args.stroke.to
    c.meets-ends.ensures c.meets-starts.ensures (record { link = c.link_taken-k.ensures; rest = c.stock_after-stock.ensures; lines-open = c.progress_of-before.ensures }) c.args.cell.points_are
    c.point_at-s.ensures c.if-ends.true c.if-starts.true
    c.line_at-f.ensures c.line_at-g.ensures c.if-f-g.false c.join-after.ensures c.with_count.ensures

pub returns-then-ends : goal.returns-then-ends
returns-then-ends c =
    by-appending c.args.cell.dx c.args.cell.c c.args.cell.r (edges_of c.args.cell.met) _ c.args.stroke.from c.args.stroke.to
    c.meets-ends.ensures c.meets-starts.ensures (record { link = c.link_taken-k.ensures; rest = c.stock_after-stock.ensures; lines-open = c.progress_of-before.ensures }) c.args.cell.points_are
    c.point_at-s.ensures c.if-ends.true c.if-starts.false
    c.line_at-f.ensures c.point_at-e.ensures c.word_at-we.ensures c.append-after.ensures c.with_count-then-ends.ensures

pub returns-then-starts-2 : goal.returns-then-starts-2
returns-then-starts-2 c =
    by-prepending c.args.cell.dx c.args.cell.c c.args.cell.r (edges_of c.args.cell.met) _ c.args.stroke.from c.args.stroke.to
    c.meets-ends.ensures c.meets-starts.ensures (record { link = c.link_taken-k.ensures; rest = c.stock_after-stock.ensures; lines-open = c.progress_of-before.ensures }) c.args.cell.points_are
    c.point_at-s.ensures c.if-ends.false c.if-starts-2.true
    c.line_at-g.ensures c.word_at-ws.ensures c.prepend-after.ensures c.with_count-then-starts-2.ensures

pub returns : goal.returns
returns c =
    by-starting c.args.cell.dx c.args.cell.c c.args.cell.r (edges_of c.args.cell.met) _ c.args.stroke.from c.args.stroke.to
    c.meets-ends.ensures c.meets-starts.ensures (record { link = c.link_taken-k.ensures; rest = c.stock_after-stock.ensures; lines-open = c.progress_of-before.ensures }) c.args.cell.points_are
    c.point_at-s.ensures c.if-ends.false c.if-starts-2.false
    c.point_at-e.ensures c.word_at-ws.ensures c.word_at-we.ensures c.start-after.ensures c.with_count-2.ensures

-- `trying::try_stroke` meets its contract: each way through the tests is the rule for two sides that are met or not. Assumes nothing.
use native.Mathlib.Omega.{arith}
use Rattle.trying.proofs.BySides.{side-word-small, by-meeting, by-ending, by-starting, by-opening}
use Rattle.trying.proofs.try_stroke.Goals as goal

pub overflow_cast-s : goal.overflow_cast-s
overflow_cast-s c = omega (arith, c.word_at-s.ensures, side-word-small c.args.dx c.args.c c.args.stroke.from c.requires.0 c.requires.1)

pub overflow_cast-e : goal.overflow_cast-e
overflow_cast-e c = omega (arith, c.word_at-e.ensures, side-word-small c.args.dx c.args.c c.args.stroke.to c.requires.0 c.requires.1)

pub returns-then-meets-2 : goal.returns-then-meets-2
returns-then-meets-2 c =
    by-meeting c.args.dx c.args.c _ c.args.stroke.from c.args.stroke.to
    c.meets.ensures c.meets-then-meets.ensures c.word_at-s.ensures c.word_at-e.ensures c.if-meets.true
    c.if-meets-2.true c.try_meet.ensures

pub returns-then-meets : goal.returns-then-meets
returns-then-meets c =
    by-ending c.args.dx c.args.c _ c.args.stroke.from c.args.stroke.to
    c.meets.ensures c.meets-then-meets.ensures c.word_at-s.ensures c.word_at-e.ensures c.if-meets.true
    c.if-meets-2.false c.try_end.ensures

pub returns-then-meets-3 : goal.returns-then-meets-3
returns-then-meets-3 c =
    by-starting c.args.dx c.args.c _ c.args.stroke.from c.args.stroke.to
    c.meets.ensures c.meets-2.ensures c.word_at-s.ensures c.word_at-e.ensures c.if-meets.false
    c.if-meets-3.true c.try_start.ensures

pub returns : goal.returns
returns c =
    by-opening c.args.dx c.args.c _ c.args.stroke.from c.args.stroke.to
    c.meets.ensures c.meets-2.ensures c.word_at-s.ensures c.word_at-e.ensures c.if-meets.false
    c.if-meets-3.false c.try_open.ensures

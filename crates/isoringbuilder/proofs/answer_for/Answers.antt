-- `isoringbuilder::answer_for` meets its contract: each test is one of the verdict's. Assumes nothing.
use borrow.Author.Tests.{lt-ltb, le-ltb}
use Prim.Native.Nat.{◌*◌}
use native.Mathlib.Omega.{arith}
use Rattle.scope.specs.Limits.{record_stride}
use Rattle.scope.specs.Room.{point_words, directory_words}
use Rattle.isoringbuilder.specs.Verdict.{room_verdict}
use Rattle.isoringbuilder.specs.Pass.{packed}
use Rattle.isoringbuilder.proofs.answer_for.Goals as goal

pub returns-then-points-point_words : goal.returns-then-points-point_words
unfolding packed room_verdict
returns-then-points-point_words c =
    rw (lt-ltb c.args.points (point_words c.args.segments c.args.rings) (omega (arith, c.point_words.ensures)))

pub returns-then-room-rings : goal.returns-then-room-rings
unfolding packed room_verdict directory_words record_stride
returns-then-room-rings c =
    rw (
      le-ltb c.args.points (point_words c.args.segments c.args.rings) (omega (arith, c.point_words.ensures)),
      lt-ltb (6 * c.args.room) (6 * c.args.rings) (omega arith),
    )

pub returns : goal.returns
unfolding packed room_verdict directory_words record_stride
returns c =
    rw (
      le-ltb c.args.points (point_words c.args.segments c.args.rings) (omega (arith, c.point_words.ensures)),
      le-ltb (6 * c.args.room) (6 * c.args.rings) (omega arith),
    )

-- `giving::put_ring_record` meets its contract: the four words and the two behind them are the words of the definition, one after the other. Assumes nothing.
use mathlib.Core.Path.{◌≡◌}
use Prim.Native.Nat.{suc, ◌+◌, ◌*◌}
use native.Mathlib.Omega.{arith}
use Rattle.scope.specs.Area.{low_word, high_word, area_words}
use Rattle.scope.specs.Limits.{record_stride}
use Rattle.scope.specs.Room.{directory_words}
use Rattle.machine.specs.Machine.{word_of}
use Rattle.machine.specs.Walk.{record_words, measured_words}
use Rattle.giving.specs.Giving.{given_record}
use Rattle.giving.proofs.put_ring_record.Goals as goal

pub returns : goal.returns
unfolding word_of given_record measured_words record_words area_words low_word high_word directory_words record_stride
returns c =
    let at = 6 * c.args.p.rings in
    let fifth : at + 4 ≡ suc (suc (suc (suc at))) = omega arith in
    rw (
      c.put_area.ensures,
      c.area_of-area.ensures,
      c.put_record.ensures,
      fifth,
    )

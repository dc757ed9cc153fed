-- `words::thirty_two` meets its contract: two halves of sixteen samples are the whole, and fit a word. Assumes nothing.
use Prim.Native.Nat.{◌+◌}
use native.Mathlib.Omega.{arith}
use Rattle.scope.specs.Terrain.{above_at}
use Rattle.cells.specs.Rules.{level_of}
use Rattle.words.proofs.Packing.{halves, half-small}
use Rattle.words.proofs.thirty_two.Goals as goal

pub overflow_mul-result : goal.overflow_mul-result
overflow_mul-result c =
    omega (arith, half-small (above_at (level_of c.args.threshold c.args.number)) c.args.values.now (c.args.i + 16) 16 c.sixteen-2.ensures)

pub overflow_add-result : goal.overflow_add-result
overflow_add-result c =
    let rule = above_at (level_of c.args.threshold c.args.number) in
    let values = c.args.values.now in
    omega (arith, half-small rule values c.args.i 16 c.sixteen.ensures, half-small rule values (c.args.i + 16) 16 c.sixteen-2.ensures)

pub returns : goal.returns
returns c =
    halves (above_at (level_of c.args.threshold c.args.number)) c.args.values.now c.args.i 16 c.sixteen.ensures c.sixteen-2.ensures

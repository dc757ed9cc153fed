-- `words::sixty_four` meets its contract: two halves of thirty_two samples are the whole, and fit a word. Assumes nothing.
use Prim.Native.Nat.{◌+◌}
use native.Mathlib.Omega.{arith}
use Rattle.scope.specs.Terrain.{above_at}
use Rattle.cells.specs.Rules.{level_of}
use Rattle.words.proofs.Packing.{halves, half-small}
use Rattle.words.proofs.sixty_four.Goals as goal

pub overflow_mul-result : goal.overflow_mul-result
overflow_mul-result c =
    omega (arith, half-small (above_at (level_of c.args.threshold c.args.number)) c.args.values.now (c.args.i + 32) 32 c.thirty_two-2.ensures)

pub overflow_add-result : goal.overflow_add-result
overflow_add-result c =
    let rule = above_at (level_of c.args.threshold c.args.number) in
    let values = c.args.values.now in
    omega (arith, half-small rule values c.args.i 32 c.thirty_two.ensures, half-small rule values (c.args.i + 32) 32 c.thirty_two-2.ensures)

pub returns : goal.returns
returns c =
    halves (above_at (level_of c.args.threshold c.args.number)) c.args.values.now c.args.i 32 c.thirty_two.ensures c.thirty_two-2.ensures

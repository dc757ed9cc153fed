-- `words::eight_known` meets its contract: each part of the sum is its sample's, and the eight together are the packed samples. Assumes nothing.
use Rattle.scope.specs.Terrain.{above_at}
use Rattle.cells.specs.Rules.{level_of}
use Rattle.words.proofs.Packing.{eight-samples}
use Rattle.words.proofs.eight_known.Goals as goal

pub returns : goal.returns
returns c =
    let args = c.args in
    rw (
      c.from-8.ensures,
      c.above-8.ensures,
      c.from-7.ensures,
      c.above-7.ensures,
      c.from-6.ensures,
      c.above-6.ensures,
      c.from-5.ensures,
      c.above-5.ensures,
      c.from-4.ensures,
      c.above-4.ensures,
      c.from-3.ensures,
      c.above-3.ensures,
      c.from-2.ensures,
      c.above-2.ensures,
      c.from.ensures,
      c.above.ensures,
    )
    (eight-samples (above_at (level_of args.threshold args.number)) args.values.now args.i)

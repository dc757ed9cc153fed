-- `words::number_in` meets its contract: each corner is the definition's bit, by the contracts of `bit_at` and `cell_number`. Assumes nothing.
use Rattle.words.specs.Panes.{number_in}
use Rattle.words.proofs.number_in.Goals as goal

pub returns : goal.returns
unfolding number_in
returns c =
    rw (
      c.cell_number.ensures,
      c.bit_at-4.ensures,
      c.bit_at-3.ensures,
      c.bit_at-2.ensures,
      c.bit_at.ensures,
    )

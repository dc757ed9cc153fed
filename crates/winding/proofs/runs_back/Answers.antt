-- `winding::runs_back` meets its contract: the class chooses between the two signs of the area, which its two words give. Assumes nothing.
use native.Mathlib.Omega.{arith}
use Rattle.winding.proofs.Words.{exterior-by-words, hole-by-words}
use Rattle.winding.proofs.runs_back.Goals as goal

pub returns-then-ring-eq-POLYGON : goal.returns-then-ring-eq-POLYGON
returns-then-ring-eq-POLYGON c =
    rw (c.cast_signed-area.ensures, c.area_bits.ensures)
    (exterior-by-words c.args.ring.area_low c.args.ring.area_high (omega arith) (omega arith) c.args.ring.class (omega arith))

pub returns-else-ring-eq-POLYGON : goal.returns-else-ring-eq-POLYGON
returns-else-ring-eq-POLYGON c =
    rw (c.cast_signed-area.ensures, c.area_bits.ensures)
    (hole-by-words c.args.ring.area_low c.args.ring.area_high (omega arith) (omega arith) c.args.ring.class (λ e. omega arith))

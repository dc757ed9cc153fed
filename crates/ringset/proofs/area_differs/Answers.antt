-- `ringset::area_differs` meets its contract: an area is the record's where both of its words are. Assumes nothing.
use native.Mathlib.Omega.{arith}
use Rattle.ringset.proofs.Words.{differs-by-words}
use Rattle.ringset.proofs.area_differs.Goals as goal

pub returns : goal.returns
returns c =
    let r = c.args.«record» in
    rw c.area_bits.ensures (differs-by-words c.args.area r (omega arith))

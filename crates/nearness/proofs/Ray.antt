-- A pair of points whose extent is apart from what lies right of a point in its row neither holds the point nor flips its sign: the point is off that
-- extent, and not on its left. Assumes nothing.
use mathlib.Core.Path.{◌≡◌}
use mathlib.Core.Bool.{true, false, xor}
use Prim.Native.Nat.{◌≤◌}
use native.Mathlib.Omega.{arith}
use Rattle.scope.specs.Cells.{Point}
use Rattle.scope.specs.Containment.{on_pair, flips}
use Rattle.extents.specs.declared.Extent.{Extent}
use Rattle.extents.specs.Extents.{apart, Holds, ray_from}
use Rattle.nearness.proofs.Off.{Parted, right_of, left-of, below, above, parted, off-right, off-bottom, off-top, off-flips, off-pair}

pub apart-from-the-ray : (e : Extent) (a b p : Point) → Holds e a → Holds e b → (a ≡ b → ⊥) → e.left ≤ 65535 →
    apart e (ray_from p) ≡ true → (on_pair a b p ≡ false) × (flips a b p ≡ false)
unfolding ray_from xor
apart-from-the-ray e a b p ha hb ne low h = from (parted e (ray_from p) h)
  where
    from : Parted e (ray_from p) → (on_pair a b p ≡ false) × (flips a b p ≡ false)
    from (right_of g) = (off-pair ha hb (off-right g) ne, off-flips ha hb (off-right g))
    from (left-of g) = absurd (omega arith)
    from (below g) = (off-pair ha hb (off-bottom g) ne, off-flips ha hb (off-bottom g))
    from (above g) = (off-pair ha hb (off-top g) ne, off-flips ha hb (off-top g))

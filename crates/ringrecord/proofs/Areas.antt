-- The machine's way from an area to the number that it is in two's complement: the library's is document 01's. By cases on the sign. Assumes nothing.
use mathlib.Core.Path.{◌≡◌}
use native.Mathlib.Omega.{arith}
use lib.IntN.{ℤ, pos, negsuc}
use mir.Syntax.{w64}
use mir.Val.{SFits, of_z}
use Rattle.scope.specs.Area.{twos_complement}

pub unsigned-is-complement : (z : ℤ) → SFits w64 z → of_z w64 z ≡ twos_complement z
unfolding twos_complement
unsigned-is-complement (pos n) f = omega (arith, f.sfits)
unsigned-is-complement (negsuc n) f = omega (arith, f.sfits)

-- The sign of an area, read off the two words that it is in a record: they are the area as a signed number of 64 bits. By it and the class it is known whether
-- a ring is written backwards. Assumes nothing.
use mathlib.Core.Path.{◌≡◌, refl}
use Prim.Native.Nat.{ℕ, suc, ◌+◌, ◌-◌, ◌*◌, ◌^◌, ◌<◌}
use native.Mathlib.Omega.{arith}
use lib.IntN.{ℤ, pos, negsuc}
use lib.Signed.{lt_z}
use mir.Syntax.{w64}
use mir.Val.{to_z, of_z}
use borrow.Author.Tests.{le-ltb, eq-eqb, ne_eqb}
use Rattle.std.proofs.lemmas.Int.{of_z-to_z}
use Rattle.scope.specs.Area.{positive, negative, whole_from, area_from}
use Rattle.scope.specs.GeoJson.{backwards}

positive-test : (z : ℤ) → lt_z (pos 0) z ≡ positive z
unfolding positive
positive-test (pos n) = refl
positive-test (negsuc n) = refl

negative-test : (z : ℤ) → lt_z z (pos 0) ≡ negative z
unfolding negative
negative-test (pos n) = le-ltb n 0 (omega arith)
negative-test (negsuc n) = refl

module _ (low high : ℕ) (low-fits : low < 2 ^ 32) (high-fits : high < 2 ^ 32) where
  -- the two words are the area as it is signed, which a cast there and back leaves
  area-signed : to_z w64 (of_z w64 (to_z w64 (low + 2 ^ 32 * high))) ≡ area_from low high
  unfolding area_from whole_from
  area-signed =
      let back : of_z w64 (to_z w64 (low + 2 ^ 32 * high)) ≡ low + 2 ^ 32 * high = of_z-to_z w64 (low + 2 ^ 32 * high) (omega arith) in
      let below : 2 ^ 64 - suc (low + 2 ^ 32 * high) ≡ 2 ^ 64 - 1 - (low + 2 ^ 32 * high) = omega arith in
      rw back (rw below)

  -- an exterior
  pub exterior-by-words : (class : ℕ) → class ≡ 0 → lt_z (pos 0) (to_z w64 (of_z w64 (to_z w64 (low + 2 ^ 32 * high)))) ≡ backwards class (area_from low high)
  unfolding backwards
  exterior-by-words class e = rw (area-signed, eq-eqb class 0 e) (positive-test (area_from low high))

  -- any other ring
  pub hole-by-words : (class : ℕ) → (class ≡ 0 → ⊥) → lt_z (to_z w64 (of_z w64 (to_z w64 (low + 2 ^ 32 * high)))) (pos 0) ≡ backwards class (area_from low high)
  unfolding backwards
  hole-by-words class e = rw (area-signed, ne_eqb class 0 e) (negative-test (area_from low high))

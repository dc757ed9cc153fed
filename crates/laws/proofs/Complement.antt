-- Areas and the two words that they are: an area that fits 64 bits comes back from its words, and two words of 32 bits come back from the area that they stand
-- for. By cases on the sign. Assumes nothing.
use mathlib.Core.Path.{◌≡◌}
use mathlib.Core.Bool.{Bool, true, false, cond}
use mathlib.Core.List.{[], ◌∷◌}
use Prim.Native.Nat.{ℕ, ◌+◌, ◌*◌, ◌-◌, ◌/◌, ◌%◌, ◌^◌, ◌<◌, ◌≤◌}
use native.Mathlib.Omega.{arith}
use lib.Dec.{ltb}
use lib.IntN.{ℤ, pos, negsuc}
use mir.Syntax.{w64}
use mir.Val.{SFits}
use borrow.Author.Tests.{lt-ltb, le-ltb}
use Rattle.scope.specs.Area.{twos_complement, low_word, high_word, area_words, whole_from, area_from}

-- ---- two's complement

-- it is a number of 64 bits
complement-fits : (a : ℤ) → twos_complement a < 2 ^ 64
unfolding twos_complement
complement-fits (pos n) = omega arith
complement-fits (negsuc n) = omega arith

whole-comes-back : (a : ℤ) → SFits w64 a → whole_from (twos_complement a) ≡ a
unfolding twos_complement whole_from
whole-comes-back (pos n) f =
    let same : n % 2 ^ 64 ≡ n = omega (arith, f.sfits) in
    rw (same, lt-ltb n (2 ^ 63) f.sfits)
whole-comes-back (negsuc n) f =
    let high : 2 ^ 63 ≤ 2 ^ 64 - 1 - n % 2 ^ 64 = omega (arith, f.sfits) in
    let same : 2 ^ 64 - 1 - (2 ^ 64 - 1 - n % 2 ^ 64) ≡ n = omega (arith, f.sfits) in
    rw (le-ltb (2 ^ 64 - 1 - n % 2 ^ 64) (2 ^ 63) high, same)

bits-come-back : (n : ℕ) → n < 2 ^ 64 → twos_complement (whole_from n) ≡ n
unfolding twos_complement whole_from
bits-come-back n h = by (ltb n (2 ^ 63))
  where
    by : (b : Bool) → twos_complement (cond b (pos n) (negsuc (2 ^ 64 - 1 - n))) ≡ n
    by true = omega arith
    by false = omega arith

-- ---- two words

pub low_fits : (a : ℤ) → low_word a < 2 ^ 32
unfolding low_word
low_fits a = omega arith

pub high_fits : (a : ℤ) → high_word a < 2 ^ 32
unfolding high_word
high_fits a = omega (arith, complement-fits a)

-- an area that fits 64 bits
pub area-comes-back : (a : ℤ) → SFits w64 a → area_from (low_word a) (high_word a) ≡ a
unfolding area_from low_word high_word
area-comes-back a f =
    let both : twos_complement a % 2 ^ 32 + 2 ^ 32 * (twos_complement a / 2 ^ 32) ≡ twos_complement a = omega arith in
    rw both (whole-comes-back a f)

-- two words of 32 bits
pub area-words-come-back : (low high : ℕ) → low < 2 ^ 32 → high < 2 ^ 32 → area_words (area_from low high) ≡ low ∷ high ∷ []
unfolding area_words low_word high_word area_from
area-words-come-back low high l h =
    let all = bits-come-back (low + 2 ^ 32 * high) (omega arith) in
    let first : (low + 2 ^ 32 * high) % 2 ^ 32 ≡ low = omega arith in
    let second : (low + 2 ^ 32 * high) / 2 ^ 32 ≡ high = omega arith in
    rw (all, first, second)

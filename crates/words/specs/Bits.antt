-- A row of tests as the bits of a number, the first test lowest. Assumes nothing.
use Rattle.std.specs.Prelude.{Bool, cond, List, [], ◌∷◌, ℕ, zero, suc, ◌+◌, ◌-◌, ◌*◌, ◌/◌, ◌%◌, ◌^◌, eqb, Float, get_or}
use Rattle.std.specs.Float.{nan}
use Rattle.scope.specs.Cells.{when}

-- the first n tests
unfoldable pub packed : (ℕ → Bool) → ℕ → ℕ
packed f zero = 0
packed f (suc n) = packed (λ j. f (suc j)) n * 2 + when 1 (f 0)

-- the samples of the values from index i on, under a rule that decides a sample
abbrev pub samples_from : (Float → Bool) → List Float → ℕ → ℕ → Bool
samples_from rule values i j = rule (get_or values (i + j) nan)

-- bit j of a word
unfoldable pub bit_at : ℕ → ℕ → Bool
bit_at word j = eqb (word / 2 ^ j % 2) 1

-- the numbers of the tests that hold, of n tests from test i on, the lowest first
unfoldable pub holding : (ℕ → Bool) → ℕ → ℕ → List ℕ
holding f i zero = []
holding f i (suc n) = cond (f i) (i ∷ holding f (suc i) n) (holding f (suc i) n)

-- the places of the bits that are set, of a word whose lowest bit has place `at`, up to place 63
unfoldable pub set_from : ℕ → ℕ → List ℕ
set_from word at = holding (λ j. bit_at word (j - at)) at (64 - at)

-- the places of the bits of a word that are set
unfoldable pub set_bits : ℕ → List ℕ
set_bits word = holding (bit_at word) 0 64

-- a word of 64 bits with one more before its first, without its last
unfoldable pub moved_in : ℕ → Bool → ℕ
moved_in word before = word % 2 ^ 63 * 2 + when 1 before

-- Points and rings out of the words X, Y, X, Y, and so on, by the number of a point. Assumes nothing.
use Rattle.std.specs.Prelude.{◌≡◌, List, [], ◌∷◌, ℕ, zero, suc, ◌+◌, ◌*◌, ◌≤◌, length, get_or}
use Rattle.scope.specs.Cells.{Point}
use Rattle.scope.specs.Stitching.{Line}

-- the point of number k
unfoldable pub point_in : List ℕ → ℕ → Point
point_in words k = record { x = get_or words (2 * k) 0; y = get_or words (2 * k + 1) 0 }

-- the ring of a record: so many points, from the point of number first on
unfoldable pub ring_in : List ℕ → ℕ → ℕ → Line
ring_in words first zero = []
ring_in words first (suc count) = point_in words first ∷ ring_in words (suc first) count

-- no two neighbours are equal
abbrev pub Stepping : Line → Type 0
Stepping [] = Unit {0}
Stepping (p ∷ []) = Unit {0}
Stepping (p ∷ q ∷ l) = (p ≡ q → ⊥) × Stepping (q ∷ l)

-- the words hold such a ring
pub record RingThere (words : List ℕ) (first count : ℕ) : Type 0 where
  pub some : 1 ≤ count
  pub within : 2 * (first + count) ≤ length words
  pub stepping : Stepping (ring_in words first count)

-- The parser: a plain descent over the bytes of a text, front to back, that finds the input whose text it is. Assumes nothing.
use Rattle.std.specs.Prelude.{ℕ, zero, suc, ◌+◌, ◌-◌, ◌*◌, Bool, cond, ◌&&◌, List, [], ◌∷◌, ◌++◌, leb, ltb, eqb}
use Rattle.scope.specs.Program.{Input, number_limit, program_side}

-- what is found, with the bytes that are left; or nothing
pub data Got (A : Type 0) : Type 0 where
  found : A → List ℕ → Got A
  none : Got A

abbrev pub and_then : {A B : Type 0} → Got A → (A → List ℕ → Got B) → Got B
and_then none next = none
and_then (found a t) next = next a t

unfoldable pub is_digit : ℕ → Bool
is_digit b = leb 48 b && leb b 57

-- a number n goes on with the byte b: a digit that follows no leading zero, and the number stays within the limit
unfoldable pub goes_on : ℕ → ℕ → Bool
goes_on n b = is_digit b && ltb 0 n && leb (10 * n + (b - 48)) number_limit

-- the rest of a number that begins with n, and the byte that ends it
unfoldable pub rest : ℕ → ℕ → List ℕ → Got ℕ
rest end n [] = none
rest end n (b ∷ t) = cond (eqb b end) (found n t) (cond (goes_on n b) (rest end (10 * n + (b - 48)) t) none)

-- a number, and the byte that ends it
unfoldable pub number : ℕ → List ℕ → Got ℕ
number end [] = none
number end (b ∷ t) = cond (is_digit b) (rest end (b - 48) t) none

-- numbers in front of those that are found
unfoldable pub prepended : List ℕ → Got (List ℕ) → Got (List ℕ)
prepended ns none = none
prepended ns (found ms t) = found (ns ++ ms) t

-- a number for each of the bytes that end them
unfoldable pub numbers : List ℕ → List ℕ → Got (List ℕ)
numbers [] t = found [] t
numbers (end ∷ ends) t = and_then (number end t) (λ n r. prepended (n ∷ []) (numbers ends r))

-- what ends the number in a column of dx, and the column of the next
unfoldable pub end_of : ℕ → ℕ → ℕ
end_of dx column = cond (eqb (column + 1) dx) 10 32

unfoldable pub column_after : ℕ → ℕ → ℕ
column_after dx column = cond (eqb (column + 1) dx) 0 (column + 1)

-- what ends this many numbers from a column on
unfoldable pub ends_from : ℕ → ℕ → ℕ → List ℕ
ends_from dx column zero = []
ends_from dx column (suc n) = end_of dx column ∷ ends_from dx (column_after dx column) n

unfoldable pub side_fits : ℕ → Bool
side_fits side = ltb 0 side && leb side program_side

unfoldable pub sides_fit : ℕ → ℕ → Bool
sides_fit dx dy = side_fits dx && side_fits dy

-- nothing after the values
unfoldable pub ended : ℕ → ℕ → ℕ → List ℕ → List ℕ → Got Input
ended dx dy t values [] = found (record { dx = dx; dy = dy; threshold = t; values = values }) []
ended dx dy t values (b ∷ bs) = none

-- the rows, after a first line that fits
unfoldable pub headed : ℕ → ℕ → ℕ → List ℕ → Got Input
headed dx dy t bytes = cond (sides_fit dx dy) (and_then (numbers (ends_from dx 0 (dx * dy)) bytes) (ended dx dy t)) none

unfoldable pub parsed : List ℕ → Got Input
parsed bytes = and_then (number 32 bytes) (λ dx bytes₁. and_then (number 32 bytes₁) (λ dy bytes₂. and_then (number 10 bytes₂) (headed dx dy)))

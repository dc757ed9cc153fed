-- The parser at a place of a text: what it finds in the bytes from there on, by the byte at the place. Assumes nothing.
use mathlib.Core.Path.{◌≡◌}
use mathlib.Core.Bool.{true, false}
use mathlib.Core.List.{List, ◌∷◌}
use Prim.Native.Nat.{ℕ, ◌+◌, ◌-◌, ◌*◌, ◌≤◌, ◌<◌}
use native.Mathlib.Numerals.{add-one}
use lib.ListN.{length, get_or, drop, drop_of_length-le}
use lib.Seq.{drop-cons}
use borrow.Author.Tests.{eq-eqb, ne_eqb}
use Rattle.scope.specs.Program.{number_limit}
use Rattle.reading.specs.Parser.{found, none, is_digit, goes_on, rest, number}

-- past the end
module _ (text : List ℕ) (at end : ℕ) (h : length text ≤ at) where
  pub rest-missing : (n : ℕ) → rest end n (drop at text) ≡ none
  unfolding rest
  rest-missing n = rw (drop_of_length-le text h)

  pub number-missing : number end (drop at text) ≡ none
  unfolding number
  number-missing = rw (drop_of_length-le text h)

-- at a byte
module _ (text : List ℕ) (at end b : ℕ) (h : at < length text) (byte : b ≡ get_or text at 0) where
  next-byte : drop at text ≡ b ∷ drop (at + 1) text
  next-byte = rw (byte, add-one, drop-cons text at 0)

  pub rest_ended : (n : ℕ) → b ≡ end → rest end n (drop at text) ≡ found n (drop (at + 1) text)
  unfolding rest
  rest_ended n e = rw (next-byte, eq-eqb b end e)

  pub rest-goes-on : (n : ℕ) → (b ≡ end → ⊥) → goes_on n b ≡ true → rest end n (drop at text) ≡ rest end (10 * n + (b - 48)) (drop (at + 1) text)
  unfolding rest
  rest-goes-on n other on = rw (next-byte, ne_eqb b end other, on)

  pub rest-faulty : (n : ℕ) → (b ≡ end → ⊥) → goes_on n b ≡ false → rest end n (drop at text) ≡ none
  unfolding rest
  rest-faulty n other on = rw (next-byte, ne_eqb b end other, on)

  pub number-begun : is_digit b ≡ true → number end (drop at text) ≡ rest end (b - 48) (drop (at + 1) text)
  unfolding number
  number-begun digit = rw (next-byte, digit)

  pub number-faulty : is_digit b ≡ false → number end (drop at text) ≡ none
  unfolding number
  number-faulty digit = rw (next-byte, digit)

-- what is left of a number gives what the whole does
pub record Begun (text : List ℕ) (from begun end value at : ℕ) : Type 0 where
  pub within : value ≤ number_limit
  pub left : rest end begun (drop from text) ≡ rest end value (drop at text)

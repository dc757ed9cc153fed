-- Words that stand in a list behind n others: they are a part of the list, and its words there are theirs. Packed rings and records stand so.
-- Assumes nothing.
use mathlib.Core.Path.{◌≡◌, refl, sym, ◌∙◌, ap}
use mathlib.Core.List.{List, [], ◌++◌, append_assoc}
use Prim.Native.Nat.{ℕ, ◌+◌, ◌≤◌, ◌<◌}
use native.Mathlib.Omega.{arith}
use lib.ListN.{length, get_or, take, drop, length-append, get_or-append}
use lib.Seq.{take_at, drop_at, get_or-append-add}

pub record Behind (n : ℕ) (part whole : List ℕ) : Type 0 where
  pub before : List ℕ
  pub past : List ℕ
  pub whole_is : whole ≡ before ++ (part ++ past)
  pub as_many : length before ≡ n

-- first of all, and behind some more words
pub at_front : (part past : List ℕ) → Behind 0 part (part ++ past)
at_front part past = record { before = []; past = past; whole_is = refl; as_many = refl }

pub further : (front : List ℕ) {n : ℕ} {part whole : List ℕ} → Behind n part whole → Behind (length front + n) part (front ++ whole)
further front {n} {part} b = record {
  before = front ++ b.before;
  past = b.past;
  whole_is = ap (λ (l : List ℕ). front ++ l) b.whole_is ∙ sym (append_assoc front b.before (part ++ b.past));
  as_many = omega (arith, length-append front b.before, b.as_many);
}

module _ {n : ℕ} {part whole : List ℕ} (b : Behind n part whole) where
  pub within : n + length part ≤ length whole
  within = omega (arith, ap length b.whole_is, length-append b.before (part ++ b.past), length-append part b.past, b.as_many)

  pub taken : (count : ℕ) → length part ≡ count → take count (drop n whole) ≡ part
  taken count e =
      ap (λ (l : List ℕ). take count (drop n l)) b.whole_is
      ∙ ap (take count) (drop_at b.before (part ++ b.past) n b.as_many)
      ∙ take_at part b.past count e

  pub word : (i : ℕ) → i < length part → get_or whole (n + i) 0 ≡ get_or part i 0
  word i h =
      ap (λ (l : List ℕ). get_or l (n + i) 0) b.whole_is
      ∙ ap (λ (k : ℕ). get_or (b.before ++ (part ++ b.past)) (k + i) 0) (sym b.as_many)
      ∙ get_or-append-add b.before (part ++ b.past) i 0
      ∙ get_or-append part b.past 0 i h

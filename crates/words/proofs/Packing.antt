-- Tests packed into a number: it is below 2 ^ n, and of m + n tests the last n are its high part. So a word that holds the last samples of
-- some values takes in those before them, and fits. Assumes nothing.
use mathlib.Core.Path.{◌≡◌, refl, sym, ◌∙◌, ap, subst}
use mathlib.Core.Bool.{Bool, true, false}
use mathlib.Core.List.{List}
use Prim.Native.Nat.{ℕ, zero, suc, ◌+◌, ◌-◌, ◌*◌, ◌^◌, ◌≤◌, ◌<◌}
use native.Mathlib.Nat.{lt_of_lt_of_le, sub_self, sub-zero, zero-add, add-zero, suc-add, add_comm, add_assoc, mul_comm, mul_assoc, pow-zero, pow-suc}
use native.Mathlib.Omega.{arith}
use lib.Ieee.{Float, nan}
use lib.ListN.{get_or}
use lib.Pow.{pow_mono}
use Rattle.std.specs.Int.{from_bool}
use Rattle.scope.specs.Cells.{when}
use Rattle.words.specs.Bits.{packed, samples_from}

-- a test weighs at most 1
pub bit-small : (b : Bool) → when 1 b ≤ 1
bit-small true = omega arith
bit-small false = omega arith

-- a test as a number is its weight of 1
pub bit-is : (b : Bool) → from_bool b ≡ when 1 b
bit-is true = refl
bit-is false = refl

-- n tests are a number below 2 ^ n
pub packed-small : (f : ℕ → Bool) (n : ℕ) → packed f n < 2 ^ n
unfolding packed
packed-small f zero = omega arith
packed-small f (suc n) = omega (arith, pow-suc 2 n, packed-small (λ j. f (suc j)) n, bit-small (f 0))

-- the first tests, and the rest
pub one_more : (f : ℕ → Bool) (n : ℕ) → packed f (suc n) ≡ packed (λ j. f (suc j)) n * 2 + when 1 (f 0)
unfolding packed
one_more f n = refl

-- equal tests are packed alike
pub packed_alike : (f g : ℕ → Bool) (n : ℕ) → ((j : ℕ) → j < n → f j ≡ g j) → packed f n ≡ packed g n
unfolding packed
packed_alike f g zero same = refl
packed_alike f g (suc n) same =
    rw (packed_alike (λ j. f (suc j)) (λ j. g (suc j)) n (λ j l. same (suc j) (omega arith)), same 0 (omega arith)) refl

-- of m tests and n more, the more are the high part
pub packed-split : (f : ℕ → Bool) (m n : ℕ) → packed f (m + n) ≡ packed f m + 2 ^ m * packed (λ j. f (m + j)) n
unfolding packed
packed-split f zero n = rw (zero-add n, pow-zero 2) (omega (arith, packed_alike (λ j. f (0 + j)) f n (λ j l. ap f (zero-add j))))
packed-split f (suc m) n =
    rw (suc-add m n, pow-suc 2 m, mul_comm (2 ^ m) 2, mul_assoc 2 (2 ^ m), packed_alike (λ j. f (suc m + j)) (λ j. f (suc (m + j))) n (λ j l. ap f (suc-add m j)))
    (omega (arith, packed-split (λ j. f (suc j)) m n))

module _ (rule : Float → Bool) (values : List Float) (i : ℕ) where
  -- the sample of one value
  pub one-sample : packed (samples_from rule values i) 1 ≡ when 1 (rule (get_or values i nan))
  unfolding packed
  one-sample = rw (add-zero i) (omega arith)

  -- the samples of eight values, as the sum of their weights
  pub eight-samples : from_bool (rule (get_or values i nan)) + from_bool (rule (get_or values (i + 1) nan)) * 2 + from_bool (rule (get_or values (i + 2) nan)) * 4 + from_bool (rule (get_or values (i + 3) nan)) * 8 + from_bool (rule (get_or values (i + 4) nan)) * 16 + from_bool (rule (get_or values (i + 5) nan)) * 32 + from_bool (rule (get_or values (i + 6) nan)) * 64 + from_bool (rule (get_or values (i + 7) nan)) * 128 ≡ packed (samples_from rule values i) 8
  unfolding packed
  eight-samples =
      rw (add-zero i, bit-is (rule (get_or values i nan)), bit-is (at 1), bit-is (at 2), bit-is (at 3), bit-is (at 4), bit-is (at 5), bit-is (at 6), bit-is (at 7))
      (omega arith)
    where
      at : ℕ → Bool
      at j = rule (get_or values (i + j) nan)

  -- the samples of m values and of n more
  pub samples-split : (m n : ℕ) → packed (samples_from rule values i) (m + n) ≡ packed (samples_from rule values (i + m)) n * 2 ^ m + packed (samples_from rule values i) m
  samples-split m n =
      rw (packed-split (samples_from rule values i) m n, packed_alike (samples_from rule values (i + m)) (λ j. samples_from rule values i (m + j)) n (λ j l. further j), mul_comm (2 ^ m))
      (add_comm (packed (samples_from rule values i) m) _)
    where
      further : (j : ℕ) → samples_from rule values (i + m) j ≡ samples_from rule values i (m + j)
      further j = ap (λ (k : ℕ). rule (get_or values k nan)) (add_assoc i m j)

-- two halves of m samples are a whole, and each is small
module _ (rule : Float → Bool) (values : List Float) (i m : ℕ) where
  pub halves : {low high : ℕ} → low ≡ packed (samples_from rule values i) m → high ≡ packed (samples_from rule values (i + m)) m →
      low + high * 2 ^ m ≡ packed (samples_from rule values i) (m + m)
  halves {low} {high} el eh = add_comm low (high * 2 ^ m) ∙ rw (el, eh) (sym (samples-split rule values i m m))

  pub half-small : {half : ℕ} → half ≡ packed (samples_from rule values i) m → half < 2 ^ m
  half-small e = rw e (packed-small (samples_from rule values i) m)

-- of the samples of n values from index i on, the first `left` are left, and the word holds the others
pub record Holds (rule : Float → Bool) (values : List Float) (i n left word : ℕ) : Type 0 where
  pub left-within : left ≤ n
  pub held : word ≡ packed (samples_from rule values (i + left)) (n - left)

module _ (rule : Float → Bool) (values : List Float) (i n : ℕ) where
  -- at first all are left
  pub holds-none : Holds rule values i n n 0
  unfolding packed
  holds-none = record { left-within = omega arith; held = rw (sub_self n) }

  -- the last m of those left are taken in, and fewer are left
  pub holds_more : {left fewer word : ℕ} (m part : ℕ) → Holds rule values i n left word → fewer + m ≡ left → part ≡ packed (samples_from rule values (i + fewer)) m → Holds rule values i n fewer (word * 2 ^ m + part)
  holds_more {left} {fewer} {word} m part w h e = record {
    left-within = omega (arith, w.left-within);
    held = rw (e, w.held, more) (sym (rw on at (samples-split rule values (i + fewer) m (n - left))));
  }
    where
      more : n - fewer ≡ m + (n - left)
      more = omega (arith, w.left-within)

      on : i + fewer + m ≡ i + left
      on = omega arith

  -- the last of those left is taken in
  pub holds-one : {left fewer word bit : ℕ} {sample : Bool} → Holds rule values i n left word → fewer + 1 ≡ left → bit ≡ from_bool sample → sample ≡ rule (get_or values (i + fewer) nan) → Holds rule values i n fewer (word * 2 + bit)
  holds-one w h e s = holds_more 1 _ w h (e ∙ ap from_bool s ∙ bit-is _ ∙ sym (one-sample rule values _))

  -- those left by another name
  pub holds-as : {left same word : ℕ} → Holds rule values i n left word → left ≡ same → Holds rule values i n same word
  holds-as {word = word} w e = subst (λ (left : ℕ). Holds rule values i n left word) e w

  -- what is held fits a word
  pub holds_fits : {left word : ℕ} → Holds rule values i n left word → n ≤ 64 → word < 2 ^ 64
  holds_fits {left} w h = rw w.held (lt_of_lt_of_le (packed-small _ (n - left)) (pow_mono {j = 64} (omega arith)))

  -- and so it does once it is moved up by m of those left
  pub holds-room : {left word : ℕ} (m : ℕ) → Holds rule values i n left word → m ≤ left → n ≤ 64 → word * 2 ^ m < 2 ^ 64
  holds-room {left} m w h l = omega (arith, holds_fits (holds_more {fewer = left - m} m _ w (omega arith) refl) l)

  -- at the end none are left
  pub holds-all : {left word : ℕ} → Holds rule values i n left word → left ≤ 0 → word ≡ packed (samples_from rule values i) n
  holds-all {left} w h = w.held ∙ rw (none, add-zero i, sub-zero n)
    where
      none : left ≡ 0
      none = omega arith

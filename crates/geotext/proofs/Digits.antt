-- A number's text is the digits of the units from a power of 10 down, those that the number reaches. By induction on the power. Assumes nothing.
use mathlib.Core.Path.{◌≡◌, sym, ap, ap₂, ◌∙◌}
use mathlib.Core.Bool.{Bool, cond}
use mathlib.Core.List.{List, [], ◌∷◌, ◌++◌, append_assoc}
use Prim.Native.Nat.{ℕ, zero, suc, ◌+◌, ◌*◌, ◌/◌, ◌%◌, ◌^◌, ◌≤◌, ◌<◌}
use native.Mathlib.Nat.{pow-succ', one-le-pow, div-div-eq-div-mul}
use native.Mathlib.Decide.{dec_lt}
use native.Mathlib.Omega.{arith}
use lib.Dec.{ltb}
use borrow.Author.Tests.{lt-ltb, le-ltb}
use Rattle.scope.specs.GeoJson.{decimal}
use Rattle.laws.proofs.Digits.{one-digit, last-digit}
use Rattle.geotext.specs.Pieces.{digit_text}

pub digit-below : (n unit : ℕ) → n < unit → digit_text n unit ≡ []
unfolding digit_text
digit-below n unit h = rw (lt-ltb n unit h)

pub digit-reached : (n unit : ℕ) → unit ≤ n → digit_text n unit ≡ (48 + n / unit % 10) ∷ []
unfolding digit_text
digit-reached n unit h = rw (le-ltb n unit h)

-- those that count 10 to the power of k, and so on down to 10, and the last
abbrev pub low_digits : ℕ → ℕ → List ℕ
low_digits zero n = (48 + n % 10) ∷ []
low_digits (suc k) n = digit_text n (10 ^ suc k) ++ low_digits k n

-- a digit of the tenth is the one before it of the number
digit-of-the-tenth : (n unit : ℕ) → digit_text n (10 * unit) ≡ digit_text (n / 10) unit
unfolding digit_text
digit-of-the-tenth n unit =
    ap₂ (λ (b : Bool) (q : ℕ). cond b [] ((48 + q % 10) ∷ [])) (by (dec_lt n (10 * unit))) (sym (div-div-eq-div-mul n 10 unit))
  where
    by : Dec (n < 10 * unit) → ltb n (10 * unit) ≡ ltb (n / 10) unit
    by (yes h) = lt-ltb n (10 * unit) h ∙ sym (lt-ltb (n / 10) unit (omega arith))
    by (no h) = le-ltb n (10 * unit) (omega (arith, h)) ∙ sym (le-ltb (n / 10) unit (omega (arith, h)))

low_digit : (k n : ℕ) → n < 10 → low_digits k n ≡ (48 + n) ∷ []
low_digit zero n h = let same : n % 10 ≡ n = omega arith in rw same
low_digit (suc k) n h =
    rw (digit-below n (10 ^ suc k) (omega (arith, pow-succ' 10 k, one-le-pow k 10 (omega arith)))) (low_digit k n h)

low-digits : (k n : ℕ) → 10 ≤ n → low_digits (suc k) n ≡ low_digits k (n / 10) ++ ((48 + n % 10) ∷ [])
low-digits zero n h = rw (digit-reached n 10 h)
low-digits (suc k) n h =
    rw (pow-succ' 10 (suc k), digit-of-the-tenth n (10 ^ suc k), append_assoc (digit_text (n / 10) (10 ^ suc k)))
    (ap (λ (t : List ℕ). digit_text (n / 10) (10 ^ suc k) ++ t) (low-digits k n h))

pub digits-by-units : (k n : ℕ) → n < 10 ^ suc k → decimal n ≡ low_digits k n
digits-by-units zero n h = one-digit n h ∙ sym (low_digit 0 n h)
digits-by-units (suc k) n h = by (dec_lt n 10) (digits-by-units k (n / 10) (omega (arith, pow-succ' 10 (suc k))))
  where
    by : Dec (n < 10) → decimal (n / 10) ≡ low_digits k (n / 10) → decimal n ≡ low_digits (suc k) n
    by (yes few) tenth = one-digit n few ∙ sym (low_digit (suc k) n few)
    by (no many) tenth = let h : 10 ≤ n = omega (arith, many) in last-digit n h ∙ rw tenth (sym (low-digits k n h))

-- One number: `decimal`, a digit at a time, and the parser's number against it. What the parser reads is the decimal of what it finds, and a decimal
-- within the limit is read back, with the byte that ends it and what is left. Assumes nothing.
use mathlib.Core.Path.{◌≡◌, refl, sym, ◌∙◌}
use mathlib.Core.Bool.{Bool, true, false, cond, ◌&&◌, true≢false}
use mathlib.Core.List.{List, [], ◌∷◌, ◌++◌, append_assoc}
use Prim.Native.Nat.{ℕ, zero, suc, ◌+◌, ◌-◌, ◌*◌, ◌/◌, ◌%◌, ◌^◌, ◌≤◌, ◌<◌}
use native.Mathlib.Nat.{pow-suc}
use native.Mathlib.Omega.{arith}
use lib.Dec.{ltb, eqb}
use lib.ListN.{length, length-append}
use borrow.Author.Tests.{ltb-true, ltb-false, leb-true, eqb-true, lt-ltb, le-leb, eq-eqb, ne_eqb}
use Rattle.scope.specs.GeoJson.{decimal}
use Rattle.scope.specs.Program.{number_limit}
use Rattle.laws.proofs.Digits.{one-digit, last-digit}
use Rattle.reading.specs.Parser.{found, none, is_digit, goes_on, rest, number}

-- ---- decimals

-- a digit more
decimal-appended : (n d : ℕ) → 0 < n → d < 10 → decimal (10 * n + d) ≡ decimal n ++ ((48 + d) ∷ [])
decimal-appended n d h g =
    let quotient : (10 * n + d) / 10 ≡ n = omega arith in
    let remainder : (10 * n + d) % 10 ≡ d = omega arith in
    last-digit (10 * n + d) (omega arith) ∙ rw (quotient, remainder)

-- a number below a power of ten has no more digits than that
pub decimal-length : (k n : ℕ) → n < 10 ^ suc k → length (decimal n) ≤ suc k
decimal-length zero n h = let few : n < 10 = h in rw (one-digit n few) (omega arith)
decimal-length (suc k) n h = by (ltb n 10) refl (λ large. decimal-length k (n / 10) (omega (arith, pow-suc 10 (suc k))))
  where
    by : (b : Bool) → ltb n 10 ≡ b → (10 ≤ n → length (decimal (n / 10)) ≤ suc k) → length (decimal n) ≤ suc (suc k)
    by true t fewer = rw (one-digit n (ltb-true n 10 t)) (omega arith)
    by false t fewer =
        let large = ltb-false n 10 t in
        let shorter = fewer large in
        rw (last-digit n large, length-append) (omega arith)

-- ---- the parser

pub nothing-found : {A : Type 0} {a : A} {left : List ℕ} → none ≡ found a left → ⊥
nothing-found e = let never : ◌≡◌ {A = ℕ} 0 1 = cc in omega arith

pub both : (a b : Bool) → a && b ≡ true → (a ≡ true) × (b ≡ true)
both true b e = (refl, e)
both false b e = absurd (true≢false (sym e))

pub digit-bounds : (b : ℕ) → is_digit b ≡ true → (48 ≤ b) × (b ≤ 57)
unfolding is_digit
digit-bounds b e = let tests = both _ _ e in (leb-true _ _ tests.0, leb-true _ _ tests.1)

digit-is : (b : ℕ) → 48 ≤ b → b ≤ 57 → is_digit b ≡ true
unfolding is_digit
digit-is b h g = rw (le-leb 48 b h, le-leb b 57 g)

goes-on-is : (n d : ℕ) → 0 < n → d < 10 → 10 * n + d ≤ number_limit → goes_on n (48 + d) ≡ true
unfolding goes_on
goes-on-is n d some digit within =
    let value : 48 + d - 48 ≡ d = omega arith in
    rw (digit-is (48 + d) (omega arith) (omega arith), lt-ltb 0 n some, value, le-leb (10 * n + d) number_limit within)

pub record GoesOn (n b : ℕ) : Type 0 where
  pub low : 48 ≤ b
  pub high : b ≤ 57
  pub begun : 0 < n
  pub within : 10 * n + (b - 48) ≤ number_limit

pub goes-on : (n b : ℕ) → goes_on n b ≡ true → GoesOn n b
unfolding goes_on
goes-on n b e =
    let tests = both _ _ e in
    let digits = both _ _ tests.0 in
    record {
      low = (digit-bounds b digits.0).0;
      high = (digit-bounds b digits.0).1;
      begun = ltb-true _ _ digits.1;
      within = leb-true _ _ tests.1;
    }

-- a byte more
decimal-goes-on : (n b : ℕ) (bytes : List ℕ) → GoesOn n b → decimal n ++ (b ∷ bytes) ≡ decimal (10 * n + (b - 48)) ++ bytes
decimal-goes-on n b bytes on =
    let byte : 48 + (b - 48) ≡ b = omega arith in
    rw (decimal-appended n (b - 48) on.begun (omega arith), byte, append_assoc)

-- bytes are a number within the limit, its end, and what is left
pub record Numbered (end : ℕ) (bytes : List ℕ) (n : ℕ) (left : List ℕ) : Type 0 where
  pub within : n ≤ number_limit
  pub is-text : bytes ≡ decimal n ++ (end ∷ left)

pub digit-within : (n : ℕ) → n < 10 → n ≤ number_limit
unfolding number_limit
digit-within n h = omega arith

-- what the parser finds
rest-sound : (end begun : ℕ) (bytes : List ℕ) (n : ℕ) (left : List ℕ) → begun ≤ number_limit → rest end begun bytes ≡ found n left →
    Numbered end (decimal begun ++ bytes) n left
unfolding rest
rest-sound end begun [] n left h e = absurd (nothing-found e)
rest-sound end begun (b ∷ bytes) n left h e =
    by (eqb b end) (goes_on begun b) refl refl e (λ on. rest-sound end (10 * begun + (b - 48)) bytes n left on.within)
  where
    by : (x y : Bool) → eqb b end ≡ x → goes_on begun b ≡ y → cond x (found begun bytes) (cond y (rest end (10 * begun + (b - 48)) bytes) none) ≡ found n left →
        (GoesOn begun b → rest end (10 * begun + (b - 48)) bytes ≡ found n left → Numbered end (decimal (10 * begun + (b - 48)) ++ bytes) n left) →
        Numbered end (decimal begun ++ (b ∷ bytes)) n left
    by true y t s f further =
        let same : b ≡ end = eqb-true b end t in
        let value : begun ≡ n = cc in
        record { within = omega arith; is-text = cc }
    by false true t s f further = rw (decimal-goes-on begun b bytes (goes-on begun b s)) (further (goes-on begun b s) f)
    by false false t s f further = absurd (nothing-found f)

pub number-sound : (end : ℕ) (bytes : List ℕ) (n : ℕ) (left : List ℕ) → number end bytes ≡ found n left → Numbered end bytes n left
unfolding number
number-sound end [] n left e = absurd (nothing-found e)
number-sound end (b ∷ bytes) n left e = by (is_digit b) refl e
  where
    by : (x : Bool) → is_digit b ≡ x → cond x (rest end (b - 48) bytes) none ≡ found n left → Numbered end (b ∷ bytes) n left
    by true t f =
        let bounds = digit-bounds b t in
        let byte : 48 + (b - 48) ≡ b = omega arith in
        rw (one-digit (b - 48) (omega arith), byte) at (rest-sound end (b - 48) bytes n left (digit-within (b - 48) (omega arith)) f)
    by false t f = absurd (nothing-found f)

-- what the parser reads back, up to an end that is no digit
module _ (end : ℕ) (plain : is_digit end ≡ false) where
  other : (d : ℕ) → d < 10 → eqb (48 + d) end ≡ false
  other d h = ne_eqb (48 + d) end (λ same. absurd (true≢false (sym (digit-is (48 + d) (omega arith) (omega arith)) ∙ (rw same plain))))

  further : (n d : ℕ) (bytes : List ℕ) → 0 < n → d < 10 → 10 * n + d ≤ number_limit → rest end n ((48 + d) ∷ bytes) ≡ rest end (10 * n + d) bytes
  unfolding rest
  further n d bytes some digit within =
      let value : 48 + d - 48 ≡ d = omega arith in
      rw (other d digit, goes-on-is n d some digit within, value)

  digit-read : (n : ℕ) (bytes : List ℕ) → n < 10 → number end (decimal n ++ bytes) ≡ rest end n bytes
  unfolding number
  digit-read n bytes h =
      let value : 48 + n - 48 ≡ n = omega arith in
      rw (one-digit n h, digit-is (48 + n) (omega arith) (omega arith), value)

  decimal-read : (k n : ℕ) (bytes : List ℕ) → n ≤ k → n ≤ number_limit → number end (decimal n ++ bytes) ≡ rest end n bytes
  decimal-read zero n bytes h within = digit-read n bytes (omega arith)
  decimal-read (suc k) n bytes h within =
      by (ltb n 10) refl (λ large. decimal-read k (n / 10) ((48 + n % 10) ∷ bytes) (omega arith) (omega arith))
    where
      by : (b : Bool) → ltb n 10 ≡ b →
          (10 ≤ n → number end (decimal (n / 10) ++ ((48 + n % 10) ∷ bytes)) ≡ rest end (n / 10) ((48 + n % 10) ∷ bytes)) →
          number end (decimal n ++ bytes) ≡ rest end n bytes
      by true t shorter = digit-read n bytes (ltb-true n 10 t)
      by false t shorter =
          let large = ltb-false n 10 t in
          let whole : 10 * (n / 10) + n % 10 ≡ n = omega arith in
          rw (last-digit n large, append_assoc) (shorter large ∙ further (n / 10) (n % 10) bytes (omega arith) (omega arith) (omega arith) ∙ rw whole)

  pub number-complete : (n : ℕ) (left : List ℕ) → n ≤ number_limit → number end (decimal n ++ (end ∷ left)) ≡ found n left
  unfolding rest
  number-complete n left within = decimal-read n n (end ∷ left) (omega arith) within ∙ rw (eq-eqb end end refl)

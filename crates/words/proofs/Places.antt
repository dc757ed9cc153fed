-- The places of the set bits of a word, one after the other: the lowest is the first, and those of what is left of the word follow it. And of any tests,
-- those that hold. By induction on the number of tests. Assumes nothing.
use mathlib.Core.Path.{◌≡◌, refl, sym, ◌∙◌, ap, subst}
use mathlib.Core.Bool.{Bool, true, false}
use mathlib.Core.List.{List, [], ◌∷◌}
use Prim.Native.Nat.{ℕ, zero, suc, ◌+◌, ◌-◌, ◌/◌, ◌%◌, ◌^◌, ◌≤◌, ◌<◌}
use native.Mathlib.Nat.{add-zero, pow-suc, div-one, sub-zero}
use native.Mathlib.Decide.{ℕ_discrete}
use native.Mathlib.Numerals.{add-one}
use native.Mathlib.Omega.{arith}
use lib.Count.{count_trailing_zeros}
use lib.Dec.{eqb}
use Rattle.scope.specs.Cells.{when}
use Rattle.words.specs.Bits.{packed, bit_at, holding, set_from, set_bits}
use Rattle.words.proofs.Packing.{packed-small, packed_alike}
use Rattle.words.proofs.Laws.{shifted, bit-is-test, Found, lowest-found, none-packed}

-- ---- the tests that hold

no-tests : (f : ℕ → Bool) (i : ℕ) → holding f i 0 ≡ []
unfolding holding
no-tests f i = refl

held-there : (f : ℕ → Bool) (i n : ℕ) → f i ≡ true → holding f i (suc n) ≡ i ∷ holding f (suc i) n
unfolding holding
held-there f i n e = rw e refl

passed_over : (f : ℕ → Bool) (i n : ℕ) → f i ≡ false → holding f i (suc n) ≡ holding f (suc i) n
unfolding holding
passed_over f i n e = rw e refl

pub held_alike : (f g : ℕ → Bool) (i n : ℕ) → ((j : ℕ) → i ≤ j → j < i + n → f j ≡ g j) → holding f i n ≡ holding g i n
unfolding holding
held_alike f g i zero same = refl
held_alike f g i (suc n) same =
    rw (same i (omega arith) (omega arith), held_alike f g (suc i) n (λ j l h. same j (omega arith) (omega arith))) refl

none-held : (f : ℕ → Bool) (i n : ℕ) → ((j : ℕ) → i ≤ j → j < i + n → f j ≡ false) → holding f i n ≡ []
none-held f i zero none = no-tests f i
none-held f i (suc n) none =
    passed_over f i n (none i (omega arith) (omega arith)) ∙ none-held f (suc i) n (λ j l h. none j (omega arith) (omega arith))

-- the first that holds, and those after it
first-held : (f : ℕ → Bool) (i n t : ℕ) → t < n → ((j : ℕ) → j < t → f (i + j) ≡ false) → f (i + t) ≡ true →
    holding f i n ≡ (i + t) ∷ holding f (i + t + 1) (n - suc t)
first-held f i zero t h none e = absurd (omega arith)
first-held f i (suc n) zero h none e =
    let here : suc n - 1 ≡ n = omega arith in
    held-there f i n (ap f (sym (add-zero i)) ∙ e) ∙ rw (here, add-zero i, add-one i) refl
first-held f i (suc n) (suc t) h none e =
    let on : suc i + t ≡ i + suc t = omega arith in
    let less : suc n - suc (suc t) ≡ n - suc t = omega arith in
    passed_over f i n (ap f (sym (add-zero i)) ∙ none 0 (omega arith))
    ∙ first-held f (suc i) n t (omega arith) (λ j l. ap f (omega arith) ∙ none (suc j) (omega arith)) (ap f on ∙ e)
    ∙ rw (on, less) refl

-- j is the first of n tests from test i on that holds, and `more` are those after it
pub record First (f : ℕ → Bool) (i n j : ℕ) (more : List ℕ) : Type 0 where
  pub not-before : i ≤ j
  pub in-range : j < i + n
  pub none_between : (k : ℕ) → i ≤ k → k < j → f k ≡ false
  pub holds : f j ≡ true
  pub then-more : more ≡ holding f (j + 1) (i + n - (j + 1))

pub first-is : (f : ℕ → Bool) (i n : ℕ) {j : ℕ} {more : List ℕ} → holding f i n ≡ j ∷ more → First f i n j more
first-is f i zero e = let none = no-tests f i in absurd (cc)
first-is f i (suc n) {j} {more} e = by (f i) refl (λ e. first-is f (suc i) n e)
  where
    by : (b : Bool) → f i ≡ b → (holding f (suc i) n ≡ j ∷ more → First f (suc i) n j more) → First f i (suc n) j more
    by true t others =
        let there = held-there f i n t in
        let same : i ≡ j = cc in
        let left : more ≡ holding f (suc i) n = cc in
        record {
          not-before = omega arith;
          in-range = omega arith;
          none_between = λ k l h. absurd (omega arith);
          holds = ap f (sym same) ∙ t;
          then-more = left ∙ ap (λ (k : ℕ). holding f k n) (omega arith) ∙ ap (holding f (j + 1)) (omega arith);
        }
    by false t others =
        let further = others (sym (passed_over f i n t) ∙ e) in
        record {
          not-before = omega (arith, further.not-before);
          in-range = omega (arith, further.in-range);
          none_between = λ k l h. elim (ℕ_discrete k i) [ yes same ↦ ap f same ∙ t | no ne ↦ further.none_between k (omega arith) h ];
          holds = further.holds;
          then-more = further.then-more ∙ ap (holding f (j + 1)) (omega arith);
        }

pub none-is-left : (f : ℕ → Bool) (i n : ℕ) → holding f i n ≡ [] → (j : ℕ) → i ≤ j → j < i + n → f j ≡ false
none-is-left f i zero e j l h = absurd (omega arith)
none-is-left f i (suc n) e j l h = by (f i) refl (λ e ne. none-is-left f (suc i) n e j (omega arith) (omega arith))
  where
    by : (b : Bool) → f i ≡ b → (holding f (suc i) n ≡ [] → (j ≡ i → ⊥) → f j ≡ false) → f j ≡ false
    by true t others = let there = held-there f i n t in absurd (cc)
    by false t others =
        elim (ℕ_discrete j i) [ yes same ↦ ap f same ∙ t | no ne ↦ others (sym (passed_over f i n t) ∙ e) ne ]

-- ---- the bits of a word

small-bit : (x : ℕ) → x < 2 → when 1 (eqb x 1) ≡ x
small-bit zero h = refl
small-bit (suc zero) h = refl
small-bit (suc (suc x)) h = absurd (omega arith)

bit-first : (word : ℕ) → when 1 (bit_at word 0) ≡ word % 2
unfolding bit_at
bit-first word = rw (div-one word) (small-bit (word % 2) (omega arith))

bit_further : (word j : ℕ) → bit_at word (suc j) ≡ bit_at (word / 2) j
unfolding bit_at
bit_further word j = ap (λ (x : ℕ). eqb (x % 2) 1) (shifted word j)

-- a number below 2 ^ n is packed of its own bits
pub own-bits : (word n : ℕ) → word < 2 ^ n → word ≡ packed (bit_at word) n
unfolding packed
own-bits word zero h = omega arith
own-bits word (suc n) h =
    let others : word / 2 ≡ packed (λ j. bit_at word (suc j)) n =
    own-bits (word / 2) n (omega (arith, pow-suc 2 n))
    ∙ packed_alike (bit_at (word / 2)) (λ j. bit_at word (suc j)) n (λ j l. sym (bit_further word j))
    in omega (arith, bit-first word, others)

-- the tests of a word's bits are its bits
pub packed-held : (f : ℕ → Bool) → set_bits (packed f 64) ≡ holding f 0 64
unfolding set_bits
packed-held f = held_alike (bit_at (packed f 64)) f 0 64 (λ j l h. bit-is-test f 64 j (omega arith))

-- what the iterator's next step finds: the lowest bit of what is left, its place, and what is left then
pub record Lowest (word at t : ℕ) : Type 0 where
  pub in-word : at + t < 64
  pub comes_first : set_from word at ≡ (at + t) ∷ set_from (word / 2 ^ t / 2) (at + t + 1)
  pub still-fits : word / 2 ^ t / 2 < 2 ^ (64 - (at + t + 1))

pub next-bit : {word at : ℕ} → at ≤ 64 → word < 2 ^ (64 - at) → (word ≡ 0 → ⊥) → Lowest word at (count_trailing_zeros 64 word)
unfolding set_from
next-bit {word} {at} l h some =
    let t : ℕ = count_trailing_zeros 64 word in
    let own : word ≡ packed (bit_at word) (64 - at) = own-bits word (64 - at) h in
    let there : Found (bit_at word) (64 - at) word (count_trailing_zeros 64 word) =
    subst (λ (w : ℕ). Found (bit_at word) (64 - at) w (count_trailing_zeros 64 w)) (sym own) (lowest-found (bit_at word) (64 - at) 64 (omega arith) (λ z. some (own ∙ z)))
    in
    let fewer : 64 - at - suc t ≡ 64 - (at + t + 1) = omega arith in
    record {
      in-word = omega (arith, there.among);
      comes_first =
          first-held (λ j. bit_at word (j - at)) at (64 - at) t there.among
          (λ j k. ap (bit_at word) (omega arith) ∙ there.none_before j k) (ap (bit_at word) (omega arith) ∙ there.found)
          ∙ ap (λ (n : ℕ). (at + t) ∷ holding (λ j. bit_at word (j - at)) (at + t + 1) n) fewer
          ∙ ap (λ (more : List ℕ). (at + t) ∷ more)
          (held_alike (λ j. bit_at word (j - at)) (λ j. bit_at (word / 2 ^ t / 2) (j - (at + t + 1))) (at + t + 1) (64 - (at + t + 1))
          (λ j l h. sym (
          ap (λ (w : ℕ). bit_at w (j - (at + t + 1))) there.left_over
          ∙ bit-is-test (λ j. bit_at word (suc (t + j))) (64 - at - suc t) (j - (at + t + 1)) (omega arith)
          ∙ ap (bit_at word) (omega arith)
          )));
      still-fits = rw (there.left_over, fewer) (packed-small (λ j. bit_at word (suc (t + j))) (64 - (at + t + 1)));
    }

pub no-bits : (at : ℕ) → set_from 0 at ≡ []
unfolding set_from
no-bits at = none-held (λ j. bit_at 0 (j - at)) at (64 - at) (λ j l h. ap (λ (w : ℕ). bit_at w (j - at)) (sym (none-packed (λ k. false) 64 (λ k. refl))) ∙ bit-is-test (λ k. false) 64 (j - at) (omega arith))

-- at first the whole word is left
pub all-left : (word : ℕ) → set_from word 0 ≡ set_bits word
unfolding set_from set_bits
all-left word = held_alike (λ j. bit_at word (j - 0)) (bit_at word) 0 64 (λ j l h. ap (bit_at word) (sub-zero j))

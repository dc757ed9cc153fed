-- What callers cite of words of samples: what a pane shows, that its changes are the active cells, and how the active cells are found one after the
-- other from the lowest bit. By induction on the number of bits. Assumes nothing.
use mathlib.Core.Path.{◌≡◌, refl, sym, ◌∙◌, ap, ap₂}
use mathlib.Core.Bool.{Bool, true, false, ◌&&◌, ◌||◌, true≢false}
use mathlib.Core.List.{[]}
use Prim.Native.Nat.{ℕ, zero, suc, ◌+◌, ◌-◌, ◌*◌, ◌/◌, ◌%◌, ◌^◌, ◌≤◌, ◌<◌, min, max}
use native.Mathlib.Nat.{zero-add, suc-add, add-zero, add-suc, pow-suc, mod-one, div-one}
use native.Mathlib.Omega.{arith}
use lib.Arith.{mod-mul}
use lib.Pow.{pow_pos, shr-shr}
use lib.Bits.{bit_and, bit_or, bit_xor, and_step, or_step, xor_step, differ}
use lib.Count.{count_trailing_zeros, under, ones, ones_step}
use lib.Dec.{eqb}
use Rattle.scope.specs.Terrain.{Sheet}
use Rattle.scope.specs.Cells.{when, number_of, cell_number, case_table, drawn}
use Rattle.laws.proofs.Tests.{neither}
use Rattle.words.specs.Bits.{packed, bit_at, moved_in}
use Rattle.words.specs.Panes.{apart, active, lower_apart, upper_apart, saddle, opening, closing, Shows, pane_of, changes_in, number_in, lower_in, upper_in, saddles_in, opening_in, closing_in}
use Rattle.words.specs.declared.Pane.{Pane}
use Rattle.words.proofs.Packing.{bit-small, one_more, packed_alike}

-- ---- bits

-- the lowest bit, and the rest
lowest : (x : ℕ) (b : Bool) → (x * 2 + when 1 b) % 2 ≡ when 1 b
lowest x b = omega (arith, bit-small b)

rest : (x : ℕ) (b : Bool) → (x * 2 + when 1 b) / 2 ≡ x
rest x b = omega (arith, bit-small b)

first_bit : (f : ℕ → Bool) (n : ℕ) → packed f (suc n) % 2 ≡ when 1 (f 0)
unfolding packed
first_bit f n = lowest (packed (λ j. f (suc j)) n) (f 0)

other-bits : (f : ℕ → Bool) (n : ℕ) → packed f (suc n) / 2 ≡ packed (λ j. f (suc j)) n
unfolding packed
other-bits f n = rest (packed (λ j. f (suc j)) n) (f 0)

pub none-packed : (f : ℕ → Bool) (n : ℕ) → ((j : ℕ) → f j ≡ false) → packed f n ≡ 0
unfolding packed
none-packed f zero h = refl
none-packed f (suc n) h = rw (none-packed (λ j. f (suc j)) n (λ j. h (suc j)), h 0) refl

-- tests past the last that holds add nothing
pub packed-trimmed : (f : ℕ → Bool) (n m : ℕ) → ((j : ℕ) → n ≤ j → f j ≡ false) → packed f (n + m) ≡ packed f n
unfolding packed
packed-trimmed f zero m h = rw (zero-add m) (none-packed f m (λ j. h j (omega arith)))
packed-trimmed f (suc n) m h =
    rw (suc-add n m)
    (ap (λ (x : ℕ). x * 2 + when 1 (f 0)) (packed-trimmed (λ j. f (suc j)) n m (λ j k. h (suc j) (omega arith))))

-- the first n bits alone
packed-low : (f : ℕ → Bool) (n : ℕ) → packed f (suc n) % 2 ^ n ≡ packed f n
packed-low f zero = mod-one (packed f 1) ∙ (unfold packed in refl)
packed-low f (suc n) =
    rw (pow-suc 2 n)
    (mod-mul (packed f (suc (suc n))) (pow_pos n) (omega arith)
    ∙ rw (first_bit f (suc n), other-bits f (suc n), packed-low (λ j. f (suc j)) n) (unfold packed in refl))

-- bit j of packed tests is test j
one-or-none : (b : Bool) → eqb (when 1 b) 1 ≡ b
one-or-none true = refl
one-or-none false = refl

pub shifted : (x j : ℕ) → x / 2 ^ suc j ≡ x / 2 / 2 ^ j
shifted x j = sym (shr-shr x 1 j ∙ ap (λ (k : ℕ). x / 2 ^ k) (omega arith))

pub bit-is-test : (f : ℕ → Bool) (n j : ℕ) → j < n → bit_at (packed f n) j ≡ f j
unfolding bit_at
bit-is-test f zero j h = absurd (omega arith)
bit-is-test f (suc n) zero h = rw (div-one (packed f (suc n)), first_bit f n) (one-or-none (f 0))
bit-is-test f (suc n) (suc j) h =
    ap (λ (x : ℕ). eqb (x % 2) 1) (shifted (packed f (suc n)) j ∙ ap (λ (x : ℕ). x / 2 ^ j) (other-bits f n))
    ∙ bit-is-test (λ j. f (suc j)) n j (omega arith)

-- ---- words bit by bit

either : (a b : Bool) → max (when 1 a) (when 1 b) ≡ when 1 (a || b)
either true true = refl
either true false = refl
either false true = refl
either false false = refl

one_of : (a b : Bool) → differ (when 1 a) (when 1 b) ≡ when 1 (apart a b)
one_of true true = refl
one_of true false = refl
one_of false true = refl
one_of false false = refl

both : (a b : Bool) → min (when 1 a) (when 1 b) ≡ when 1 (a && b)
both true true = refl
both true false = refl
both false true = refl
both false false = refl

and-packed : (f g : ℕ → Bool) (n : ℕ) → bit_and (packed f n) (packed g n) ≡ packed (λ j. f j && g j) n
and-packed f g zero = unfold packed in refl
and-packed f g (suc n) =
    and_step (packed f (suc n)) (packed g (suc n))
    ∙ rw (first_bit f n, first_bit g n, other-bits f n, other-bits g n, and-packed (λ j. f (suc j)) (λ j. g (suc j)) n, both (f 0) (g 0))
    (unfold packed in refl)

or-packed : (f g : ℕ → Bool) (n : ℕ) → bit_or (packed f n) (packed g n) ≡ packed (λ j. f j || g j) n
or-packed f g zero = unfold packed in refl
or-packed f g (suc n) =
    or_step (packed f (suc n)) (packed g (suc n))
    ∙ rw (first_bit f n, first_bit g n, other-bits f n, other-bits g n, or-packed (λ j. f (suc j)) (λ j. g (suc j)) n, either (f 0) (g 0))
    (unfold packed in refl)

xor-packed : (f g : ℕ → Bool) (n : ℕ) → bit_xor (packed f n) (packed g n) ≡ packed (λ j. apart (f j) (g j)) n
xor-packed f g zero = unfold packed in refl
xor-packed f g (suc n) =
    xor_step (packed f (suc n)) (packed g (suc n))
    ∙ rw (first_bit f n, first_bit g n, other-bits f n, other-bits g n, xor-packed (λ j. f (suc j)) (λ j. g (suc j)) n, one_of (f 0) (g 0))
    (unfold packed in refl)

-- ---- panes

module _ (A : Sheet) (r c : ℕ) where
  moved-shows : (s : ℕ) {word : ℕ} {before : Bool} → word ≡ packed (λ j. A (suc (c + j)) s) 64 → before ≡ A c s →
      moved_in word before ≡ packed (λ j. A (c + j) s) 64
  unfolding moved_in
  moved-shows s {word} {before} e b =
      rw (e, b, packed-low (λ j. A (suc (c + j)) s) 63)
      (ap₂ (λ (x : ℕ) (y : Bool). x * 2 + when 1 y)
      (packed_alike (λ j. A (suc (c + j)) s) (λ j. A (c + suc j) s) 63 (λ j k. rw (add-suc c j) refl))
      (sym (ap (λ (k : ℕ). A k s) (add-zero c)))
      ∙ sym (one_more (λ j. A (c + j) s) 63))

  -- a pane of the words on the right of row r's cells and the samples on the left of the first
  pub pane-shows : {upper lower : ℕ} {upper-before lower-before : Bool} →
      upper ≡ packed (λ j. A (suc (c + j)) r) 64 → lower ≡ packed (λ j. A (suc (c + j)) (suc r)) 64 →
      upper-before ≡ A c r → lower-before ≡ A c (suc r) →
      Shows A r c (pane_of upper lower upper-before lower-before)
  unfolding pane_of
  pane-shows eu el bu bl = record {
    shows-lower-left = moved-shows (suc r) el bl;
    shows-lower-right = el;
    shows-upper-right = eu;
    shows-upper-left = moved-shows r eu bu;
  }

  module _ {pane : Pane} (shows : Shows A r c pane) where
    pub changes-shown : changes_in pane ≡ packed (λ j. active A r (c + j)) 64
    unfolding changes_in
    changes-shown =
        rw (shows.shows-lower-left, shows.shows-lower-right, shows.shows-upper-right, shows.shows-upper-left)
        (rw (
          xor-packed (λ j. A (suc (c + j)) r) (λ j. A (suc (c + j)) (suc r)) 64,
          xor-packed (λ j. A (c + j) r) (λ j. A (c + j) (suc r)) 64,
          xor-packed (λ j. A (suc (c + j)) r) (λ j. A (c + j) r) 64,
          or-packed (λ j. apart (A (suc (c + j)) r) (A (suc (c + j)) (suc r))) (λ j. apart (A (c + j) r) (A (c + j) (suc r))) 64,
          or-packed (λ j. apart (A (suc (c + j)) r) (A (suc (c + j)) (suc r)) || apart (A (c + j) r) (A (c + j) (suc r))) (λ j. apart (A (suc (c + j)) r) (A (c + j) r)) 64,
        ) refl)

    -- a test of the four samples of each cell
    abbrev each : (Bool → Bool → Bool → Bool → Bool) → ℕ → Bool
    each test j = test (A (c + j) (suc r)) (A (suc (c + j)) (suc r)) (A (suc (c + j)) r) (A (c + j) r)

    below-shown : bit_xor pane.lower_left pane.lower_right ≡ packed (each (λ ll lr ur ul. apart ll lr)) 64
    below-shown = rw (shows.shows-lower-left, shows.shows-lower-right) (xor-packed (λ j. A (c + j) (suc r)) (λ j. A (suc (c + j)) (suc r)) 64)

    right-shown : bit_xor pane.lower_right pane.upper_right ≡ packed (each (λ ll lr ur ul. apart lr ur)) 64
    right-shown = rw (shows.shows-lower-right, shows.shows-upper-right) (xor-packed (λ j. A (suc (c + j)) (suc r)) (λ j. A (suc (c + j)) r) 64)

    above-shown : bit_xor pane.upper_right pane.upper_left ≡ packed (each (λ ll lr ur ul. apart ur ul)) 64
    above-shown = rw (shows.shows-upper-right, shows.shows-upper-left) (xor-packed (λ j. A (suc (c + j)) r) (λ j. A (c + j) r) 64)

    left-shown : bit_xor pane.upper_left pane.lower_left ≡ packed (each (λ ll lr ur ul. apart ul ll)) 64
    left-shown = rw (shows.shows-upper-left, shows.shows-lower-left) (xor-packed (λ j. A (c + j) r) (λ j. A (c + j) (suc r)) 64)

    lower-shown : lower_in pane ≡ packed (each lower_apart) 64
    unfolding lower_in
    lower-shown = rw (below-shown, right-shown) (and-packed (each (λ ll lr ur ul. apart ll lr)) (each (λ ll lr ur ul. apart lr ur)) 64)

    upper-shown : upper_in pane ≡ packed (each upper_apart) 64
    unfolding upper_in
    upper-shown = rw (above-shown, left-shown) (and-packed (each (λ ll lr ur ul. apart ur ul)) (each (λ ll lr ur ul. apart ul ll)) 64)

    pub saddles-shown : saddles_in pane ≡ packed (λ j. saddle (A (c + j) (suc r)) (A (suc (c + j)) (suc r)) (A (suc (c + j)) r) (A (c + j) r)) 64
    unfolding saddles_in
    saddles-shown = rw (lower-shown, upper-shown) (and-packed (each lower_apart) (each upper_apart) 64)

    pub opening-shown : opening_in pane ≡ packed (λ j. opening (A (c + j) (suc r)) (A (suc (c + j)) (suc r)) (A (suc (c + j)) r) (A (c + j) r)) 64
    unfolding opening_in
    opening-shown =
        rw (
          lower-shown,
          above-shown,
          left-shown,
          or-packed (each (λ ll lr ur ul. apart ur ul)) (each (λ ll lr ur ul. apart ul ll)) 64,
          and-packed (each lower_apart) (each (λ ll lr ur ul. apart ur ul || apart ul ll)) 64,
        )
        (xor-packed (each lower_apart) (each (λ ll lr ur ul. lower_apart ll lr ur ul && (apart ur ul || apart ul ll))) 64)

    pub closing-shown : closing_in pane ≡ packed (λ j. closing (A (c + j) (suc r)) (A (suc (c + j)) (suc r)) (A (suc (c + j)) r) (A (c + j) r)) 64
    unfolding closing_in
    closing-shown =
        rw (
          upper-shown,
          below-shown,
          right-shown,
          or-packed (each (λ ll lr ur ul. apart ll lr)) (each (λ ll lr ur ul. apart lr ur)) 64,
          and-packed (each upper_apart) (each (λ ll lr ur ul. apart ll lr || apart lr ur)) 64,
        )
        (xor-packed (each upper_apart) (each (λ ll lr ur ul. upper_apart ll lr ur ul && (apart ll lr || apart lr ur))) 64)

    pub number-shown : {j : ℕ} → j < 64 → number_in pane j ≡ cell_number A (c + j) r
    unfolding number_in cell_number
    number-shown {j} h =
        rw (
          shows.shows-lower-left,
          shows.shows-lower-right,
          shows.shows-upper-right,
          shows.shows-upper-left,
          bit-is-test (λ j. A (c + j) (suc r)) 64 j h,
          bit-is-test (λ j. A (suc (c + j)) (suc r)) 64 j h,
          bit-is-test (λ j. A (suc (c + j)) r) 64 j h,
          bit-is-test (λ j. A (c + j) r) 64 j h,
        ) refl

-- ---- finding the active cells

-- the bits below the lowest one that is set, that bit, and the bits above it
pub record Found (f : ℕ → Bool) (n word t : ℕ) : Type 0 where
  pub among : t < n
  pub none_before : (j : ℕ) → j < t → f j ≡ false
  pub found : f t ≡ true
  pub left_over : word / 2 ^ t / 2 ≡ packed (λ j. f (suc (t + j))) (n - suc t)

found_here : (f : ℕ → Bool) (n : ℕ) → f 0 ≡ true → Found f (suc n) (packed f (suc n)) 0
found_here f n e = record {
  among = omega arith;
  none_before = λ j l. absurd (omega arith);
  found = e;
  left_over =
      rw (div-one (packed f (suc n)), other-bits f n)
      (packed_alike (λ j. f (suc j)) (λ j. f (suc (0 + j))) n (λ j l. ap (λ (k : ℕ). f (suc k)) (sym (zero-add j)))
      ∙ ap (packed (λ j. f (suc (0 + j)))) (omega arith));
}

found-further : (f : ℕ → Bool) (n t : ℕ) → f 0 ≡ false → Found (λ j. f (suc j)) n (packed (λ j. f (suc j)) n) t →
    Found f (suc n) (packed f (suc n)) (suc t)
found-further f n t e further = record {
  among = omega (arith, further.among);
  none_before = before;
  found = further.found;
  left_over =
      rw (shifted (packed f (suc n)) t, other-bits f n)
      (further.left_over
      ∙ packed_alike (λ j. f (suc (suc (t + j)))) (λ j. f (suc (suc t + j))) (n - suc t) (λ j l. ap (λ (k : ℕ). f (suc k)) (sym (suc-add t j)))
      ∙ ap (packed (λ j. f (suc (suc t + j)))) (omega arith));
}
  where
    before : (j : ℕ) → j < suc t → f j ≡ false
    before zero l = e
    before (suc j) l = further.none_before j (omega arith)

pub lowest-found : (f : ℕ → Bool) (n k : ℕ) → n ≤ k → (packed f n ≡ 0 → ⊥) → Found f n (packed f n) (count_trailing_zeros k (packed f n))
unfolding count_trailing_zeros
lowest-found f zero k h some = absurd (some (unfold packed in refl))
lowest-found f (suc n) zero h some = absurd (omega arith)
lowest-found f (suc n) (suc k) h some = by (f 0) refl (lowest-found (λ j. f (suc j)) n k (omega arith))
  where
    by : (b : Bool) → f 0 ≡ b →
        ((packed (λ j. f (suc j)) n ≡ 0 → ⊥) → Found (λ j. f (suc j)) n (packed (λ j. f (suc j)) n) (count_trailing_zeros k (packed (λ j. f (suc j)) n))) →
        Found f (suc n) (packed f (suc n)) (under (packed f (suc n) % 2) (count_trailing_zeros k (packed f (suc n) / 2)))
    by true e further = rw (first_bit f n, e) (found_here f n e)
    by false e further =
        rw (first_bit f n, other-bits f n, e)
        (found-further f n (count_trailing_zeros k (packed (λ j. f (suc j)) n)) e (further (λ z. some (one_more f n ∙ rw (z, e) refl))))

-- no bit is set
pub none_found : (f : ℕ → Bool) (n : ℕ) → packed f n ≡ 0 → (j : ℕ) → j < n → f j ≡ false
none_found f zero e j h = absurd (omega arith)
none_found f (suc n) e zero h = by (f 0) (sym (first_bit f n) ∙ rw e refl)
  where
    by : (b : Bool) → when 1 b ≡ 0 → b ≡ false
    by true z = absurd (omega (arith, z))
    by false z = refl
none_found f (suc n) e (suc j) h = none_found (λ j. f (suc j)) n (sym (other-bits f n) ∙ rw e refl) j (omega arith)

-- ---- cells that are not active

together : (a b : Bool) → apart a b ≡ false → a ≡ b
together true true h = refl
together true false h = absurd (true≢false h)
together false true h = absurd (true≢false h)
together false false h = refl

pub record Agree (A : Sheet) (r c : ℕ) : Type 0 where
  pub upper-right-agrees : A (suc c) r ≡ A c r
  pub lower-left-agrees : A c (suc r) ≡ A c r
  pub lower-right-agrees : A (suc c) (suc r) ≡ A c r

module _ (A : Sheet) (r : ℕ) where
  pub samples-agree : (c : ℕ) → active A r c ≡ false → Agree A r c
  samples-agree c h =
      let split = neither (apart (A (suc c) r) (A (suc c) (suc r)) || apart (A c r) (A c (suc r))) (apart (A (suc c) r) (A c r)) h in
      let vertical = neither (apart (A (suc c) r) (A (suc c) (suc r))) (apart (A c r) (A c (suc r))) split.0 in
      let upper = together (A (suc c) r) (A c r) split.1 in
      record {
        upper-right-agrees = upper;
        lower-left-agrees = sym (together (A c r) (A c (suc r)) vertical.1);
        lower-right-agrees = sym (together (A (suc c) r) (A (suc c) (suc r)) vertical.0) ∙ upper;
      }

  -- such a cell draws nothing
  pub nothing-drawn : (c : ℕ) → active A r c ≡ false → drawn (cell_number A c r) ≡ []
  unfolding cell_number
  nothing-drawn c h =
      let same = samples-agree c h in
      rw (same.upper-right-agrees, same.lower-left-agrees, same.lower-right-agrees) (uniform (A c r))
    where
      uniform : (b : Bool) → drawn (number_of b b b b) ≡ []
      uniform true = unfold drawn case_table number_of in refl
      uniform false = unfold drawn case_table number_of in refl

  -- along such cells both rows go on as they are
  pub rows-go-on : (c t : ℕ) → ((j : ℕ) → j < t → active A r (c + j) ≡ false) → (A (c + t) r ≡ A c r) × (A (c + t) (suc r) ≡ A c (suc r))
  rows-go-on c zero h = (ap (λ (k : ℕ). A k r) (add-zero c), ap (λ (k : ℕ). A k (suc r)) (add-zero c))
  rows-go-on c (suc t) h =
      let before = rows-go-on c t (λ j l. h j (omega arith)) in
      let same = samples-agree (c + t) (h t (omega arith)) in (
        rw (add-suc c t) (same.upper-right-agrees ∙ before.0),
        rw (add-suc c t) (same.lower-right-agrees ∙ sym same.lower-left-agrees ∙ before.1),
      )

  -- and the words on their right are the same
  pub words-agree : (c : ℕ) → ((j : ℕ) → j < 64 → active A r (c + j) ≡ false) → packed (λ j. A (suc (c + j)) r) 64 ≡ packed (λ j. A (suc (c + j)) (suc r)) 64
  words-agree c h =
      packed_alike (λ j. A (suc (c + j)) r) (λ j. A (suc (c + j)) (suc r)) 64
      (λ j l. let same = samples-agree (c + j) (h j l) in same.upper-right-agrees ∙ sym same.lower-right-agrees)

-- ---- counting bits

-- how many of the first n tests hold
unfoldable pub tally : (ℕ → Bool) → ℕ → ℕ
tally f zero = 0
tally f (suc n) = tally f n + when 1 (f n)

tally-from-first : (f : ℕ → Bool) (n : ℕ) → tally f (suc n) ≡ when 1 (f 0) + tally (λ j. f (suc j)) n
unfolding tally
tally-from-first f zero = omega arith
tally-from-first f (suc n) = omega (arith, tally-from-first f n)

pub ones-tally : (f : ℕ → Bool) (n : ℕ) → ones (packed f n) ≡ tally f n
ones-tally f zero = unfold packed ones tally in refl
ones-tally f (suc n) =
    ones_step (packed f (suc n))
    ∙ rw (first_bit f n, other-bits f n, ones-tally (λ j. f (suc j)) n) (sym (tally-from-first f n))

-- Half a step: where the threshold equals v1 and v1 - v0 is finite and not 0, a moved coordinate is exactly its old one plus 0.5.
-- The difference t - v0 is v1 - v0, so the quotient is 1; what is left is whole numbers of halves, which no operation rounds. Assumes nothing.
use mathlib.Core.Path.{◌≡◌, refl, sym, ap, ◌∙◌, subst}
use mathlib.Core.Bool.{Bool, true, false, not, ◌||◌, beq, and-eq-true_iff, false≢true}
use mathlib.Core.Logic.{◌⊎◌, inl, inr, ⊎_elim}
use Prim.Native.Nat.{ℕ, zero, suc, ◌+◌, ◌-◌, ◌*◌, ◌^◌, ◌≤◌, ◌<◌}
use native.Mathlib.Nat.{sub-zero, zero-lt-suc, zero-add, zero-mul, mul-one, one-mul, mul-pos, mul_assoc, eq-zero-or-pos, eq_of_mul-eq-mul_right, lt_of_lt_of_le, eq-or-lt_of_le}
use native.Mathlib.Omega.{arith}
use lib.IntN.{ℤ, pos}
use lib.Dec.{T, eqb, lit≤}
use lib.Pow.{shl_lt}
use lib.Ieee.{Float, nan, inf, fin, binary64, unlike, up, down, round, sum, add, sub, div, eq, ne, of_int}
use lib.Ieee.Fits.{up_pos, down_pos}
use lib.Ieee.Exact.{HasValue, round_exact}
use lib.Ieee.Back.{round_whole}
use lib.Ieee.Scale.{finite, round_same}
use borrow.Author.Tests.{eqb-true, ne_eqb, lt-ltb, le-ltb}
use Rattle.scope.specs.Limits.{side_limit}
use Rattle.scope.specs.Smoothing.{whole, half, real_of, moved, moves}
use Rattle.smoothing.proofs.Fractions.{add_at, sub_at, mul_at}
use Rattle.smoothing.proofs.Moving.{what-moves}

-- ---- a value that is not 0, divided by itself, is 1
a-zero-is-zero : (s : Bool) (e : ℤ) → eq (fin s 0 e) (whole 0) ≡ true
unfolding eq whole of_int
a-zero-is-zero true e = rw (zero-mul (up e), zero-mul (down e))
a-zero-is-zero false e = rw (zero-mul (up e), zero-mul (down e))

above-0 : (s : Bool) (m : ℕ) (e : ℤ) → ne (fin s m e) (whole 0) ≡ true → 0 < m
unfolding ne
above-0 s zero e k = absurd (false≢true (ap not (sym (a-zero-is-zero s e)) ∙ k))
above-0 s (suc m) e k = zero-lt-suc m

like : (s : Bool) → unlike s s ≡ false
like true = refl
like false = refl

one-by-itself : (x : Float) → T (finite x) → ne x (whole 0) ≡ true → div binary64 x x ≡ whole 1
unfolding whole div of_int
one-by-itself nan h k = absurd h
one-by-itself (inf s) h k = absurd h
one-by-itself (fin s m e) h k =
    let size = m * up e * down e in
    let M : 0 < m = above-0 s m e k in
    rw (ne_eqb m 0 (λ z. omega arith), like s)
    (round_same binary64 false size size 1 1 (mul-pos (mul-pos M (up_pos e)) (down_pos e)) (zero-lt-suc 0) (mul-one size ∙ sym (one-mul size)))

-- ---- the threshold less v0 is v1 less v0
alike : (s t : Bool) → beq s t ≡ true → s ≡ t
alike true true h = refl
alike true false h = sym h
alike false true h = h
alike false false h = refl

-- to a zero a number is added that is not 0: the zero's sign is not seen
zero-and : (s t : Bool) (b c : ℕ) → 0 < b → sum binary64 s 0 t b c ≡ round binary64 t b c
unfolding sum
zero-and true true b c B = rw (zero-add b)
zero-and true false b c B = rw (lt-ltb 0 b B, sub-zero b)
zero-and false true b c B = rw (lt-ltb 0 b B, sub-zero b)
zero-and false false b c B = rw (zero-add b)

-- two zeros add up to a zero
no_size : (s : Bool) (c : ℕ) → 0 < c → eq (round binary64 s 0 c) (whole 0) ≡ true
no_size s c C = rw (round_same binary64 s 0 c 0 1 C (zero-lt-suc 0) (rw (zero-mul c))) (unfold round in a-zero-is-zero s (pos 0))

zeros : (s t : Bool) (c : ℕ) → 0 < c → eq (sum binary64 s 0 t 0 c) (whole 0) ≡ true
unfolding sum
zeros true true c C = no_size true c C
zeros true false c C = no_size false c C
zeros false true c C = no_size false c C
zeros false false c C = no_size false c C

-- so the sign of the first number is not seen where it is 0 and the sum is not
sign-unseen : (s s' t : Bool) (a b c : ℕ) → 0 < c → a ≡ 0 → ne (sum binary64 s' a t b c) (whole 0) ≡ true → sum binary64 s a t b c ≡ sum binary64 s' a t b c
unfolding ne
sign-unseen s s' t a b c C A k = by (eq-zero-or-pos b)
  where
    by : (b ≡ 0) ⊎ (0 < b) → sum binary64 s a t b c ≡ sum binary64 s' a t b c
    by (inl B) = absurd (false≢true (ap not (sym (zeros s' t c C)) ∙ (rw (A, B) at k)))
    by (inr B) = rw A (zero-and s t b c B ∙ sym (zero-and s' t b c B))

-- what an `||` that passes says
either : (p q : Bool) → p || q ≡ true → (p ≡ true) ⊎ (q ≡ true)
either true q h = inl refl
either false q h = inr h

same-difference : (t v1 v0 : Float) → eq t v1 ≡ true → T (finite (sub binary64 v1 v0)) → ne (sub binary64 v1 v0) (whole 0) ≡ true → sub binary64 t v0 ≡ sub binary64 v1 v0
unfolding eq sub
same-difference nan v1 v0 e h k = absurd (false≢true e)
same-difference (inf s) nan v0 e h k = absurd (false≢true e)
same-difference (inf s) (inf s') v0 e h k = rw (alike s s' e)
same-difference (inf s) (fin s' m' e') v0 e h k = absurd (false≢true e)
same-difference (fin s m e) nan v0 h f k = absurd (false≢true h)
same-difference (fin s m e) (inf s') v0 h f k = absurd (false≢true h)
same-difference (fin s m e) (fin s' m' e') nan h f k = absurd f
same-difference (fin s m e) (fin s' m' e') (inf z) h f k = absurd f
same-difference (fin s m e) (fin s' m' e') (fin z n g) h f k =
    let size = m * up e * down e' in
    let a = m' * up e' * down g in
    let b = n * up g * down e' in
    let c = down e' * down g in
    let both = (and-eq-true_iff (eqb size (m' * up e' * down e)) (beq s s' || eqb size 0)).0 h in
    let value : size ≡ m' * up e' * down e = eqb-true size (m' * up e' * down e) both.0 in
    sub_at binary64 s z (m' * up e') (down e') (n * up g) (down g) (down_pos e') (down_pos g) (fin s m e) (fin z n g) (refl, value) (refl, refl)
    ∙ ⊎_elim (λ same. rw (alike s s' same))
    (λ none.
    let nothing : m' * up e' ≡ 0 =
    eq_of_mul-eq-mul_right (down e) (down_pos e) (m' * up e') 0 (sym value ∙ eqb-true size 0 none ∙ sym (zero-mul (down e)))
    in
    sign-unseen s s' (not z) a b c (mul-pos (down_pos e') (down_pos g)) (rw (nothing, zero-mul (down g))) k)
    (either (beq s s') (eqb size 0) both.1)

-- ---- halves: up to 2 ^ 53 of them are a value, and no sum or difference of such values is rounded
whole-value : (n : ℕ) → n ≤ 2 ^ 53 → HasValue (whole n) false n 1
unfolding whole of_int
whole-value n h = round_whole binary64 false n h

a_half : HasValue half false 1 2
unfolding half
a_half = (refl, refl)

real-is : (doubled : ℕ) → doubled ≤ 2 ^ 53 → real_of doubled ≡ round binary64 false doubled 2
unfolding real_of
real-is doubled h =
    mul_at binary64 false false doubled 1 1 2 (zero-lt-suc 0) (zero-lt-suc 1) (whole doubled) half (whole-value doubled h) a_half
    ∙ rw (mul-one doubled)

halves-value : (doubled : ℕ) → doubled ≤ 2 ^ 53 → HasValue (round binary64 false doubled 2) false doubled 2
halves-value doubled h = by (eq-or-lt_of_le h)
  where
    by : (doubled ≡ 2 ^ 53) ⊎ (doubled < 2 ^ 53) → HasValue (round binary64 false doubled 2) false doubled 2
    by (inl e) = rw e (unfold round in (refl, refl))
    by (inr l) =
        round_exact binary64 false doubled 2 doubled 1073 (zero-lt-suc 1) l
        (lt_of_lt_of_le (shl_lt 53 1073 l) (lit≤ tt))
        (sym (mul_assoc doubled (2 ^ 1073) 2))

pub real-value : (doubled : ℕ) → doubled ≤ 2 ^ 53 → HasValue (real_of doubled) false doubled 2
real-value doubled h = rw (real-is doubled h) (halves-value doubled h)

-- one whole more, and half less
one_more : (doubled : ℕ) → doubled + 2 ≤ 2 ^ 53 → add binary64 (real_of doubled) (whole 1) ≡ real_of (doubled + 2)
unfolding sum
one_more doubled h =
    add_at binary64 false false doubled 2 1 1 (zero-lt-suc 1) (zero-lt-suc 0) (real_of doubled) (whole 1) (real-value doubled (omega arith)) (whole-value 1 (lit≤ tt))
    ∙ rw (mul-one doubled, real-is (doubled + 2) h)

half-less : (doubled : ℕ) → doubled + 2 ≤ 2 ^ 53 → sub binary64 (real_of (doubled + 2)) half ≡ real_of (doubled + 1)
unfolding sum
half-less doubled h =
    sub_at binary64 false false (doubled + 2) 2 1 2 (zero-lt-suc 1) (zero-lt-suc 1) (real_of (doubled + 2)) half (real-value (doubled + 2) h) a_half
    ∙ rw (le-ltb ((doubled + 2) * 2) 2 (omega arith), real-is (doubled + 1) (omega arith))
    (round_same binary64 false ((doubled + 2) * 2 - 2) 4 (doubled + 1) 2 (zero-lt-suc 3) (zero-lt-suc 1) (omega arith))

-- ---- the law
-- "When t equals v1 and v1 - v0 is finite and not 0"
pub record AtTheFarSample (t v0 v1 : Float) : Type 0 where
  pub equals-v1 : eq t v1 ≡ true
  pub is_finite : T (finite (sub binary64 v1 v0))
  pub is-not-0 : ne (sub binary64 v1 v0) (whole 0) ≡ true

-- "a moved coordinate is exactly its old one plus 0.5": the old one is so many halves, and the moved one is the value of one half more
pub record HalfAStep (t v0 v1 : Float) (doubled : ℕ) : Type 0 where
  pub old-one : HasValue (real_of doubled) false doubled 2
  pub new-one : HasValue (real_of (doubled + 1)) false (doubled + 1) 2
  pub moves-there : moved t v0 v1 (real_of doubled) ≡ real_of (doubled + 1)

-- up to any limit below which one half more is a value
pub half-a-step : (limit n : ℕ) → 2 * limit + 2 ≤ 2 ^ 53 → n ≤ limit → {t v0 v1 : Float} → AtTheFarSample t v0 v1 → HalfAStep t v0 v1 (2 * n)
half-a-step limit n room h {t} {v0} {v1} far = record {
  old-one = real-value (2 * n) (omega arith);
  new-one = real-value (2 * n + 1) (omega arith);
  moves-there = unfold moved in rw (
    same-difference t v1 v0 far.equals-v1 far.is_finite far.is-not-0,
    one-by-itself (sub binary64 v1 v0) far.is_finite far.is-not-0,
    one_more (2 * n) (omega arith),
    half-less (2 * n) (omega arith),
  );
}

-- so it is with every coordinate that moves in a grid of at most 4,096 columns and rows
pub a-moved-coordinate-goes-half-a-step : (side doubled : ℕ) → side ≤ side_limit → moves side doubled ≡ true → {t v0 v1 : Float} → AtTheFarSample t v0 v1 → HalfAStep t v0 v1 doubled
unfolding side_limit
a-moved-coordinate-goes-half-a-step side doubled small h {t} {v0} {v1} far =
    let n = (what-moves side doubled).0 h in
    subst (HalfAStep t v0 v1) (sym n.1) (half-a-step side_limit n.0 (lit≤ tt) (omega (arith, n)) far)

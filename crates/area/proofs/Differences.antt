-- Differences of two naturals, as integers: their sum, their negation, their product, the tests on them, each again by naturals, and their range.
-- A difference is a natural or the negation of one, by which of the two is less. Assumes nothing.
use mathlib.Core.Path.{◌≡◌, refl, sym, ap, ◌∙◌}
use Prim.Native.Nat.{ℕ, zero, suc, ◌+◌, ◌*◌, ◌-◌, ◌<◌, ◌≤◌, ◌^◌}
use native.Mathlib.Nat.{add_comm, add-mul, mul-add}
use native.Mathlib.Decide.{dec_le}
use native.Mathlib.Omega.{arith}
use lib.Dec.{ltb, eqb, eqb-suc-zero}
use lib.IntN.{ℤ, pos, neg_ℤ, ◌+ℤ◌, ◌-ℤ◌, ◌*ℤ◌, +ℤ_assoc, +ℤ_comm, neg_ℤ-+ℤ, neg_ℤ-neg_ℤ, +ℤ-neg_ℤ_cancel}
use borrow.Author.Tests.{lt-ltb, le-ltb, eq-eqb, ne_eqb}
use lib.Signed.{mag}
use mir.Syntax.{w64}
use mir.Val.{SFits, to_z, of_z}
use mir.ValLaws.{to_z_pos, to_z-of_z}
use Rattle.scope.specs.Containment.{is_zero, below}

-- a less b
abbrev pub diff : ℕ → ℕ → ℤ
diff a b = pos a -ℤ pos b

-- the sum of two differences
pub add-diff : (a b c d : ℕ) → diff a b +ℤ diff c d ≡ diff (a + c) (b + d)
add-diff a b c d =
    +ℤ_assoc (pos a) (neg_ℤ (pos b)) (diff c d)
    ∙ ap (λ z. pos a +ℤ z) (sym (+ℤ_assoc (neg_ℤ (pos b)) (pos c) (neg_ℤ (pos d))) ∙ ap (λ z. z +ℤ neg_ℤ (pos d)) (+ℤ_comm (neg_ℤ (pos b)) (pos c)) ∙ +ℤ_assoc (pos c) (neg_ℤ (pos b)) (neg_ℤ (pos d)))
    ∙ sym (+ℤ_assoc (pos a) (pos c) (neg_ℤ (pos b) +ℤ neg_ℤ (pos d)))
    ∙ ap (λ z. pos (a + c) +ℤ z) (sym (neg_ℤ-+ℤ (pos b) (pos d)))

-- the negation of a difference
pub neg-diff : (a b : ℕ) → neg_ℤ (diff a b) ≡ diff b a
neg-diff a b =
    neg_ℤ-+ℤ (pos a) (neg_ℤ (pos b)) ∙ ap (λ z. neg_ℤ (pos a) +ℤ z) (neg_ℤ-neg_ℤ (pos b)) ∙ +ℤ_comm (neg_ℤ (pos a)) (pos b)

-- the difference of two differences
pub sub-diff : (a b c d : ℕ) → diff a b -ℤ diff c d ≡ diff (a + d) (b + c)
sub-diff a b c d = ap (λ z. diff a b +ℤ z) (neg-diff c d) ∙ add-diff a b d c

-- a difference that is not below zero
pub natural : (a b n : ℕ) → a ≡ b + n → diff a b ≡ pos n
natural a b n e = ap (λ k. diff k b) (e ∙ add_comm b n) ∙ +ℤ-neg_ℤ_cancel (pos n) (pos b)

-- a difference that is not above zero
pub negated : (a b n : ℕ) → b ≡ a + n → diff a b ≡ neg_ℤ (pos n)
negated a b n e = sym (neg-diff b a) ∙ ap neg_ℤ (natural b a n e)

-- one of two numbers is the other and some more
pub data Split (a b : ℕ) : Type 0 where
  more : (n : ℕ) → a ≡ b + n → Split a b
  less : (n : ℕ) → b ≡ a + suc n → Split a b

-- which of the two it is
pub split : (a b : ℕ) → Split a b
split a b = from (dec_le b a)
  where
    from : Dec (b ≤ a) → Split a b
    from (yes h) = more (a - b) (omega arith)
    from (no h) = less (b - a - 1) (omega arith)

-- two products of sums, taken apart
spread : (b m d n : ℕ) → (b + m) * (d + n) + b * d ≡ (b + m) * d + b * (d + n) + m * n
spread b m d n = simp (add-mul, mul-add) (omega arith)

-- the product of two differences
pub mul-diff : (a b c d : ℕ) → diff a b *ℤ diff c d ≡ diff (a * c + b * d) (a * d + b * c)
mul-diff a b c d = from (split a b) (split c d)
  where
    from : Split a b → Split c d → diff a b *ℤ diff c d ≡ diff (a * c + b * d) (a * d + b * c)
    from (more m e) (more n f) =
        rw (natural a b m e, natural c d n f)
        (sym (natural (a * c + b * d) (a * d + b * c) (m * n) (rw (e, f) (omega (arith, spread b m d n)))))
    from (more m e) (less n f) =
        rw (natural a b m e, negated c d (suc n) f)
        (sym (negated (a * c + b * d) (a * d + b * c) (m * suc n) (rw (e, f) (omega (arith, spread b m c (suc n))))))
    from (less m e) (more n f) =
        rw (negated a b (suc m) e, natural c d n f)
        (sym (negated (a * c + b * d) (a * d + b * c) (suc m * n) (rw (e, f) (omega (arith, spread a (suc m) d n)))))
    from (less m e) (less n f) =
        rw (negated a b (suc m) e, negated c d (suc n) f)
        (sym (natural (a * c + b * d) (a * d + b * c) (suc m * suc n) (rw (e, f) (omega (arith, spread a (suc m) c (suc n))))))

-- a natural times a difference
pub scale-diff : (k a b : ℕ) → pos k *ℤ diff a b ≡ diff (k * a) (k * b)
scale-diff k a b = from (split a b)
  where
    from : Split a b → pos k *ℤ diff a b ≡ diff (k * a) (k * b)
    from (more n e) = rw (natural a b n e) (sym (natural (k * a) (k * b) (k * n) (rw e (mul-add k b n))))
    from (less n e) = rw (negated a b (suc n) e) (sym (negated (k * a) (k * b) (k * suc n) (rw e (mul-add k a (suc n)))))

-- a difference is zero where its numbers are equal
pub zero-is-equal : (a b : ℕ) → is_zero (diff a b) ≡ eqb a b
unfolding is_zero
zero-is-equal a b = from (split a b)
  where
    from : Split a b → is_zero (diff a b) ≡ eqb a b
    from (more zero e) = rw (natural a b 0 e) (sym (eq-eqb a b (omega arith)))
    from (more (suc n) e) = rw (natural a b (suc n) e) (eqb-suc-zero n ∙ sym (ne_eqb a b (λ q. omega arith)))
    from (less n e) = rw (negated a b (suc n) e) (sym (ne_eqb a b (λ q. omega arith)))

-- one integer is below another where their difference is that of a lesser and a greater natural
pub below-is-less : (y z : ℤ) (a b : ℕ) → y -ℤ z ≡ diff a b → below y z ≡ ltb a b
unfolding below
below-is-less y z a b e = from (split a b)
  where
    from : Split a b → below y z ≡ ltb a b
    from (more n h) = rw (e ∙ natural a b n h) (sym (le-ltb a b (omega arith)))
    from (less n h) = rw (e ∙ negated a b (suc n) h) (sym (lt-ltb a b (omega arith)))

-- a difference of two naturals lies in the range of both
pub diff-range : (h a b : ℕ) → a < h → b < h → mag (diff a b) < h
diff-range h a b ha hb = from (split a b)
  where
    from : Split a b → mag (diff a b) < h
    from (more n e) = rw (natural a b n e) (omega arith)
    from (less n e) = rw (negated a b (suc n) e) (omega arith)

-- the machine's difference of two naturals that fit an `i64`: it fits one too, and is their difference
module _ (a b : ℕ) (ha : a < 2 ^ 63) (hb : b < 2 ^ 63) where
  pub machine-diff-fits : SFits w64 (to_z w64 a -ℤ to_z w64 b)
  machine-diff-fits = rw (to_z_pos w64 a ha, to_z_pos w64 b hb) (record { sfits = diff-range (2 ^ 63) a b ha hb })

  pub machine-diff : to_z w64 (of_z w64 (to_z w64 a -ℤ to_z w64 b)) ≡ diff a b
  machine-diff = to_z-of_z w64 (to_z w64 a -ℤ to_z w64 b) machine-diff-fits ∙ rw (to_z_pos w64 a ha, to_z_pos w64 b hb) refl

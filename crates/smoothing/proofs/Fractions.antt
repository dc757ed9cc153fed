-- Operations on finite values see only how large the values are: a sum, a difference or a product may be taken by any fractions that its operands
-- equal. All of it comes from `round_same`. Assumes nothing.
use mathlib.Core.Path.{◌≡◌, refl, sym, ap, ap₂, ◌∙◌}
use mathlib.Core.Bool.{Bool, true, false, not, ◌&&◌}
use Prim.Native.Nat.{ℕ, ◌+◌, ◌-◌, ◌*◌, ◌≤◌, ◌<◌}
use native.Mathlib.Nat.{add-mul, mul_comm, mul-sub, mul-pos, mul-mul-mul_comm, mul-le-mul_right, mul-lt-mul_of_pos_right}
use lib.Dec.{ltb}
use borrow.Author.Tests.{ltb-true, ltb-false, lt-ltb, le-ltb}
use lib.Ieee.{Float, nan, inf, fin, Format, unlike, up, down, round, sum, neg, add, sub, mul}
use lib.Ieee.Fits.{down_pos}
use lib.Ieee.Exact.{HasValue}
use lib.Ieee.Scale.{round_same}

-- multiples are in the order of the numbers
order-of-multiples : (a b c : ℕ) → 0 < c → ltb (a * c) (b * c) ≡ ltb a b
order-of-multiples a b c C = by (ltb a b) (ltb-true a b) (ltb-false a b)
  where
    by : (t : Bool) → (t ≡ true → a < b) → (t ≡ false → b ≤ a) → ltb (a * c) (b * c) ≡ t
    by true less more = lt-ltb (a * c) (b * c) (mul-lt-mul_of_pos_right (less refl) C)
    by false less more = le-ltb (a * c) (b * c) (mul-le-mul_right c (more refl))

difference-of-multiples : (a b c : ℕ) → (a - b) * c ≡ a * c - b * c
difference-of-multiples a b c = rw (mul_comm (a - b) c, mul-sub c a b, mul_comm c a, mul_comm c b)

-- ---- a sum of a / c and b / c is that of a' / c' and b' / c'
module _ (f : Format) (s t : Bool) (a b c a' b' c' : ℕ) (C : 0 < c) (C' : 0 < c') (A : a * c' ≡ a' * c) (B : b * c' ≡ b' * c) where
  sum_same : sum f s a t b c ≡ sum f s a' t b' c'
  unfolding sum
  sum_same =
      let less : ltb a b ≡ ltb a' b' = sym (order-of-multiples a b c' C') ∙ ap₂ ltb A B ∙ order-of-multiples a' b' c C in
      let more : ltb b a ≡ ltb b' a' = sym (order-of-multiples b a c' C') ∙ ap₂ ltb B A ∙ order-of-multiples b' a' c C in
      rw (
        less,
        more,
        round_same f s (a + b) c (a' + b') c' C C' (rw (add-mul a b c', add-mul a' b' c, A, B)),
        round_same f t (b - a) c (b' - a') c' C C' (rw (difference-of-multiples b a c', difference-of-multiples b' a' c, A, B)),
        round_same f (s && ltb b' a') (a - b) c (a' - b') c' C C' (rw (difference-of-multiples a b c', difference-of-multiples a' b' c, A, B)),
      )

-- ---- operands by any fractions that they equal
cross : (p c a e d g : ℕ) → p * c ≡ a * e → p * g * (c * d) ≡ a * d * (e * g)
cross p c a e d g v = mul-mul-mul_comm p g c d ∙ ap₂ ◌*◌ v (mul_comm g d) ∙ mul-mul-mul_comm a e d g

negated : (y : Float) (t : Bool) (b d : ℕ) → HasValue y t b d → HasValue (neg y) (not t) b d
unfolding neg
negated nan t b d w = absurd w
negated (inf z) t b d w = absurd w
negated (fin z n g) t b d w = (ap not w.0, w.1)

module _ (f : Format) (s t : Bool) (a c b d : ℕ) (C : 0 < c) (D : 0 < d) where
  pub add_at : (x y : Float) → HasValue x s a c → HasValue y t b d → add f x y ≡ sum f s (a * d) t (b * c) (c * d)
  unfolding add
  add_at nan y v w = absurd v
  add_at (inf u) y v w = absurd v
  add_at (fin u m e) nan v w = absurd w
  add_at (fin u m e) (inf z) v w = absurd w
  add_at (fin u m e) (fin z n g) v w =
      rw (v.0, w.0)
      (sum_same f s t (m * up e * down g) (n * up g * down e) (down e * down g) (a * d) (b * c) (c * d)
      (mul-pos (down_pos e) (down_pos g)) (mul-pos C D)
      (cross (m * up e) c a (down e) d (down g) v.1)
      (rw (mul_comm c d, mul_comm (down e) (down g)) (cross (n * up g) d b (down g) c (down e) w.1)))

  pub mul_at : (x y : Float) → HasValue x s a c → HasValue y t b d → mul f x y ≡ round f (unlike s t) (a * b) (c * d)
  unfolding mul
  mul_at nan y v w = absurd v
  mul_at (inf u) y v w = absurd v
  mul_at (fin u m e) nan v w = absurd w
  mul_at (fin u m e) (inf z) v w = absurd w
  mul_at (fin u m e) (fin z n g) v w =
      rw (v.0, w.0)
      (round_same f (unlike s t) (m * up e * (n * up g)) (down e * down g) (a * b) (c * d)
      (mul-pos (down_pos e) (down_pos g)) (mul-pos C D)
      (mul-mul-mul_comm (m * up e) (n * up g) c d ∙ ap₂ ◌*◌ v.1 w.1 ∙ mul-mul-mul_comm a (down e) b (down g)))

pub sub_at : (f : Format) (s t : Bool) (a c b d : ℕ) → 0 < c → 0 < d → (x y : Float) → HasValue x s a c → HasValue y t b d → sub f x y ≡ sum f s (a * d) (not t) (b * c) (c * d)
unfolding sub
sub_at f s t a c b d C D x y v w = add_at f s (not t) a c b d C D x (neg y) v (negated y t b d w)

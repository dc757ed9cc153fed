-- How long texts are: a coordinate's, texts with commas between them, and a ring's, by the words that hold it. Assumes nothing.
use mathlib.Core.Path.{◌≡◌, refl, ◌∙◌}
use mathlib.Core.Bool.{Bool, true, false, cond}
use mathlib.Core.List.{List, [], ◌∷◌, ◌++◌, map, map-append, reverse, reverse-cons}
use Prim.Native.Nat.{ℕ, zero, suc, ◌+◌, ◌-◌, ◌*◌, ◌/◌, ◌%◌, ◌^◌, ◌≤◌, ◌<◌}
use native.Mathlib.Decide.{dec_lt}
use native.Mathlib.Omega.{arith}
use lib.Dec.{ltb, eqb}
use lib.ListN.{length, get_or, length-append}
use mir.Syntax.{w16}
use mir.Val.{Fits}
use Rattle.std.specs.List.{sum_by}
use Rattle.std.proofs.lemmas.List.Sums.{sum_by-cons}
use borrow.Author.Tests.{ltb-false, eqb-true, eqb-false}
use Rattle.scope.specs.Limits.{coordinate_limit}
use Rattle.scope.specs.Stitching.{Line}
use Rattle.scope.specs.Area.{points, any_above}
use Rattle.scope.specs.GeoJson.{decimal, coordinate_text, joined, bracketed, point_text, ring_text, written_order}
use Rattle.laws.proofs.Tests.{neither}
use Rattle.laws.proofs.Total.{total, total-append}
use Rattle.geotext.specs.Pieces.{digit_text}
use Rattle.geotext.proofs.Digits.{digit-below, digit-reached, digits-by-units}

-- ---- a coordinate

digit-short : (n unit : ℕ) → length (digit_text n unit) ≤ 1
digit-short n unit = by (dec_lt n unit)
  where
    by : Dec (n < unit) → length (digit_text n unit) ≤ 1
    by (yes h) = rw (digit-below n unit h) (omega arith)
    by (no h) = rw (digit-reached n unit (omega (arith, h))) (omega arith)

decimal-length : (n : ℕ) → n < 2 ^ 16 →
    length (decimal n) ≡ length (digit_text n 10000) + length (digit_text n 1000) + (length (digit_text n 100) + length (digit_text n 10)) + 1
decimal-length n h = rw (digits-by-units 4 n (omega arith)) (simp length-append (omega arith))

half_length : (r : ℕ) → r < 2 → length {A = ℕ} (cond (eqb r 0) [] (46 ∷ 53 ∷ [])) ≡ 2 * r
half_length r h = by (eqb r 0) refl
  where
    by : (b : Bool) → eqb r 0 ≡ b → length {A = ℕ} (cond b [] (46 ∷ 53 ∷ [])) ≡ 2 * r
    by true e = omega (arith, eqb-true r 0 e)
    by false e = omega (arith, eqb-false r 0 e)

pub coordinate-length : (d : ℕ) → d < 2 ^ 16 →
    length (coordinate_text d)
    ≡ length (digit_text (d / 2) 10000) + length (digit_text (d / 2) 1000) + (length (digit_text (d / 2) 100) + length (digit_text (d / 2) 10)) + 1 + 2 * (d % 2)
unfolding coordinate_text
coordinate-length d h = simp length-append (omega (arith, decimal-length (d / 2) (omega arith), half_length (d % 2) (omega arith)))

pub coordinate-short : (d : ℕ) → d < 2 ^ 16 → length (coordinate_text d) ≤ 7
coordinate-short d h =
    let short = digit-short (d / 2) in
    omega (arith, coordinate-length d h, short 10000, short 1000, short 100, short 10)

-- ---- texts with commas between them

-- a text's bytes and a comma
abbrev pub commaed : List ℕ → ℕ
commaed t = suc (length t)

pub joined_length : (t : List ℕ) (ts : List (List ℕ)) → length (joined (t ∷ ts)) ≡ length t + total commaed ts
unfolding joined total
joined_length t [] = omega arith
joined_length t (u ∷ ts) = simp length-append (omega (arith, joined_length u ts))

pub joined_bytes : (ts : List (List ℕ)) → length (joined ts) ≡ total commaed ts - 1
unfolding total joined
joined_bytes [] = omega arith
joined_bytes (t ∷ ts) = joined_length t ts ∙ omega arith

pub bracketed-length : (t : List ℕ) → length (bracketed t) ≡ length t + 2
unfolding bracketed
bracketed-length t = simp length-append (omega arith)

-- ---- a ring

abbrev pub letters : ℕ → ℕ
letters w = length (coordinate_text w)

-- words within the limit of coordinates have few letters
pub letters-few : (ws : List ℕ) → any_above coordinate_limit ws ≡ false → total letters ws ≤ 7 * length ws
unfolding any_above total coordinate_limit
letters-few [] e = omega arith
letters-few (w ∷ ws) e =
    let both = neither (ltb coordinate_limit w) (any_above coordinate_limit ws) e in
    omega (arith, coordinate-short w (omega (arith, ltb-false coordinate_limit w both.0)), letters-few ws both.1)

point-length : (x y : ℕ) → length (point_text (record { x = x; y = y })) ≡ letters x + letters y + 3
unfolding point_text joined
point-length x y = bracketed-length (coordinate_text x ++ (44 ∷ coordinate_text y)) ∙ simp length-append (omega arith)

points-length : (ws : List ℕ) (n : ℕ) → length ws ≡ 2 * n → total commaed (map point_text (points ws)) ≡ total letters ws + 4 * n
unfolding points total
points-length [] n h = omega arith
points-length (x ∷ []) n h = absurd (omega arith)
points-length (x ∷ y ∷ ws) zero h = absurd (omega arith)
points-length (x ∷ y ∷ ws) (suc n) h = omega (arith, point-length x y, points-length ws n (omega arith))

pub empty-ring-length : (ws : List ℕ) → length ws ≡ 0 → length (ring_text (points ws)) ≡ 2
unfolding ring_text points bracketed joined
empty-ring-length [] h = refl
empty-ring-length (w ∷ ws) h = absurd (omega arith)

pub ring-length : (ws : List ℕ) (n : ℕ) → length ws ≡ 2 * n → 0 < n → length (ring_text (points ws)) ≡ total letters ws + 4 * n + 1
unfolding points total ring_text
ring-length [] n h more = absurd (omega arith)
ring-length (x ∷ []) n h more = absurd (omega arith)
ring-length (x ∷ y ∷ ws) zero h more = absurd (omega arith)
ring-length (x ∷ y ∷ ws) (suc n) h more =
    bracketed-length (joined (map point_text (points (x ∷ y ∷ ws))))
    ∙ omega (arith, joined_length (point_text (record { x = x; y = y })) (map point_text (points ws)), point-length x y, points-length ws n (omega arith))

-- ---- the lengths of a ring's words

total-by : (ws : List ℕ) → total letters ws ≡ sum_by letters ws
unfolding total
total-by [] = refl
total-by (w ∷ ws) = rw (sum_by-cons letters w ws, total-by ws)

pub letters-short : (ws : List ℕ) → ((i : ℕ) → Fits w16 (get_or ws i 0)) → sum_by letters ws ≤ 7 * length ws
letters-short [] fits = omega arith
letters-short (w ∷ ws) fits = omega (arith, sum_by-cons letters w ws, coordinate-short w (fits 0).fits, letters-short ws (λ i. fits (suc i)))

pub ring_by_letters : (ws : List ℕ) → length ws % 2 ≡ 0 → 0 < length ws → length (ring_text (points ws)) ≡ sum_by letters ws + 2 * length ws + 1
ring_by_letters ws even more = omega (arith, ring-length ws (length ws / 2) (omega arith) (omega arith), total-by ws)

-- ---- a ring's text is as long backwards

total-reversed : (ts : List (List ℕ)) → total commaed (reverse ts) ≡ total commaed ts
unfolding total
total-reversed [] = refl
total-reversed (t ∷ ts) = rw (reverse-cons t ts) (omega (arith, total-append commaed (reverse ts) (t ∷ []), total-reversed ts))

texts-reversed : (l : Line) → map point_text (reverse l) ≡ reverse (map point_text l)
texts-reversed [] = refl
texts-reversed (p ∷ l) = rw (reverse-cons p l, reverse-cons (point_text p) (map point_text l), map-append point_text (reverse l) (p ∷ []), texts-reversed l)

pub written-length : (back : Bool) (l : Line) → length (ring_text (written_order back l)) ≡ length (ring_text l)
unfolding ring_text written_order
written-length false l = refl
written-length true l =
    rw (texts-reversed l)
    (omega (
      arith,
      bracketed-length (joined (reverse (map point_text l))),
      bracketed-length (joined (map point_text l)),
      joined_bytes (reverse (map point_text l)),
      joined_bytes (map point_text l),
      total-reversed (map point_text l),
    ))

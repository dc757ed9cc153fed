-- What words hold: from a point on, the points, the next one off the front; of sound words, how many there are; of a ring, its last point. Assumes nothing.
use mathlib.Core.Path.{◌≡◌, refl, ap}
use mathlib.Core.Bool.{false, ◌||◌}
use mathlib.Core.List.{List, [], ◌∷◌}
use Prim.Native.Nat.{ℕ, suc, ◌+◌, ◌-◌, ◌*◌, ◌<◌, ◌≤◌, ◌/◌, ◌%◌, ◌^◌}
use native.Mathlib.Numerals.{add-one}
use native.Mathlib.Omega.{arith}
use lib.ListN.{length, get_or, drop, drop_of_length-le}
use lib.Seq.{drop-cons}
use borrow.Author.Tests.{eqb-false, ltb-false}
use Rattle.std.specs.Prelude.{nat_lt}
use Rattle.std.specs.List.{list_any}
use Rattle.scope.specs.Area.{points, any_above, faulty_words, area_refused, last_of}
use Rattle.scope.specs.Cells.{Point}
use Rattle.scope.specs.Limits.{point_limit}
use Rattle.scope.specs.Stitching.{Line}
use Rattle.laws.proofs.Tests.{neither}
use Rattle.laws.proofs.Words.{last-of}

-- the point of number k
unfoldable pub point_at : List ℕ → ℕ → Point
point_at ws k = record { x = get_or ws (2 * k) 0; y = get_or ws (2 * k + 1) 0 }

-- the next point is that of the next two words
pub next-point : (ws : List ℕ) (k : ℕ) → k < length ws / 2 → points (drop (2 * k) ws) ≡ point_at ws k ∷ points (drop (2 * (k + 1)) ws)
unfolding points point_at
next-point ws k h =
    let h₀ : 2 * k < length ws = omega arith in
    let h₁ : suc (2 * k) < length ws = omega arith in
    let e : 2 * (k + 1) ≡ suc (suc (2 * k)) = omega arith in
    rw (e, add-one, drop-cons ws (2 * k) 0, drop-cons ws (suc (2 * k)) 0)

-- no point is left
pub no-point : (ws : List ℕ) (k : ℕ) → length ws % 2 ≡ 0 → length ws / 2 ≤ k → drop (2 * k) ws ≡ []
no-point ws k even h = drop_of_length-le ws (omega arith)

-- words that are not faulty: pairs of them, and so few that their sums of products fit
pub record Sound (ws : List ℕ) : Type 0 where
  pub paired : length ws % 2 ≡ 0
  pub few : length ws < 2 ^ 31

-- words that are not faulty are sound
pub sound : (ws : List ℕ) → faulty_words ws ≡ false → Sound ws
unfolding faulty_words point_limit
sound ws e =
    let counts = neither _ _ (neither _ _ e).0 in
    let even : length ws % 2 ≡ 1 → ⊥ = eqb-false _ _ counts.0 in
    let few : length ws / 2 ≤ point_limit = ltb-false _ _ counts.1 in
    record { paired = omega arith; few = omega arith }

-- the definition's walk for a word above a limit is the library's
pub any_above_is : (limit : ℕ) (ws : List ℕ) → list_any (λ w. nat_lt limit w) ws ≡ any_above limit ws
unfolding any_above
any_above_is limit [] = refl
any_above_is limit (w ∷ ws) = ap (λ t. nat_lt limit w || t) (any_above_is limit ws)

-- a ring's words are sound, and there is one
pub ring-sound : (ws : List ℕ) → area_refused ws ≡ false → Sound ws × (0 < length ws)
unfolding area_refused
ring-sound ws e =
    let halves = neither _ _ e in
    let some : length ws ≡ 0 → ⊥ = eqb-false _ _ halves.0 in
    (sound ws halves.1, omega arith)

-- the last point
abbrev pub last_point : List ℕ → Point
last_point ws = point_at ws (length ws / 2 - 1)

-- a ring has a first point, and its last point is that of the last two words
pub record Ring (ws : List ℕ) : Type 0 where
  pub first : Point
  pub rest : Line
  pub are : points ws ≡ first ∷ rest
  pub last : last_of first rest ≡ last_point ws

-- pairs of words, one or more, are a ring
pub ring : (ws : List ℕ) → length ws % 2 ≡ 0 → 0 < length ws → Ring ws
unfolding points point_at
ring [] paired h = absurd (omega (arith, h))
ring (x ∷ []) paired h = absurd (omega (arith, paired))
ring (x ∷ y ∷ ws) paired h =
    let p : 2 * (suc (suc (length ws)) / 2 - 1) ≡ length ws = omega arith in
    let q : 2 * (suc (suc (length ws)) / 2 - 1) + 1 ≡ suc (length ws) = omega arith in
    record { first = record { x = x; y = y }; rest = points ws; are = refl; last = rw (q, p) (last-of x y ws (omega (arith, paired))) }

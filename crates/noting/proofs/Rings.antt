-- The words of a ring, as a part of all: its points are the ring's, and they are not refused. By induction on the number of points or words.
-- Assumes nothing.
use mathlib.Core.Path.{◌≡◌, refl, ap}
use mathlib.Core.Bool.{false}
use mathlib.Core.List.{List, ◌∷◌}
use Prim.Native.Nat.{ℕ, zero, suc, ◌+◌, ◌*◌, ◌/◌, ◌%◌, ◌≤◌, ◌<◌}
use native.Mathlib.Omega.{arith}
use lib.ListN.{length, get_or, take, drop, length-drop}
use lib.Seq.{drop-cons, length-take-le}
use borrow.Author.Tests.{ne_eqb, le-ltb}
use Rattle.scope.specs.Limits.{coordinate_limit, point_limit}
use Rattle.scope.specs.Area.{points, any_above, faulty_words, area_refused}
use Rattle.scope.specs.GeoJson.{words_in}
use Rattle.extents.specs.Points.{point_in, ring_in}
use Rattle.noting.specs.Step.{RingWithin}

-- the points of the words of a ring
pub ring-points : (words : List ℕ) (first count : ℕ) → 2 * (first + count) ≤ length words →
    points (take (2 * count) (drop (2 * first) words)) ≡ ring_in words first count
unfolding points ring_in point_in
ring-points words first zero h = refl
ring-points words first (suc count) h =
    let two : 2 * suc count ≡ suc (suc (2 * count)) = omega arith in
    let here : 2 * first < length words = omega arith in
    let there : suc (2 * first) < length words = omega arith in
    let next : suc (suc (2 * first)) ≡ 2 * suc first = omega arith in
    let second : 2 * first + 1 ≡ suc (2 * first) = omega arith in
    rw (two, second, drop-cons words (2 * first) 0, drop-cons words (suc (2 * first)) 0, next)
    (ap (λ l. record { x = get_or words (2 * first) 0; y = get_or words (suc (2 * first)) 0 } ∷ l) (ring-points words (suc first) count (omega arith)))

-- words within a limit
none_above : (limit : ℕ) (words : List ℕ) (from count : ℕ) → from + count ≤ length words →
    ((i : ℕ) → i < from + count → get_or words i 0 ≤ limit) → any_above limit (take count (drop from words)) ≡ false
unfolding any_above
none_above limit words from zero h within = refl
none_above limit words from (suc count) h within =
    let here : from < length words = omega arith in
    rw (drop-cons words from 0, le-ltb limit (get_or words from 0) (within from (omega arith)))
    (none_above limit words (suc from) count (omega arith) (λ i l. within i (omega arith)))

part_length : (words : List ℕ) (first count : ℕ) → 2 * (first + count) ≤ length words → length (take (2 * count) (drop (2 * first) words)) ≡ 2 * count
part_length words first count h =
    length-take-le (2 * count) (drop (2 * first) words) (omega (arith, length-drop (2 * first) words))

-- the words of a ring, where no word up to its end is above the limit
pub ring-low : (words : List ℕ) (first count : ℕ) → 2 * (first + count) ≤ length words → ((i : ℕ) → i < 2 * (first + count) → get_or words i 0 ≤ coordinate_limit)
    → any_above coordinate_limit (words_in words first count) ≡ false
unfolding words_in
ring-low words first count h within = none_above coordinate_limit words (2 * first) (2 * count) (omega arith) (λ i l. within i (omega arith))

-- the words of a ring within the limits are not refused
pub ring-accepted : {words : List ℕ} {first count : ℕ} → RingWithin words first count → area_refused (take (2 * count) (drop (2 * first) words)) ≡ false
unfolding area_refused faulty_words words_in
ring-accepted {words} {first} {count} w =
    rw (
      part_length words first count w.points-there,
      ne_eqb (2 * count) 0 (λ e. omega arith),
      ne_eqb (2 * count % 2) 1 (λ e. omega arith),
      le-ltb point_limit (2 * count / 2) (omega arith),
    )
    w.low

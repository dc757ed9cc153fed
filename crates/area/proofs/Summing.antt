-- The walk over a ring's words: the two sums and what is left make the area, as they do for `area`, and a coordinate above the limit was passed or is among
-- those that are left. Assumes nothing.
use mathlib.Core.Path.{◌≡◌, refl, sym, ◌∙◌}
use mathlib.Core.Bool.{Bool, false, or_assoc, or-false, ◌||◌}
use mathlib.Core.List.{List}
use Prim.Native.Nat.{ℕ, ◌+◌, ◌*◌, ◌/◌, ◌%◌, ◌^◌, ◌<◌, ◌≤◌}
use native.Mathlib.Omega.{arith}
use lib.Dec.{ltb}
use lib.ListN.{length, get_or, drop}
use Rattle.scope.specs.Area.{any_above}
use Rattle.scope.specs.Cells.{Point}
use Rattle.scope.specs.Limits.{coordinate_limit}
use Rattle.laws.proofs.Words.{above-next}
use Rattle.area.proofs.Sums.{Sums, sums-begin, sums_next}
use Rattle.area.proofs.Words.{point_at, last_point, no-point}

pub record Summing (ws : List ℕ) (last : Point) (gained lost : ℕ) (over : Bool) (i : ℕ) : Type 0 where
  pub few : length ws < 2 ^ 33
  pub sums : Sums ws last gained lost i
  pub so_far : any_above coordinate_limit ws ≡ over || any_above coordinate_limit (drop (2 * i) ws)

pub summing-begin : (ws : List ℕ) → length ws % 2 ≡ 0 → 0 < length ws → length ws < 2 ^ 33 → {last : Point} → last ≡ last_point ws →
    Summing ws last 0 0 false 0
summing-begin ws even some few is = rw is (record { few = few; sums = sums-begin ws even some; so_far = refl })

module _ {ws : List ℕ} {last : Point} {gained lost : ℕ} {over : Bool} {i : ℕ} (s : Summing ws last gained lost over i) where
  -- the next point is passed
  pub summing-next : i < length ws / 2 → {next : Point} → next ≡ point_at ws i →
      {p q : ℕ} → (p ≡ last.y * next.x) × (p < 2 ^ 32) → (q ≡ last.x * next.y) × (q < 2 ^ 32) →
      Summing ws next (gained + p) (lost + q) ((over || ltb coordinate_limit next.x) || ltb coordinate_limit next.y) (i + 1)
  unfolding point_at
  summing-next h is hp hq = record {
    few = s.few;
    sums = sums_next s.sums h is hp hq;
    so_far = s.so_far
        ∙ rw (above-next coordinate_limit ws (2 * i) (omega arith), above-next coordinate_limit ws (2 * i + 1) (omega arith), two, is)
        (sym (or_assoc over _ _) ∙ sym (or_assoc (over || ltb coordinate_limit (get_or ws (2 * i) 0)) _ _));
  }
    where
      two : 2 * i + 1 + 1 ≡ 2 * (i + 1)
      two = omega arith

  -- all points are passed
  pub none_left : length ws / 2 ≤ i → over ≡ any_above coordinate_limit ws
  unfolding any_above
  none_left h = sym (s.so_far ∙ rw (no-point ws i s.sums.even h) (or-false over))

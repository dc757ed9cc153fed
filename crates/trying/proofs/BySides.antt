-- A stroke by what its two sides have, where the words of the sides are known. Assumes nothing.
use mathlib.Core.Path.{◌≡◌}
use mathlib.Core.Bool.{Bool, true, false}
use Prim.Native.Nat.{ℕ, ◌^◌, ◌≤◌, ◌<◌}
use native.Mathlib.Omega.{arith}
use Rattle.scope.specs.Limits.{side_limit}
use Rattle.scope.specs.declared.Side.{Side}
use Rattle.scope.specs.declared.Side.TheVariants.{Left, Right, Top, Bottom}
use Rattle.scope.specs.Cells.{◌⟶◌}
use Rattle.machine.specs.Machine.{side_word}
use Rattle.drawing.specs.Values.{is_met}
use Rattle.trying.specs.Trying.{Tried, open_tried, end_tried, start_tried, meet_tried, stroke_tried}

-- the frontier word of a side is a word's number
pub side-word-small : (dx c : ℕ) (side : Side) → dx ≤ side_limit → c < 2 ^ 16 → side_word dx c side < 2 ^ 32
unfolding side_word side_limit
side-word-small dx c Left h k = omega arith
side-word-small dx c Right h k = omega arith
side-word-small dx c Top h k = omega arith
side-word-small dx c Bottom h k = omega arith

-- a stroke from side x to side y
module _ (dx c : ℕ) (t : Tried) (x y : Side) {from to : Bool} (at_from : from ≡ is_met x) (at-to : to ≡ is_met y) {s e : ℕ} (is-s : s ≡ side_word dx c x)
    (is-e : e ≡ side_word dx c y) {after : Tried} where
  pub by-meeting : from ≡ true → to ≡ true → after ≡ meet_tried t s e → after ≡ stroke_tried dx c t (x ⟶ y)
  unfolding stroke_tried
  by-meeting h k a = rw (a, is-s, is-e, ← at_from, h, ← at-to, k)

  pub by-ending : from ≡ true → to ≡ false → after ≡ end_tried t s e → after ≡ stroke_tried dx c t (x ⟶ y)
  unfolding stroke_tried
  by-ending h k a = rw (a, is-s, is-e, ← at_from, h, ← at-to, k)

  pub by-starting : from ≡ false → to ≡ true → after ≡ start_tried t s e → after ≡ stroke_tried dx c t (x ⟶ y)
  unfolding stroke_tried
  by-starting h k a = rw (a, is-s, is-e, ← at_from, h, ← at-to, k)

  pub by-opening : from ≡ false → to ≡ false → after ≡ open_tried t s e → after ≡ stroke_tried dx c t (x ⟶ y)
  unfolding stroke_tried
  by-opening h k a = rw (a, is-s, is-e, ← at_from, h, ← at-to, k)

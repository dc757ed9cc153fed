-- The terrain's samples by their place among the values: row after row, each within the count, and nothing above outside; and words of them.
-- Assumes nothing.
use mathlib.Core.Path.{◌≡◌, sym, ◌∙◌, ap}
use mathlib.Core.Bool.{Bool}
use mathlib.Core.List.{List}
use Prim.Native.Nat.{ℕ, suc, ◌+◌, ◌-◌, ◌*◌, ◌≤◌, ◌<◌}
use native.Mathlib.Nat.{add_assoc, suc-mul, mul_comm, mul-le-mul_right}
use native.Mathlib.Omega.{arith}
use lib.Ieee.{Float, nan}
use lib.ListN.{get_or}
use borrow.Author.Tests.{lt-ltb}
use Rattle.scope.specs.Terrain.{sheet, terrain}
use Rattle.words.specs.Bits.{packed, samples_from}
use Rattle.words.proofs.Packing.{packed_alike}
use Rattle.words.proofs.Laws.{none-packed, packed-trimmed}
use Rattle.laws.proofs.Edges.{Outside}
use Rattle.laws.proofs.Laws.{nothing-above-outside}
use Rattle.grid.specs.Grid.{Sized}
use Rattle.scan.specs.Rows.{word_from}

-- a part of a row is among the values
pub row-is-within : {count dx dy r e : ℕ} → Sized count dx dy → r < dy → e ≤ dx → r * dx + e ≤ count
row-is-within {count} {dx} {dy} {r} {e} s hr he = omega (arith, s.filled, mul-le-mul_right dx hr, suc-mul r dx, mul_comm dx dy)

module _ (rule : Float → Bool) (values : List Float) (dx dy : ℕ) where
  pub terrain-outside : Outside (terrain rule values dx dy) dx dy
  unfolding terrain
  terrain-outside = nothing-above-outside dx dy (λ x y. rule (get_or values (y * dx + x) nan))

  -- the sample of a value
  inside : (x y : ℕ) → x < dx → y < dy → terrain rule values dx dy (suc x) (suc y) ≡ rule (get_or values (y * dx + x) nan)
  unfolding terrain sheet
  inside x y hx hy = rw (lt-ltb x dx hx, lt-ltb y dy hy)

  -- n samples of a row, from cell c on
  samples-are : (r c n : ℕ) → r < dy → c + n ≤ dx →
      packed (samples_from rule values (r * dx + c)) n ≡ packed (λ j. terrain rule values dx dy (suc (c + j)) (suc r)) n
  samples-are r c n hr h =
      packed_alike (samples_from rule values (r * dx + c)) (λ j. terrain rule values dx dy (suc (c + j)) (suc r)) n
      (λ j l. ap (λ (i : ℕ). rule (get_or values i nan)) (add_assoc (r * dx) c j) ∙ sym (inside (c + j) r (omega arith) hr))

  -- a whole word of samples; those up to the grid's last column; and none below its last row
  pub whole_word : (r c : ℕ) → r < dy → c + 64 ≤ dx → packed (samples_from rule values (r * dx + c)) 64 ≡ word_from (terrain rule values dx dy) (suc r) c
  unfolding word_from
  whole_word r c hr h = samples-are r c 64 hr h

  pub last_word : (r c n : ℕ) → r < dy → c + n ≡ dx → n ≤ 64 → packed (samples_from rule values (r * dx + c)) n ≡ word_from (terrain rule values dx dy) (suc r) c
  unfolding word_from
  last_word r c n hr h few =
      let whole : n + (64 - n) ≡ 64 = omega arith in
      samples-are r c n hr (omega arith)
      ∙ sym (packed-trimmed (λ j. terrain rule values dx dy (suc (c + j)) (suc r)) n (64 - n) (λ j l. terrain-outside.no-column-after (suc (c + j)) (suc r) (omega arith)))
      ∙ ap (packed (λ j. terrain rule values dx dy (suc (c + j)) (suc r))) whole

  pub no-word-below : (r c : ℕ) → dy ≤ r → 0 ≡ word_from (terrain rule values dx dy) (suc r) c
  unfolding word_from
  no-word-below r c h = sym (none-packed (λ j. terrain rule values dx dy (suc (c + j)) (suc r)) 64 (λ j. terrain-outside.no-row-after (suc (c + j)) (suc r) (omega arith)))

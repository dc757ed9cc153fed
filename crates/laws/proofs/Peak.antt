-- The peak: no cell leaves more open lines, and some cell leaves just as many. Both hold of the largest of any numbers along the cells.
-- Assumes nothing.
use mathlib.Core.Path.{◌≡◌, refl, sym, ◌∙◌, ap}
use Prim.Native.Nat.{ℕ, zero, suc, max, ◌≤◌, ◌<◌}
use native.Mathlib.Decide.{dec_le}
use native.Mathlib.Omega.{arith}
use lib.ListN.{length}
use Rattle.scope.specs.Terrain.{Sheet}
use Rattle.scope.specs.Drawing.{along, down, up_to, higher, open_after, peak}

module _ (A : Sheet) (dx : ℕ) where
  left : ℕ → ℕ → ℕ
  left r c = length (open_after A dx r (suc c))

  row : ℕ → ℕ → ℕ → ℕ
  row = along (higher A dx) 0 dx

  rows : ℕ → ℕ
  rows = down (higher A dx) 0 dx

  row-at-most : (n : ℕ) → ((r c : ℕ) → c ≤ dx → left r c ≤ n) → (from r c : ℕ) → c ≤ suc dx → from ≤ n → row from r c ≤ n
  unfolding row along higher left
  row-at-most n low from r zero hc h = h
  row-at-most n low from r (suc c) hc h = omega (arith, row-at-most n low from r c (omega arith) h, low r c (omega arith))

  rows-at-most : (n : ℕ) → ((r c : ℕ) → c ≤ dx → left r c ≤ n) → (r : ℕ) → rows r ≤ n
  unfolding rows row down
  rows-at-most n low zero = omega arith
  rows-at-most n low (suc r) = row-at-most n low (rows r) r (suc dx) (omega arith) (rows-at-most n low r)

  pub peak-at-most : (n dy : ℕ) → ((r c : ℕ) → c ≤ dx → length (open_after A dx r (suc c)) ≤ n) → peak A dx dy ≤ n
  unfolding peak up_to rows row left
  peak-at-most n dy low = row-at-most n low (rows dy) dy (suc dx) (omega arith) (rows-at-most n low dy)

  row_keeps : (from r c : ℕ) → from ≤ row from r c
  unfolding row along higher
  row_keeps from r zero = omega arith
  row_keeps from r (suc c) = omega (arith, row_keeps from r c)

  row_has : (from r c k : ℕ) → k < c → left r k ≤ row from r c
  unfolding row along higher left
  row_has from r zero k h = absurd (omega arith)
  row_has from r (suc c) k h = by (dec_le (suc k) c) (row_has from r c k)
    where
      by : Dec (k < c) → (k < c → left r k ≤ row from r c) → left r k ≤ max (row from r c) (left r c)
      by (yes i) ih = omega (arith, ih i)
      by (no i) ih = omega (arith, ap (left r) same)
        where
          same : k ≡ c
          same = omega arith

  rows-has : (dy r c : ℕ) → r < dy → c ≤ dx → left r c ≤ rows dy
  unfolding rows row down
  rows-has zero r c h hc = absurd (omega arith)
  rows-has (suc dy) r c h hc = by (dec_le (suc r) dy) (rows-has dy r c)
    where
      by : Dec (r < dy) → (r < dy → c ≤ dx → left r c ≤ rows dy) → left r c ≤ row (rows dy) dy (suc dx)
      by (yes i) ih = omega (arith, ih i hc, row_keeps (rows dy) dy (suc dx))
      by (no i) ih = omega (arith, row_has (rows dy) dy (suc dx) c (omega arith), ap (λ (n : ℕ). left n c) same)
        where
          same : r ≡ dy
          same = omega arith

  pub peak-is-highest : (dy r c : ℕ) → r ≤ dy → c ≤ dx → length (open_after A dx r (suc c)) ≤ peak A dx dy
  unfolding peak up_to rows row left down
  peak-is-highest dy r c hr hc = rows-has (suc dy) r c (omega arith) hc

  -- how a largest number came about: it was there before, or a cell brought it
  data Reached (from value : ℕ) (at : ℕ → ℕ → Type 0) : Type 0 where
    kept : value ≡ from → Reached from value at
    brought : (r c : ℕ) → at r c → left r c ≡ value → Reached from value at

  row-reached : (from r c : ℕ) → Reached from (row from r c) (λ i k. (i ≡ r) × (k < c))
  unfolding row along higher left
  row-reached from r zero = kept refl
  row-reached from r (suc c) = by (dec_le (left r c) (row from r c)) (row-reached from r c)
    where
      by : Dec (left r c ≤ row from r c) → Reached from (row from r c) (λ i k. (i ≡ r) × (k < c)) → Reached from (max (row from r c) (left r c)) (λ i k. (i ≡ r) × (k < suc c))
      by (yes h) (kept e) = kept (omega arith)
      by (yes h) (brought i k w e) = brought i k (w.0, omega (arith, w.1)) (omega arith)
      by (no h) ih = brought r c (refl, omega arith) (omega arith)

  rows-reached : (dy : ℕ) → Reached 0 (rows dy) (λ i k. (i < dy) × (k ≤ dx))
  unfolding rows row down
  rows-reached zero = kept refl
  rows-reached (suc dy) = by (row-reached (rows dy) dy (suc dx)) (rows-reached dy)
    where
      by : Reached (rows dy) (row (rows dy) dy (suc dx)) (λ i k. (i ≡ dy) × (k < suc dx)) → Reached 0 (rows dy) (λ i k. (i < dy) × (k ≤ dx)) → Reached 0 (row (rows dy) dy (suc dx)) (λ i k. (i < suc dy) × (k ≤ dx))
      by (kept e) (kept f) = kept (e ∙ f)
      by (kept e) (brought i k w f) = brought i k (omega (arith, w.0), w.1) (f ∙ sym e)
      by (brought i k w e) ih = brought i k (omega (arith, w.0), omega (arith, w.1)) e

  pub peak-is-reached : (dy : ℕ) → (r : ℕ) × (c : ℕ) × (r ≤ dy) × (c ≤ dx) × (length (open_after A dx r (suc c)) ≡ peak A dx dy)
  unfolding peak up_to rows row left down
  peak-is-reached dy = by (rows-reached (suc dy))
    where
      by : Reached 0 (rows (suc dy)) (λ i k. (i < suc dy) × (k ≤ dx)) → (r : ℕ) × (c : ℕ) × (r ≤ dy) × (c ≤ dx) × (left r c ≡ rows (suc dy))
      by (kept e) = (0, 0, omega arith, omega arith, omega (arith, rows-has (suc dy) 0 0 (omega arith) (omega arith)))
      by (brought i k w e) = (i, k, omega (arith, w.0), w.1, e)

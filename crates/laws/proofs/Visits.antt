-- A measure of segments that only one cell's segments have: its sum over the cells visited so far is that cell's where it was visited, and else 0.
-- Assumes nothing.
use mathlib.Core.Path.{◌≡◌, refl, sym, ◌∙◌, ap}
use mathlib.Core.List.{List, [], ◌++◌}
use Prim.Native.Nat.{ℕ, zero, suc, ◌+◌, ◌≤◌, ◌<◌}
use native.Mathlib.Nat.{not-suc-le-zero}
use native.Mathlib.Decide.{ℕ_discrete}
use native.Mathlib.Omega.{arith}
use Rattle.scope.specs.Terrain.{Sheet}
use Rattle.scope.specs.Cells.{Segment, cell_segments}
use Rattle.scope.specs.Drawing.{along, down, up_to, with_cell, segments_after}
use Rattle.laws.proofs.Total.{total, total-append}

module _ (A : Sheet) (dx : ℕ) (w : Segment → ℕ) (column row : ℕ)
    (only : (c r : ℕ) → c ≤ dx → (c ≡ column → r ≡ row → ⊥) → total w (cell_segments A c r) ≡ 0) where
  line : List Segment → ℕ → ℕ → List Segment
  line = along (with_cell A) [] dx

  rows : ℕ → List Segment
  rows = down (with_cell A) [] dx

  row-without : (σs : List Segment) (r c : ℕ) → c ≤ suc dx → (column < c → row ≡ r → ⊥) → total w (line σs r c) ≡ total w σs
  unfolding line along with_cell
  row-without σs r zero h none = refl
  row-without σs r (suc c) h none =
      omega (
        arith,
        total-append w (line σs r c) (cell_segments A c r),
        row-without σs r c (omega arith) (λ k e. none (omega arith) e),
        only c r (omega arith) (λ e f. none (omega arith) (sym f)),
      )

  row-with : (σs : List Segment) (c : ℕ) → c ≤ suc dx → column < c → total w (line σs row c) ≡ total w σs + total w (cell_segments A column row)
  unfolding line along with_cell
  row-with σs zero h k = absurd (not-suc-le-zero k)
  row-with σs (suc c) h k = by (ℕ_discrete c column) (row-with σs c)
    where
      by : Dec (c ≡ column) → (c ≤ suc dx → column < c → total w (line σs row c) ≡ total w σs + total w (cell_segments A column row))
          → total w (line σs row c ++ cell_segments A c row) ≡ total w σs + total w (cell_segments A column row)
      by (yes e) ih =
          omega (
            arith,
            total-append w (line σs row c) (cell_segments A c row),
            row-without σs row c (omega arith) (λ k' f. omega arith),
            ap (λ (n : ℕ). total w (cell_segments A n row)) e,
          )
      by (no ne) ih =
          omega (arith, total-append w (line σs row c) (cell_segments A c row), ih (omega arith) (omega arith), only c row (omega arith) (λ e f. ne e))

  rows-without : (r : ℕ) → r ≤ row → total w (rows r) ≡ 0
  unfolding rows line down total
  rows-without zero h = refl
  rows-without (suc r) h = row-without (rows r) r (suc dx) (omega arith) (λ k e. omega arith) ∙ rows-without r (omega arith)

  rows-with : (r : ℕ) → column ≤ dx → row < r → total w (rows r) ≡ total w (cell_segments A column row)
  unfolding rows line down
  rows-with zero h k = absurd (not-suc-le-zero k)
  rows-with (suc r) h k = by (ℕ_discrete r row) (rows-with r h)
    where
      by : Dec (r ≡ row) → (row < r → total w (rows r) ≡ total w (cell_segments A column row)) → total w (line (rows r) r (suc dx)) ≡ total w (cell_segments A column row)
      by (yes e) ih =
          ap (λ (n : ℕ). total w (line (rows r) n (suc dx))) e
          ∙ omega (arith, row-with (rows r) (suc dx) (omega arith) (omega arith), rows-without r (omega arith))
      by (no ne) ih = row-without (rows r) r (suc dx) (omega arith) (λ k' f. omega arith) ∙ ih (omega arith)

  pub not-visited : (r c : ℕ) → c ≤ suc dx → r ≤ row → (row ≡ r → c ≤ column) → total w (segments_after A dx r c) ≡ 0
  unfolding segments_after up_to line rows
  not-visited r c h k before = row-without (rows r) r c h (λ i e. omega (arith, before e)) ∙ rows-without r k

  pub visited-above : (r c : ℕ) → c ≤ suc dx → column ≤ dx → row < r → total w (segments_after A dx r c) ≡ total w (cell_segments A column row)
  unfolding segments_after up_to line rows
  visited-above r c h i k = row-without (rows r) r c h (λ j e. omega arith) ∙ rows-with r i k

  pub visited-before : (c : ℕ) → c ≤ suc dx → column < c → total w (segments_after A dx row c) ≡ total w (cell_segments A column row)
  unfolding segments_after up_to line rows
  visited-before c h k = omega (arith, row-with (rows row) c h k, rows-without row (omega arith))

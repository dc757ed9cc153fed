-- A sweep from cell to cell and from word to word, for any step that leaves everything as it is at a cell that is not active: so the active cells alone are
-- visited. By induction on the number of cells. Assumes nothing.
use mathlib.Core.Path.{◌≡◌, refl, sym, ◌∙◌, ap}
use mathlib.Core.Bool.{false}
use mathlib.Core.List.{List, []}
use Prim.Native.Nat.{ℕ, zero, suc, ◌+◌, ◌-◌, ◌*◌, ◌/◌, ◌≤◌, ◌<◌}
use native.Mathlib.Nat.{add-zero, add-suc}
use native.Mathlib.Numerals.{add-one}
use native.Mathlib.Omega.{arith}
use Rattle.scope.specs.Terrain.{Sheet}
use Rattle.words.specs.Panes.{active}
use Rattle.scan.proofs.Rows.{Unseen, Next, unseen-end}
use Rattle.sweep.specs.Sweep.{swept, row_cells}

module _ {X : Type 0} (step : X → ℕ → X) where
  -- ---- one cell more

  pub cells-more : (from : X) (c n : ℕ) → swept step from c (suc n) ≡ step (swept step from c n) (c + n)
  unfolding swept
  cells-more from c n = refl

  pub next-swept : (from : X) (c n : ℕ) → swept step from c (n + 1) ≡ step (swept step from c n) (c + n)
  next-swept from c n = ap (swept step from c) (add-one n) ∙ cells-more from c n

  -- a word's cells begin with what stands before them
  pub word-begun : (from : X) (c : ℕ) → from ≡ swept step from c 0
  unfolding swept
  word-begun from c = refl

  further-in-row : (from : X) (c n : ℕ) → swept step (swept step from 0 c) c n ≡ swept step from 0 (c + n)
  further-in-row from c zero = unfold swept in ap (swept step from 0) (sym (add-zero c))
  further-in-row from c (suc n) =
      rw (add-suc c n, cells-more (swept step from 0 c) c n, cells-more from 0 (c + n))
      (ap (λ (x : X). step x (c + n)) (further-in-row from c n) ∙ ap (step (swept step from 0 (c + n))) (omega arith))

  -- ---- along a row

  pub row-begun : (from : X) → from ≡ swept step from 0 (64 * 0)
  unfolding swept
  row-begun from = refl

  -- a word of cells more
  pub word_more : {now after : X} (from : X) (w : ℕ) → now ≡ swept step from 0 (64 * w) → after ≡ swept step now (64 * w) 64 →
      after ≡ swept step from 0 (64 * (w + 1))
  word_more from w so_far e =
      let next : 64 * w + 64 ≡ 64 * (w + 1) = omega arith in
      e ∙ ap (λ (x : X). swept step x (64 * w) 64) so_far ∙ further-in-row from (64 * w) 64 ∙ ap (swept step from 0) next

  -- after the last word, which begins within the row
  pub row-swept : {now : X} (from : X) (dx w : ℕ) → now ≡ swept step from 0 (64 * w) → dx < 64 * w → 64 * w ≤ dx + 64 → now ≡ swept step from 0 (row_cells dx)
  unfolding row_cells
  row-swept from dx w so_far past within =
      let all : 64 * w ≡ 64 * (dx / 64 + 1) = omega arith in
      so_far ∙ ap (swept step from 0) all

  -- ---- two steps that do the same

  pub swept-alike : (other : X → ℕ → X) → ((x : X) (c : ℕ) → step x c ≡ other x c) → (from : X) (c n : ℕ) → swept step from c n ≡ swept other from c n
  unfolding swept
  swept-alike other same from c zero = refl
  swept-alike other same from c (suc n) =
      same (swept step from c n) (c + n) ∙ ap (λ (x : X). other x (c + n)) (swept-alike other same from c n)

  -- ---- cells that are not active

  module _ (A : Sheet) (r : ℕ) (still : (x : X) (c : ℕ) → active A r c ≡ false → step x c ≡ x) where
    pub cells_stay : (from : X) (c n t : ℕ) → ((j : ℕ) → j < t → active A r (c + n + j) ≡ false) → swept step from c (n + t) ≡ swept step from c n
    cells_stay from c n zero h = ap (swept step from c) (add-zero n)
    cells_stay from c n (suc t) h =
        rw (add-suc n t, cells-more from c (n + t))
        (still (swept step from c (n + t)) (c + (n + t)) (ap (active A r) (omega arith) ∙ h t (omega arith))
        ∙ cells_stay from c n t (λ j l. h j (omega arith)))

    -- the next active cell of a word
    pub active-swept : {c at j : ℕ} {left : List ℕ} {now after : X} (from : X) → Next A r c at j left → now ≡ swept step from c at → after ≡ step now (c + j) →
        after ≡ swept step from c (j + 1)
    active-swept {c} {at} {j} from next so_far e =
        let there : at + (j - at) ≡ j = omega (arith, next.further) in
        e ∙ ap (λ (x : X). step x (c + j)) (so_far ∙ sym (cells_stay from c at (j - at) next.none_between) ∙ ap (swept step from c) there)
        ∙ sym (next-swept from c j)

    -- the cells after the last active one
    pub word-swept : {c at : ℕ} {left : List ℕ} {now : X} (from : X) → Unseen A r c at left → left ≡ [] → now ≡ swept step from c at → now ≡ swept step from c 64
    word-swept {c} {at} from u none so_far =
        let whole : at + (64 - at) ≡ 64 = omega (arith, u.seen) in
        so_far ∙ sym (cells_stay from c at (64 - at) (unseen-end A r c u none)) ∙ ap (swept step from c) whole

    -- the cells of a row of dx columns, where none past them is active
    pub row-is-its-cells : (from : X) (dx : ℕ) → ((c : ℕ) → dx < c → active A r c ≡ false) → swept step from 0 (row_cells dx) ≡ swept step from 0 (suc dx)
    unfolding row_cells
    row-is-its-cells from dx none =
        let all : 64 * (dx / 64 + 1) ≡ suc dx + (64 * (dx / 64 + 1) - suc dx) = omega arith in
        ap (swept step from 0) all ∙ cells_stay from 0 (suc dx) (64 * (dx / 64 + 1) - suc dx) (λ j l. none (0 + suc dx + j) (omega arith))

-- A cell by its number: the strokes that the case table has for it, one after the other. A cell that is not active, and one past the last column, leave
-- everything as it is. Assumes nothing.
use mathlib.Core.Path.{◌≡◌, refl, sym, ◌∙◌, ap}
use mathlib.Core.Bool.{false}
use mathlib.Core.List.{List, [], ◌∷◌}
use Prim.Native.Nat.{ℕ, zero, suc, ◌+◌, ◌-◌, ◌≤◌, ◌<◌}
use native.Mathlib.Decide.{dec_lt}
use native.Mathlib.Nat.{add-zero, add-suc}
use native.Mathlib.Omega.{arith}
use borrow.Author.Tests.{lt-ltb, le-ltb}
use lib.ListN.{length}
use Rattle.scope.specs.Terrain.{Sheet}
use Rattle.scope.specs.Cells.{Stroke, ◌⟶◌, drawn, cell_number}
use Rattle.cells.specs.declared.Stroke as cells
use Rattle.cells.specs.Sides.{sides_of, stroke_at}
use Rattle.words.specs.Panes.{active}
use Rattle.words.proofs.Laws.{nothing-drawn}
use Rattle.machine.specs.Machine.{Entry, Run, entry_of}
use Rattle.drawing.proofs.Strokes.{Here, NoneOf, no-stroke, the-stroke-comes-back}
use Rattle.drawing.specs.declared.Cell.{Cell}
use Rattle.lines.specs.Values.{edges_of}
use Rattle.scan.proofs.Rows.{Next}
use Rattle.sweep.specs.Sweep.{swept}
use Rattle.sweep.proofs.Steps.{cells-more, cells_stay}
use Rattle.giving.specs.Giving.{Given, tables_in, stroke_given, strokes_given, number_given, cell_given}

-- ---- a cell by its number

-- a list of no length has nothing in it
empty : {A : Type 0} (xs : List A) → 0 ≡ length xs → xs ≡ []
empty [] h = refl
empty (x ∷ xs) h = absurd (omega (arith, h))

module _ (dx c r number : ℕ) (g : Given) where
  module _ (cell : Cell) (here : Here dx c r g.lines cell) where
    code-given : (g' : Given) (σ : Stroke) {code : cells.Stroke} → code ≡ sides_of σ →
        stroke_given cell.dx cell.c cell.r (edges_of cell.met) g' (code.from ⟶ code.to) ≡ stroke_given dx c r (entry_of dx g.lines c) g' σ
    code-given g' σ code =
        ap (stroke_given cell.dx cell.c cell.r (edges_of cell.met) g') (the-stroke-comes-back σ code)
        ∙ ap (λ (entry : Entry). stroke_given cell.dx cell.c cell.r entry g' σ) here.lines-are
        ∙ rw (here.place.0, here.place.1, here.place.2)

    -- one stroke, where the row of the number has one
    pub one-given : {n : ℕ} →
        number ≡ n →
        drawn n ≡ (stroke_at n 0 ∷ []) →
        {code : cells.Stroke} →
        code ≡ sides_of (stroke_at n 0) →
        {after : Given} →
        after ≡ stroke_given cell.dx cell.c cell.r (edges_of cell.met) g (code.from ⟶ code.to) →
        after ≡ number_given dx r g number c
    unfolding number_given strokes_given
    one-given {n} is row code given = given ∙ code-given g (stroke_at n 0) code ∙ rw (is, row)

    pub two-given : {n : ℕ} →
        number ≡ n →
        (σ σ' : Stroke) →
        drawn n ≡ (σ ∷ σ' ∷ []) →
        {code code' : cells.Stroke} →
        code ≡ sides_of σ →
        code' ≡ sides_of σ' →
        {after after' : Given} →
        after ≡ stroke_given cell.dx cell.c cell.r (edges_of cell.met) g (code.from ⟶ code.to) →
        after' ≡ stroke_given cell.dx cell.c cell.r (edges_of cell.met) after (code'.from ⟶ code'.to) →
        after' ≡ number_given dx r g number c
    unfolding number_given strokes_given
    two-given is σ σ' row code code' {after} given given' =
        given' ∙ code-given after σ' code'
        ∙ ap (λ (x : Given). stroke_given dx c r (entry_of dx g.lines c) x σ') (given ∙ code-given g σ code)
        ∙ rw (is, row)

  -- the numbers that draw nothing
  none-given : drawn number ≡ [] → g ≡ number_given dx r g number c
  unfolding number_given strokes_given
  none-given none = rw none

  -- a number that no arm has draws nothing: stitching takes no link for it
  pub rest-given : NoneOf number 14 → g ≡ number_given dx r g number c
  rest-given rest =
      let run : Run = record { tables = tables_in g; next = 0 } in
      let links : 0 ≡ 0 + length (drawn number) = ap (λ (after : Run). after.next) (no-stroke dx c r number run rest) in
      none-given (empty (drawn number) (omega (arith, links)))

-- ---- the cells of a row

module _ (A : Sheet) (dx r : ℕ) where
  -- the cell of a number that is the sheet's
  pub cell-of : (g : Given) (c : ℕ) {number : ℕ} → c ≤ dx → number ≡ cell_number A c 0 → number_given dx r g number c ≡ cell_given A dx r g c
  unfolding cell_given
  cell-of g c h e = rw (e, le-ltb dx c h)

  -- past the last column
  past : (g : Given) (c : ℕ) → dx < c → cell_given A dx r g c ≡ g
  unfolding cell_given
  past g c h = rw (lt-ltb dx c h)

  -- a cell that is not active
  pub still : (g : Given) (c : ℕ) → active A 0 c ≡ false → cell_given A dx r g c ≡ g
  still g c h = elim (dec_lt dx c) [
    | yes k ↦ past g c k
    | no k ↦ sym (cell-of g c (omega arith) refl) ∙ sym (none-given dx c r (cell_number A c 0) g (nothing-drawn A 0 c h))
  ]

  past-stays : (from : Given) (c n t : ℕ) → dx < c + n → swept (cell_given A dx r) from c (n + t) ≡ swept (cell_given A dx r) from c n
  past-stays from c n zero h = ap (swept (cell_given A dx r) from c) (add-zero n)
  past-stays from c n (suc t) h =
      rw (add-suc n t, cells-more (cell_given A dx r) from c (n + t))
      (past (swept (cell_given A dx r) from c (n + t)) (c + (n + t)) (omega arith) ∙ past-stays from c n t h)

  -- where the next active cell is past the last column, the word's cells are done
  pub word-stops : {c at j : ℕ} {left : List ℕ} {now : Given} (from : Given) → Next A 0 c at j left → dx < c + j → now ≡ swept (cell_given A dx r) from c at →
      now ≡ swept (cell_given A dx r) from c 64
  word-stops {c} {at} {j} from next far so_far =
      let there : at + (j - at) ≡ j = omega (arith, next.further) in
      let whole : j + (64 - j) ≡ 64 = omega (arith, next.in-word) in
      so_far ∙ sym (cells_stay (cell_given A dx r) A 0 still from c at (j - at) next.none_between)
      ∙ ap (swept (cell_given A dx r) from c) there ∙ sym (past-stays from c j (64 - j) far)
      ∙ ap (swept (cell_given A dx r) from c) whole

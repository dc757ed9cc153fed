-- A stroke by the rule that its sides call for is the table machine's stroke, and a cell's none, one or two strokes are its cell: by the case table's row for
-- the number. Assumes nothing.
use mathlib.Core.Path.{◌≡◌, refl, ap, ap₂, ◌∙◌}
use mathlib.Core.Bool.{Bool, true, false, not}
use mathlib.Core.List.{List, [], ◌∷◌}
use Prim.Native.Nat.{ℕ, zero, suc, ◌+◌, ◌^◌, ◌<◌}
use native.Mathlib.Decide.{dec_lt}
use native.Mathlib.Nat.{add-zero}
use native.Mathlib.Numerals.{add-one}
use native.Mathlib.Omega.{arith}
use lib.Dec.{T}
use Rattle.scope.specs.declared.Side.{Side}
use Rattle.scope.specs.declared.Side.TheVariants.{Left, Right, Top, Bottom}
use Rattle.scope.specs.Cells.{Stroke, ◌⟶◌, same_side, point_of, point_index, case_table, drawn}
use Rattle.cells.specs.declared.Stroke as cells
use Rattle.cells.specs.Sides.{sides_of}
use Rattle.cells.proofs.Laws.{past-the-table-nothing-is-drawn}
use Rattle.machine.specs.Machine.{Tables, Run, Entry, side_word, appended, prepended, started, entry_of, draw_stroke, draw_strokes}
use Rattle.lines.specs.Values.{edges_of, connected}
use Rattle.drawing.specs.declared.Points.{Points}
use Rattle.drawing.specs.declared.Cell.{Cell}
use Rattle.drawing.specs.Values.{points_of, number_drawn, point_at, is_met, line_at, rule_drawn, stroke_drawn}

-- a stroke from side x to side y, as the next link: which rule draws it, by what the two sides have
module _ (dx c : ℕ) (run : Run) (x y : Side) (entry : Entry) (at : Points) {from to : Bool} (at_from : from ≡ is_met x) (at-to : to ≡ is_met y) {s : ℕ}
    (is-s : s ≡ point_at at x) {after : Tables} where
  pub by-connecting : {f g : ℕ} →
      from ≡ true →
      to ≡ true →
      f ≡ line_at entry x →
      g ≡ line_at entry y →
      after ≡ connected dx run.tables run.next s f g →
      record { tables = after; next = run.next + 1 } ≡ stroke_drawn dx c entry at run (x ⟶ y)
  by-connecting h k is_f is-g a = rw (a, is-s, is_f, is-g, ← at_from, h, ← at-to, k)

  pub by-appending : {f e we : ℕ} →
      from ≡ true →
      to ≡ false →
      f ≡ line_at entry x →
      e ≡ point_at at y →
      we ≡ side_word dx c y →
      after ≡ appended dx run.tables run.next s f e we →
      record { tables = after; next = run.next + 1 } ≡ stroke_drawn dx c entry at run (x ⟶ y)
  by-appending h k is_f is-e is-we a = rw (a, is-s, is_f, is-e, is-we, ← at_from, h, ← at-to, k)

  pub by-prepending : {g ws : ℕ} →
      from ≡ false →
      to ≡ true →
      g ≡ line_at entry y →
      ws ≡ side_word dx c x →
      after ≡ prepended dx run.tables run.next s g ws →
      record { tables = after; next = run.next + 1 } ≡ stroke_drawn dx c entry at run (x ⟶ y)
  by-prepending h k is-g is-ws a = rw (a, is-s, is-g, is-ws, ← at_from, h, ← at-to, k)

  pub by-starting : {e ws we : ℕ} →
      from ≡ false →
      to ≡ false →
      e ≡ point_at at y →
      ws ≡ side_word dx c x →
      we ≡ side_word dx c y →
      after ≡ started dx run.tables run.next s e ws we →
      record { tables = after; next = run.next + 1 } ≡ stroke_drawn dx c entry at run (x ⟶ y)
  by-starting h k is-e is-ws is-we a = rw (a, is-s, is-e, is-ws, is-we, ← at_from, h, ← at-to, k)

-- after one stroke there is room for a second
pub a-second-link-fits : (before after : ℕ) → after ≡ before + 1 → before + 2 < 2 ^ 32 → after + 1 < 2 ^ 32
a-second-link-fits before after is h = omega arith

-- a stroke that the code has by its two sides
pub the-stroke-comes-back : (stroke : Stroke) {code : cells.Stroke} → code ≡ sides_of stroke → (code.from ⟶ code.to) ≡ stroke
the-stroke-comes-back (s ⟶ e) is = rw is

pub the-point-of-a-side : (dx c r : ℕ) (side : Side) → point_at (points_of dx c r) side ≡ point_index dx (point_of c r side)
the-point-of-a-side dx c r Left = refl
the-point-of-a-side dx c r Right = refl
the-point-of-a-side dx c r Top = refl
the-point-of-a-side dx c r Bottom = refl

-- a stroke that does not end on the side where it starts
abbrev pub crosses : Stroke → Bool
crosses (s ⟶ e) = not (same_side s e)

the-rule-is-the-machines : (dx c : ℕ) (entry : Entry) (at : Points) (t : Tables) (k : ℕ) (s e : Side) →
    T (crosses (s ⟶ e)) →
    rule_drawn dx c entry at t k s e ≡ draw_stroke dx c entry t (s ⟶ e) k (point_at at s) (point_at at e)
unfolding draw_stroke side_word
the-rule-is-the-machines dx c entry at t k Left Left h = absurd h
the-rule-is-the-machines dx c entry at t k Left Right h = refl
the-rule-is-the-machines dx c entry at t k Left Top h = refl
the-rule-is-the-machines dx c entry at t k Left Bottom h = refl
the-rule-is-the-machines dx c entry at t k Right Left h = refl
the-rule-is-the-machines dx c entry at t k Right Right h = absurd h
the-rule-is-the-machines dx c entry at t k Right Top h = refl
the-rule-is-the-machines dx c entry at t k Right Bottom h = refl
the-rule-is-the-machines dx c entry at t k Top Left h = refl
the-rule-is-the-machines dx c entry at t k Top Right h = refl
the-rule-is-the-machines dx c entry at t k Top Top h = absurd h
the-rule-is-the-machines dx c entry at t k Top Bottom h = refl
the-rule-is-the-machines dx c entry at t k Bottom Left h = refl
the-rule-is-the-machines dx c entry at t k Bottom Right h = refl
the-rule-is-the-machines dx c entry at t k Bottom Top h = refl
the-rule-is-the-machines dx c entry at t k Bottom Bottom h = absurd h

-- a stroke of cell (c, r), where the cell's points are known
module _ (dx c r : ℕ) (entry : Entry) where
  abbrev placed_stroke : Run → Stroke → Run
  placed_stroke run (s ⟶ e) = record {
    tables = draw_stroke dx c entry run.tables (s ⟶ e) run.next (point_index dx (point_of c r s)) (point_index dx (point_of c r e));
    next = run.next + 1;
  }

  placed-stroke : (stroke : Stroke) (run : Run) → T (crosses stroke) → stroke_drawn dx c entry (points_of dx c r) run stroke ≡ placed_stroke run stroke
  placed-stroke (s ⟶ e) run h =
      rw (
        the-rule-is-the-machines dx c entry (points_of dx c r) run.tables run.next s e h,
        the-point-of-a-side dx c r s,
        the-point-of-a-side dx c r e,
      )

-- cell (c, r) at hand, with the lines that the frontier has at its left and its top
pub record Here (dx c r : ℕ) (lines : List ℕ) (cell : Cell) : Type 0 where
  pub place : (cell.dx ≡ dx) × (cell.c ≡ c) × (cell.r ≡ r)
  pub lines-are : edges_of cell.met ≡ entry_of dx lines c

-- a cell of number n, with the lines at its left and its top from before it
module _ (dx c r number : ℕ) (run : Run) {n : ℕ} (cell : Cell) (here : Here dx c r run.tables.lines cell) (is : number ≡ n) where
  abbrev before : Entry
  before = entry_of dx run.tables.lines c

  code-drawn : (run' : Run) (stroke : Stroke) → T (crosses stroke) → {code : cells.Stroke} → code ≡ sides_of stroke →
      stroke_drawn cell.dx cell.c (edges_of cell.met) cell.at run' (code.from ⟶ code.to) ≡ placed_stroke dx c r before run' stroke
  code-drawn run' stroke h code =
      ap (stroke_drawn cell.dx cell.c (edges_of cell.met) cell.at run') (the-stroke-comes-back stroke code)
      ∙ ap₂ (λ (entry : Entry) (at : Points). stroke_drawn cell.dx cell.c entry at run' stroke) here.lines-are cell.points_are
      ∙ rw (here.place.0, here.place.1, here.place.2) (placed-stroke dx c r before stroke run' h)

  pub one-stroke : (stroke : Stroke) →
      drawn n ≡ (stroke ∷ []) →
      T (crosses stroke) →
      {code : cells.Stroke} →
      code ≡ sides_of stroke →
      {after : Run} →
      after ≡ stroke_drawn cell.dx cell.c (edges_of cell.met) cell.at run (code.from ⟶ code.to) →
      after ≡ number_drawn dx run number c r
  unfolding draw_strokes
  one-stroke (s ⟶ e) row h code a = rw (a ∙ code-drawn run (s ⟶ e) h code, is, row)

  pub two-strokes : (stroke stroke' : Stroke) →
      drawn n ≡ (stroke ∷ stroke' ∷ []) →
      T (crosses stroke) →
      T (crosses stroke') →
      {code code' : cells.Stroke} →
      code ≡ sides_of stroke →
      code' ≡ sides_of stroke' →
      {after after' : Run} →
      after ≡ stroke_drawn cell.dx cell.c (edges_of cell.met) cell.at run (code.from ⟶ code.to) →
      after' ≡ stroke_drawn cell.dx cell.c (edges_of cell.met) cell.at after (code'.from ⟶ code'.to) →
      after' ≡ number_drawn dx run number c r
  unfolding draw_strokes
  two-strokes (s ⟶ e) (s' ⟶ e') row h h' code code' {after} a b =
      let both : run.next + 1 + 1 ≡ run.next + 2 = omega arith in
      rw (
        b ∙ code-drawn after (s' ⟶ e') h' code',
        a ∙ code-drawn run (s ⟶ e) h code,
        is,
        row,
        both,
        add-one run.next,
      )

-- a number that is none of 1 to m
abbrev pub NoneOf : ℕ → ℕ → Type 0
NoneOf number zero = Unit
NoneOf number (suc m) = NoneOf number m × (number ≡ suc m → ⊥)

beyond : (number m : ℕ) → NoneOf number m → 0 < number → m < number
beyond number zero rest some = some
beyond number (suc m) rest some = omega (arith, beyond number m rest.0 some, rest.1)

-- the case table has no stroke for 0 and 15, nor past its end
none-drawn : (number : ℕ) → NoneOf number 14 → drawn number ≡ []
unfolding drawn case_table
none-drawn number rest =
    elim (dec_lt 0 number) [
      | yes some ↦ elim (dec_lt number 16) [
        | yes h ↦ let last : number ≡ 15 = omega (arith, beyond number 14 rest some) in rw last
        | no h ↦ past-the-table-nothing-is-drawn number (omega arith)
      ]
      | no none ↦ let first : number ≡ 0 = omega arith in rw first
    ]

pub no-stroke : (dx c r number : ℕ) (run : Run) → NoneOf number 14 → run ≡ number_drawn dx run number c r
unfolding draw_strokes
no-stroke dx c r number run rest = rw (none-drawn number rest, add-zero run.next)

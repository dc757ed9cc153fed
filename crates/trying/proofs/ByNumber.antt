-- A cell by its number: the strokes that the case table has for it, and the most after them. A cell that is not active leaves everything as it is.
-- Assumes nothing.
use mathlib.Core.Path.{◌≡◌, refl, sym, ◌∙◌, ap}
use mathlib.Core.Bool.{false}
use mathlib.Core.List.{List, [], ◌∷◌}
use Prim.Native.Nat.{ℕ, ◌+◌, ◌≤◌, ◌<◌}
use native.Mathlib.Decide.{dec_lt}
use native.Mathlib.Omega.{arith}
use lib.Dec.{eqb, eqb→eq}
use lib.ListN.{length, get_or}
use Rattle.scope.specs.Terrain.{Sheet}
use Rattle.scope.specs.declared.Side.TheVariants.{Left, Right, Top, Bottom}
use Rattle.scope.specs.Cells.{Stroke, ◌⟶◌, case_table, drawn, cell_number}
use Rattle.cells.specs.declared.Stroke as cells
use Rattle.cells.specs.Sides.{sides_of, stroke_at}
use Rattle.cells.proofs.Laws.{past-the-table-nothing-is-drawn}
use Rattle.cells.proofs.Numbers.{within-left}
use Rattle.words.specs.Panes.{active}
use Rattle.words.proofs.Laws.{nothing-drawn}
use Rattle.drawing.proofs.Strokes.{the-stroke-comes-back}
use Rattle.trying.specs.Trying.{Tried, reached, cross_tried, stroke_tried, strokes_tried, strokes_reached, number_tried, cell_tried}
use Rattle.trying.specs.Values.{tried_of}
use Rattle.trying.specs.declared.Trial.{Trial}

-- a list of one is its first
only_one : (σs : List Stroke) (none : Stroke) → length σs ≡ 1 → σs ≡ (get_or σs 0 none ∷ [])
only_one [] none h = absurd (omega (arith, h))
only_one (σ ∷ []) none h = refl
only_one (σ ∷ τ ∷ rest) none h = absurd (omega (arith, h))

-- all numbers from 1 to 14 but the saddles draw one stroke
one-drawn : (n : ℕ) → 1 ≤ n → n < 15 → (n ≡ 5 → ⊥) → (n ≡ 10 → ⊥) → drawn n ≡ (stroke_at n 0 ∷ [])
unfolding stroke_at drawn case_table
one-drawn n a b five ten =
    only_one (drawn n) (Left ⟶ Left) (eqb→eq (length (drawn n)) 1 (within-left (5 ∷ []) (10 ∷ []) (λ m. eqb (length (drawn m)) 1) 1 14 tt n a b five ten))

-- after the strokes of a cell that has some
after-cell : (t : Tried) {words : List ℕ} {one after : Trial} → tried_of words one ≡ t → after ≡ reached one →
    tried_of words after ≡ record { words = t.words; trial = reached t.trial }
after-cell t same e = rw e (ap (λ (x : Tried). record { words = x.words; trial = reached x.trial }) same)

module _ (dx c number : ℕ) (t : Tried) {words : List ℕ} {one after : Trial} where
  strokes-reached : (σ : Stroke) (σs : List Stroke) → drawn number ≡ (σ ∷ σs) → tried_of words one ≡ strokes_tried dx c t (σ ∷ σs) → after ≡ reached one →
      tried_of words after ≡ number_tried dx t number c
  unfolding number_tried strokes_reached
  strokes-reached σ σs row same e = rw row (after-cell (strokes_tried dx c t (σ ∷ σs)) same e)

  pub one-tried : 1 ≤ number → number < 15 → (number ≡ 5 → ⊥) → (number ≡ 10 → ⊥) → {code : cells.Stroke} → code ≡ sides_of (stroke_at number 0) →
      tried_of words one ≡ stroke_tried dx c t (code.from ⟶ code.to) → after ≡ reached one → tried_of words after ≡ number_tried dx t number c
  unfolding strokes_tried
  one-tried a b five ten code same e =
      strokes-reached (stroke_at number 0) [] (one-drawn number a b five ten)
      (same ∙ ap (stroke_tried dx c t) (the-stroke-comes-back (stroke_at number 0) code) ∙ alone (stroke_at number 0)) e
    where
      alone : (σ : Stroke) → stroke_tried dx c t σ ≡ strokes_tried dx c t (σ ∷ [])
      alone (Left ⟶ y) = refl
      alone (Right ⟶ y) = refl
      alone (Top ⟶ y) = refl
      alone (Bottom ⟶ y) = refl

  pub cross-tried : number ≡ 5 → tried_of words one ≡ cross_tried t (dx + 1) c → after ≡ reached one → tried_of words after ≡ number_tried dx t number c
  unfolding strokes_tried drawn case_table
  cross-tried five same e = strokes-reached (Bottom ⟶ Left) ((Top ⟶ Right) ∷ []) (rw five) same e

  pub two-tried : number ≡ 10 → {first second : cells.Stroke} → first ≡ sides_of (stroke_at 10 0) → second ≡ sides_of (stroke_at 10 1) →
      {before : Tried} → before ≡ stroke_tried dx c t (first.from ⟶ first.to) → tried_of words one ≡ stroke_tried dx c before (second.from ⟶ second.to) →
      after ≡ reached one → tried_of words after ≡ number_tried dx t number c
  unfolding strokes_tried drawn case_table stroke_at
  two-tried ten first second first-tried second-tried e =
      strokes-reached (Left ⟶ Top) ((Right ⟶ Bottom) ∷ []) (rw ten) (second-tried ∙ rw (first-tried, first, second)) e

-- the numbers that draw nothing
none_tried : (dx c number : ℕ) (t : Tried) → drawn number ≡ [] → t ≡ number_tried dx t number c
unfolding number_tried strokes_reached
none_tried dx c number t none = rw none

pub zero-tried : (dx c number : ℕ) (t : Tried) → number < 1 → t ≡ number_tried dx t number c
unfolding drawn case_table
zero-tried dx c number t h = let none : number ≡ 0 = omega arith in none_tried dx c number t (rw none)

pub past-tried : (dx c number : ℕ) (t : Tried) → 15 ≤ number → t ≡ number_tried dx t number c
unfolding drawn case_table
past-tried dx c number t h =
    none_tried dx c number t
    (elim (dec_lt number 16) [
      | yes k ↦ let last : number ≡ 15 = omega arith in rw last
      | no k ↦ past-the-table-nothing-is-drawn number (omega arith)
    ])

-- a cell that is not active
pub still : (A : Sheet) (dx : ℕ) (t : Tried) (c : ℕ) → active A 0 c ≡ false → cell_tried A dx t c ≡ t
unfolding cell_tried
still A dx t c h = sym (none_tried dx c (cell_number A c 0) t (nothing-drawn A 0 c h))

-- the cell of a number that is the sheet's
pub cell-of : (A : Sheet) (dx : ℕ) (t : Tried) (c : ℕ) {number : ℕ} → number ≡ cell_number A c 0 → number_tried dx t number c ≡ cell_tried A dx t c
unfolding cell_tried
cell-of A dx t c e = rw e

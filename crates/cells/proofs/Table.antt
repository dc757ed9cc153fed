-- The case table as the definition makes it, in the code's form: sixteen rows of two strokes. The code's table is this one by
-- computation, so what stands at each of its places is the definition's stroke. Assumes nothing.
use mathlib.Core.Path.{◌≡◌}
use mathlib.Core.List.{List}
use Prim.Native.Nat.{ℕ, ◌<◌}
use lib.ListN.{get_or}
use Rattle.cells.specs.declared.Stroke.{Stroke}
use Rattle.cells.specs.Sides.{sides_of, stroke_at}
use Rattle.cells.proofs.Numbers.{made, made_at}

abbrev pub row_of : ℕ → List Stroke
row_of number = made (λ k. sides_of (stroke_at number k)) 0 2

abbrev pub table : List (List Stroke)
table = made row_of 0 16

pub the-table-holds : (none : List Stroke) (unused : Stroke) (number k : ℕ) →
    number < 16 →
    k < 2 →
    get_or (get_or table number none) k unused ≡ sides_of (stroke_at number k)
the-table-holds none unused number k h i =
    rw (made_at row_of 16 number none h, made_at (λ k. sides_of (stroke_at number k)) 2 k unused i)

-- The opening rule gives document 01's list: cells 2 and 13 open one line more, 7 and 8 leave one fewer, and the rest keep the number; and the change of a
-- cell by its strokes is the rule's. Computed over the sixteen cells. Assumes nothing.
use mathlib.Core.Path.{◌≡◌, refl}
use mathlib.Core.Bool.{Bool, true, false, ◌||◌}
use Prim.Native.Nat.{ℕ}
use lib.Dec.{eqb}
use Rattle.scope.specs.Cells.{when, number_of, case_table, drawn, on_finished, met, opened, closed}
use Rattle.scope.specs.Pairs.{opened_by_pairs, closed_by_pairs}

-- 1 for the cells of these two numbers, 0 for the rest
abbrev pub of_two : ℕ → ℕ → ℕ → ℕ
of_two a b number = when 1 (eqb number a || eqb number b)

module _ (ll lr ur ul : Bool) where
  abbrev pub Listed : Type 0
  Listed = (opened_by_pairs ll lr ur ul ≡ of_two 2 13 (number_of ll lr ur ul)) × (closed_by_pairs ll lr ur ul ≡ of_two 7 8 (number_of ll lr ur ul))

  abbrev pub Ruled : Type 0
  Ruled = (opened (number_of ll lr ur ul) ≡ opened_by_pairs ll lr ur ul) × (closed (number_of ll lr ur ul) ≡ closed_by_pairs ll lr ur ul)

pub the-rule-gives-the-list : (ll lr ur ul : Bool) → Listed ll lr ur ul
unfolding opened_by_pairs closed_by_pairs number_of
the-rule-gives-the-list false false false false = (refl, refl)
the-rule-gives-the-list true false false false = (refl, refl)
the-rule-gives-the-list false true false false = (refl, refl)
the-rule-gives-the-list true true false false = (refl, refl)
the-rule-gives-the-list false false true false = (refl, refl)
the-rule-gives-the-list true false true false = (refl, refl)
the-rule-gives-the-list false true true false = (refl, refl)
the-rule-gives-the-list true true true false = (refl, refl)
the-rule-gives-the-list false false false true = (refl, refl)
the-rule-gives-the-list true false false true = (refl, refl)
the-rule-gives-the-list false true false true = (refl, refl)
the-rule-gives-the-list true true false true = (refl, refl)
the-rule-gives-the-list false false true true = (refl, refl)
the-rule-gives-the-list true false true true = (refl, refl)
the-rule-gives-the-list false true true true = (refl, refl)
the-rule-gives-the-list true true true true = (refl, refl)

pub the-change-is-the-rule : (ll lr ur ul : Bool) → Ruled ll lr ur ul
unfolding opened closed met on_finished drawn case_table opened_by_pairs closed_by_pairs number_of
the-change-is-the-rule false false false false = (refl, refl)
the-change-is-the-rule true false false false = (refl, refl)
the-change-is-the-rule false true false false = (refl, refl)
the-change-is-the-rule true true false false = (refl, refl)
the-change-is-the-rule false false true false = (refl, refl)
the-change-is-the-rule true false true false = (refl, refl)
the-change-is-the-rule false true true false = (refl, refl)
the-change-is-the-rule true true true false = (refl, refl)
the-change-is-the-rule false false false true = (refl, refl)
the-change-is-the-rule true false false true = (refl, refl)
the-change-is-the-rule false true false true = (refl, refl)
the-change-is-the-rule true true false true = (refl, refl)
the-change-is-the-rule false false true true = (refl, refl)
the-change-is-the-rule true false true true = (refl, refl)
the-change-is-the-rule false true true true = (refl, refl)
the-change-is-the-rule true true true true = (refl, refl)

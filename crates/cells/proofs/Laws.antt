-- What callers cite of the cells: every cell number is below 16, no cell draws more than two strokes, and a point comes back from its index.
-- The first two are computed, the third is division with remainder. Assumes nothing.
use mathlib.Core.Path.{◌≡◌, ◌∙◌}
use mathlib.Core.Bool.{Bool, true, false}
use mathlib.Core.List.{[]}
use Prim.Native.Nat.{ℕ, ◌+◌, ◌*◌, ◌/◌, ◌%◌, ◌≤◌, ◌<◌}
use native.Mathlib.Decide.{dec_lt}
use native.Mathlib.Nat.{add-mul-mod_self_left, mod-eq_of_lt, add-mul-div_left, div-eq_of_lt}
use native.Mathlib.Omega.{arith}
use lib.Dec.{leb, leb→le, lit≤}
use lib.ListN.{length, get_or-eq_default}
use Rattle.scope.specs.Cells.{when, number_of, Point, case_table, drawn, point_index, indexed_point}
use Rattle.cells.proofs.Numbers.{within}

a-share-is-at-most-its-weight : (n : ℕ) (b : Bool) → when n b ≤ n
a-share-is-at-most-its-weight n true = omega arith
a-share-is-at-most-its-weight n false = omega arith

pub cell-numbers-are-below-sixteen : (a b c d : Bool) → number_of a b c d < 16
unfolding number_of
cell-numbers-are-below-sixteen a b c d =
    omega (
      arith,
      a-share-is-at-most-its-weight 1 a,
      a-share-is-at-most-its-weight 2 b,
      a-share-is-at-most-its-weight 4 c,
      a-share-is-at-most-its-weight 8 d,
    )

pub past-the-table-nothing-is-drawn : (n : ℕ) → 16 ≤ n → drawn n ≡ []
unfolding drawn case_table
past-the-table-nothing-is-drawn n h = get_or-eq_default case_table [] h

pub a-cell-draws-at-most-two : (n : ℕ) → length (drawn n) ≤ 2
unfolding drawn case_table
a-cell-draws-at-most-two n =
    elim (dec_lt n 16) [
      | yes h ↦ leb→le (length (drawn n)) 2 (within (λ m. leb (length (drawn m)) 2) 0 16 tt n (omega arith) h)
      | no h ↦ rw (past-the-table-nothing-is-drawn n (omega arith)) (lit≤ tt)
    ]

pub a-point-comes-back-from-its-index : (dx : ℕ) (p : Point) → p.x < 2 * (dx + 1) → indexed_point dx (point_index dx p) ≡ p
unfolding indexed_point point_index
a-point-comes-back-from-its-index dx p h =
    let column : (p.x + 2 * (dx + 1) * p.y) % (2 * (dx + 1)) ≡ p.x =
    add-mul-mod_self_left p.x (2 * (dx + 1)) p.y ∙ mod-eq_of_lt h
    in
    let row : (p.x + 2 * (dx + 1) * p.y) / (2 * (dx + 1)) ≡ p.y =
    add-mul-div_left p.x p.y (omega arith) ∙ rw (div-eq_of_lt h) (omega arith)
    in
    rw (column, row)

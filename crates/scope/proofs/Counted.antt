-- The pairs that a finished and an unfinished cell share, counted by hand after each cell of the rows 01 and 10, and computed. Assumes nothing.
use Prim.Native.Nat.{ℕ, ◌+◌}
use mathlib.Core.Path.{◌≡◌, refl}
use mathlib.Core.List.{List, [], ◌∷◌, ◌++◌}
use lib.Dec.{eqb}
use Rattle.scope.specs.Terrain.{Sheet, sheet}
use Rattle.scope.specs.Pairs.{sum_from, is_cell, is_passed, is_finished, is_unfinished, are_parted, is_shared_along, is_shared_between, pairs_shared_by_cells}

diagonal : Sheet
diagonal = sheet 2 2 (λ x y. eqb (x + y) 1)

-- after each cell of row r
pub counted_in : ℕ → List ℕ
counted_in r = pairs_shared_by_cells diagonal 2 2 r 1 ∷ pairs_shared_by_cells diagonal 2 2 r 2 ∷ pairs_shared_by_cells diagonal 2 2 r 3 ∷ []

pub the-pairs-of-the-diagonal : counted_in 0 ++ (counted_in 1 ++ counted_in 2) ≡ 0 ∷ 2 ∷ 2 ∷ 4 ∷ 4 ∷ 2 ∷ 2 ∷ 0 ∷ 0 ∷ []
unfolding counted_in diagonal sheet sum_from is_cell is_passed is_finished is_unfinished are_parted is_shared_along is_shared_between pairs_shared_by_cells
the-pairs-of-the-diagonal = refl

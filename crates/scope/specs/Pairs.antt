-- Neighbouring sample pairs, one above and one not, counted from the samples. Assumes nothing.
use Rattle.std.specs.Prelude.{ℕ, zero, suc, ◌+◌, ◌-◌, ◌/◌, Bool, true, false, not, ◌&&◌, ◌||◌, ltb, eqb}
use Rattle.scope.specs.Terrain.{Sheet}
use Rattle.scope.specs.Cells.{when}

-- 1 where one of the two is above and one is not
abbrev pub differ : Bool → Bool → ℕ
differ true true = 0
differ true false = 1
differ false true = 1
differ false false = 0

-- of a cell, by its samples lower left, lower right, upper right and upper left: how many of its right and lower pairs differ
abbrev pub right_and_lower : Bool → Bool → Bool → Bool → ℕ
right_and_lower ll lr ur ul = differ ur lr + differ ll lr

-- how many of its left and upper ones
abbrev pub left_and_upper : Bool → Bool → Bool → Bool → ℕ
left_and_upper ll lr ur ul = differ ul ll + differ ul ur

-- how many of its right and lower pairs differ, less how many of its left and upper ones, halved
unfoldable pub opened_by_pairs : Bool → Bool → Bool → Bool → ℕ
opened_by_pairs ll lr ur ul = (right_and_lower ll lr ur ul - left_and_upper ll lr ur ul) / 2

-- the same the other way round, for where that is below 0
unfoldable pub closed_by_pairs : Bool → Bool → Bool → Bool → ℕ
closed_by_pairs ll lr ur ul = (left_and_upper ll lr ur ul - right_and_lower ll lr ur ul) / 2

-- the sum of f over k numbers from i on
unfoldable pub sum_from : (ℕ → ℕ) → ℕ → ℕ → ℕ
sum_from f i zero = 0
sum_from f i (suc k) = f i + sum_from f (suc i) k

-- of k pairs of neighbours in row r of the sheet, the first at columns c and c + 1, those that differ
unfoldable pub pairs_along : Sheet → ℕ → ℕ → ℕ → ℕ
pairs_along A r c k = sum_from (λ i. differ (A i r) (A (suc i) r)) c k

-- of k pairs of one sample in row r and the one below it, the first in column c, those that differ
unfoldable pub pairs_between : Sheet → ℕ → ℕ → ℕ → ℕ
pairs_between A r c k = sum_from (λ i. differ (A i r) (A i (suc r))) c k

-- the pairs that a finished and an unfinished cell share after c cells of row r: the lower pairs of that row's finished cells, the pair between
-- the last finished cell and the next, and the upper pairs of the cells to come
unfoldable pub shared_pairs : Sheet → ℕ → ℕ → ℕ → ℕ
shared_pairs A dx r c = pairs_along A (suc r) 0 c + differ (A c r) (A c (suc r)) + pairs_along A r c (suc dx - c)

-- the pairs of the sheet's rows 0 to r, in columns 0 to dx + 1
unfoldable pub pairs_of_rows : Sheet → ℕ → ℕ → ℕ
pairs_of_rows A dx zero = pairs_along A 0 0 (suc dx)
pairs_of_rows A dx (suc r) = pairs_of_rows A dx r + pairs_between A r 0 (suc (suc dx)) + pairs_along A (suc r) 0 (suc dx)

-- the pairs of the whole sheet, outside included
unfoldable pub pairs_of_sheet : Sheet → ℕ → ℕ → ℕ
pairs_of_sheet A dx dy = pairs_of_rows A dx (suc dy)

-- ---- the pairs that a finished and an unfinished cell share, as demand 3 words them: `shared_pairs` is their number, by a law

-- the cell in column x and row y is one of the grid's
unfoldable pub is_cell : ℕ → ℕ → ℕ → ℕ → Bool
is_cell dx dy x y = ltb x (suc dx) && ltb y (suc dy)

-- in row order it stands among r whole rows and c cells of row r
unfoldable pub is_passed : ℕ → ℕ → ℕ → ℕ → Bool
is_passed r c x y = ltb y r || (eqb y r && ltb x c)

-- after r whole rows and c cells of row r
module _ (dx dy r c : ℕ) where
  unfoldable pub is_finished : ℕ → ℕ → Bool
  is_finished x y = is_cell dx dy x y && is_passed r c x y

  unfoldable pub is_unfinished : ℕ → ℕ → Bool
  is_unfinished x y = is_cell dx dy x y && not (is_passed r c x y)

  -- one of two cells is finished and the other is not
  unfoldable pub are_parted : ℕ → ℕ → ℕ → ℕ → Bool
  are_parted x y x' y' = (is_finished x y && is_unfinished x' y') || (is_unfinished x y && is_finished x' y')

  -- the samples in columns i and i + 1 of row j stand between the cells in rows j - 1 and j of column i; above row 0 there is no cell
  unfoldable pub is_shared_along : ℕ → ℕ → Bool
  is_shared_along i zero = false
  is_shared_along i (suc j) = are_parted i j i (suc j)

  -- those in rows j and j + 1 of column i between the cells in columns i - 1 and i of row j; before column 0 there is no cell
  unfoldable pub is_shared_between : ℕ → ℕ → Bool
  is_shared_between zero j = false
  is_shared_between (suc i) j = are_parted i j (suc i) j

-- all neighbouring pairs in columns 0 to dx + 1 and rows 0 to dy + 1: of the pairs in a row, then of those in a column, the ones that differ and are shared
unfoldable pub pairs_shared_by_cells : Sheet → ℕ → ℕ → ℕ → ℕ → ℕ
pairs_shared_by_cells A dx dy r c =
    sum_from (λ j. sum_from (λ i. when (differ (A i j) (A (suc i) j)) (is_shared_along dx dy r c i j)) 0 (suc dx)) 0 (suc (suc dy))
    + sum_from (λ j. sum_from (λ i. when (differ (A i j) (A i (suc j))) (is_shared_between dx dy r c i j)) 0 (suc (suc dx))) 0 (suc dy)

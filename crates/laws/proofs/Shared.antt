-- The pairs that a finished and an unfinished cell share, as demand 3 words them, are those of the frontier: in row r the pairs above the cells to come, in
-- row r + 1 those below the cells that are done, and the one between both; where one of them has no cell on one side, nothing there is above. So the open
-- lines are half of the pairs as worded, and the peak is the largest such half. Assumes nothing.
use mathlib.Core.Path.{◌≡◌, refl, sym, ◌∙◌, ap, ap₂}
use mathlib.Core.Bool.{Bool, true, false, not, ◌&&◌, ◌||◌}
use Prim.Native.Nat.{ℕ, zero, suc, ◌+◌, ◌-◌, ◌*◌, ◌≤◌, ◌<◌}
use native.Mathlib.Decide.{dec_lt}
use native.Mathlib.Omega.{arith}
use lib.Dec.{ltb}
use lib.ListN.{length}
use borrow.Author.Tests.{lt-ltb, le-ltb, eq-eqb, ne_eqb}
use Rattle.scope.specs.Terrain.{Sheet}
use Rattle.scope.specs.Cells.{when}
use Rattle.scope.specs.Drawing.{open_after, peak}
use Rattle.scope.specs.Pairs.{differ, sum_from, pairs_along, shared_pairs, is_cell, is_passed, is_finished, is_unfinished, are_parted, is_shared_along, is_shared_between, pairs_shared_by_cells}
use Rattle.laws.proofs.Edges.{Outside}
use Rattle.laws.proofs.Sums.{sum_first, sum-in-two, sum_agrees, sum-of-nothing}
use Rattle.laws.proofs.Laws.{open-lines-are-half-the-pairs, the-peak-is-highest, the-peak-is-reached}

-- nothing, whether it counts or not
nothing-when : (n : ℕ) (b : Bool) → n ≡ 0 → when n b ≡ n
nothing-when n true e = refl
nothing-when n false e = sym e

module _ (A : Sheet) {dx dy : ℕ} (out : Outside A dx dy) (r c : ℕ) (hr : r ≤ dy) (hc : c ≤ suc dx) where
  -- ---- which cells are passed, and which pairs of them are parted

  earlier : (x y : ℕ) → y < r → is_passed r c x y ≡ true
  unfolding is_passed
  earlier x y h = rw (lt-ltb y r h)

  in_row : (x : ℕ) → is_passed r c x r ≡ ltb x c
  unfolding is_passed
  in_row x = rw (le-ltb r r (omega arith), eq-eqb r r refl)

  later : (x y : ℕ) → r < y → is_passed r c x y ≡ false
  unfolding is_passed
  later x y h = rw (le-ltb y r (omega arith), ne_eqb y r (λ e. omega arith))

  cell-there : (x y : ℕ) → x ≤ dx → y ≤ dy → is_cell dx dy x y ≡ true
  unfolding is_cell
  cell-there x y hx hy = rw (lt-ltb x (suc dx) (omega arith), lt-ltb y (suc dy) (omega arith))

  both-alike : (x y x' y' : ℕ) (b : Bool) → is_passed r c x y ≡ b → is_passed r c x' y' ≡ b → are_parted dx dy r c x y x' y' ≡ false
  unfolding are_parted is_finished is_unfinished
  both-alike x y x' y' b e f = rw (e, f) (by (is_cell dx dy x y) (is_cell dx dy x' y') b)
    where
      by : (p q b : Bool) → ((p && b) && (q && not b)) || ((p && not b) && (q && b)) ≡ false
      by false q b = refl
      by true false true = refl
      by true false false = refl
      by true true true = refl
      by true true false = refl

  one_of_two : (x y x' y' : ℕ) → is_passed r c x y ≡ true → is_passed r c x' y' ≡ false → is_cell dx dy x y ≡ true → is_cell dx dy x' y' ≡ true → are_parted dx dy r c x y x' y' ≡ true
  unfolding are_parted is_finished is_unfinished
  one_of_two x y x' y' e f p q = rw (e, f, p, q)

  -- ---- the pairs in a row

  abbrev along_differ : ℕ → ℕ → ℕ
  along_differ j i = differ (A i j) (A (suc i) j)

  abbrev along_term : ℕ → ℕ → ℕ
  along_term j i = when (along_differ j i) (is_shared_along dx dy r c i j)

  abbrev along_row : ℕ → ℕ
  along_row j = sum_from (along_term j) 0 (suc dx)

  not-along : (i j : ℕ) (b : Bool) → is_passed r c i j ≡ b → is_passed r c i (suc j) ≡ b → along_term (suc j) i ≡ 0
  unfolding is_shared_along
  not-along i j b e f = ap (when (along_differ (suc j) i)) (both-alike i j i (suc j) b e f)

  rows_above : (j : ℕ) → j < r → along_row j ≡ 0
  rows_above zero h = sum-of-nothing (along_term 0) 0 (suc dx) (λ i low high. unfold is_shared_along in refl)
  rows_above (suc j) h = sum-of-nothing (along_term (suc j)) 0 (suc dx) (λ i low high. not-along i j true (earlier i j (omega arith)) (earlier i (suc j) h))

  rows-below : (j : ℕ) → suc r < j → along_row j ≡ 0
  rows-below zero h = absurd (omega arith)
  rows-below (suc j) h = sum-of-nothing (along_term (suc j)) 0 (suc dx) (λ i low high. not-along i j false (later i j (omega arith)) (later i (suc j) (omega arith)))

  -- in row 0 and below row dy nothing is above
  none-along : (j i : ℕ) → ((k : ℕ) → A k j ≡ false) → along_differ j i ≡ 0
  none-along j i none = ap₂ differ (none i) (none (suc i))

  -- above the cells to come
  upper-term : (j : ℕ) → j ≡ r → (i : ℕ) → c ≤ i → i ≤ dx → along_term j i ≡ along_differ j i
  unfolding is_shared_along
  upper-term zero e i low high = nothing-when (along_differ 0 i) false (none-along 0 i out.no-row-before)
  upper-term (suc j) e i low high =
      ap (when (along_differ (suc j) i))
      (one_of_two i j i (suc j) (earlier i j (omega arith)) (ap (is_passed r c i) e ∙ in_row i ∙ le-ltb i c low) (cell-there i j high (omega arith)) (cell-there i (suc j) high (omega arith)))

  upper-done : (j : ℕ) → j ≡ r → (i : ℕ) → i < c → along_term j i ≡ 0
  unfolding is_shared_along
  upper-done zero e i h = refl
  upper-done (suc j) e i h = not-along i j true (earlier i j (omega arith)) (ap (is_passed r c i) e ∙ in_row i ∙ lt-ltb i c h)

  upper-row : along_row r ≡ pairs_along A r c (suc dx - c)
  unfolding pairs_along
  upper-row =
      omega (
        arith,
        sum-in-two (along_term r) c (suc dx - c) (suc dx) (omega arith),
        sum-of-nothing (along_term r) 0 c (λ i low high. upper-done r refl i (omega arith)),
        sum_agrees (along_term r) (along_differ r) c (suc dx - c) (λ i low high. upper-term r refl i low (omega arith)),
      )

  -- below the cells that are done
  lower-term : (i : ℕ) → i < c → along_term (suc r) i ≡ along_differ (suc r) i
  unfolding is_shared_along
  lower-term i h = by (dec_lt r dy)
    where
      by : Dec (r < dy) → along_term (suc r) i ≡ along_differ (suc r) i
      by (yes more) =
          ap (when (along_differ (suc r) i))
          (one_of_two i r i (suc r) (in_row i ∙ lt-ltb i c h) (later i (suc r) (omega arith)) (cell-there i r (omega arith) hr) (cell-there i (suc r) (omega arith) (omega arith)))
      by (no last) =
          nothing-when (along_differ (suc r) i) (is_shared_along dx dy r c i (suc r)) (none-along (suc r) i (λ k. out.no-row-after k (suc r) (omega arith)))

  lower-row : along_row (suc r) ≡ pairs_along A (suc r) 0 c
  unfolding pairs_along
  lower-row =
      omega (
        arith,
        sum-in-two (along_term (suc r)) c (suc dx - c) (suc dx) (omega arith),
        sum_agrees (along_term (suc r)) (along_differ (suc r)) 0 c (λ i low high. lower-term i (omega arith)),
        sum-of-nothing (along_term (suc r)) c (suc dx - c) (λ i low high. not-along i r false (in_row i ∙ le-ltb i c low) (later i (suc r) (omega arith))),
      )

  along-all : sum_from along_row 0 (suc (suc dy)) ≡ pairs_along A (suc r) 0 c + pairs_along A r c (suc dx - c)
  along-all =
      omega (
        arith,
        sum-in-two along_row r (suc (suc (dy - r))) (suc (suc dy)) (omega arith),
        sum-of-nothing along_row 0 r (λ j low high. rows_above j (omega arith)),
        sum_first along_row r (suc (dy - r)),
        sum_first along_row (suc r) (dy - r),
        upper-row,
        lower-row,
        sum-of-nothing along_row (suc (suc r)) (dy - r) (λ j low high. rows-below j (omega arith)),
      )

  -- ---- the pairs in a column

  abbrev between_differ : ℕ → ℕ → ℕ
  between_differ j i = differ (A i j) (A i (suc j))

  abbrev between_term : ℕ → ℕ → ℕ
  between_term j i = when (between_differ j i) (is_shared_between dx dy r c i j)

  abbrev between_row : ℕ → ℕ
  between_row j = sum_from (between_term j) 0 (suc (suc dx))

  not-between : (j i : ℕ) (b : Bool) → ((x : ℕ) → suc x ≡ i → is_passed r c x j ≡ b) → is_passed r c i j ≡ b → between_term j i ≡ 0
  unfolding is_shared_between
  not-between j zero b e f = refl
  not-between j (suc i) b e f = ap (when (between_differ j (suc i))) (both-alike i j (suc i) j b (e i refl) f)

  alike-row : (j : ℕ) (b : Bool) → ((x : ℕ) → is_passed r c x j ≡ b) → between_row j ≡ 0
  alike-row j b e = sum-of-nothing (between_term j) 0 (suc (suc dx)) (λ i low high. not-between j i b (λ x h. e x) (e i))

  none_between : (i : ℕ) → ((k : ℕ) → A i k ≡ false) → between_differ r i ≡ 0
  none_between i none = ap₂ differ (none r) (none (suc r))

  -- between the last cell that is done and the next
  frontier-term : (i : ℕ) → i ≡ c → between_term r i ≡ between_differ r i
  unfolding is_shared_between
  frontier-term zero e = nothing-when (between_differ r 0) false (none_between 0 out.no-column-before)
  frontier-term (suc i) e = by (dec_lt i dx)
    where
      by : Dec (i < dx) → between_term r (suc i) ≡ between_differ r (suc i)
      by (yes more) =
          ap (when (between_differ r (suc i)))
          (one_of_two i r (suc i) r (in_row i ∙ lt-ltb i c (omega arith)) (in_row (suc i) ∙ le-ltb (suc i) c (omega arith)) (cell-there i r (omega arith) hr) (cell-there (suc i) r (omega arith) hr))
      by (no last) =
          nothing-when (between_differ r (suc i)) (is_shared_between dx dy r c (suc i) r) (none_between (suc i) (λ k. out.no-column-after (suc i) k (omega arith)))

  frontier-row : between_row r ≡ between_differ r c
  frontier-row =
      omega (
        arith,
        sum-in-two (between_term r) c (suc (suc dx - c)) (suc (suc dx)) (omega arith),
        sum-of-nothing (between_term r) 0 c (λ i low high. not-between r i true (λ x h. in_row x ∙ lt-ltb x c (omega arith)) (in_row i ∙ lt-ltb i c (omega arith))),
        sum_first (between_term r) c (suc dx - c),
        frontier-term c refl,
        sum-of-nothing (between_term r) (suc c) (suc dx - c) (λ i low high. not-between r i false (λ x h. in_row x ∙ le-ltb x c (omega arith)) (in_row i ∙ le-ltb i c (omega arith))),
      )

  between-all : sum_from between_row 0 (suc dy) ≡ between_differ r c
  between-all =
      omega (
        arith,
        sum-in-two between_row r (suc (dy - r)) (suc dy) (omega arith),
        sum-of-nothing between_row 0 r (λ j low high. alike-row j true (λ x. earlier x j (omega arith))),
        sum_first between_row r (dy - r),
        frontier-row,
        sum-of-nothing between_row (suc r) (dy - r) (λ j low high. alike-row j false (λ x. later x j low)),
      )

  -- ---- the number of them, and the open lines

  pub shared-pairs-are-as-worded : shared_pairs A dx r c ≡ pairs_shared_by_cells A dx dy r c
  unfolding shared_pairs pairs_shared_by_cells
  shared-pairs-are-as-worded = omega (arith, along-all, between-all)

  pub open-lines-are-half-the-pairs-as-worded : 2 * length (open_after A dx r c) ≡ pairs_shared_by_cells A dx dy r c
  open-lines-are-half-the-pairs-as-worded = open-lines-are-half-the-pairs A out r c hc ∙ shared-pairs-are-as-worded

-- the peak is the largest half of the pairs as worded, after any cell
module _ (A : Sheet) {dx dy : ℕ} (out : Outside A dx dy) where
  pub the-peak-is-highest-as-worded : (r c : ℕ) → r ≤ dy → c ≤ dx → pairs_shared_by_cells A dx dy r (suc c) ≤ 2 * peak A dx dy
  the-peak-is-highest-as-worded r c hr hc = omega (arith, the-peak-is-highest A out r c hr hc, shared-pairs-are-as-worded A out r (suc c) hr (omega arith))

  pub the-peak-is-reached-as-worded : (r : ℕ) × (c : ℕ) × (r ≤ dy) × (c ≤ dx) × (pairs_shared_by_cells A dx dy r (suc c) ≡ 2 * peak A dx dy)
  the-peak-is-reached-as-worded =
      let w = the-peak-is-reached A out in
      (w.0, w.1, w.2, w.3, sym (shared-pairs-are-as-worded A out w.0 (suc w.1) w.2 (omega (arith, w.3))) ∙ w.4)

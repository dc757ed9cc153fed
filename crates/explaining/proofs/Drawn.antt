-- Tables whose records hold the rings of a list, one by one: the rings of the set are that list, so a ring's fate is the list's. And a vertex that is drawn stands
-- midway between two neighbouring samples of which at least one is in the grid. Assumes nothing.
use mathlib.Core.Path.{◌≡◌, refl, sym, ap, ap₂, ◌∙◌}
use mathlib.Core.Bool.{Bool, true, false, or-true, ◌||◌}
use mathlib.Core.List.{List, [], ◌∷◌}
use Prim.Native.Nat.{ℕ, suc, ◌+◌, ◌*◌, ◌/◌, ◌%◌, ◌<◌, ◌≤◌, suc-le-suc}
use native.Mathlib.Decide.{dec_lt, ℕ_discrete}
use native.Mathlib.Nat.{add-zero, zero-add}
use native.Mathlib.Omega.{arith}
use lib.ListN.{length, get_or}
use borrow.Author.Tests.{le-leb, eq-eqb, lt-ltb}
use Rattle.scope.specs.Cells.{Point}
use Rattle.scope.specs.Stitching.{Line}
use Rattle.scope.specs.GeoJson.{ring_at, ring_set_refused}
use Rattle.laws.proofs.Rings.{OddSum}
use Rattle.explaining.specs.Fates.{rings_from, rings_in, fate_told, fate_answer}
use Rattle.std.specs.Prelude.{Ok}
use Rattle.explaining.specs.Vertices.{in_grid, midway_in_row, midway_in_column, midway}

-- ---- fates

module _ (ps directory : List ℕ) where
  rings-from : (rings : List Line) (k : ℕ) → ((i : ℕ) → i < length rings → ring_at ps directory (k + i) ≡ get_or rings i []) → rings_from ps directory k (length rings) ≡ rings
  unfolding rings_from
  rings-from [] k found = refl
  rings-from (ring ∷ rings) k found =
      ap₂ (λ (r : Line) (l : List Line). r ∷ l) (ap (ring_at ps directory) (sym (add-zero k)) ∙ found 0 (suc-le-suc (omega arith)))
      (rings-from rings (suc k) (λ i h. ap (ring_at ps directory) (omega arith) ∙ found (suc i) (suc-le-suc h)))

  module _ (rings : List Line) (found : (i : ℕ) → i < length rings → ring_at ps directory i ≡ get_or rings i []) where
    rings-are : rings_in ps directory (length rings) ≡ rings
    unfolding rings_in
    rings-are = rings-from rings 0 (λ i h. ap (ring_at ps directory) (zero-add i) ∙ found i h)

    -- where the set passes, a ring's fate is that of the list
    pub fate-by-rings : ring_set_refused ps directory (length rings) ≡ false → (i : ℕ) → i < length rings → fate_answer ps directory (length rings) i ≡ Ok (fate_told rings i)
    unfolding fate_answer
    fate-by-rings passes i h = rw (passes, lt-ltb i (length rings) h) (ap (λ (l : List Line). Ok (fate_told l i)) rings-are)

-- ---- vertices

-- of a number up to a side and the one behind it, one is from 1 to the side, and passes a test that all these pass
one_of_two : (test : ℕ → Bool) (side : ℕ) → ((k : ℕ) → 1 ≤ k → k ≤ side → test k ≡ true) → 1 ≤ side → (k : ℕ) → k ≤ side → test k || test (k + 1) ≡ true
one_of_two test side passes some k h = by (dec_lt 0 k)
  where
    by : Dec (0 < k) → test k || test (k + 1) ≡ true
    by (yes g) = rw (passes k g h)
    by (no g) = rw (passes (k + 1) (omega arith) (omega arith), or-true)

module _ (dx dy : ℕ) where
  in-grid : (c r : ℕ) → 1 ≤ c → c ≤ dx → 1 ≤ r → r ≤ dy → in_grid dx dy c r ≡ true
  unfolding in_grid
  in-grid c r a b d e = rw (le-leb 1 c a, le-leb c dx b, le-leb 1 r d, le-leb r dy e)

  pub drawn-is-midway : 1 ≤ dx → 1 ≤ dy → (p : Point) → OddSum p → p.x ≤ 2 * dx → p.y ≤ 2 * dy → midway dx dy p ≡ true
  unfolding midway midway_in_row midway_in_column
  drawn-is-midway some some' p odd h k = by (ℕ_discrete (p.x % 2) 0)
    where
      by : Dec (p.x % 2 ≡ 0) → midway dx dy p ≡ true
      by (yes e) =
          let row = p.y / 2 + 1 in
          let beside = one_of_two (λ c. in_grid dx dy c row) dx (λ c a b. in-grid c row a b (omega arith) (omega arith)) some (p.x / 2) (omega arith) in
          rw (eq-eqb (p.x % 2) 0 e, eq-eqb (p.y % 2) 1 (omega arith), beside)
      by (no e) =
          let column = p.x / 2 + 1 in
          let beside = one_of_two (λ r. in_grid dx dy column r) dy (λ r a b. in-grid column r (omega arith) (omega arith) a b) some' (p.y / 2) (omega arith) in
          rw (eq-eqb (p.x % 2) 1 (omega arith), eq-eqb (p.y % 2) 0 (omega arith), beside, or-true)

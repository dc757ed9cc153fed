-- The verdict on a record's ring, test by test: a test that refuses decides, and past the others the class does. Assumes nothing.
use mathlib.Core.Path.{◌≡◌}
use mathlib.Core.Bool.{Bool, true, false, or-true, ◌||◌}
use mathlib.Core.List.{List}
use Prim.Native.Nat.{ℕ, ◌+◌, ◌*◌, ◌-◌, ◌<◌, ◌≤◌}
use native.Mathlib.Omega.{arith}
use lib.Dec.{ltb}
use lib.ListN.{length, take, drop}
use borrow.Author.Tests.{lt-ltb, le-ltb}
use Rattle.scope.specs.Limits.{coordinate_limit, point_limit}
use Rattle.scope.specs.Area.{points, area, twos_complement, any_above}
use Rattle.scope.specs.GeoJson.{words_in, unclosed}
use Rattle.ringset.specs.declared.Record.{Record}
use Rattle.ringset.specs.OneRecord.{area_differs, shape_refused}

-- the words of count points from the point of number first on, as a part of the points
abbrev pub part : List ℕ → ℕ → ℕ → List ℕ
part ps first count = take (2 * (first + count) - 2 * first) (drop (2 * first) ps)

part-is : (ps : List ℕ) (first count : ℕ) → part ps first count ≡ words_in ps first count
unfolding words_in
part-is ps first count =
    let e : 2 * (first + count) - 2 * first ≡ 2 * count = omega arith in
    rw e

module _ (ps : List ℕ) (r : Record) where
  pub too_few : r.count < 4 → true ≡ shape_refused ps r
  unfolding shape_refused
  too_few h = rw (lt-ltb r.count 4 h, or-true)

  pub outside : length ps < 2 * (r.first + r.count) → true ≡ shape_refused ps r
  unfolding shape_refused
  outside h = rw (lt-ltb (length ps) _ h)

  module _ (four : 4 ≤ r.count) where
    pub too_many : point_limit < r.count → true ≡ shape_refused ps r
    unfolding shape_refused
    too_many h = rw (le-ltb r.count 4 four, lt-ltb point_limit r.count h, or-true)

    module _ (few : r.count ≤ point_limit) (within : 2 * (r.first + r.count) ≤ length ps) {over : Bool} {n : ℕ}
        (found : (over ≡ any_above coordinate_limit (part ps r.first r.count)) × (n ≡ twos_complement (area (points (part ps r.first r.count))))) where
      -- past the count and the range
      walked : shape_refused ps r ≡ over || unclosed (points (part ps r.first r.count)) || area_differs n r || ltb 1 r.class
      unfolding shape_refused
      walked =
          rw (found.0, found.1, part-is ps r.first r.count, le-ltb (length ps) _ within, le-ltb r.count 4 four, le-ltb point_limit r.count few)

      pub too-high : over ≡ true → true ≡ shape_refused ps r
      too-high h = rw (walked, h)

      module _ (low : over ≡ false) {apart : Bool} (u : apart ≡ unclosed (points (part ps r.first r.count))) where
        pub not-closed : apart ≡ true → true ≡ shape_refused ps r
        not-closed h = rw (walked, low, ← u, h)

        module _ (closed : apart ≡ false) {differs : Bool} (d : differs ≡ area_differs n r) where
          pub another-area : differs ≡ true → true ≡ shape_refused ps r
          another-area h = rw (walked, low, ← u, closed, ← d, h)

          pub class-decides : differs ≡ false → ltb 1 r.class ≡ shape_refused ps r
          class-decides h = rw (walked, low, ← u, closed, ← d, h)

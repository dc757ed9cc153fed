-- The search along a ladder: every item passed is apart, because it is itself, or its group is, or its block is. Assumes nothing.
use mathlib.Core.Path.{◌≡◌}
use mathlib.Core.Bool.{true, false}
use mathlib.Core.List.{List}
use Prim.Native.Nat.{ℕ, ◌+◌, ◌*◌, ◌/◌, ◌%◌, ◌≤◌, ◌<◌}
use native.Mathlib.Decide.{dec_lt}
use native.Mathlib.Omega.{arith}
use Rattle.extents.specs.declared.Extent.{Extent}
use Rattle.extents.specs.declared.Ladder.{Ladder}
use Rattle.extents.specs.Extents.{apart, extent_at}
use Rattle.extents.specs.Ladders.{item_extent, group_extent, block_extent, Raised, NextNear}
use Rattle.extents.proofs.Laws.{inside-apart, inside-trans}

-- the items from a place on that come before item i are apart
pub record Passed (table : List ℕ) (l : Ladder) (from : ℕ) (query : Extent) (i : ℕ) : Type 0 where
  pub not-before : from ≤ i
  pub not-past : i ≤ l.item_count
  pub apart-before : (k : ℕ) → from ≤ k → k < i → apart (item_extent table l k) query ≡ true

pub passed-begin : (table : List ℕ) (l : Ladder) (from : ℕ) (query : Extent) → from ≤ l.item_count → Passed table l from query from
passed-begin table l from query h =
    record { not-before = omega arith; not-past = h; apart-before = λ k above below. absurd (omega (arith, above, below)) }

module _ {table : List ℕ} {l : Ladder} {from : ℕ} {query : Extent} {i : ℕ} (s : Passed table l from query i) where
  -- items that are all apart are passed
  passed_over : (n : ℕ) → i + n ≤ l.item_count → ((k : ℕ) → i ≤ k → k < i + n → apart (item_extent table l k) query ≡ true) →
      Passed table l from query (i + n)
  passed_over n h f = record { not-before = omega (arith, s.not-before); not-past = h; apart-before = so_far }
    where
      so_far : (k : ℕ) → from ≤ k → k < i + n → apart (item_extent table l k) query ≡ true
      so_far k above below = by (dec_lt k i)
        where
          by : Dec (k < i) → apart (item_extent table l k) query ≡ true
          by (yes before) = s.apart-before k above before
          by (no after) = f k (omega (arith, after)) below

  pub passed-item : i < l.item_count → apart (extent_at table (l.items + 2 * i)) query ≡ true → Passed table l from query (i + 1)
  unfolding item_extent
  passed-item h e = passed_over 1 (omega arith) (λ k above below. let same : k ≡ i = omega arith in rw same e)

  pub passed-group : Raised table l → i % 64 ≡ 0 → i / 64 < l.group_count → apart (extent_at table (l.groups + 2 * (i / 64))) query ≡ true →
      Passed table l from query (i + 64)
  unfolding group_extent
  passed-group r h there e =
      passed_over 64 (omega (arith, r.groups-whole))
      (λ k above below.
      let same : k / 64 ≡ i / 64 = omega arith in
      inside-apart query (r.groups-hold k (omega arith)) (rw same e))

  pub passed-block : Raised table l → i % 4096 ≡ 0 → i / 4096 < l.block_count → apart (extent_at table (l.blocks + 2 * (i / 4096))) query ≡ true →
      Passed table l from query (i + 4096)
  unfolding block_extent
  passed-block r h there e =
      passed_over 4096 (omega (arith, r.groups-whole, r.blocks-whole))
      (λ k above below.
      let same : k / 64 / 64 ≡ i / 4096 = omega arith in
      inside-apart query
      (inside-trans (r.groups-hold k (omega (arith, r.blocks-whole))) (r.blocks-hold (k / 64) (omega arith)))
      (rw same e))

  pub near-found : apart (extent_at table (l.items + 2 * i)) query ≡ false → NextNear table l from query i
  unfolding item_extent
  near-found e = record { not-before = s.not-before; not-past = s.not-past; apart-before = s.apart-before; near = λ _. e }

  pub none-near : l.item_count ≤ i → NextNear table l from query i
  none-near h =
      record { not-before = s.not-before; not-past = s.not-past; apart-before = s.apart-before; near = λ more. absurd (omega (arith, more)) }

-- Extents stored in a table: an extent that is stored is read again, other words are as they were, and so extents that are stored one after the other
-- all hold what each was meant to hold. Assumes nothing.
use mathlib.Core.Path.{◌≡◌, refl, ◌∙◌}
use mathlib.Core.List.{List}
use Prim.Native.Nat.{ℕ, ◌+◌, ◌*◌, ◌/◌, ◌%◌, ◌≤◌, ◌<◌}
use native.Mathlib.Decide.{dec_lt}
use native.Mathlib.Omega.{arith}
use lib.ListN.{length, get_or, set, length-set}
use lib.Seq.{get_or-set_same, get_or-set_other}
use Rattle.extents.specs.declared.Extent.{Extent}
use Rattle.extents.specs.Extents.{extent_at}
use Rattle.extents.specs.Ladders.{KeptBelow}
use Rattle.extents.specs.Filling.{Filled}

-- ---- one extent

-- the table in which an extent is stored, as `put_extent` leaves it
abbrev pub put_extent : List ℕ → ℕ → Extent → List ℕ
put_extent table at e = set (set table at (e.left + 65536 * e.right)) (at + 1) (e.top + 65536 * e.bottom)

module _ (table : List ℕ) (at : ℕ) (e : Extent) where
  pub put-length : length (put_extent table at e) ≡ length table
  put-length = simp length-set

  pub put_other : (i : ℕ) → (i ≡ at → ⊥) → (i ≡ at + 1 → ⊥) → get_or (put_extent table at e) i 0 ≡ get_or table i 0
  put_other i not_first not-second =
      get_or-set_other (set table at (e.left + 65536 * e.right)) (at + 1) i (e.top + 65536 * e.bottom) 0 not-second
      ∙ get_or-set_other table at i (e.left + 65536 * e.right) 0 not_first

  put_first : at < length table → get_or (put_extent table at e) at 0 ≡ e.left + 65536 * e.right
  put_first h =
      get_or-set_other (set table at (e.left + 65536 * e.right)) (at + 1) at (e.top + 65536 * e.bottom) 0 (λ same. omega (arith, same))
      ∙ get_or-set_same table at (e.left + 65536 * e.right) 0 h

  put_second : at + 1 < length table → get_or (put_extent table at e) (at + 1) 0 ≡ e.top + 65536 * e.bottom
  put_second h =
      get_or-set_same (set table at (e.left + 65536 * e.right)) (at + 1) (e.top + 65536 * e.bottom) 0 (rw length-set h)

  -- an extent that was stored is read again
  pub put-read : e.left < 65536 → e.top < 65536 → at + 2 ≤ length table → extent_at (put_extent table at e) at ≡ e
  unfolding extent_at
  put-read left-fits top-fits h =
      let left-read : (e.left + 65536 * e.right) % 65536 ≡ e.left = omega arith in
      let right-read : (e.left + 65536 * e.right) / 65536 ≡ e.right = omega arith in
      let top_read : (e.top + 65536 * e.bottom) % 65536 ≡ e.top = omega arith in
      let bottom-read : (e.top + 65536 * e.bottom) / 65536 ≡ e.bottom = omega arith in
      rw (put_first (omega arith), put_second (omega arith), left-read, right-read, top_read, bottom-read)

-- ---- words that stay

-- an extent whose words are as they were
pub extent-same : (table table' : List ℕ) (at : ℕ) → get_or table' at 0 ≡ get_or table at 0 → get_or table' (at + 1) 0 ≡ get_or table (at + 1) 0 →
    extent_at table' at ≡ extent_at table at
unfolding extent_at
extent-same table table' at first second = rw (first, second)

pub extent-kept : {table table' : List ℕ} {place : ℕ} → KeptBelow table table' place → (at : ℕ) → at + 2 ≤ place → extent_at table' at ≡ extent_at table at
extent-kept {table} {table'} s at h = extent-same table table' at (s.kept at (omega arith)) (s.kept (at + 1) (omega arith))

pub kept_same : (table : List ℕ) (place : ℕ) → KeptBelow table table place
kept_same table place = record { as_long = refl; kept = λ i h. refl }

pub kept_trans : {table table' table'' : List ℕ} {place place' : ℕ} → KeptBelow table table' place → KeptBelow table' table'' place' → place ≤ place' →
    KeptBelow table table'' place
kept_trans s t h =
    record { as_long = t.as_long ∙ s.as_long; kept = λ i below. t.kept i (omega (arith, below, h)) ∙ s.kept i below }

-- ---- extents one after the other

module _ {Meant : ℕ → Extent → Type 0} where
  pub filled-begin : (table : List ℕ) (place : ℕ) → Filled Meant table table place 0
  filled-begin table place = record { below = kept_same table place; filled = λ j h. absurd (omega (arith, h)) }

  -- one more
  pub filled_next : {start table table' : List ℕ} {place j : ℕ} {e : Extent} → Filled Meant start table place j → Meant j e →
      e.left < 65536 → e.top < 65536 → place + 2 * j + 2 ≤ length start → table' ≡ put_extent table (place + 2 * j) e →
      Filled Meant start table' place (j + 1)
  filled_next {start} {table} {table'} {place} {j} {e} s meant left-fits top-fits room stored = record { below = still; filled = so_far }
    where
      still : KeptBelow start table' place
      still =
          record {
            as_long = rw stored (put-length table (place + 2 * j) e ∙ s.below.as_long);
            kept = λ i h. rw stored (put_other table (place + 2 * j) e i (λ same. omega (arith, same, h)) (λ same. omega (arith, same, h)) ∙ s.below.kept i h);
          }

      so_far : (k : ℕ) → k < j + 1 → Meant k (extent_at table' (place + 2 * k))
      so_far k h = by (dec_lt k j)
        where
          by : Dec (k < j) → Meant k (extent_at table' (place + 2 * k))
          by (yes before) =
              rw (
                stored,
                extent-same table (put_extent table (place + 2 * j) e) (place + 2 * k)
                    (put_other table (place + 2 * j) e (place + 2 * k) (λ same. omega (arith, same, before)) (λ same. omega (arith, same, before)))
                    (put_other table (place + 2 * j) e (place + 2 * k + 1) (λ same. omega (arith, same, before)) (λ same. omega (arith, same, before))),
              )
              (s.filled k before)
          by (no after) =
              let last : k ≡ j = omega (arith, after) in
              rw (last, stored, put-read table (place + 2 * j) e left-fits top-fits (rw s.below.as_long room)) meant

  -- as many as were asked
  pub filled-end : {start table : List ℕ} {place j count : ℕ} → Filled Meant start table place j → count ≤ j → Filled Meant start table place count
  filled-end s h = record { below = s.below; filled = λ k below. s.filled k (omega (arith, below, h)) }

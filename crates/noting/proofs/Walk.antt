-- The walk over the records: the first r are noted, and with the next one noted they are one more. A store in one record leaves the words of the others.
-- Assumes nothing.
use mathlib.Core.Path.{◌≡◌, refl, ap, ◌∙◌}
use mathlib.Core.List.{List}
use Prim.Native.Nat.{ℕ, zero, suc, ◌+◌, ◌-◌, ◌*◌, ◌≤◌, ◌<◌, ◌^◌}
use native.Mathlib.Numerals.{add-one}
use native.Mathlib.Omega.{arith}
use borrow.Author.Count.{below_none, below_more}
use lib.ListN.{length, get_or, set, length-set}
use lib.Seq.{get_or-set_same, get_or-set_other}
use Rattle.scope.specs.Stitching.{Line}
use Rattle.scope.specs.Pairs.{sum_from}
use Rattle.laws.proofs.Sums.{sum-last}
use Rattle.extents.specs.Points.{ring_in}
use Rattle.extents.specs.Records.{record_count}
use Rattle.noting.specs.Noted.{start_of, counted_ring, Countable, Noted}
use Rattle.noting.specs.Step.{RecordNotable, record_noted, NotedOne}
use Rattle.noting.proofs.Rings.{ring-low}

-- ---- where rings begin

-- a ring begins where the one before it ends
pub start-next : (directory : List ℕ) (r : ℕ) → start_of directory (r + 1) ≡ start_of directory r + record_count directory r
unfolding start_of
start-next directory r = rw add-one (sum-last (record_count directory) r)

-- a later ring begins no earlier
later : (directory : List ℕ) (r k : ℕ) → start_of directory r ≤ start_of directory (r + k)
later directory r zero = let e : r + 0 ≡ r = omega arith in omega (arith, ap (start_of directory) e)
later directory r (suc k) =
    let e : r + suc k ≡ r + k + 1 = omega arith in
    omega (arith, ap (start_of directory) e, start-next directory (r + k), later directory r k)

-- a ring ends no later than all do
pub end-within : (directory : List ℕ) (r n : ℕ) → r < n → start_of directory r + record_count directory r ≤ start_of directory n
end-within directory r n h =
    let e : r + 1 + (n - (r + 1)) ≡ n = omega arith in
    omega (arith, ap (start_of directory) e, start-next directory r, later directory (r + 1) (n - (r + 1)))

-- ---- the words of a record that is noted

module _ (directory : List ℕ) (r first note : ℕ) (there : 4 * r + 4 ≤ length directory) where
  abbrev one : List ℕ
  one = set directory (4 * r) first

  abbrev two : List ℕ
  two = set one (4 * r + 2) note

  one-long : length one ≡ length directory
  one-long = length-set directory (4 * r) first

  two-long : length two ≡ length directory
  two-long = length-set one (4 * r + 2) note ∙ one-long

  noted-long : length (record_noted directory r first note) ≡ length directory
  unfolding record_noted
  noted-long = length-set two (4 * r + 3) r ∙ two-long

  -- every word but three stays
  others-stay : (i : ℕ) → (i ≡ 4 * r → ⊥) → (i ≡ 4 * r + 2 → ⊥) → (i ≡ 4 * r + 3 → ⊥) → get_or (record_noted directory r first note) i 0 ≡ get_or directory i 0
  unfolding record_noted
  others-stay i p q s =
      get_or-set_other two (4 * r + 3) i r 0 s ∙ get_or-set_other one (4 * r + 2) i note 0 q ∙ get_or-set_other directory (4 * r) i first 0 p

  first-noted : get_or (record_noted directory r first note) (4 * r) 0 ≡ first
  unfolding record_noted
  first-noted =
      get_or-set_other two (4 * r + 3) (4 * r) r 0 (λ e. omega arith)
      ∙ get_or-set_other one (4 * r + 2) (4 * r) note 0 (λ e. omega arith)
      ∙ get_or-set_same directory (4 * r) first 0 (omega arith)

  note-noted : get_or (record_noted directory r first note) (4 * r + 2) 0 ≡ note
  unfolding record_noted
  note-noted =
      get_or-set_other two (4 * r + 3) (4 * r + 2) r 0 (λ e. omega arith) ∙ get_or-set_same one (4 * r + 2) note 0 (omega (arith, one-long))

  number-noted : get_or (record_noted directory r first note) (4 * r + 3) 0 ≡ r
  unfolding record_noted
  number-noted = get_or-set_same two (4 * r + 3) r 0 (omega (arith, two-long))

-- ---- the walk

-- the first r records are noted, and the next ring begins at point first
pub record Walked (points start : List ℕ) (n : ℕ) (note : Line → ℕ) (directory : List ℕ) (first r : ℕ) : Type 0 where
  pub countable : Countable points start n
  pub within : r ≤ n
  pub reached : first ≡ start_of start r
  pub so_far : Noted points start directory r note

pub walked-begin : {points start : List ℕ} {n : ℕ} (note : Line → ℕ) → Countable points start n → Walked points start n note start 0 0
unfolding start_of sum_from
walked-begin note c =
    record {
      countable = c;
      within = omega arith;
      reached = refl;
      so_far =
          record {
            as_long = refl;
            first-is = below_none _;
            count-is = below_none _;
            note-is = below_none _;
            number_is = below_none _;
            rest-stays = λ i h. refl;
          };
    }

module _ {points start : List ℕ} {n : ℕ} {note : Line → ℕ} {directory : List ℕ} {first r : ℕ} (w : Walked points start n note directory first r) where
  pub walked_end : n ≤ r → Noted points start directory n note
  walked_end h = let all : r ≡ n = omega arith in rw all at w.so_far

  module _ (more : r < n) where
    -- the next record still holds its count
    count-stays : record_count directory r ≡ record_count start r
    unfolding record_count
    count-stays = w.so_far.rest-stays (4 * r + 1) (omega arith)

    -- the next record can be noted
    pub walked-asks : RecordNotable points directory r first
    walked-asks =
        let c = w.countable in
        let ends = end-within start r n more in
        rw w.reached
        (record {
          few = omega arith;
          points-few = omega arith;
          record-there = omega arith;
          ring-within =
              rw count-stays
              (record {
                some = (c.counts-within r more).0;
                not-many = (c.counts-within r more).1;
                points-there = omega arith;
                low = ring-low points (start_of start r) (record_count start r) (omega arith) (λ i h. c.coordinates-within i (omega arith));
              });
        })

    -- and with it one record more is noted
    module _ {count : ℕ} {directory' : List ℕ} (o : NotedOne points directory directory' r first note count) where
      abbrev word : ℕ
      word = note (ring_in points first (record_count directory r))

      there : 4 * r + 4 ≤ length directory
      there = omega (arith, w.so_far.as_long, w.countable.records-there)

      -- a word that the record does not store is as it was
      kept : (i : ℕ) → (i ≡ 4 * r → ⊥) → (i ≡ 4 * r + 2 → ⊥) → (i ≡ 4 * r + 3 → ⊥) → get_or directory' i 0 ≡ get_or directory i 0
      kept i p q s = rw o.stored (others-stay directory r first word there i p q s)

      note-is-next : word ≡ note (counted_ring points start r)
      unfolding counted_ring
      note-is-next = rw (count-stays, w.reached)

      next-noted : Noted points start directory' (r + 1) note
      unfolding record_count
      next-noted =
          let before = w.so_far in
          record {
            as_long = rw o.stored (noted-long directory r first word there ∙ before.as_long);
            first-is =
                below_more _ r
                (λ k h. kept (4 * k) (λ e. omega arith) (λ e. omega arith) (λ e. omega arith) ∙ before.first-is k h)
                (rw o.stored (first-noted directory r first word there ∙ w.reached));
            count-is =
                below_more _ r
                (λ k h. kept (4 * k + 1) (λ e. omega arith) (λ e. omega arith) (λ e. omega arith) ∙ before.count-is k h)
                (kept (4 * r + 1) (λ e. omega arith) (λ e. omega arith) (λ e. omega arith) ∙ count-stays);
            note-is =
                below_more _ r
                (λ k h. kept (4 * k + 2) (λ e. omega arith) (λ e. omega arith) (λ e. omega arith) ∙ before.note-is k h)
                (rw o.stored (note-noted directory r first word there ∙ note-is-next));
            number_is =
                below_more _ r
                (λ k h. kept (4 * k + 3) (λ e. omega arith) (λ e. omega arith) (λ e. omega arith) ∙ before.number_is k h)
                (rw o.stored (number-noted directory r first word there));
            rest-stays = λ i h. kept i (λ e. omega arith) (λ e. omega arith) (λ e. omega arith) ∙ before.rest-stays i (omega arith);
          }

      -- the next ring begins at a point that there may be
      pub walked-few : first + count < 2 ^ 32
      walked-few = omega (arith, o.counted, count-stays, w.reached, end-within start r n more, w.countable.points-few)

      pub walked_next : Walked points start n note directory' (first + count) (r + 1)
      walked_next =
          record {
            countable = w.countable;
            within = omega arith;
            reached = rw (start-next start r, o.counted, count-stays, w.reached);
            so_far = next-noted;
          }

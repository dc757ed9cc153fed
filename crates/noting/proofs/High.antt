-- The walk over the records that puts the high parts of the keys in: a store in a record's third word leaves all others, so every record still has its ring.
-- Assumes nothing.
use mathlib.Core.Path.{◌≡◌, refl, ap, ◌∙◌}
use mathlib.Core.List.{List}
use Prim.Native.Nat.{ℕ, ◌+◌, ◌*◌, ◌/◌, ◌≤◌, ◌<◌}
use native.Mathlib.Omega.{arith}
use borrow.Author.Count.{below_none, below_more}
use lib.ListN.{length, get_or, length-set}
use lib.Seq.{get_or-set_same, get_or-set_other}
use Rattle.scope.specs.Band.{sort_key}
use Rattle.extents.specs.Records.{record_first, record_count, record_ring}
use Rattle.noting.specs.Noted.{Measurable, HighNoted}
use Rattle.noting.specs.Step.{RecordMeasurable, high_put}
use Rattle.noting.proofs.Rings.{ring-low}

-- the first r records hold the high parts of their keys
pub record HighWalked (points start : List ℕ) (n : ℕ) (directory : List ℕ) (r : ℕ) : Type 0 where
  pub measurable : Measurable points start n
  pub within : r ≤ n
  pub so_far : HighNoted points start directory r

pub high-begin : {points start : List ℕ} {n : ℕ} → Measurable points start n → HighWalked points start n start 0
high-begin m =
    record { measurable = m; within = omega arith; so_far = record { as_long = refl; high_is = below_none _; rest-stays = λ i h. refl } }

module _ {points start : List ℕ} {n : ℕ} {directory : List ℕ} {r : ℕ} (w : HighWalked points start n directory r) where
  pub high_end : n ≤ r → HighNoted points start directory n
  high_end h = let all : r ≡ n = omega arith in rw all at w.so_far

  module _ (more : r < n) where
    -- the next record has its first point and its count still
    first-stays : record_first directory r ≡ record_first start r
    unfolding record_first
    first-stays = w.so_far.rest-stays (4 * r) (λ e. absurd (omega arith))

    count-stays : record_count directory r ≡ record_count start r
    unfolding record_count
    count-stays = w.so_far.rest-stays (4 * r + 1) (λ e. absurd (omega arith))

    ring-stays : record_ring points directory r ≡ record_ring points start r
    unfolding record_ring
    ring-stays = rw (first-stays, count-stays)

    pub high-asks : RecordMeasurable points directory r
    high-asks =
        let m = w.measurable in
        record {
          record-there = omega (arith, w.so_far.as_long, m.records-there);
          ring-within =
              rw (first-stays, count-stays)
              (record {
                some = (m.counts-within r more).0;
                not-many = (m.counts-within r more).1;
                points-there = m.points-there r more;
                low = ring-low points (record_first start r) (record_count start r) (m.points-there r more) (m.coordinates-within r more);
              });
        }

    module _ {directory' : List ℕ} (stored : directory' ≡ high_put points directory r) where
      abbrev high : ℕ
      high = sort_key (record_ring points directory r) / 4294967296

      long : length directory' ≡ length directory
      unfolding high_put
      long = rw stored (length-set directory (4 * r + 2) high)

      kept : (i : ℕ) → (i ≡ 4 * r + 2 → ⊥) → get_or directory' i 0 ≡ get_or directory i 0
      unfolding high_put
      kept i other = rw stored (get_or-set_other directory (4 * r + 2) i high 0 other)

      put : get_or directory' (4 * r + 2) 0 ≡ high
      unfolding high_put
      put = rw stored (get_or-set_same directory (4 * r + 2) high 0 (omega (arith, high-asks.record-there)))

      pub high-next : HighWalked points start n directory' (r + 1)
      high-next =
          let before = w.so_far in
          record {
            measurable = w.measurable;
            within = omega arith;
            so_far =
                record {
                  as_long = long ∙ before.as_long;
                  high_is =
                      below_more _ r
                      (λ k h. kept (4 * k + 2) (λ e. omega arith) ∙ before.high_is k h)
                      (put ∙ ap (λ ring. sort_key ring / 4294967296) ring-stays);
                  rest-stays = λ i h. kept i (λ e. omega (arith, h (omega arith))) ∙ before.rest-stays i (λ e. omega (arith, h e));
                };
          }

-- The extents by number: the walk over the numbers, one ring more each time, and what is there of one ring. Assumes nothing.
use mathlib.Core.Path.{◌≡◌, refl, ◌∙◌}
use mathlib.Core.List.{List}
use Prim.Native.Nat.{ℕ, ◌+◌, ◌*◌, ◌≤◌, ◌<◌}
use native.Mathlib.Omega.{arith}
use borrow.Author.Count.{below_none, below_more}
use lib.ListN.{length, get_or}
use Rattle.extents.specs.Extents.{extent_of, extent_at}
use Rattle.extents.specs.Records.{record_first, record_count, record_ring, rank_of}
use Rattle.extents.proofs.Stores.{extent-same}
use Rattle.filing.specs.Steps.{Measurable, MeasuredOne, Measured}

-- ---- the walk over the numbers

-- the extents of the first i rings stand by number, and the words behind the extents are as they were
pub record MeasuredTo (points directory start : List ℕ) (n : ℕ) (table : List ℕ) (i : ℕ) : Type 0 where
  pub measurable : Measurable points directory start n
  pub within : i ≤ n
  pub as_long : length table ≡ length start
  pub so_far : (k : ℕ) → k < i → extent_at table (2 * k) ≡ extent_of (record_ring points directory (rank_of start n k))
  pub behind : (k : ℕ) → 2 * n ≤ k → get_or table k 0 ≡ get_or start k 0

pub measured-begin : {points directory start : List ℕ} {n : ℕ} → Measurable points directory start n → MeasuredTo points directory start n start 0
measured-begin m =
    record { measurable = m; within = omega arith; as_long = refl; so_far = below_none _; behind = λ k h. refl }

module _ {points directory start : List ℕ} {n : ℕ} {table : List ℕ} {i : ℕ} (s : MeasuredTo points directory start n table i) where
  pub measured-end : n ≤ i → Measured points directory start table n
  measured-end h = record { as_long = s.as_long; extents = λ k l. s.so_far k (omega arith); behind = s.behind }

  rank-stays : (k : ℕ) → rank_of table n k ≡ rank_of start n k
  unfolding rank_of
  rank-stays k = s.behind (2 * n + k) (omega arith)

  module _ (more : i < n) where
    -- the next ring can be measured
    pub measured-asks : Measurable points directory table n × (i < n)
    measured-asks =
        let m = s.measurable in (
          record {
            rings-there = m.rings-there;
            ranks-there = omega (arith, s.as_long, m.ranks-there);
            ranks-below = λ k h. rw (rank-stays k) (m.ranks-below k h);
          },
          more,
        )

    -- and with it one ring more is measured
    pub measured-next : {table' : List ℕ} → MeasuredOne points directory table table' n i → MeasuredTo points directory start n table' (i + 1)
    measured-next {table'} o =
        record {
          measurable = s.measurable;
          within = omega arith;
          as_long = o.as_long ∙ s.as_long;
          so_far = below_more _ i (λ k h. earlier k h ∙ s.so_far k h) (o.extent ∙ rw (rank-stays i));
          behind = λ k h. o.others k (λ e. omega arith) (λ e. omega arith) ∙ s.behind k h;
        }
      where
        earlier : (k : ℕ) → k < i → extent_at table' (2 * k) ≡ extent_at table (2 * k)
        earlier k h =
            extent-same table table' (2 * k) (o.others (2 * k) (λ e. omega arith) (λ e. omega arith))
            (o.others (2 * k + 1) (λ e. omega arith) (λ e. omega arith))

-- ---- one ring

-- the record of a number, and that its ring's points are there
module _ {points directory table : List ℕ} {n i : ℕ} (m : Measurable points directory table n × (i < n)) where
  pub record_there : 4 * rank_of table n i + 4 ≤ length directory
  record_there = omega (arith, m.0.ranks-below i m.1, m.0.rings-there.records-there)

  pub ring-there : 2 * (record_first directory (rank_of table n i) + record_count directory (rank_of table n i)) ≤ length points
  ring-there = (m.0.rings-there.ring-there (rank_of table n i) (m.0.ranks-below i m.1)).within

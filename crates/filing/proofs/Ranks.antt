-- The ranks: one record more goes to its number, where none before it stands, since no number is taken twice; and in the end each number has the rank of a
-- record. Assumes nothing.
use mathlib.Core.Path.{◌≡◌, refl, ap, ◌∙◌}
use mathlib.Core.List.{List}
use Prim.Native.Nat.{ℕ, ◌+◌, ◌*◌, ◌≤◌, ◌<◌}
use native.Mathlib.Omega.{arith}
use borrow.Author.Count.{below_none, below_more}
use lib.ListN.{length, set, length-set}
use lib.Seq.{get_or-set_same, get_or-set_other}
use Rattle.extents.specs.Records.{record_number, Permutes, rank_of}
use Rattle.filing.specs.Steps.{Rankable, Ranked}
use Rattle.extents.proofs.Permutes.{taken-below, taken-once, taken-somewhere, back-permutes}

-- the first r records stand at their numbers
pub record RankedTo (directory start : List ℕ) (n : ℕ) (table : List ℕ) (r : ℕ) : Type 0 where
  pub rankable : Rankable directory start n
  pub within : r ≤ n
  pub as_long : length table ≡ length start
  pub so_far : (k : ℕ) → k < r → rank_of table n (record_number directory k) ≡ k

pub ranked-begin : {directory start : List ℕ} {n : ℕ} → Rankable directory start n → RankedTo directory start n start 0
ranked-begin p = record { rankable = p; within = omega arith; as_long = refl; so_far = below_none _ }

module _ {directory start : List ℕ} {n : ℕ} {table : List ℕ} {r : ℕ} (s : RankedTo directory start n table r) where
  pub ranked-end : n ≤ r → Ranked directory start table n
  ranked-end h = record { as_long = s.as_long; ranks = λ k l. s.so_far k (omega arith) }

  module _ (more : r < n) where
    -- the place of the next record is there
    pub ranked-room : 2 * n + record_number directory r < length table
    ranked-room =
        omega (arith, s.as_long, s.rankable.ranks-there, taken-below (record_number directory) n s.rankable.numbers-permute r more)

    pub ranked-next : RankedTo directory start n (set table (2 * n + record_number directory r) r) (r + 1)
    unfolding rank_of
    ranked-next =
        let number = record_number directory in
        let place = 2 * n + number r in
        let once = taken-once number n s.rankable.numbers-permute in
        record {
          rankable = s.rankable;
          within = omega arith;
          as_long = length-set table place r ∙ s.as_long;
          so_far =
              below_more _ r
              (λ k h. get_or-set_other table place (2 * n + number k) r 0 (λ e. omega (arith, once k r (omega arith) more (omega arith))) ∙ s.so_far k h)
              (get_or-set_same table place r 0 ranked-room);
        }

-- ---- what the ranks are, in any table that has them

module _ (directory table : List ℕ) (n : ℕ) (numbers : Permutes (record_number directory) n) (ranks : (r : ℕ) → r < n → rank_of table n (record_number directory r) ≡ r) where
  -- a rank is below n
  pub rank_below : (i : ℕ) → i < n → rank_of table n i < n
  rank_below i h =
      let at = taken-somewhere (record_number directory) n numbers i h in
      omega (arith, at.below, ranks at.place at.below, ap (rank_of table n) at.takes)

  -- the ranks are the records in some order
  pub ranks-permute : Permutes (rank_of table n) n
  ranks-permute = back-permutes (record_number directory) n numbers (rank_of table n) ranks

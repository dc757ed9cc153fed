-- The rings that a directory of point counts stands for, by number, and orders of them: every element of such an order is a counted ring with its number,
-- and a sum over the elements is a sum over the numbers. Sorting by any key keeps all of it. Assumes nothing.
use mathlib.Core.Path.{◌≡◌, refl, sym, ◌∙◌, ap, subst}
use mathlib.Core.List.{List, [], ◌∷◌}
use Prim.Native.Nat.{ℕ, zero, suc, ◌+◌, ◌≤◌, ◌<◌}
use native.Mathlib.Nat.{le_of_suc-le-suc, not-suc-le-zero}
use native.Mathlib.Omega.{arith}
use lib.ListN.{length, get_or}
use Rattle.scope.specs.Stitching.{Line}
use Rattle.scope.specs.Pairs.{sum_from}
use Rattle.scope.specs.Band.{Numbered, numbered_from, order_rings}
use Rattle.scope.specs.Tables.{first_point}
use Rattle.laws.proofs.Total.{total}
use Rattle.laws.proofs.Conservation.{Each}
use Rattle.sorting.proofs.TwoPasses.{sort_by, by_length, by-each, by_total}
use Rattle.extents.specs.Points.{ring_in}
use Rattle.extents.specs.Records.{record_count}
use Rattle.noting.specs.Noted.{start_of, counted_ring}
use Rattle.regions.specs.Regions.{counted_rings}
use Rattle.regions.proofs.Listing.{listed, listed-length, listed_at, each_at}

-- what stands past the end of an order
abbrev pub nobody : Numbered
nobody = record { number = 0; ring = [] }

pub ring-length : (words : List ℕ) (first count : ℕ) → length (ring_in words first count) ≡ count
unfolding ring_in
ring-length words first zero = refl
ring-length words first (suc count) = ap suc (ring-length words (suc first) count)

-- the rings of an order by number are the rings
pub rings-numbered : (k : ℕ) (rings : List Line) → order_rings (numbered_from k rings) ≡ rings
unfolding order_rings numbered_from
rings-numbered k [] = refl
rings-numbered k (ring ∷ rings) = ap (λ (ls : List Line). ring ∷ ls) (rings-numbered (suc k) rings)

module _ (points directory : List ℕ) where
  -- the ring of number r
  abbrev pub numbered_ring : ℕ → Numbered
  numbered_ring r = record { number = r; ring = counted_ring points directory r }

  counted-listed : (k n : ℕ) → counted_rings points directory k n ≡ listed (counted_ring points directory) k n
  unfolding counted_rings listed
  counted-listed k zero = refl
  counted-listed k (suc n) = ap (λ (ls : List Line). counted_ring points directory k ∷ ls) (counted-listed (suc k) n)

  pub rings-counted : (k n : ℕ) → length (counted_rings points directory k n) ≡ n
  rings-counted k n = ap length (counted-listed k n) ∙ listed-length (counted_ring points directory) k n

  first_past : (k n r : ℕ) → r ≤ n → first_point (counted_rings points directory k n) r ≡ sum_from (record_count directory) k r
  unfolding first_point counted_rings sum_from counted_ring
  first_past k n zero h = refl
  first_past k zero (suc r) h = absurd (not-suc-le-zero h)
  first_past k (suc n) (suc r) h =
      omega (arith, ring-length points (start_of directory k) (record_count directory k), first_past (suc k) n r (le_of_suc-le-suc h))

  pub first-at : (n r : ℕ) → r ≤ n → first_point (counted_rings points directory 0 n) r ≡ start_of directory r
  unfolding start_of
  first-at n r h = first_past 0 n r h

  numbered-listed : (k n : ℕ) → numbered_from k (counted_rings points directory k n) ≡ listed numbered_ring k n
  unfolding counted_rings numbered_from listed
  numbered-listed k zero = refl
  numbered-listed k (suc n) = ap (λ (ms : List Numbered). numbered_ring k ∷ ms) (numbered-listed (suc k) n)

  pub numbered-at : (n r : ℕ) → r < n → get_or (numbered_from 0 (counted_rings points directory 0 n)) r nobody ≡ numbered_ring r
  numbered-at n r h = ap (λ (ms : List Numbered). get_or ms r nobody) (numbered-listed 0 n) ∙ listed_at numbered_ring n r nobody h

  -- an element is the ring of its number, one of n
  pub record Among (n : ℕ) (m : Numbered) : Type 0 where
    pub number-within : m.number < n
    pub ring-counted : m.ring ≡ counted_ring points directory m.number

  -- the n rings in some order
  pub record OrderOf (n : ℕ) (order : List Numbered) : Type 0 where
    pub as_many : length order ≡ n
    pub all_among : Each (Among n) order
    pub sums_kept : (w : ℕ → ℕ) → total (λ m. w m.number) order ≡ sum_from w 0 n

  numbered-among : (k n m : ℕ) → k + n ≤ m → Each (Among m) (numbered_from k (counted_rings points directory k n))
  unfolding counted_rings numbered_from
  numbered-among k zero m h = tt
  numbered-among k (suc n) m h = (record { number-within = omega arith; ring-counted = refl }, numbered-among (suc k) n m (omega arith))

  numbered-sums : (w : ℕ → ℕ) (k n : ℕ) → total (λ m. w m.number) (numbered_from k (counted_rings points directory k n)) ≡ sum_from w k n
  unfolding counted_rings numbered_from total sum_from
  numbered-sums w k zero = refl
  numbered-sums w k (suc n) = omega (arith, numbered-sums w (suc k) n)

  pub among-at : (n : ℕ) (order : List Numbered) → OrderOf n order → (r : ℕ) → r < n → Among n (get_or order r nobody)
  among-at n order o r h = each_at (Among n) order nobody o.all_among r (subst (λ (k : ℕ). r < k) (sym o.as_many) h)

  -- by number, and sorted by any key
  pub order-by-number : (n : ℕ) → OrderOf n (numbered_from 0 (counted_rings points directory 0 n))
  order-by-number n = record {
    as_many = ap length (numbered-listed 0 n) ∙ listed-length numbered_ring 0 n;
    all_among = numbered-among 0 n n (omega arith);
    sums_kept = λ w. numbered-sums w 0 n;
  }

  pub order-sorted : (key : Numbered → ℕ) (n : ℕ) (order : List Numbered) → OrderOf n order → OrderOf n (sort_by key order)
  order-sorted key n order o = record {
    as_many = by_length key order ∙ o.as_many;
    all_among = by-each key (Among n) order o.all_among;
    sums_kept = λ w. by_total key (λ m. w m.number) order ∙ o.sums_kept w;
  }

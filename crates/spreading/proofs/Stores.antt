-- The loop: from record k on the directory is spread out, and the words before record k of the four-word records are as they were. Assumes nothing.
use mathlib.Core.Path.{◌≡◌, refl, sym, ◌∙◌, ap, ap₂}
use mathlib.Core.List.{List, ◌++◌, append_assoc}
use Prim.Native.Nat.{ℕ, zero, suc, ◌+◌, ◌-◌, ◌*◌, ◌≤◌, ◌<◌}
use native.Mathlib.Omega.{arith}
use lib.ListN.{length, get_or, take, drop, length-append}
use lib.Seq.{sets, length-sets, sets-eq, get_or-take, take_all, take-append-le, drop_at, length-take-le}
use Rattle.scope.specs.Area.{area_words}
use Rattle.scope.specs.Limits.{record_stride}
use Rattle.scope.specs.Room.{directory_words}
use Rattle.scope.specs.Tables.{written}
use Rattle.spreading.specs.Spread.{spread_record, spread_from}

pub six-words : (ps directory : List ℕ) (k : ℕ) → length (spread_record ps directory k) ≡ 6
unfolding spread_record area_words
six-words ps directory k = refl

pub spread-length : (ps directory : List ℕ) (k n : ℕ) → length (spread_from ps directory k n) ≡ 6 * n
unfolding spread_from
spread-length ps directory k zero = refl
spread-length ps directory k (suc n) = omega (arith, length-append (spread_record ps directory k) (spread_from ps directory (suc k) n), six-words ps directory k, spread-length ps directory (suc k) n)

pub from-record : (ps directory : List ℕ) (k n : ℕ) → spread_from ps directory k (suc n) ≡ spread_record ps directory k ++ spread_from ps directory (suc k) n
unfolding spread_from
from-record ps directory k n = refl

-- stores within a table: what stands from their place on, and what stands before it
module _ (table words : List ℕ) (at : ℕ) (room : at + length words ≤ length table) where
  apart : sets table at words ≡ take at table ++ (words ++ drop (at + length words) table)
  apart = sets-eq words table at room ∙ append_assoc (take at table) words (drop (at + length words) table)

  from-the-stores : drop at (sets table at words) ≡ words ++ drop (at + length words) table
  from-the-stores =
      ap (drop at) apart ∙ drop_at (take at table) (words ++ drop (at + length words) table) at (length-take-le at table (omega arith))

  before-the-stores : (i : ℕ) → i < at → get_or (sets table at words) i 0 ≡ get_or table i 0
  before-the-stores i h =
      sym (get_or-take at (sets table at words) i 0 h)
      ∙ ap (λ (l : List ℕ). get_or l i 0)
      (ap (take at) apart
      ∙ take-append-le at (take at table) (words ++ drop (at + length words) table) (omega (arith, length-take-le at table (omega arith)))
      ∙ take_twice)
      ∙ get_or-take at table i 0 h
    where
      take_twice : take at (take at table) ≡ take at table
      take_twice = take_all at (take at table) (omega (arith, length-take-le at table (omega arith)))

pub record SpreadTo (ps start : List ℕ) (n : ℕ) (directory : List ℕ) (k : ℕ) : Type 0 where
  pub within : k ≤ n
  pub room : directory_words n ≤ length start
  pub as_long : length directory ≡ length start
  pub still : (i : ℕ) → i < 4 * k → get_or directory i 0 ≡ get_or start i 0
  pub spread : drop (6 * k) directory ≡ spread_from ps start k (n - k) ++ drop (6 * n) start

pub spread-begin : (ps start : List ℕ) (n : ℕ) → directory_words n ≤ length start → SpreadTo ps start n start n
unfolding spread_from
spread-begin ps start n room =
    let none : n - n ≡ 0 = omega arith in
    record { within = omega arith; room = room; as_long = refl; still = λ i h. refl; spread = rw none }

module _ {ps start : List ℕ} {n : ℕ} {directory : List ℕ} {k : ℕ} (s : SpreadTo ps start n directory k) where
  -- a record is read from words that are still there
  still-record : (j : ℕ) → suc j ≡ k → spread_record ps directory j ≡ spread_record ps start j
  unfolding spread_record
  still-record j e =
      rw (s.still (4 * j) (omega arith), s.still (4 * j + 1) (omega arith), s.still (4 * j + 2) (omega arith), s.still (4 * j + 3) (omega arith))

  -- one record more
  pub spread-next : {directory' : List ℕ} (j : ℕ) → suc j ≡ k → directory' ≡ sets directory (directory_words j) (spread_record ps directory j) → SpreadTo ps start n directory' j
  unfolding directory_words record_stride
  spread-next {directory'} j e stored = record {
    within = omega (arith, s.within);
    room = s.room;
    as_long = ap length stored ∙ length-sets directory (6 * j) (spread_record ps directory j) ∙ s.as_long;
    still = λ i h. ap (λ (l : List ℕ). get_or l i 0) stored ∙ before-the-stores directory (spread_record ps directory j) (6 * j) fits i (omega arith) ∙ s.still i (omega arith);
    spread =
        ap (drop (6 * j)) stored
        ∙ from-the-stores directory (spread_record ps directory j) (6 * j) fits
        ∙ ap₂ (λ (a b : List ℕ). a ++ b) (still-record j e) (ap (λ (m : ℕ). drop m directory) next ∙ s.spread)
        ∙ sym (append_assoc (spread_record ps start j) (spread_from ps start k (n - k)) (drop (6 * n) start))
        ∙ ap (λ (w : List ℕ). w ++ drop (6 * n) start) (sym one_more);
  }
    where
      fits : 6 * j + length (spread_record ps directory j) ≤ length directory
      fits = omega (arith, six-words ps directory j, s.as_long, s.room, s.within)

      next : 6 * j + length (spread_record ps directory j) ≡ 6 * k
      next = omega (arith, six-words ps directory j)

      one_more : spread_from ps start j (n - j) ≡ spread_record ps start j ++ spread_from ps start k (n - k)
      one_more = let fewer : n - j ≡ suc (n - k) = omega (arith, s.within) in ap (spread_from ps start j) fewer ∙ from-record ps start j (n - k) ∙ ap (λ (m : ℕ). spread_record ps start j ++ spread_from ps start m (n - k)) e

  -- all records
  pub spread_end : k ≤ 0 → directory ≡ written (spread_from ps start 0 n) start
  unfolding written
  spread_end h =
      let none : k ≡ 0 = omega arith in
      let all : n - 0 ≡ n = omega arith in
      rw (none, all) at s.spread ∙ ap (λ (m : ℕ). spread_from ps start 0 n ++ drop m start) (sym (spread-length ps start 0 n))

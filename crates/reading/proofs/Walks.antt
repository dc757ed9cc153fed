-- The walk over the values: after each number that is read, the numbers so far stand in the table, and they and what is left of the text give what the
-- whole does. Assumes nothing.
use mathlib.Core.Path.{◌≡◌, refl, ◌∙◌}
use mathlib.Core.Bool.{Bool, true, false, cond}
use mathlib.Core.List.{List, [], ◌∷◌, ◌++◌, map, map-append, append-nil, append_assoc}
use Prim.Native.Nat.{ℕ, suc, ◌+◌, ◌-◌, ◌≤◌, ◌<◌}
use native.Mathlib.Omega.{arith}
use lib.Dec.{eqb}
use lib.Ieee.{Float}
use lib.ListN.{length, get_or, drop, set, length-append, length-map, length-set}
use lib.Seq.{drop-cons, set_at}
use borrow.Author.Tests.{eqb-false}
use Rattle.scope.specs.Smoothing.{whole}
use Rattle.scope.specs.Tables.{written}
use Rattle.reading.specs.Parser.{Got, found, none, and_then, number, prepended, numbers, end_of, column_after, ends_from}
use Rattle.reading.specs.Reads.{RowsRead}

-- ---- numbers in front

prepended-nothing : (got : Got (List ℕ)) → got ≡ prepended [] got
unfolding prepended
prepended-nothing none = refl
prepended-nothing (found ns left) = refl

prepended-twice : (ns ms : List ℕ) (got : Got (List ℕ)) → prepended ns (prepended ms got) ≡ prepended (ns ++ ms) got
unfolding prepended
prepended-twice ns ms none = refl
prepended-twice ns ms (found more left) = rw append_assoc

-- ---- words written one after another

written-more : {Word : Type 0} (ws table : List Word) (w d : Word) → length ws < length table →
    set (written ws table) (length ws) w ≡ written (ws ++ (w ∷ [])) table
unfolding written
written-more ws table w d h =
    let count : length (ws ++ (w ∷ [])) ≡ suc (length ws) = length-append ws (w ∷ []) ∙ omega arith in
    rw (drop-cons table (length ws) d h, count, append_assoc) (set_at ws (get_or table (length ws) d) (drop (suc (length ws)) table) w (length ws) refl)

-- ---- the walk

column-inside : (dx column : ℕ) → column < dx → column_after dx column < dx
unfolding column_after
column-inside dx column h = by (eqb (column + 1) dx) refl
  where
    by : (b : Bool) → eqb (column + 1) dx ≡ b → cond b 0 (column + 1) < dx
    by true e = omega arith
    by false e = let other : column + 1 ≡ dx → ⊥ = eqb-false (column + 1) dx e in omega arith

module _ (text : List ℕ) (from dx count : ℕ) (start : List Float) where
  pub record Walked (at column k : ℕ) (table : List Float) : Type 0 where
    pub room : count ≤ length start
    pub as_long : length table ≡ length start
    pub place : at ≤ length text
    pub inside : column < dx
    pub read : List ℕ
    pub read_count : length read ≡ k
    pub table_is : table ≡ written (map whole read) start
    pub left : numbers (ends_from dx 0 count) (drop from text) ≡ prepended read (numbers (ends_from dx column (count - k)) (drop at text))

  pub walked-begin : count ≤ length start → from ≤ length text → 0 < dx → Walked from 0 0 start
  unfolding written
  walked-begin room place some =
      let all : count - 0 ≡ count = omega arith in
      record { room = room; as_long = refl; place = place; inside = some; read = []; read_count = refl; table_is = refl; left = rw all (prepended-nothing _) }

  module _ (at column k : ℕ) (table : List Float) (walked : Walked at column k table) where
    -- what is left begins with the number at the place
    next-left : (end : ℕ) → end ≡ end_of dx column → k < count →
        numbers (ends_from dx 0 count) (drop from text)
        ≡ prepended walked.read (and_then (number end (drop at text)) (λ n bytes. prepended (n ∷ []) (numbers (ends_from dx (column_after dx column) (count - (k + 1))) bytes)))
    unfolding numbers ends_from
    next-left end end_is more =
        let one : count - k ≡ suc (count - (k + 1)) = omega arith in
        rw (one, ← end_is) at walked.left

    pub walked_next : (end value next : ℕ) → end ≡ end_of dx column → k < count → number end (drop at text) ≡ found value (drop next text) → next ≤ length text →
        Walked next (column_after dx column) (k + 1) (set table k (whole value))
    walked_next end value next end_is more got place =
        let words : length (map whole walked.read) ≡ k = length-map walked.read whole ∙ walked.read_count in
        record {
          room = walked.room;
          as_long = length-set table k (whole value) ∙ walked.as_long;
          place = place;
          inside = column-inside dx column walked.inside;
          read = walked.read ++ (value ∷ []);
          read_count = length-append walked.read (value ∷ []) ∙ omega arith;
          table_is =
              rw (walked.table_is, ← words, map-append)
              (written-more (map whole walked.read) start (whole value) (whole 0) (omega arith));
          left = (rw got at (next-left end end_is more)) ∙ prepended-twice walked.read (value ∷ []) _;
        }

    pub walked-faulty : (end : ℕ) → end ≡ end_of dx column → k < count → number end (drop at text) ≡ none → numbers (ends_from dx 0 count) (drop from text) ≡ none
    unfolding prepended
    walked-faulty end end_is more got = rw got at (next-left end end_is more)

    pub walked_end : count ≤ k → RowsRead text from dx count start at table
    unfolding numbers ends_from prepended
    walked_end done =
        let nothing : count - k ≡ 0 = omega arith in
        record {
          read = walked.read;
          read-are = rw (nothing, append-nil) at walked.left;
          next-within = walked.place;
          values-are = walked.table_is;
        }

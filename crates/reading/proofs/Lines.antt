-- Many numbers, each with the byte that ends it: the parser's numbers against their text, by the law of one number, and rows as such a text.
-- Assumes nothing.
use mathlib.Core.Path.{◌≡◌, refl, ap, ◌∙◌}
use mathlib.Core.Bool.{Bool, true, false, cond}
use mathlib.Core.List.{List, [], ◌∷◌, ◌++◌, append_assoc}
use Prim.Native.Nat.{ℕ, zero, suc, ◌+◌, ◌*◌, ◌≤◌, ◌<◌}
use native.Mathlib.Nat.{suc-add, zero-add, mul-zero, mul-suc}
use native.Mathlib.Omega.{arith}
use lib.Dec.{eqb}
use lib.ListN.{length, take, drop, length-append, length-drop, take-append-drop}
use lib.Seq.{length-take-le}
use borrow.Author.Tests.{eq-eqb, ne_eqb}
use Rattle.scope.specs.GeoJson.{decimal}
use Rattle.scope.specs.Program.{number_limit, NoneOver, spaced, line_text, rows_text}
use Rattle.reading.specs.Parser.{Got, found, none, and_then, is_digit, number, prepended, numbers, end_of, column_after, ends_from}
use Rattle.reading.proofs.Decimals.{nothing-found, Numbered, number-sound, number-complete, decimal-length}

-- ---- what is found after another

-- where two steps find something, both do
pub record Steps {A B : Type 0} (got : Got A) (next : A → List ℕ → Got B) (b : B) (left : List ℕ) : Type 0 where
  pub value : A
  pub between : List ℕ
  pub first : got ≡ found value between
  pub second : next value between ≡ found b left

pub steps : {A B : Type 0} (got : Got A) (next : A → List ℕ → Got B) (b : B) (left : List ℕ) → and_then got next ≡ found b left → Steps got next b left
steps none next b left e = absurd (nothing-found e)
steps (found a t) next b left e = record { value = a; between = t; first = refl; second = e }

-- ---- numbers and their ends

-- as many numbers as ends, as a text
unfoldable pub ended_text : List ℕ → List ℕ → List ℕ
ended_text [] ns = []
ended_text (end ∷ ends) [] = []
ended_text (end ∷ ends) (n ∷ ns) = decimal n ++ (end ∷ ended_text ends ns)

abbrev pub Plain : List ℕ → Type 0
Plain [] = Unit {0}
Plain (end ∷ ends) = (is_digit end ≡ false) × Plain ends

-- bytes are these numbers within the limit, with their ends, and what is left
pub record Ended (ends bytes ns left : List ℕ) : Type 0 where
  pub count : length ns ≡ length ends
  pub within : NoneOver number_limit ns
  pub is-text : bytes ≡ ended_text ends ns ++ left

-- where numbers in front are found, the others are
record Front (n : ℕ) (got : Got (List ℕ)) (ns left : List ℕ) : Type 0 where
  others : List ℕ
  found-are : got ≡ found others left
  all : ns ≡ n ∷ others

front : (n : ℕ) (got : Got (List ℕ)) (ns left : List ℕ) → prepended (n ∷ []) got ≡ found ns left → Front n got ns left
unfolding prepended
front n none ns left e = absurd (nothing-found e)
front n (found ms t) ns left e = record { others = ms; found-are = cc; all = cc }

-- a number more
ended-more : {end n : ℕ} {ends bytes between ns left : List ℕ} → Numbered end bytes n between → Ended ends between ns left →
    Ended (end ∷ ends) bytes (n ∷ ns) left
unfolding ended_text
ended-more one others =
    record {
      count = ap suc others.count;
      within = (one.within, others.within);
      is-text = one.is-text ∙ rw (others.is-text, append_assoc);
    }

pub numbers-sound : (ends bytes ns left : List ℕ) → numbers ends bytes ≡ found ns left → Ended ends bytes ns left
unfolding numbers ended_text
numbers-sound [] bytes ns left e =
    let all : ns ≡ [] = cc in
    rw all (record { count = refl; within = tt; is-text = cc })
numbers-sound (end ∷ ends) bytes ns left e =
    let both = steps (number end bytes) _ ns left e in
    let others = front both.value (numbers ends both.between) ns left both.second in
    rw others.all (ended-more (number-sound end bytes _ _ both.first) (numbers-sound ends both.between _ left others.found-are))

pub numbers-complete : (ends ns left : List ℕ) → Plain ends → length ns ≡ length ends → NoneOver number_limit ns →
    numbers ends (ended_text ends ns ++ left) ≡ found ns left
unfolding numbers ended_text prepended
numbers-complete [] [] left plain count within = refl
numbers-complete [] (n ∷ ns) left plain count within = absurd (omega arith)
numbers-complete (end ∷ ends) [] left plain count within = absurd (omega arith)
numbers-complete (end ∷ ends) (n ∷ ns) left plain count within =
    rw (append_assoc, number-complete end plain.0 n (ended_text ends ns ++ left) within.0, numbers-complete ends ns left plain.1 (omega arith) within.1)

-- a number has five digits at most, and its end
pub ended-length : (ends ns : List ℕ) → NoneOver number_limit ns → length (ended_text ends ns) ≤ 6 * length ends
unfolding ended_text number_limit
ended-length [] ns within = omega arith
ended-length (end ∷ ends) [] within = omega arith
ended-length (end ∷ ends) (n ∷ ns) within =
    let digits : length (decimal n) ≤ 5 = decimal-length 4 n (omega arith) in
    let others = ended-length ends ns within.1 in
    rw length-append (omega arith)

-- ---- rows

module _ (dx : ℕ) where
  pub plain_rows : (n column : ℕ) → Plain (ends_from dx column n)
  unfolding ends_from end_of is_digit
  plain_rows zero column = tt
  plain_rows (suc n) column = (by (eqb (column + 1) dx), plain_rows n (column_after dx column))
    where
      by : (b : Bool) → is_digit (cond b 10 32) ≡ false
      by true = refl
      by false = refl

  pub ends-length : (n column : ℕ) → length (ends_from dx column n) ≡ n
  unfolding ends_from
  ends-length zero column = refl
  ends-length (suc n) column = rw (ends-length n (column_after dx column))

  -- the rest of a row from a column on, and the rows behind it
  row_is : (n column : ℕ) (ns more : List ℕ) (m : ℕ) → column + length (n ∷ ns) ≡ dx →
      spaced (n ∷ ns) ++ (10 ∷ ended_text (ends_from dx 0 m) more) ≡ ended_text (ends_from dx column (length (n ∷ ns) + m)) ((n ∷ ns) ++ more)
  unfolding spaced ended_text ends_from end_of column_after
  row_is n column [] more m e =
      rw (suc-add, zero-add, eq-eqb (column + 1) dx (omega arith))
  row_is n column (n₁ ∷ ns) more m e =
      rw (suc-add, ne_eqb (column + 1) dx (λ same. omega arith), append_assoc, row_is n₁ (column + 1) ns more m (omega arith))

  line-is : (row more : List ℕ) (m : ℕ) → 0 < dx → length row ≡ dx →
      line_text row ++ ended_text (ends_from dx 0 m) more ≡ ended_text (ends_from dx 0 (length row + m)) (row ++ more)
  unfolding line_text
  line-is [] more m some count = absurd (omega arith)
  line-is (n ∷ ns) more m some count = rw append_assoc (row_is n 0 ns more m (omega arith))

  pub rows_are : (dy : ℕ) (values : List ℕ) → 0 < dx → length values ≡ dx * dy → rows_text dx dy values ≡ ended_text (ends_from dx 0 (dx * dy)) values
  unfolding rows_text ends_from ended_text
  rows_are zero values some count = rw mul-zero
  rows_are (suc dy) values some count =
      let sum : dx * suc dy ≡ dx + dx * dy = omega (arith, mul-suc dx dy) in
      let row : length (take dx values) ≡ dx = length-take-le dx values (omega arith) in
      let behind : length (drop dx values) ≡ dx * dy = length-drop dx values ∙ omega arith in
      let lines = line-is (take dx values) (drop dx values) (dx * dy) some row in
      rw (rows_are dy (drop dx values) some behind) (lines ∙ rw (row, take-append-drop, sum))

-- What the answers of the steps say of the parser, and what it finds by them. Assumes nothing.
use Rattle.std.specs.Prelude.{Some, None}
use mathlib.Core.Path.{◌≡◌, refl, ◌∙◌}
use mathlib.Core.Bool.{true, false}
use mathlib.Core.List.{List, [], ◌++◌, map}
use Prim.Native.Nat.{ℕ, ◌*◌, ◌≤◌, ◌<◌}
use native.Mathlib.Nat.{mul-le-mul}
use native.Mathlib.Omega.{arith}
use lib.Ieee.{Float}
use lib.ListN.{length, take, drop, drop_of_length-le, length-map}
use lib.Seq.{drop-cons, take_at}
use Rattle.scope.specs.Smoothing.{whole}
use Rattle.scope.specs.Tables.{written}
use Rattle.scope.specs.Program.{number_limit, program_side}
use Rattle.reading.specs.Parser.{found, none, number, numbers, ends_from, sides_fit, ended, headed, parsed}
use Rattle.reading.specs.Reads.{InputRead, GotNumber, NumberRead, HeadRead, RowsRead, ValuesRead}
use Rattle.reading.proofs.Decimals.{number-sound}
use Rattle.reading.proofs.Inputs.{input_of, SidesFit, parsed-sound, nothing-accepted}
use Rattle.reading.specs.declared.Number.{Number}
use Rattle.reading.specs.declared.Head.{Head}

-- ---- a number

module _ (text : List ℕ) (from end : ℕ) where
  pub number-found : (n : Number) → NumberRead text from end (Some n) → (number end (drop from text) ≡ found n.value (drop n.next text)) × (n.next ≤ length text)
  unfolding NumberRead GotNumber
  number-found n read = read

  pub number-within : (n : Number) → NumberRead text from end (Some n) → n.value ≤ number_limit
  number-within n read = (number-sound end (drop from text) n.value (drop n.next text) (number-found n read).0).within

  pub number-none : NumberRead text from end None → number end (drop from text) ≡ none
  unfolding NumberRead GotNumber
  number-none read = read

-- ---- the first line

module _ (text : List ℕ) where
  pub head-found : (h : Head) → HeadRead text (Some h) → (parsed text ≡ headed h.dx h.dy h.threshold (drop h.next text)) × (h.next ≤ length text)
  unfolding HeadRead
  head-found h read = read

  pub head-none : HeadRead text None → parsed text ≡ none
  unfolding HeadRead
  head-none read = read

-- ---- the rows

module _ (text : List ℕ) (from dx count : ℕ) (values values' : List Float) where
  pub rows-found : (next : ℕ) → ValuesRead text from dx count values (Some next) values' → RowsRead text from dx count values next values'
  unfolding ValuesRead
  rows-found next read = read

  pub rows_none : ValuesRead text from dx count values None values' → numbers (ends_from dx 0 count) (drop from text) ≡ none
  unfolding ValuesRead
  rows_none read = read

-- as many values as were written into one table, copied into another, are written there
pub copied-written : (words table tried copy table' : List Float) (n : ℕ) → length words ≡ n → tried ≡ written words table → copy ≡ take n tried →
    copy ++ drop n table' ≡ written words table'
unfolding written
copied-written words table tried copy table' n many first taken = rw (taken, first, take_at words (drop (length words) table) n many, many)

-- ---- the whole

-- as many values as the table has room for
pub count_fits : (dx dy : ℕ) → SidesFit dx dy → dx * dy ≤ 1024
unfolding program_side
count_fits dx dy sides = omega (arith, mul-le-mul sides.columns sides.rows)

module _ (text : List ℕ) (dx dy t next : ℕ) (head : parsed text ≡ headed dx dy t (drop next text)) where
  pub sides-refused : sides_fit dx dy ≡ false → parsed text ≡ none
  unfolding headed
  sides-refused e = head ∙ rw e

  module _ (sides : sides_fit dx dy ≡ true) where
    pub rows-refused : numbers (ends_from dx 0 (dx * dy)) (drop next text) ≡ none → parsed text ≡ none
    unfolding headed
    rows-refused e = head ∙ rw (sides, e)

    module _ (ns : List ℕ) (last : ℕ) (rows : numbers (ends_from dx 0 (dx * dy)) (drop next text) ≡ found ns (drop last text)) where
      pub more-refused : last < length text → parsed text ≡ none
      unfolding headed ended
      more-refused h = head ∙ rw (sides, rows, drop-cons text last 0 h)

      pub all-parsed : length text ≤ last → parsed text ≡ found (input_of dx dy t ns) []
      unfolding headed ended
      all-parsed h = head ∙ rw (sides, rows, drop_of_length-le text h)

pub faulty : (text : List ℕ) (values : List Float) → parsed text ≡ none → InputRead text values None values
unfolding InputRead
faulty text values e = (nothing-accepted text e, refl)

module _ (text : List ℕ) (dx dy t : ℕ) (ns : List ℕ) (all : parsed text ≡ found (input_of dx dy t ns) []) where
  pub values-many : length (map whole ns) ≡ dx * dy
  values-many = length-map ns whole ∙ (parsed-sound text (input_of dx dy t ns) [] all).fits.all-values

  pub terrain : (values values' : List Float) (threshold : Float) → threshold ≡ whole t → values' ≡ written (map whole ns) values →
      InputRead text values (Some (record { dx = dx; dy = dy; threshold = threshold })) values'
  unfolding InputRead
  terrain values values' threshold threshold-is values-are =
      record {
        input = input_of dx dy t ns;
        accepted = parsed-sound text (input_of dx dy t ns) [] all;
        dx-is = refl;
        dy-is = refl;
        threshold-is = threshold-is;
        values-are = values-are;
      }

-- A call over a run of records that has directory words beside it: which of the words the word form is lent, and what a build leaves. Assumes nothing.
use Rattle.std.specs.Prelude.{ℕ, ◌≤◌, min, ◌≡◌, Bool, cond, List, length, take, drop, Result, Ok, Err}
use Rattle.scope.specs.Room.{directory_words}
use Rattle.scope.specs.Tables.{written}
use Rattle.ringrecord.specs.declared.RingRecord.{RingRecord}
use Rattle.ringrecord.specs.Records.{records_from}
use Rattle.error.specs.declared.Refusal.{Refusal}

-- how many rings an answer gives
unfoldable pub rings_in : Result ℕ Refusal → ℕ
rings_in (Ok n) = n
rings_in (Err why) = 0

-- a build is lent six words a record, as far as there are any
unfoldable pub lent_words : ℕ → ℕ → ℕ
lent_words words records = min words (directory_words records)

-- a reader is lent six words a ring where the rings' words were copied, and none otherwise
unfoldable pub read_words : ℕ → Bool → ℕ
read_words rings copied = directory_words (cond copied rings 0)

-- a build of n rings over the words that so many records have: the word form has its results over the words lent, the rings have words there, and the other words
-- stay. `Words` is the word form's contract, of a directory at entry and at exit
pub record OverWords (Words : List ℕ → List ℕ → Type 0) (n room : ℕ) (words words' : List ℕ) : Type 0 where
  pub built : Words (take (lent_words (length words) room) words) (take (lent_words (length words) room) words')
  pub rings-fit : directory_words n ≤ lent_words (length words) room
  pub rest : drop (lent_words (length words) room) words' ≡ drop (lent_words (length words) room) words
  pub as_long : length words' ≡ length words

-- a build over records: that, and the records of the rings are those of the words at exit, written from the first record on
pub record OverRecords (Words : List ℕ → List ℕ → Type 0) (n : ℕ) (words words' : List ℕ) (records records' : List RingRecord) : Type 0 where
  pub over-words : OverWords Words n (length records) words words'
  pub records-are : records' ≡ written (records_from (take (directory_words n) words')) records

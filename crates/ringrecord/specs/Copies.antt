-- What the copies from directory words to records and back leave: all of the stated rings are copied, or none. Assumes nothing.
use Rattle.std.specs.Prelude.{ℕ, Bool, cond, not, ◌&&◌, List, ltb, length, take}
use Rattle.scope.specs.Room.{directory_words}
use Rattle.scope.specs.Tables.{written}
use Rattle.ringrecord.specs.declared.RingRecord.{RingRecord}
use Rattle.ringrecord.specs.Records.{directory_of, records_from}

-- so many words and records are enough for the stated rings
unfoldable pub room_for : ℕ → ℕ → ℕ → Bool
room_for rings words records = not (ltb words (directory_words rings)) && not (ltb records rings)

-- so many are copied
unfoldable pub copied_rings : ℕ → ℕ → ℕ → ℕ
copied_rings rings words records = cond (room_for rings words records) rings 0

-- the records at exit, where words are copied into them
unfoldable pub records_after : ℕ → List ℕ → List RingRecord → List RingRecord
records_after rings words records = written (records_from (take (directory_words (copied_rings rings (length words) (length records))) words)) records

-- the words of the records that are copied into words, and the words at exit
unfoldable pub words_from : ℕ → List RingRecord → List ℕ → List ℕ
words_from rings records words = directory_of (take (copied_rings rings (length words) (length records)) records)

unfoldable pub words_after : ℕ → List RingRecord → List ℕ → List ℕ
words_after rings records words = written (words_from rings records words) words

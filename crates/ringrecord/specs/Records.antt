-- A directory as records, each holding its fate and its area, and as words: from the one to the other and back. Assumes nothing.
use Rattle.std.specs.Prelude.{ℕ, suc, cond, List, [], ◌∷◌, ◌++◌, eqb}
use Rattle.scope.specs.Limits.{no_owner}
use Rattle.scope.specs.Area.{area_words, area_from}
use Rattle.scope.specs.Contour as Contour
use Rattle.scope.specs.Contour.{class_word, owner_word}
use Rattle.scope.specs.GeoJson.{first_at, count_at, class_at, owner_at, area_low_at, area_high_at}
use Rattle.ringrecord.specs.declared.Fate.{Fate}
use Rattle.ringrecord.specs.declared.Fate.TheVariants as fate-is
use Rattle.ringrecord.specs.declared.RingRecord.{RingRecord}

-- ---- from records to words

-- the fate that a record holds, as document 01 has it
unfoldable pub fate_of : Fate → Contour.Fate
fate_of fate-is.Polygon = Contour.polygon
fate_of (fate-is.Hole owner) = Contour.hole owner
fate_of fate-is.Dropped = Contour.dropped
fate_of fate-is.Line = Contour.line

-- the words of the record of number k: first point, point count, class, owner, and the area's two
unfoldable pub words_of : ℕ → RingRecord → List ℕ
words_of k r = r.first ∷ r.count ∷ class_word (fate_of r.fate) ∷ owner_word k (fate_of r.fate) ∷ area_words r.area

-- the words of all records, numbered from k
unfoldable pub directory_from : ℕ → List RingRecord → List ℕ
directory_from k [] = []
directory_from k (r ∷ records) = words_of k r ++ directory_from (suc k) records

unfoldable pub directory_of : List RingRecord → List ℕ
directory_of records = directory_from 0 records

-- ---- from words to records

-- the fate that class and owner words stand for
unfoldable pub fate_from : ℕ → ℕ → Fate
fate_from class owner = cond (eqb class 0) fate-is.Polygon (cond (eqb class 1) (cond (eqb owner no_owner) fate-is.Dropped (fate-is.Hole owner)) fate-is.Line)

unfoldable pub record_from : ℕ → ℕ → ℕ → ℕ → ℕ → ℕ → RingRecord
record_from first count class owner low high = record { first = first; count = count; fate = fate_from class owner; area = area_from low high }

-- the records that words stand for, six words a record
unfoldable pub records_from : List ℕ → List RingRecord
records_from [] = []
records_from (first ∷ []) = []
records_from (first ∷ count ∷ []) = []
records_from (first ∷ count ∷ class ∷ []) = []
records_from (first ∷ count ∷ class ∷ owner ∷ []) = []
records_from (first ∷ count ∷ class ∷ owner ∷ low ∷ []) = []
records_from (first ∷ count ∷ class ∷ owner ∷ low ∷ high ∷ words) = record_from first count class owner low high ∷ records_from words

-- record k of a directory
unfoldable pub record_in : List ℕ → ℕ → RingRecord
record_in directory k =
    record_from (first_at directory k) (count_at directory k) (class_at directory k) (owner_at directory k) (area_low_at directory k) (area_high_at directory k)

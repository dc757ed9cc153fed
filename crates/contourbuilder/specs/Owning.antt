-- The step over points and counts already written: what it asks where rings were written, and what it leaves. Assumes nothing.
use Rattle.std.specs.Prelude.{◌≡◌, Bool, cond, List, ℕ, ◌≤◌, length, take, drop, Result, Ok, Err}
use Rattle.scope.specs.Stitching.{Line}
use Rattle.scope.specs.Contour.{Fate}
use Rattle.scope.specs.Room.{directory_words}
use Rattle.scope.specs.Tables.{written, record_of}
use Rattle.regions.specs.Regions.{counted_rings, contour_by, sorted_by, Workable}
use Rattle.error.specs.declared.Refusal.{Refusal}

-- a band's records, or a contour's, where a record has these words
unfoldable pub records_by : (ℕ → ℕ → Line → Fate → List ℕ) → Bool → List Line → List ℕ
records_by words band rings = cond band (sorted_by words rings) (contour_by words rings)

-- rings that were written can be worked on in the first words of the link table, over the first words of the points, and there is room for whole records
unfoldable pub Ownable : Result ℕ Refusal → ℕ → List ℕ → ℕ → List ℕ → List ℕ → Type 0
Ownable (Err why) words links filled points directory = Unit {0}
Ownable (Ok rings) words links filled points directory = (words ≤ length links) × (filled ≤ length points) × Workable (take filled points) directory (take words links) rings × (directory_words rings ≤ length directory)

-- the directory once the owners of rings that were written are found
unfoldable pub owned_directory : Bool → Result ℕ Refusal → List ℕ → List ℕ → List ℕ
owned_directory band (Err why) points directory = directory
owned_directory band (Ok rings) points directory = written (records_by record_of band (counted_rings points directory 0 rings)) directory

-- only the first words of the points are looked at, and the words of the link table past those that were worked in are as they were
pub record OwnersFound (band : Bool) (answer : Result ℕ Refusal) (words : ℕ) (links links' : List ℕ) (filled : ℕ) (points directory directory' : List ℕ) : Type 0 where
  pub directory-is : directory' ≡ owned_directory band answer (take filled points) directory
  pub as_long : length links' ≡ length links
  pub past-stays : drop words links' ≡ drop words links

-- The rings that a directory of point counts stands for, and the records of a contour and of a band over them. Assumes nothing.
use Rattle.std.specs.Prelude.{List, [], ◌∷◌, ◌++◌, ℕ, zero, suc, ◌*◌, ◌≤◌, ◌<◌, length, take, drop}
use Rattle.scope.specs.Stitching.{Line}
use Rattle.scope.specs.Contour.{Fate, contour_fates}
use Rattle.scope.specs.Band.{numbered_from, sorted, order_rings, band_fates}
use Rattle.scope.specs.Tables.{ordered_by}
use Rattle.sorting.specs.Entries.{entries, entry_words, sorted_entries}
use Rattle.extents.specs.Points.{RingThere}
use Rattle.extents.specs.Records.{record_count}
use Rattle.noting.specs.Noted.{start_of, counted_ring, Countable}

-- n rings from ring k on
unfoldable pub counted_rings : List ℕ → List ℕ → ℕ → ℕ → List Line
counted_rings points directory k zero = []
counted_rings points directory k (suc n) = counted_ring points directory k ∷ counted_rings points directory (suc k) n

-- the first n records sorted by the third word of each; the rest stays
unfoldable pub sorted_first : List ℕ → ℕ → List ℕ
sorted_first directory n = entry_words (sorted_entries (entries (take (4 * n) directory))) ++ drop (4 * n) directory

-- the records of a contour, where a record has these words
unfoldable pub contour_by : (ℕ → ℕ → Line → Fate → List ℕ) → List Line → List ℕ
contour_by words rings = ordered_by words rings 0 (numbered_from 0 rings) (contour_fates rings)

-- the records of a band whose lower and upper rings are these, one set after the other
unfoldable pub sorted_by : (ℕ → ℕ → Line → Fate → List ℕ) → List Line → List ℕ
sorted_by words rings = ordered_by words rings 0 (sorted (numbered_from 0 rings)) (band_fates (order_rings (sorted (numbered_from 0 rings))))

-- the first n records hold the counts of rings that are packed, and there is room to work in
pub record Workable (points directory scratch : List ℕ) (n : ℕ) : Type 0 where
  pub countable : Countable points directory n
  pub rings-there : (r : ℕ) → r < n → RingThere points (start_of directory r) (record_count directory r)
  pub room : 4 * n ≤ length scratch

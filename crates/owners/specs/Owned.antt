-- The directory after the classes of a band, and after the owners, are found: one word of each record is set, and every other word is as it was.
-- Assumes nothing.
use Rattle.std.specs.Prelude.{◌≡◌, cond, List, ℕ, ◌+◌, ◌*◌, ◌%◌, ◌≤◌, ◌<◌, eqb, length, get_or}
use Rattle.scope.specs.Contour.{owner_from, owner_word}
use Rattle.scope.specs.Band.{takers}
use Rattle.extents.specs.Records.{record_class, record_ring, record_rings, record_classes}

-- 0 for a polygon and 1 for an interior, by how many other rings take the ring of record r
unfoldable pub class_in : List ℕ → List ℕ → ℕ → ℕ → ℕ
class_in points directory n r = cond (eqb (takers r 0 (record_rings points directory 0 n) (record_ring points directory r) % 2) 0) 0 1

pub record Classed (points directory directory' : List ℕ) (n : ℕ) : Type 0 where
  pub as_long : length directory' ≡ length directory
  pub class-is : (r : ℕ) → r < n → get_or directory' (4 * r + 2) 0 ≡ class_in points directory n r
  pub rest-stays : (i : ℕ) → (i % 4 ≡ 2 → 4 * n ≤ i) → get_or directory' i 0 ≡ get_or directory i 0

-- a polygon owns itself, and any other ring has the first polygon that takes it
unfoldable pub owner_in : List ℕ → List ℕ → ℕ → ℕ → ℕ
owner_in points directory n r =
    cond (eqb (record_class directory r) 0) r
    (owner_word r (owner_from 0 (record_classes directory 0 n) (record_rings points directory 0 n) (record_ring points directory r)))

pub record Owned (points directory directory' : List ℕ) (n : ℕ) : Type 0 where
  pub as_long : length directory' ≡ length directory
  pub owner-is : (r : ℕ) → r < n → get_or directory' (4 * r + 3) 0 ≡ owner_in points directory n r
  pub rest-stays : (i : ℕ) → (i % 4 ≡ 3 → 4 * n ≤ i) → get_or directory' i 0 ≡ get_or directory i 0

-- One word of each record is stored, and every other word of the directory is as it was. Assumes nothing.
use Rattle.std.specs.Prelude.{◌≡◌, List, ℕ, ◌+◌, ◌*◌, ◌%◌, ◌≤◌, ◌<◌, length, get_or}

-- every word but those at an offset within a record is as it was
pub record Beside (offset : ℕ) (start directory : List ℕ) : Type 0 where
  pub as_long : length directory ≡ length start
  pub others : (p : ℕ) → (p % 4 ≡ offset → ⊥) → get_or directory p 0 ≡ get_or start p 0

-- each of the first n records has its word at the offset, and every other word is as it was
pub record Stored (offset : ℕ) (word : ℕ → ℕ) (n : ℕ) (start directory : List ℕ) : Type 0 where
  pub as_long : length directory ≡ length start
  pub word-is : (r : ℕ) → r < n → get_or directory (4 * r + offset) 0 ≡ word r
  pub rest-stays : (p : ℕ) → (p % 4 ≡ offset → 4 * n ≤ p) → get_or directory p 0 ≡ get_or start p 0

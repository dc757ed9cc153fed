-- Records of four words, first point, point count, class and owner, as whole records, each with the area of the ring that its first two words name.
-- Assumes nothing.
use Rattle.std.specs.Prelude.{ℕ, zero, suc, ◌+◌, ◌*◌, List, [], ◌∷◌, ◌++◌, get_or}
use Rattle.scope.specs.Area.{area_words}
use Rattle.measuring.specs.Ringed.{area_in}

-- record k
unfoldable pub spread_record : List ℕ → List ℕ → ℕ → List ℕ
spread_record ps directory k =
    get_or directory (4 * k) 0 ∷ get_or directory (4 * k + 1) 0 ∷ get_or directory (4 * k + 2) 0 ∷ get_or directory (4 * k + 3) 0
    ∷ area_words (area_in ps (get_or directory (4 * k) 0) (get_or directory (4 * k + 1) 0))

-- n records from record k on
unfoldable pub spread_from : List ℕ → List ℕ → ℕ → ℕ → List ℕ
spread_from ps directory k zero = []
spread_from ps directory k (suc n) = spread_record ps directory k ++ spread_from ps directory (suc k) n

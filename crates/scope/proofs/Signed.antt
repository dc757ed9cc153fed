-- Areas as the two words of a record, computed: small ones of either sign, those at the edge of the low word, and the largest that a record may hold.
-- Assumes nothing.
use mathlib.Core.Path.{◌≡◌, refl}
use mathlib.Core.List.{List, [], ◌∷◌, map}
use lib.IntN.{ℤ, pos, negsuc}
use Rattle.scope.specs.Area.{twos_complement, low_word, high_word, area_words}

-- 4, -4, 0, -1, 2^32, -2^32, 2^53 and -2^53
pub areas : List ℤ
areas = pos 4 ∷ negsuc 3 ∷ pos 0 ∷ negsuc 0 ∷ pos 4294967296 ∷ negsuc 4294967295 ∷ pos 9007199254740992 ∷ negsuc 9007199254740991 ∷ []

pub the-words : map area_words areas ≡
    (4 ∷ 0 ∷ [])
    ∷ (4294967292 ∷ 4294967295 ∷ [])
    ∷ (0 ∷ 0 ∷ [])
    ∷ (4294967295 ∷ 4294967295 ∷ [])
    ∷ (0 ∷ 1 ∷ [])
    ∷ (0 ∷ 4294967295 ∷ [])
    ∷ (0 ∷ 2097152 ∷ [])
    ∷ (0 ∷ 4292870144 ∷ [])
    ∷ []
unfolding areas area_words low_word high_word twos_complement
the-words = refl

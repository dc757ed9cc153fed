-- A ring's words: how many they are, from a place on, whether one lies above a limit, and the last point. Assumes nothing.
use mathlib.Core.Path.{◌≡◌, refl}
use mathlib.Core.Bool.{◌||◌}
use mathlib.Core.List.{List, [], ◌∷◌}
use Prim.Native.Nat.{ℕ, suc, ◌+◌, ◌*◌, ◌<◌, ◌≤◌, ◌%◌}
use native.Mathlib.Numerals.{add-one}
use native.Mathlib.Omega.{arith}
use lib.Dec.{ltb}
use lib.ListN.{length, get_or, drop, length-drop}
use lib.Seq.{drop-cons, length-take-le}
use Rattle.scope.specs.Area.{points, last_of, any_above}
use Rattle.scope.specs.GeoJson.{words_in}

-- a ring within the points has two words a point
pub words-in-length : (ps : List ℕ) (first count : ℕ) → 2 * (first + count) ≤ length ps → length (words_in ps first count) ≡ 2 * count
unfolding words_in
words-in-length ps first count enough = length-take-le (2 * count) (drop (2 * first) ps) (simp length-drop (omega arith))

-- a word above the limit is the next one, or stands after it
pub above-next : (limit : ℕ) (ws : List ℕ) (i : ℕ) → i < length ws →
    any_above limit (drop i ws) ≡ ltb limit (get_or ws i 0) || any_above limit (drop (i + 1) ws)
unfolding any_above
above-next limit ws i h = rw (add-one, drop-cons ws i 0)

-- the last point of a point and the words after it
pub last-of : (x y : ℕ) (ws : List ℕ) → length ws % 2 ≡ 0 →
    last_of (record { x = x; y = y }) (points ws) ≡ record { x = get_or (x ∷ y ∷ ws) (length ws) 0; y = get_or (x ∷ y ∷ ws) (suc (length ws)) 0 }
unfolding points last_of
last-of x y [] h = refl
last-of x y (z ∷ []) h = absurd (omega (arith, h))
last-of x y (z ∷ w ∷ ws) h = last-of z w ws (omega arith)

-- The two rules, computed: values below the threshold, at it and above it, both zeros, and infinities; and no value is above where a NaN stands on either side.
-- Assumes nothing.
use mathlib.Core.Path.{◌≡◌, refl}
use mathlib.Core.Bool.{Bool, true, false}
use mathlib.Core.List.{List, [], ◌∷◌, map}
use lib.IntN.{pos}
use lib.Ieee.{Float, nan, inf, fin, lt, le, eq, of_int}
use Rattle.scope.specs.declared.Rule.{Rule}
use Rattle.scope.specs.declared.Rule.TheVariants.{AtLeast, MoreThan}
use Rattle.scope.specs.Terrain.{is_above}
use Rattle.scope.specs.Smoothing.{whole}

-- -∞, -0, 0, 1, 2 and ∞
pub values : List Float
values = inf true ∷ fin true 0 (pos 0) ∷ whole 0 ∷ whole 1 ∷ whole 2 ∷ inf false ∷ []

-- at the thresholds -∞, 0, 1 and ∞
pub tested : Rule → List (List Bool)
tested rule = map (is_above rule (inf true)) values ∷ map (is_above rule (whole 0)) values ∷ map (is_above rule (whole 1)) values ∷ map (is_above rule (inf false)) values ∷ []

pub at-least-these : tested AtLeast ≡
    (true ∷ true ∷ true ∷ true ∷ true ∷ true ∷ [])
    ∷ (false ∷ true ∷ true ∷ true ∷ true ∷ true ∷ [])
    ∷ (false ∷ false ∷ false ∷ true ∷ true ∷ true ∷ [])
    ∷ (false ∷ false ∷ false ∷ false ∷ false ∷ true ∷ [])
    ∷ []
unfolding tested values is_above whole le lt eq of_int
at-least-these = refl

pub more-than-these : tested MoreThan ≡
    (false ∷ true ∷ true ∷ true ∷ true ∷ true ∷ [])
    ∷ (false ∷ false ∷ false ∷ true ∷ true ∷ true ∷ [])
    ∷ (false ∷ false ∷ false ∷ false ∷ true ∷ true ∷ [])
    ∷ (false ∷ false ∷ false ∷ false ∷ false ∷ false ∷ [])
    ∷ []
unfolding tested values is_above whole lt of_int
more-than-these = refl

pub nan-is-not-above : (rule : Rule) (x : Float) → (is_above rule nan x ≡ false) × (is_above rule x nan ≡ false)
unfolding is_above le lt eq
nan-is-not-above AtLeast nan = (refl, refl)
nan-is-not-above AtLeast (inf s) = (refl, refl)
nan-is-not-above AtLeast (fin s m e) = (refl, refl)
nan-is-not-above MoreThan nan = (refl, refl)
nan-is-not-above MoreThan (inf s) = (refl, refl)
nan-is-not-above MoreThan (fin s m e) = (refl, refl)

-- The saddles 5 and 10 are not joined through the middle: each of their strokes cuts off a corner whose sample is above. Computed over the table.
-- Assumes nothing.
use mathlib.Core.Path.{◌≡◌, refl}
use mathlib.Core.Bool.{Bool, true, false, ◌&&◌}
use mathlib.Core.List.{List, [], ◌∷◌}
use Rattle.scope.specs.declared.Side.{Side}
use Rattle.scope.specs.declared.Side.TheVariants.{Left, Right, Top, Bottom}
use Rattle.scope.specs.Cells.{Stroke, ◌⟶◌, number_of, case_table, drawn}

-- the sample in the corner between the stroke's two sides; false where they have no corner in common
corner : Bool → Bool → Bool → Bool → Side → Side → Bool
corner ll lr ur ul Left Left = false
corner ll lr ur ul Left Right = false
corner ll lr ur ul Left Top = ul
corner ll lr ur ul Left Bottom = ll
corner ll lr ur ul Right Left = false
corner ll lr ur ul Right Right = false
corner ll lr ur ul Right Top = ur
corner ll lr ur ul Right Bottom = lr
corner ll lr ur ul Top Left = ul
corner ll lr ur ul Top Right = ur
corner ll lr ur ul Top Top = false
corner ll lr ur ul Top Bottom = false
corner ll lr ur ul Bottom Left = ll
corner ll lr ur ul Bottom Right = lr
corner ll lr ur ul Bottom Top = false
corner ll lr ur ul Bottom Bottom = false

pub cuts_above : Bool → Bool → Bool → Bool → List Stroke → Bool
cuts_above ll lr ur ul [] = true
cuts_above ll lr ur ul ((s ⟶ e) ∷ strokes) = corner ll lr ur ul s e && cuts_above ll lr ur ul strokes

pub saddles-cut-off-what-is-above :
    (cuts_above true false true false (drawn (number_of true false true false)) ≡ true) × (cuts_above false true false true (drawn (number_of false true false true)) ≡ true)
unfolding cuts_above corner drawn case_table number_of
saddles-cut-off-what-is-above = (refl, refl)

-- A side that is met and is not the left is the top. By cases. Assumes nothing.
use mathlib.Core.Path.{◌≡◌, refl}
use mathlib.Core.Bool.{true}
use Rattle.scope.specs.declared.Side.{Side}
use Rattle.scope.specs.declared.Side.TheVariants.{Left, Right, Top, Bottom}
use Rattle.drawing.specs.Values.{is_met}

pub the-other-side-met : (side : Side) → is_met side ≡ true → (side ≡ Left → ⊥) → side ≡ Top
the-other-side-met Top met a = refl
the-other-side-met Left met a = absurd (a refl)
the-other-side-met Right met a = cc
the-other-side-met Bottom met a = cc

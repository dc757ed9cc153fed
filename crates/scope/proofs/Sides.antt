-- Two sides pass the test exactly where they are the same. By cases. Assumes nothing.
use mathlib.Core.Path.{◌≡◌, refl}
use mathlib.Core.Bool.{true}
use Rattle.scope.specs.declared.Side.{Side}
use Rattle.scope.specs.declared.Side.TheVariants.{Left, Right, Top, Bottom}
use Rattle.scope.specs.Cells.{same_side}

pub same-side : (d e : Side) → same_side d e ≡ true → d ≡ e
same-side Left Left h = refl
same-side Right Right h = refl
same-side Top Top h = refl
same-side Bottom Bottom h = refl
same-side d e h = cc

pub a-side-is-itself : (d : Side) → same_side d d ≡ true
a-side-is-itself Left = refl
a-side-is-itself Right = refl
a-side-is-itself Top = refl
a-side-is-itself Bottom = refl

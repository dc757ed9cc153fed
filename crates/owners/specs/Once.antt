-- That a table is filed holds in one way, so the struct of a search can keep it. Assumes nothing.
use Rattle.std.specs.Prelude.{[], ◌∷◌, List, ℕ}
use Rattle.std.specs.Coded.{×_prop, Unit-prop}
use Rattle.std.proofs.Props.{props}
use Rattle.scope.specs.Stitching.{Line}
use Rattle.extents.specs.declared.Ladder.{Ladder}
use Rattle.extents.specs.Points.{Stepping}
use Rattle.extents.specs.Records.{Permutes, Filed}

pub Stepping-prop : (l : Line) → IsProp (Stepping l)
Stepping-prop [] = Unit-prop
Stepping-prop (p ∷ []) = Unit-prop
Stepping-prop (p ∷ q ∷ l) = ×_prop (Prim.hlevel props) (Stepping-prop (q ∷ l))

pub Permutes-prop : (f : ℕ → ℕ) (n : ℕ) → IsProp (Permutes f n)
unfolding Permutes
Permutes-prop f n = Prim.hlevel props

pub Filed-prop : (points directory table : List ℕ) (n : ℕ) (rings chunks : Ladder) → IsProp (Filed points directory table n rings chunks)
Filed-prop points directory table n rings chunks = Prim.hlevel (Stepping-prop, Permutes-prop, props)

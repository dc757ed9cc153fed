-- The code's point as the definitions have it. Assumes nothing.
use Rattle.scope.specs.Cells as cells_of
use Rattle.area.specs.declared.Point.{Point}

-- the point that is meant
abbrev pub meant : Point → cells_of.Point
meant p = record { x = p.x; y = p.y }

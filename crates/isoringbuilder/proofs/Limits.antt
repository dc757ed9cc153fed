-- Within the side limit every number of a build fits its word. Assumes nothing.
use mathlib.Core.List.{List}
use Prim.Native.Nat.{ℕ, suc, ◌+◌, ◌*◌, ◌^◌, ◌≤◌, ◌<◌}
use native.Mathlib.Omega.{arith}
use lib.Ieee.{Float}
use lib.ListN.{length}
use Rattle.scope.specs.declared.Level.{Level}
use Rattle.scope.specs.Limits.{side_limit}
use Rattle.scope.specs.Terrain.{Sheet, above_at, terrain}
use Rattle.scope.specs.Drawing.{segments_of, segment_count, rings_of, ring_count, peak}
use Rattle.laws.proofs.Edges.{Outside}
use Rattle.laws.proofs.Laws.{the-peak-is-low, rings-are-no-more}
use Rattle.machine.specs.Machine.{mark}
use Rattle.grid.specs.Grid.{Sized}
use Rattle.scan.proofs.Samples.{terrain-outside}
use Rattle.scan.proofs.Steps.{segments-are-few}

module _ (values : List Float) (level : Level) (dx dy : ℕ) (sized : Sized (length values) dx dy) where
  abbrev A : Sheet
  A = terrain (above_at level) values dx dy

  pub outside : Outside (terrain (above_at level) values dx dy) dx dy
  outside = terrain-outside (above_at level) values dx dy

  few : segment_count A dx dy ≤ 2 * (side_limit * suc side_limit) + 2 * suc side_limit
  unfolding segment_count segments_of
  few = segments-are-few A outside side_limit dy (suc dx) sized.columns sized.rows (omega arith)

  pub segments-fit : segment_count (terrain (above_at level) values dx dy) dx dy ≤ mark
  unfolding side_limit mark
  segments-fit = omega (arith, few)

  pub points-fit : segment_count (terrain (above_at level) values dx dy) dx dy + ring_count (terrain (above_at level) values dx dy) dx dy < 2 ^ 32
  unfolding side_limit segment_count segments_of ring_count rings_of
  points-fit = omega (arith, few, rings-are-no-more A outside dy (suc dx))

  pub peak-fits : peak (terrain (above_at level) values dx dy) dx dy < 2 ^ 32
  unfolding side_limit
  peak-fits = omega (arith, the-peak-is-low A outside, sized.columns)

  pub columns-fit : 2 * dx < 2 ^ 16
  unfolding side_limit
  columns-fit = omega (arith, sized.columns)

  pub rows_fit : 2 * dy < 2 ^ 16
  unfolding side_limit
  rows_fit = omega (arith, sized.rows)

-- `stitching::draw_changes` meets its contract. The loop's invariant: the run is that after the cells that are seen, and the places of the other active ones
-- are left. Assumes nothing.
use mathlib.Core.Path.{◌≡◌}
use mathlib.Core.List.{List}
use Prim.Native.Nat.{ℕ}
use Rattle.scope.specs.Terrain.{Sheet}
use Rattle.machine.specs.Machine.{Run}
use Rattle.scan.specs.Rows.{sheet_of}
use Rattle.scan.proofs.Rows.{Unseen}
use Rattle.drawing.specs.Values.{run_of}
use Rattle.stitching.specs.Rows.{cells_drawn}
use Rattle.stitching.proofs.draw_changes.Given as goal

-- the run is that after the cells before cell `at`, and the others are left
abbrev pub Seen : Sheet → ℕ → Run → ℕ → ℕ → List ℕ → Run → Type 0
Seen A dx run₀ r c left run = (at : ℕ) × Unseen A r c at left × (run ≡ cells_drawn A dx run₀ r c at)

abbrev pub invariant-loop-j : goal.invariant-loop-j
invariant-loop-j l = Seen (sheet_of l.fn.grid l.fn.level) l.grid.dx (run_of l.initial.lines l.initial.links l.initial.run) l.r l.c l.j-iterator (run_of l.lines l.links l.run)

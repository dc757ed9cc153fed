-- `scan::with_changes` meets its contract. The loop's invariant: the counts are those after the cells that are seen, and the places of the other active ones
-- are left. Assumes nothing.
use mathlib.Core.Path.{◌≡◌}
use mathlib.Core.List.{List}
use Prim.Native.Nat.{ℕ, ◌+◌}
use Rattle.scope.specs.Terrain.{Sheet}
use Rattle.scan.specs.declared.Counts.{Counts}
use Rattle.scan.specs.Rows.{sheet_of}
use Rattle.scan.specs.Scanned.{counts_after}
use Rattle.scan.proofs.Rows.{Unseen}
use Rattle.scan.proofs.with_changes.Given as goal

-- the cells before cell `at` are counted, and the others are left
abbrev pub Seen : Sheet → ℕ → ℕ → ℕ → List ℕ → Counts → Type 0
Seen A dx r c left counts = (at : ℕ) × Unseen A r c at left × (counts ≡ counts_after A dx r (c + at))

abbrev pub invariant-loop-j : goal.invariant-loop-j
invariant-loop-j l = Seen (sheet_of l.fn.grid l.fn.level) l.grid.dx l.r l.c l.j-iterator l.counts

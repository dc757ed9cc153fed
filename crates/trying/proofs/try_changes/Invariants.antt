-- `trying::try_changes` meets its contract. The loop's invariant: what is tried is what the cells that are seen come to, and the places of the other active
-- ones are left. Assumes nothing.
use mathlib.Core.Path.{◌≡◌}
use mathlib.Core.List.{List}
use Prim.Native.Nat.{ℕ}
use Rattle.scope.specs.Terrain.{Sheet}
use Rattle.scan.proofs.Rows.{Unseen}
use Rattle.sweep.specs.Sweep.{between, swept}
use Rattle.trying.specs.Trying.{Tried, cell_tried}
use Rattle.trying.specs.Values.{tried_of}
use Rattle.trying.proofs.try_changes.Given as goal

-- what is tried is what the cells before cell `at` come to, and the others are left
abbrev pub Seen : Sheet → ℕ → Tried → ℕ → List ℕ → Tried → Type 0
Seen A dx t₀ c left t = (at : ℕ) × Unseen A 0 c at left × (t ≡ swept (cell_tried A dx) t₀ c at)

abbrev pub invariant-loop-j : goal.invariant-loop-j
invariant-loop-j l = Seen (between l.fn.upper l.fn.lower) l.dx (tried_of l.initial.words l.initial.trial) l.c l.j-iterator (tried_of l.words l.trial)

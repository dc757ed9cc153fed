-- `giving::give_changes` meets its contract. The loop's invariant: the tables and the counts are those after the cells that are seen, and the places of the
-- other active ones are left. Assumes nothing.
use mathlib.Core.Path.{◌≡◌}
use mathlib.Core.List.{List}
use Prim.Native.Nat.{ℕ}
use Rattle.scope.specs.Terrain.{Sheet}
use Rattle.scan.proofs.Rows.{Unseen}
use Rattle.sweep.specs.Sweep.{between, swept}
use Rattle.giving.specs.Giving.{Given, cell_given}
use Rattle.giving.specs.Values.{given_of}
use Rattle.giving.proofs.give_changes.Given as goal

-- the tables and the counts are those after the cells before cell `at`, and the others are left
abbrev pub Seen : Sheet → ℕ → ℕ → Given → ℕ → List ℕ → Given → Type 0
Seen A dx r g₀ c left g = (at : ℕ) × Unseen A 0 c at left × (g ≡ swept (cell_given A dx r) g₀ c at)

abbrev pub invariant-loop-j : goal.invariant-loop-j
invariant-loop-j l =
    Seen (between l.fn.upper l.fn.lower) l.dx l.r (given_of l.initial.lines l.initial.links l.initial.points l.initial.directory l.initial.play) l.c l.j-iterator
    (given_of l.lines l.links l.points l.directory l.play)

-- The first report: the room, or the lowest refusal that applies. Assumes nothing.
use Rattle.std.specs.Prelude.{List, ℕ, Float, length, Result, Ok, Err}
use Rattle.scope.specs.declared.Level.{Level}
use Rattle.scope.specs.Terrain.{Sheet, above_at, terrain}
use Rattle.scope.specs.Drawing.{segment_count, peak}
use Rattle.grid.specs.Grid.{grid_fit}
use Rattle.scan.specs.declared.FirstReport.{FirstReport}
use Rattle.error.specs.declared.Refusal.{Refusal}

-- S and H of a sheet
unfoldable pub room_of : Sheet → ℕ → ℕ → FirstReport
room_of A dx dy = record { segments = segment_count A dx dy; peak = peak A dx dy }

-- a grid that fits is reported, another refused
unfoldable pub report_for : Result (Unit {0}) Refusal → FirstReport → Result FirstReport Refusal
report_for (Ok _) room = Ok room
report_for (Err refusal) room = Err refusal

unfoldable pub first_report : List Float → Level → ℕ → ℕ → Result FirstReport Refusal
first_report values level dx dy =
    report_for (grid_fit (length values) dx dy) (room_of (terrain (above_at level) values dx dy) dx dy)

-- From the pass and the plotting to the contract of contour_lines: the laws of any build over a pass, with the lines' vertices for the words of its points.
-- Assumes nothing.
use mathlib.Core.Path.{◌≡◌}
use mathlib.Core.Bool.{Bool}
use mathlib.Core.List.{List}
use Prim.Native.Nat.{ℕ}
use native.Mathlib.Omega.{arith}
use lib.Ieee.{Float}
use lib.IntN.{pos}
use Rattle.error.specs.declared.Refusal.{Refusal}
use Rattle.scope.specs.declared.Level.{Level}
use Rattle.scope.specs.Terrain.{Sheet, above_at, terrain}
use Rattle.scope.specs.Drawing.{segment_count, ring_count, rings_of, peak}
use Rattle.scope.specs.Room.{open_words, link_words}
use Rattle.scope.specs.Smoothing.{Placing}
use Rattle.scope.specs.Tables.{line_points, bare_records}
use Rattle.machine.specs.Machine.{Tables}
use Rattle.machine.specs.Walk.{walk_words, walk_measured}
use Rattle.machine.proofs.Built.{measured-found, records-fill-their-room}
use Rattle.packing.specs.Cleared.{cleared}
use Rattle.plotting.specs.Plot.{vertex_at}
use Rattle.plotting.proofs.Laws.{line-points-found, line-points-fill-their-room}
use Rattle.isoringbuilder.specs.Pass.{stitched_tables, Passed}
use Rattle.isoringbuilder.specs.declared.Drawing.{Drawing}
use Rattle.isoringbuilder.proofs.Limits.{outside, segments-fit, peak-fits, points-fit}
use Rattle.isoringbuilder.proofs.Packing.{PackedAs}
use Rattle.isoringbuilder.proofs.Laws.{Done, BuiltAs, build-refused, build-done}
use Rattle.linebuilder.specs.Lines.{Plotted, LinesBuilt}
use Rattle.std.specs.Prelude.{Result, Err}

-- the records with areas
abbrev pub line_records : ℕ → List ℕ → Drawing → List ℕ
line_records dx links d = walk_measured dx links d.head 0 0 (pos 0) d.head d.segments

-- plotting is packing by the lines' vertices
module _ {d : Drawing} {values : List Float} {threshold : Float} {dx dy : ℕ} {smooth : Bool} {q : Placing} {links : List ℕ} {points : List Float} {directory : List ℕ} {answer : Result ℕ Refusal} {points' : List Float} {directory' : List ℕ} where
  pub as-plotted : PackedAs (vertex_at smooth values threshold dx dy q) (line_records dx) d links points directory answer points' directory' → Plotted d values threshold dx dy smooth q links points directory answer points' directory'
  as-plotted k = record { answers = k.answers; points-are = k.points-are; directory-is = k.directory-is }

  of-plotted : Plotted d values threshold dx dy smooth q links points directory answer points' directory' → PackedAs (vertex_at smooth values threshold dx dy q) (line_records dx) d links points directory answer points' directory'
  of-plotted k = record { answers = k.answers; points-are = k.points-are; directory-is = k.directory-is }

module _ (values : List Float) (level : Level) (dx dy : ℕ) (lines links : List ℕ) (smooth : Bool) (q : Placing) where
  abbrev A : Sheet
  A = terrain (above_at level) values dx dy

  abbrev stitched : Tables
  stitched = stitched_tables (terrain (above_at level) values dx dy) dx dy lines links

  lines-built : {points : List Float} {directory : List ℕ} {answer : Result ℕ Refusal} {lines' links' : List ℕ} {points' : List Float} {directory' : List ℕ}
      → BuiltAs values level dx dy lines links (line_points smooth values level.threshold dx dy q (rings_of A dx dy)) (bare_records 0 0 (rings_of A dx dy)) points directory answer lines' links' points' directory'
      → LinesBuilt values level dx dy smooth q lines links points directory answer lines' links' points' directory'
  lines-built b = record { answers = b.answers; lines_are = b.lines_are; links-are = b.links-are; points-are = b.points-are; directory-is = b.directory-is }

  -- a refused pass
  pub lines-refused : (answer : Result Drawing Refusal) (why : Refusal) → answer ≡ Err why → (lines' links' : List ℕ) → Passed values level dx dy lines links answer lines' links' → (points : List Float) (directory : List ℕ)
      → LinesBuilt values level dx dy smooth q lines links points directory (Err why) lines' links' points directory
  lines-refused answer why is lines' links' k points directory =
      lines-built (build-refused values level dx dy lines links answer why is lines' links' k (line_points smooth values level.threshold dx dy q (rings_of A dx dy)) (bare_records 0 0 (rings_of A dx dy)) points directory)

  -- a pass that was done
  module _ (drawing : Drawing) (lines' links' : List ℕ) (done : Done values level dx dy lines links drawing lines' links') where
    vertices-walked : walk_words (vertex_at smooth values level.threshold dx dy q stitched.links) stitched.links stitched.progress.head stitched.progress.head (segment_count A dx dy) ≡ line_points smooth values level.threshold dx dy q (rings_of A dx dy)
    unfolding stitched_tables
    vertices-walked =
        let sized = done.sized in
        line-points-found A (outside values level dx dy sized) lines links done.lines_fit done.links-fit (segments-fit values level dx dy sized) (peak-fits values level dx dy sized) smooth values level.threshold q

    records-walked : line_records dx stitched.links (record { segments = segment_count A dx dy; peak = peak A dx dy; rings = ring_count A dx dy; head = stitched.progress.head }) ≡ bare_records 0 0 (rings_of A dx dy)
    unfolding stitched_tables
    records-walked =
        let sized = done.sized in
        measured-found A (outside values level dx dy sized) lines links done.lines_fit done.links-fit (segments-fit values level dx dy sized) (peak-fits values level dx dy sized) (points-fit values level dx dy sized)

    pub lines-done : (points : List Float) (directory : List ℕ) (answer : Result ℕ Refusal) (points' : List Float) (directory' : List ℕ) → Plotted drawing values level.threshold dx dy smooth q links' points directory answer points' directory'
        → LinesBuilt values level dx dy smooth q lines links points directory answer
        (cleared lines' (open_words dx drawing.peak)) (cleared links' (link_words drawing.segments)) points' directory'
    lines-done points directory answer points' directory' k =
        lines-built
        (build-done values level dx dy lines links drawing lines' links' done (vertex_at smooth values level.threshold dx dy q) (line_points smooth values level.threshold dx dy q (rings_of A dx dy)) vertices-walked
        (line-points-fill-their-room A (outside values level dx dy done.sized) smooth values level.threshold q)
        (line_records dx) (bare_records 0 0 (rings_of A dx dy)) records-walked (omega (arith, records-fill-their-room A (outside values level dx dy done.sized))) points directory answer points' directory' (of-plotted k))

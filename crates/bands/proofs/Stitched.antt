-- What one stitching pass leaves over tables of any content that have room: tables as long as they were, with the words past the need as they were, and
-- document 01's rings, to be read off by one walk. Assumes nothing.
use mathlib.Core.Path.{◌≡◌, sym, ◌∙◌, ap}
use mathlib.Core.List.{List}
use Prim.Native.Nat.{ℕ, suc, ◌+◌, ◌-◌, ◌^◌, ◌≤◌}
use native.Mathlib.Omega.{arith}
use lib.Ieee.{Float}
use lib.ListN.{length, drop, length-drop}
use lib.Seq.{drop-drop}
use Rattle.scope.specs.declared.Level.{Level}
use Rattle.scope.specs.Limits.{side_limit}
use Rattle.scope.specs.Terrain.{Sheet, above_at, terrain}
use Rattle.scope.specs.Drawing.{segments_of, segment_count, ring_count, rings_of, peak}
use Rattle.scope.specs.Room.{open_words, link_words}
use Rattle.scope.specs.Tables.{packed_points, short_of, bare_by}
use Rattle.machine.specs.Machine.{Tables}
use Rattle.machine.specs.Walk.{walk_points, walk_records}
use Rattle.machine.proofs.Built.{rings-found, points-found, records-found, lines-kept, links-kept}
use Rattle.laws.proofs.Laws.{rings-are-no-more}
use Rattle.grid.specs.Grid.{Sized}
use Rattle.scan.proofs.Steps.{segments-are-few}
use Rattle.isoringbuilder.specs.Pass.{stitched_tables}
use Rattle.isoringbuilder.proofs.Limits.{outside, segments-fit, points-fit, peak-fits, columns-fit, rows_fit}

-- lists that agree past a place are as long, and agree past every later place
as_long : (n : ℕ) (old new : List ℕ) → n ≤ length old → n ≤ length new → drop n new ≡ drop n old → length new ≡ length old
as_long n old new h h' e = omega (arith, ap length e, length-drop n old, length-drop n new)

past : (n m : ℕ) (old new : List ℕ) → n ≤ m → drop n new ≡ drop n old → drop m new ≡ drop m old
past n m old new h e =
    let split : m ≡ n + (m - n) = omega arith in
    ap (λ (k : ℕ). drop k new) split ∙ sym (drop-drop (m - n) n new) ∙ ap (drop (m - n)) e ∙ drop-drop (m - n) n old ∙ ap (λ (k : ℕ). drop k old) (sym split)

pub record StitchedOver (A : Sheet) (dx dy : ℕ) (lines links : List ℕ) (t : Tables) : Type 0 where
  pub lines_long : length t.lines ≡ length lines
  pub links-long : length t.links ≡ length links
  pub lines-past : (m : ℕ) → open_words dx (peak A dx dy) ≤ m → drop m t.lines ≡ drop m lines
  pub links-past : (m : ℕ) → link_words (segment_count A dx dy) ≤ m → drop m t.links ≡ drop m links
  pub rings-are : t.progress.rings ≡ ring_count A dx dy
  pub points-are : walk_points dx t.links t.progress.head t.progress.head (segment_count A dx dy) ≡ packed_points (rings_of A dx dy)
  pub records-are : walk_records t.links 0 0 t.progress.head (segment_count A dx dy) ≡ bare_by short_of 0 0 (rings_of A dx dy)

module _ (values : List Float) (level : Level) (dx dy : ℕ) (sized : Sized (length values) dx dy) where
  abbrev A : Sheet
  A = terrain (above_at level) values dx dy

  pub few-segments : segment_count (terrain (above_at level) values dx dy) dx dy ≤ 2 ^ 26
  unfolding segment_count segments_of side_limit
  few-segments = omega (arith, segments-are-few A (outside values level dx dy sized) side_limit dy (suc dx) sized.columns sized.rows (omega arith))

  pub few-rings : ring_count (terrain (above_at level) values dx dy) dx dy ≤ segment_count (terrain (above_at level) values dx dy) dx dy
  unfolding segment_count segments_of ring_count rings_of
  few-rings = rings-are-no-more A (outside values level dx dy sized) dy (suc dx)

  pub stitched-over : (lines links : List ℕ) → open_words dx (peak (terrain (above_at level) values dx dy) dx dy) ≤ length lines → link_words (segment_count (terrain (above_at level) values dx dy) dx dy) ≤ length links
      → StitchedOver (terrain (above_at level) values dx dy) dx dy lines links (stitched_tables (terrain (above_at level) values dx dy) dx dy lines links)
  unfolding stitched_tables
  stitched-over lines links hl hk =
      let out = outside values level dx dy sized in
      let few = segments-fit values level dx dy sized in
      let low = peak-fits values level dx dy sized in
      let kept-lines = lines-kept A out lines links hl hk few low in
      let kept-links = links-kept A out lines links hl hk few low in
      record {
        lines_long = as_long (open_words dx (peak A dx dy)) lines _ hl kept-lines.0 kept-lines.1;
        links-long = as_long (link_words (segment_count A dx dy)) links _ hk kept-links.0 kept-links.1;
        lines-past = λ m h. past (open_words dx (peak A dx dy)) m lines _ h kept-lines.1;
        links-past = λ m h. past (link_words (segment_count A dx dy)) m links _ h kept-links.1;
        rings-are = rings-found A out lines links hl hk few low;
        points-are = points-found A out lines links hl hk few low (columns-fit values level dx dy sized) (rows_fit values level dx dy sized);
        records-are = records-found A out lines links hl hk few low (points-fit values level dx dy sized);
      }

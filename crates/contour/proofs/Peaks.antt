-- The peak in the reports: half the largest number of shared pairs after any cell, of one set or of a band's two. By the laws of the peak and what a report that
-- answers a room has seen. Assumes nothing.
use mathlib.Core.Path.{◌≡◌, ap, subst}
use mathlib.Core.List.{List}
use Prim.Native.Nat.{ℕ, suc, max, ◌+◌, ◌*◌, ◌/◌, ◌≤◌}
use native.Mathlib.Decide.{dec_le}
use native.Mathlib.Omega.{arith}
use lib.Ieee.{Float}
use lib.ListN.{length}
use Rattle.scope.specs.declared.Rule.{Rule}
use Rattle.scope.specs.declared.Level.{Level}
use Rattle.scope.specs.Terrain.{Sheet, above_at, terrain}
use Rattle.scope.specs.Drawing.{segment_count, peak}
use Rattle.scope.specs.Pairs.{pairs_shared_by_cells}
use Rattle.laws.proofs.Edges.{Outside}
use Rattle.laws.proofs.Laws.{the-peak-is-low}
use Rattle.laws.proofs.Shared.{the-peak-is-highest-as-worded, the-peak-is-reached-as-worded}
use Rattle.grid.specs.Grid.{grid_fit}
use Rattle.scan.specs.Report.{room_of, report_for, first_report}
use Rattle.scan.proofs.Samples.{terrain-outside}
use Rattle.isoringbuilder.specs.Answers.{above, SecondReported}
use Rattle.bands.specs.Bands.{level_at, band_fit, lower_sheet, upper_sheet, band_room_of, band_first_report, BandReported}
use Rattle.contour.proofs.Results.{room-given}
use Rattle.contour.proofs.Theorems.{second-worked}
use Rattle.contour.proofs.Bands.{report-worked}
use Rattle.std.specs.Prelude.{Result, Ok, Err}
use Rattle.error.specs.declared.Refusal.{Refusal}
use Rattle.scan.specs.declared.FirstReport.{FirstReport}

-- of numbers after each cell, twice h is the largest, and h is at most (dx + 2) / 2
pub record LargestHalf (dx dy : ℕ) (pairs : ℕ → ℕ → ℕ) (h : ℕ) : Type 0 where
  pub no-cell-has-more : (r c : ℕ) → r ≤ dy → c ≤ dx → pairs r c ≤ 2 * h
  pub a-cell-has-as-many : (r : ℕ) × (c : ℕ) × (r ≤ dy) × (c ≤ dx) × (pairs r c ≡ 2 * h)
  pub is-low : h ≤ (dx + 2) / 2

-- the pairs of a sheet that a finished and an unfinished cell share after each cell, and the more of two sheets
abbrev pub pairs_of : Sheet → ℕ → ℕ → ℕ → ℕ → ℕ
pairs_of A dx dy r c = pairs_shared_by_cells A dx dy r (suc c)

abbrev pub more_pairs : Sheet → Sheet → ℕ → ℕ → ℕ → ℕ → ℕ
more_pairs L U dx dy r c = max (pairs_of L dx dy r c) (pairs_of U dx dy r c)

module _ {dx dy : ℕ} where
  the-peak-is : (A : Sheet) → Outside A dx dy → LargestHalf dx dy (pairs_of A dx dy) (peak A dx dy)
  the-peak-is A out =
      record { no-cell-has-more = the-peak-is-highest-as-worded A out; a-cell-has-as-many = the-peak-is-reached-as-worded A out; is-low = the-peak-is-low A out }

  the-larger-peak-is : (L U : Sheet) → Outside L dx dy → Outside U dx dy → LargestHalf dx dy (more_pairs L U dx dy) (max (peak L dx dy) (peak U dx dy))
  the-larger-peak-is L U out-L out-U = record {
    no-cell-has-more = λ r c hr hc. omega (arith, the-peak-is-highest-as-worded L out-L r c hr hc, the-peak-is-highest-as-worded U out-U r c hr hc);
    a-cell-has-as-many = reached (dec_le (peak L dx dy) (peak U dx dy));
    is-low = omega (arith, the-peak-is-low L out-L, the-peak-is-low U out-U);
  }
    where
      reached : Dec (peak L dx dy ≤ peak U dx dy) → (r : ℕ) × (c : ℕ) × (r ≤ dy) × (c ≤ dx) × (more_pairs L U dx dy r c ≡ 2 * max (peak L dx dy) (peak U dx dy))
      reached (yes lower) =
          let w = the-peak-is-reached-as-worded U out-U in
          (w.0, w.1, w.2, w.3, omega (arith, w.4, the-peak-is-highest-as-worded L out-L w.0 w.1 w.2 w.3))
      reached (no higher) =
          let w = the-peak-is-reached-as-worded L out-L in
          (w.0, w.1, w.2, w.3, omega (arith, w.4, the-peak-is-highest-as-worded U out-U w.0 w.1 w.2 w.3))

-- a first report that answers a room answers the one that was to be given
first-given : (fit : Result (Unit {0}) Refusal) (S H s h : ℕ) → report_for fit (record { segments = S; peak = H }) ≡ Ok (record { segments = s; peak = h }) → H ≡ h
unfolding report_for
first-given (Ok _) S H s h e = let same : ◌≡◌ {A = FirstReport} (record { segments = S; peak = H }) (record { segments = s; peak = h }) = cc in ap (λ (room : FirstReport). room.peak) same
first-given (Err why) S H s h e = absurd (let z : ◌≡◌ {A = ℕ} 0 1 = cc in omega arith)

-- one level
module _ (values : List Float) (level : Level) (dx dy : ℕ) where
  abbrev A : Sheet
  A = terrain (above_at level) values dx dy

  at_level : (h : ℕ) → peak A dx dy ≡ h → LargestHalf dx dy (pairs_of (above values level dx dy) dx dy) h
  at_level h same = subst (LargestHalf dx dy (pairs_of A dx dy)) same (the-peak-is A (terrain-outside (above_at level) values dx dy))

  pub first-report-peak : (s h : ℕ) → first_report values level dx dy ≡ Ok (record { segments = s; peak = h }) → LargestHalf dx dy (pairs_of (above values level dx dy) dx dy) h
  unfolding first_report room_of
  first-report-peak s h e = at_level h (first-given (grid_fit (length values) dx dy) (segment_count A dx dy) (peak A dx dy) s h e)

  pub second-report-peak : (lines links : List ℕ) {lines' links' : List ℕ} (s r h p : ℕ) → SecondReported values level dx dy lines links (Ok (record { segments = s; rings = r; peak = h; points = p })) lines' links'
      → LargestHalf dx dy (pairs_of (above values level dx dy) dx dy) h
  second-report-peak lines links s r h p k = at_level h (room-given (second-worked values level dx dy lines links k)).3

-- a band: the thresholds k and k + 1 of a list
module _ (values thresholds : List Float) (rule : Rule) (k dx dy : ℕ) where
  abbrev L : Sheet
  L = lower_sheet values thresholds rule k dx dy

  abbrev U : Sheet
  U = upper_sheet values thresholds rule k dx dy

  in-band : (h : ℕ) → max (peak L dx dy) (peak U dx dy) ≡ h → LargestHalf dx dy (more_pairs L U dx dy) h
  in-band h same =
      subst (LargestHalf dx dy (more_pairs L U dx dy)) same
      (the-larger-peak-is L U (terrain-outside (above_at (level_at thresholds rule k)) values dx dy) (terrain-outside (above_at (level_at thresholds rule (suc k))) values dx dy))

  pub band-first-report-peak : (s h : ℕ) → band_first_report values thresholds rule k dx dy ≡ Ok (record { segments = s; peak = h })
      → LargestHalf dx dy (more_pairs (lower_sheet values thresholds rule k dx dy) (upper_sheet values thresholds rule k dx dy) dx dy) h
  unfolding band_first_report band_room_of
  band-first-report-peak s h e =
      in-band h (first-given (band_fit (length values) dx dy (length thresholds) k) (max (segment_count L dx dy) (segment_count U dx dy)) (max (peak L dx dy) (peak U dx dy)) s h e)

  pub band-second-report-peak : (lines links : List ℕ) {lines' links' : List ℕ} (s r h p : ℕ) → BandReported values thresholds rule k dx dy lines links (Ok (record { segments = s; rings = r; peak = h; points = p })) lines' links'
      → LargestHalf dx dy (more_pairs (lower_sheet values thresholds rule k dx dy) (upper_sheet values thresholds rule k dx dy) dx dy) h
  band-second-report-peak lines links s r h p b = in-band h (room-given (report-worked b)).3

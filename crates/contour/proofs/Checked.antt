-- What contours and isobands leave is a ring set that number 9 lets pass, and its text has each polygon once, each hole that is not dropped once, and no other
-- ring: a grid's rings are closed, few and within the limits, and only polygons own. Assumes nothing.
use mathlib.Core.Path.{◌≡◌}
use mathlib.Core.Bool.{false}
use mathlib.Core.List.{List}
use Prim.Native.Nat.{ℕ, suc, ◌^◌, ◌≤◌, ◌<◌}
use native.Mathlib.Omega.{arith}
use lib.Ieee.{Float}
use lib.ListN.{length}
use Rattle.scope.specs.declared.Rule.{Rule}
use Rattle.scope.specs.declared.Level.{Level}
use Rattle.scope.specs.Limits.{no_owner}
use Rattle.scope.specs.Drawing.{ring_count, rings_of}
use Rattle.scope.specs.Tables.{written}
use Rattle.scope.specs.GeoJson.{ring_set_refused}
use Rattle.laws.proofs.Conservation.{Each}
use Rattle.readable.proofs.Packed.{Fit}
use Rattle.readable.proofs.Laws.{rings-fit, contour-passes, band-passes}
use Rattle.readable.proofs.Text.{Told, told}
use Rattle.grid.specs.Grid.{Sized, grid_fit}
use Rattle.grid.proofs.Laws.{a-grid-that-fits-is-sized}
use Rattle.isoringbuilder.specs.Answers.{above}
use Rattle.bands.specs.Bands.{level_at, lower_sheet, upper_sheet, BandBuilt}
use Rattle.bands.proofs.Stitched.{few-segments}
use Rattle.contourbuilder.specs.Contours.{ContoursBuilt}
use Rattle.contourbuilder.proofs.Laid.{Drawn}
use Rattle.contourbuilder.proofs.Sizes.{laws, fours, rings-drawn}
use Rattle.contour.proofs.Results.{given}
use Rattle.contour.proofs.Theorems.{contours-constructed}
use Rattle.contour.proofs.Fits.{band-fits-exactly}
use Rattle.contour.proofs.Bands.{isobands-constructed}
use Rattle.std.specs.Prelude.{Result, Ok}
use Rattle.error.specs.declared.Refusal.{Refusal}

-- n rings that the writer takes, each of which stands in the text as often as it should
pub record Checked (points directory : List ℕ) (n : ℕ) : Type 0 where
  pub few : n < 2 ^ 32
  pub passes-nine : ring_set_refused points directory n ≡ false
  pub text-has : Told directory n

checked : (points directory : List ℕ) (n : ℕ) → n < 2 ^ 32 → ring_set_refused points directory n ≡ false → Checked points directory n
unfolding no_owner
checked points directory n few passes = record { few = few; passes-nine = passes; text-has = told points directory n (omega arith) passes }

-- the rings of a grid that fits
module _ (values : List Float) (level : Level) (dx dy : ℕ) (fits : grid_fit (length values) dx dy ≡ Ok tt) where
  sized : Sized (length values) dx dy
  sized = a-grid-that-fits-is-sized (length values) dx dy fits

  pub grid-rings-fit : Each Fit (rings_of (above values level dx dy) dx dy)
  grid-rings-fit = rings-fit dx dy Drawn (λ ring d. (d.few, d.inside)) (rings_of (above values level dx dy) dx dy) (laws values level dx dy sized) (rings-drawn values level dx dy sized)

  pub grid-rings-few : ring_count (above values level dx dy) dx dy ≤ 2 ^ 24
  grid-rings-few = omega (arith, fours values level dx dy sized, few-segments values level dx dy sized)

-- the tables of a contour
module _ (values : List Float) (level : Level) (dx dy : ℕ) (lines links points directory : List ℕ) where
  pub contours-checked : {answer : Result ℕ Refusal} {lines' links' points' directory' : List ℕ} → ContoursBuilt values level dx dy lines links points directory answer lines' links' points' directory'
      → (n : ℕ) → answer ≡ Ok n → Checked points' directory' n
  unfolding written ring_count
  contours-checked {answer} {lines'} {links'} {points'} {directory'} b n is =
      let g = given n is (contours-constructed values level dx dy lines links points directory b) in
      checked points' directory' n (omega (arith, g.rings-are, grid-rings-few values level dx dy g.fits))
      (rw (g.points-are, g.directory-is, ← g.rings-are) (contour-passes (rings_of (above values level dx dy) dx dy) (grid-rings-fit values level dx dy g.fits) _ _))

-- the tables of a band
module _ (values thresholds : List Float) (rule : Rule) (k dx dy : ℕ) (lines links points directory : List ℕ) where
  pub isobands-checked : {answer : Result ℕ Refusal} {lines' links' points' directory' : List ℕ} → BandBuilt values thresholds rule k dx dy lines links points directory answer lines' links' points' directory'
      → (n : ℕ) → answer ≡ Ok n → Checked points' directory' n
  unfolding written ring_count
  isobands-checked {answer} {lines'} {links'} {points'} {directory'} b n is =
      let g = given n is (isobands-constructed b) in
      let fits = ((band-fits-exactly (length values) dx dy (length thresholds) k).1 g.fits).0 in
      checked points' directory' n
      (omega (arith, g.rings-are, grid-rings-few values (level_at thresholds rule k) dx dy fits, grid-rings-few values (level_at thresholds rule (suc k)) dx dy fits))
      (rw (g.points-are, g.directory-is, ← g.rings-are)
      (band-passes (rings_of (lower_sheet values thresholds rule k dx dy) dx dy) (rings_of (upper_sheet values thresholds rule k dx dy) dx dy)
      (grid-rings-fit values (level_at thresholds rule k) dx dy fits) (grid-rings-fit values (level_at thresholds rule (suc k)) dx dy fits) _ _))

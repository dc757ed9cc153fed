-- The text of what contours and isobands leave has each ring once, and its rings run as map viewers want them: the set passes number 9, and so these are laws
-- of `readable`. Assumes nothing.
use mathlib.Core.Path.{◌≡◌}
use mathlib.Core.List.{List}
use Prim.Native.Nat.{ℕ}
use native.Mathlib.Omega.{arith}
use lib.Ieee.{Float}
use Rattle.scope.specs.declared.Rule.{Rule}
use Rattle.scope.specs.declared.Level.{Level}
use Rattle.scope.specs.Limits.{no_owner}
use Rattle.readable.proofs.Pieces.{EachRingOnce, each-ring-once}
use Rattle.readable.proofs.Viewer.{Shown, shown}
use Rattle.bands.specs.Bands.{BandBuilt}
use Rattle.contourbuilder.specs.Contours.{ContoursBuilt}
use Rattle.contour.proofs.Checked.{Checked, contours-checked, isobands-checked}
use Rattle.std.specs.Prelude.{Result, Ok}
use Rattle.error.specs.declared.Refusal.{Refusal}

once : {points directory : List ℕ} {n : ℕ} → Checked points directory n → EachRingOnce points directory n
unfolding no_owner
once {points} {directory} {n} k = each-ring-once points directory n (omega (arith, k.few)) k.passes-nine

seen : {points directory : List ℕ} {n : ℕ} → Checked points directory n → Shown points directory n
seen {points} {directory} {n} k = shown points directory n k.passes-nine

module _ {lines links points directory : List ℕ} {answer : Result ℕ Refusal} {lines' links' points' directory' : List ℕ} {n : ℕ} (is : answer ≡ Ok n) (dx dy : ℕ) where
  pub contours-text-has-each-ring-once : (values : List Float) (level : Level) → ContoursBuilt values level dx dy lines links points directory answer lines' links' points' directory'
      → EachRingOnce points' directory' n
  contours-text-has-each-ring-once values level b = once (contours-checked values level dx dy lines links points directory b n is)

  pub isobands-text-has-each-ring-once : (values thresholds : List Float) (rule : Rule) (k : ℕ) → BandBuilt values thresholds rule k dx dy lines links points directory answer lines' links' points' directory'
      → EachRingOnce points' directory' n
  isobands-text-has-each-ring-once values thresholds rule k b = once (isobands-checked values thresholds rule k dx dy lines links points directory b n is)

  pub contours-are-shown : (values : List Float) (level : Level) → ContoursBuilt values level dx dy lines links points directory answer lines' links' points' directory'
      → Shown points' directory' n
  contours-are-shown values level b = seen (contours-checked values level dx dy lines links points directory b n is)

  pub isobands-are-shown : (values thresholds : List Float) (rule : Rule) (k : ℕ) → BandBuilt values thresholds rule k dx dy lines links points directory answer lines' links' points' directory'
      → Shown points' directory' n
  isobands-are-shown values thresholds rule k b = seen (isobands-checked values thresholds rule k dx dy lines links points directory b n is)

-- What the contract of `read_input` comes to: any two results that meet it coincide, and a terrain that is read has sides within the limit. Assumes nothing.
use Rattle.std.specs.Prelude.{Option, Some, None}
use mathlib.Core.Path.{◌≡◌, refl, ap}
use mathlib.Core.List.{List}
use Prim.Native.Nat.{ℕ, ◌≤◌}
use lib.Ieee.{Float}
use Rattle.scope.specs.Program.{program_side}
use Rattle.reading.specs.Reads.{TerrainRead, InputRead}
use Rattle.reading.specs.declared.Terrain.{Terrain}
use Rattle.reading.proofs.Inputs.{one-reading}

abbrev terrain_of : ℕ → ℕ → Float → Terrain
terrain_of dx dy threshold = record { dx = dx; dy = dy; threshold = threshold }

one-terrain : (t t' : Terrain) → t.dx ≡ t'.dx → t.dy ≡ t'.dy → t.threshold ≡ t'.threshold → t ≡ t'
one-terrain t t' columns rows threshold =
    let same : terrain_of t.dx t.dy t.threshold ≡ terrain_of t'.dx t'.dy t'.threshold = rw (columns, rows, threshold) in
    same

pub one-input-read : (text : List ℕ) (values : List Float) (r r' : Option Terrain) (values₁ values₂ : List Float) →
    InputRead text values r values₁ → InputRead text values r' values₂ → (r ≡ r') × (values₁ ≡ values₂)
unfolding InputRead
one-input-read text values (Some t) (Some t') values₁ values₂ p q =
    let same = one-reading text p.input q.input p.accepted q.accepted in
    (ap Some (one-terrain t t' (cc) (cc) (cc)), cc)
one-input-read text values (Some t) None values₁ values₂ p q = absurd (q.0 p.input p.accepted)
one-input-read text values None (Some t) values₁ values₂ p q = absurd (p.0 q.input q.accepted)
one-input-read text values None None values₁ values₂ p q = (refl, cc)

pub sides-within : (text : List ℕ) (values : List Float) (values' : List Float) (t : Terrain) →
    InputRead text values (Some t) values' → (t.dx ≤ program_side) × (t.dy ≤ program_side)
unfolding InputRead
sides-within text values values' t p =
    let read : TerrainRead text values t.dx t.dy t.threshold values' = p in
    let fits = read.accepted.fits in
    (rw read.dx-is fits.columns, rw read.dy-is fits.rows)

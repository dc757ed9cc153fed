-- Which coordinates smoothing moves, and where to: those that are whole, above 0 and below the side move by their two samples, the others stay. A vertex
-- that is drawn lies between two neighbouring samples, so at most one of its coordinates is whole, and at most one moves. Assumes nothing.
use mathlib.Core.Path.{◌≡◌}
use mathlib.Core.Bool.{true, false, ◌&&◌, and-eq-true_iff}
use mathlib.Core.Logic.{◌↔◌}
use mathlib.Core.List.{List, [], ◌∷◌}
use Prim.Native.Nat.{ℕ, suc, ◌-◌, ◌*◌, ◌/◌, ◌%◌, ◌<◌}
use native.Mathlib.Nat.{le_refl}
use native.Mathlib.Omega.{arith}
use lib.Dec.{eqb, ltb}
use lib.Ieee.{Float}
use borrow.Author.Tests.{eqb-true, ltb-true, eq-eqb, lt-ltb}
use Rattle.scope.specs.Cells.{Point}
use Rattle.scope.specs.Drawing.{rings_of}
use Rattle.scope.specs.Smoothing.{moves, moved, sample_at, real_of, smoothed}
use Rattle.scope.specs.Terrain.{Sheet}
use Rattle.laws.proofs.Conservation.{Each}
use Rattle.laws.proofs.Edges.{Outside}
use Rattle.laws.proofs.Laws.{rings-are-rings}
use Rattle.laws.proofs.Rings.{OddSum}

module _ (side doubled : ℕ) where
  -- what the three tests say
  pub moving : moves side doubled ≡ true → (doubled % 2 ≡ 0) × (0 < doubled) × (doubled < 2 * side)
  unfolding moves
  moving h =
      let both = (and-eq-true_iff (eqb (doubled % 2) 0 && ltb 0 doubled) (ltb doubled (2 * side))).0 h in
      let first = (and-eq-true_iff (eqb (doubled % 2) 0) (ltb 0 doubled)).0 both.0 in
      (eqb-true (doubled % 2) 0 first.0, ltb-true 0 doubled first.1, ltb-true doubled (2 * side) both.1)

  -- "If x is whole and 0 < x < dx": a coordinate moves exactly when it is a whole n with 0 < n < side
  pub what-moves : (moves side doubled ≡ true) ↔ ((n : ℕ) × (doubled ≡ 2 * n) × (0 < n) × (n < side))
  unfolding moves
  what-moves = (
    λ h.
        let w = moving h in
        (doubled / 2, omega (arith, w), omega (arith, w), omega (arith, w)),
    λ w. simp (eq-eqb (doubled % 2) 0 (omega (arith, w)), lt-ltb 0 doubled (omega (arith, w)), lt-ltb doubled (2 * side) (omega (arith, w))),
  )

module _ (values : List Float) (t : Float) (dx dy : ℕ) (p : Point) where
  -- "v0 is sample (xt-1, yt) and x becomes x + (t - v0) / (v1 - v0) - 0.5"
  pub x-moves : moves dx p.x ≡ true →
      (smoothed values t dx dy p).x ≡ moved t (sample_at values dx (p.x / 2 - 1) (p.y / 2)) (sample_at values dx (p.x / 2) (p.y / 2)) (real_of p.x)
  unfolding smoothed
  x-moves h = rw h

  -- "Likewise y with sample (xt, yt-1)"
  pub y-moves : moves dy p.y ≡ true →
      (smoothed values t dx dy p).y ≡ moved t (sample_at values dx (p.x / 2) (p.y / 2 - 1)) (sample_at values dx (p.x / 2) (p.y / 2)) (real_of p.y)
  unfolding smoothed
  y-moves h = rw h

  -- "Other coordinates stay"
  pub x-stays : moves dx p.x ≡ false → (smoothed values t dx dy p).x ≡ real_of p.x
  unfolding smoothed
  x-stays h = rw h

  pub y-stays : moves dy p.y ≡ false → (smoothed values t dx dy p).y ≡ real_of p.y
  unfolding smoothed
  y-stays h = rw h

-- not both coordinates of a vertex move
abbrev pub NotBoth : ℕ → ℕ → Point → Type 0
NotBoth dx dy p = moves dx p.x ≡ true → moves dy p.y ≡ true → ⊥

one-is-odd : (dx dy : ℕ) (p : Point) → OddSum p → NotBoth dx dy p
one-is-odd dx dy p odd h k = omega (arith, (moving dx p.x h).0, (moving dy p.y k).0)

each_of : {X : Type 0} {P Q : X → Type 0} → ((x : X) → P x → Q x) → (xs : List X) → Each P xs → Each Q xs
each_of more [] each = tt
each_of more (x ∷ xs) each = (more x each.0, each_of more xs each.1)

-- of each vertex that is drawn at most one coordinate moves
pub at-most-one-moves : (A : Sheet) {dx dy : ℕ} → Outside A dx dy → Each (Each (NotBoth dx dy)) (rings_of A dx dy)
unfolding rings_of
at-most-one-moves A {dx} {dy} out =
    each_of (λ ring law. each_of (one-is-odd dx dy) ring law.odd-sums) (rings_of A dx dy)
    (rings-are-rings A out dy (suc dx) (le_refl dy) (le_refl (suc dx)))

-- The most that a measure of the open lines comes to after any of the first cells of a row. Assumes nothing.
use mathlib.Core.Path.{◌≡◌, refl, ap}
use mathlib.Core.List.{List}
use Prim.Native.Nat.{ℕ, zero, suc, max, ◌≤◌, ◌<◌}
use native.Mathlib.Decide.{dec_lt}
use native.Mathlib.Omega.{arith}
use Rattle.scope.specs.Terrain.{Sheet}
use Rattle.scope.specs.Stitching.{Line}
use Rattle.scope.specs.Drawing.{along, open_after}

module _ (w : List Line → ℕ) (A : Sheet) (dx r : ℕ) where
  unfoldable pub most_of : ℕ → ℕ
  most_of n = along (λ m c r. max m (w (open_after A dx r (suc c)))) 0 dx 0 r n

  pub most-of-none : most_of 0 ≡ 0
  unfolding most_of along
  most-of-none = refl

  pub most-of-more : (n : ℕ) → most_of (suc n) ≡ max (most_of n) (w (open_after A dx r (suc n)))
  unfolding most_of along
  most-of-more n = refl

  -- no cell comes to more
  pub most-is-no-less : (n c : ℕ) → c < n → w (open_after A dx r (suc c)) ≤ most_of n
  most-is-no-less zero c h = absurd (omega arith)
  most-is-no-less (suc n) c h = by (dec_lt c n) (λ less. most-is-no-less n c less)
    where
      by : Dec (c < n) → (c < n → w (open_after A dx r (suc c)) ≤ most_of n) → w (open_after A dx r (suc c)) ≤ most_of (suc n)
      by (yes q) earlier = omega (arith, earlier q, most-of-more n)
      by (no q) earlier = omega (arith, most-of-more n, ap (λ (k : ℕ). w (open_after A dx r (suc k))) same)
        where
          same : c ≡ n
          same = omega arith

-- the same measure by another name
pub most-alike : (w w' : List Line → ℕ) (A : Sheet) (dx r : ℕ) → ((ls : List Line) → w ls ≡ w' ls) → (n : ℕ) → most_of w A dx r n ≡ most_of w' A dx r n
most-alike w w' A dx r same zero = omega (arith, most-of-none w A dx r, most-of-none w' A dx r)
most-alike w w' A dx r same (suc n) =
    omega (arith, most-of-more w A dx r n, most-of-more w' A dx r n, most-alike w w' A dx r same n, same (open_after A dx r (suc n)))

-- The number of a link fits a word: it is bounded over any limit of the sides, and the bound is computed at the limit there is. Assumes nothing.
use Prim.Native.Nat.{ℕ, suc, ◌+◌, ◌*◌, ◌^◌, ◌≤◌, ◌<◌}
use native.Mathlib.Nat.{mul-le-mul}
use native.Mathlib.Omega.{arith}
use Rattle.scope.specs.Limits.{side_limit}

-- two links for each cell of r whole rows, and for each of one row and a word more
links-are-bounded : (limit dx r : ℕ) → dx ≤ limit → r ≤ limit → 2 * (r * suc dx) + 2 * (dx + 64) ≤ 2 * (limit * suc limit) + 2 * (limit + 64)
links-are-bounded limit dx r hd hr = omega (arith, mul-le-mul {n₁ = r} {m₁ = suc dx} {n₂ = limit} {m₂ = suc limit} hr (omega arith))

pub links-fit : (dx r : ℕ) → dx ≤ side_limit → r ≤ side_limit → 2 * (r * suc dx) + 2 * (dx + 64) < 2 ^ 32
links-fit dx r hd hr = unfold side_limit in omega (arith, links-are-bounded side_limit dx r hd hr)

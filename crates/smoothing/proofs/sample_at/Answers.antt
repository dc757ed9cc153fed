-- `smoothing::sample_at` meets its contract: a sample's place fits a word, and past the values stands none, by its bits. Assumes nothing.
use Prim.Native.Nat.{ℕ, ◌*◌, ◌^◌, ◌≤◌, ◌<◌}
use native.Mathlib.Nat.{mul-le-mul}
use native.Mathlib.Omega.{arith}
use lib.Ieee.{of_bits}
use Rattle.scope.specs.Smoothing.{sample_at}
use Rattle.smoothing.proofs.sample_at.Goals as goal

-- how many samples are in the rows before
rows_before : (y dx : ℕ) → y < 2 ^ 32 → dx < 2 ^ 32 → y * dx ≤ 4294967295 * 4294967295
rows_before y dx h k =
    let rows : y ≤ 4294967295 = omega arith in
    let columns : dx ≤ 4294967295 = omega arith in
    mul-le-mul rows columns

pub overflow_mul-i : goal.overflow_mul-i
overflow_mul-i c = omega (arith, rows_before c.args.y c.args.dx (omega arith) (omega arith))

pub overflow_add-i : goal.overflow_add-i
overflow_add-i c = omega (arith, rows_before c.args.y c.args.dx (omega arith) (omega arith))

pub returns : goal.returns
unfolding sample_at of_bits
returns c = c.value_or.ensures

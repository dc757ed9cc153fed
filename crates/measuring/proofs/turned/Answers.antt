-- `measuring::turned` meets its contract: two wrapping steps add a difference. Assumes nothing.
use Rattle.std.proofs.Common.{ℕ, ◌*◌, ◌^◌, ◌<◌, ◌≤◌, refl, mul-le-mul_left, arith}
use Rattle.scope.specs.Area.{twist}
use Rattle.measuring.specs.Ringed.{Turned}
use Rattle.measuring.proofs.Complement.{wrapped_sum}
use Rattle.measuring.proofs.turned.Goals as goal

-- the bound that both products ask
below : (a b : ℕ) → a < 2 ^ 32 → b < 2 ^ 32 → a * b < 2 ^ 64
below a b ha hb = let p : a * b ≤ a * 4294967295 = mul-le-mul_left a (omega arith) in omega arith

pub overflow_mul-gained : goal.overflow_mul-gained
overflow_mul-gained c = omega (arith, below c.from.result c.from-2.result (omega arith) (omega arith))

pub overflow_mul-lost : goal.overflow_mul-lost
overflow_mul-lost c = omega (arith, below c.from-3.result c.from-4.result (omega arith) (omega arith))

pub returns : goal.returns
unfolding Turned twist
returns c a e =
    let args = c.args in
    let small = below args.x args.next_y (omega arith) (omega arith) in
    rw (c.from.ensures, c.from-2.ensures, c.from-3.ensures, c.from-4.ensures, e)
    (wrapped_sum a (args.y * args.next_x) (args.x * args.next_y) _ _ refl (omega arith) (omega arith))

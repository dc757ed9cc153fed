-- The decimal digits of a number, one at a time: a number below 10 is one digit, and of any other the last digit stands behind the text of the tenth.
-- Assumes nothing.
use mathlib.Core.Path.{◌≡◌, refl}
use mathlib.Core.Bool.{Bool, true, false}
use mathlib.Core.List.{[], ◌∷◌, ◌++◌}
use Prim.Native.Nat.{ℕ, zero, suc, ◌+◌, ◌/◌, ◌%◌, ◌≤◌, ◌<◌}
use native.Mathlib.Omega.{arith}
use lib.Dec.{ltb}
use borrow.Author.Tests.{ltb-false, lt-ltb, le-ltb}
use Rattle.scope.specs.GeoJson.{decimal_by, decimal}

-- more steps than digits change nothing
enough : (d e n : ℕ) → n ≤ d → n ≤ e → decimal_by d (ltb n 10) n ≡ decimal_by e (ltb n 10) n
unfolding decimal_by
enough zero zero n h g = refl
enough zero (suc e) n h g = rw (lt-ltb n 10 (omega arith)) refl
enough (suc d) zero n h g = rw (lt-ltb n 10 (omega arith)) refl
enough (suc d) (suc e) n h g = by (ltb n 10) refl (λ large. enough d e (n / 10) (omega arith) (omega arith))
  where
    by : (b : Bool) → ltb n 10 ≡ b → (10 ≤ n → decimal_by d (ltb (n / 10) 10) (n / 10) ≡ decimal_by e (ltb (n / 10) 10) (n / 10)) →
        decimal_by (suc d) b n ≡ decimal_by (suc e) b n
    by true t fewer = refl
    by false t fewer = rw (fewer (ltb-false n 10 t))

pub one-digit : (n : ℕ) → n < 10 → decimal n ≡ (48 + n) ∷ []
unfolding decimal decimal_by
one-digit zero h = refl
one-digit (suc n) h = rw (lt-ltb (suc n) 10 h)

pub last-digit : (n : ℕ) → 10 ≤ n → decimal n ≡ decimal (n / 10) ++ ((48 + n % 10) ∷ [])
unfolding decimal decimal_by
last-digit zero h = absurd (omega arith)
last-digit (suc n) h = rw (le-ltb (suc n) 10 h, enough n (suc n / 10) (suc n / 10) (omega arith) (omega arith))

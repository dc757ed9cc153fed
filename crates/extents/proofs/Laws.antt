-- What callers cite of extents: apart is a choice of four ways, each of which goes over to an extent inside. Assumes nothing.
use mathlib.Core.Path.{◌≡◌, refl}
use mathlib.Core.Bool.{Bool, true, false, ◌||◌, or-true}
use Prim.Native.Nat.{ℕ, ◌≤◌}
use native.Mathlib.Nat.{le_refl}
use native.Mathlib.Omega.{arith}
use lib.Dec.{ltb}
use borrow.Author.Tests.{ltb-true, lt-ltb}
use Rattle.extents.specs.declared.Extent.{Extent}
use Rattle.extents.specs.Extents.{apart, Inside}

-- a choice that holds still holds where each side still does
either : (a b a' b' : Bool) → (a ≡ true → a' ≡ true) → (b ≡ true → b' ≡ true) → a || b ≡ true → a' || b' ≡ true
either a b a' b' f g e = by a refl
  where
    by : (t : Bool) → a ≡ t → a' || b' ≡ true
    by true first = rw (f first)
    by false first = rw (g (rw first at e)) (or-true a')

-- what ends before something begins, does so where it ends sooner or that begins later
sooner : {a a' b b' : ℕ} → a' ≤ a → b ≤ b' → ltb a b ≡ true → ltb a' b' ≡ true
sooner {a} {a'} {b} {b'} h k e = lt-ltb a' b' (omega (arith, ltb-true a b e))

-- what is inside an extent is apart from what that is apart from
pub inside-apart : {e f : Extent} (query : Extent) → Inside e f → apart f query ≡ true → apart e query ≡ true
unfolding apart
inside-apart query h =
    either _ _ _ _
    (either _ _ _ _
    (either _ _ _ _ (sooner h.right-inside (le_refl _)) (sooner (le_refl _) h.left-inside))
    (sooner h.bottom-inside (le_refl _)))
    (sooner (le_refl _) h.top-inside)

-- an extent inside one that is inside a third
pub inside-trans : {e f g : Extent} → Inside e f → Inside f g → Inside e g
inside-trans h k =
    record { left-inside = omega arith; right-inside = omega arith; top-inside = omega arith; bottom-inside = omega arith }

-- What a fraction that is found by a test says of the test, and one that is not. Assumes nothing.
use Rattle.std.proofs.Common.{◌≡◌, Bool, true, false, cond, Some, None, refl}

module _ {A : Type 0} where
  pub was-found : (b : Bool) (f g : A) → Some f ≡ cond b (Some g) None → (b ≡ true) × (f ≡ g)
  was-found true f g e = (refl, cc)
  was-found false f g e = absurd cc

  pub was-not-found : (b : Bool) (g : A) → None ≡ cond b (Some g) None → b ≡ false
  was-not-found true g e = absurd cc
  was-not-found false g e = refl

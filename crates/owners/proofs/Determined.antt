-- Any two directories that the search for classes may leave are equal, and so are any two that the search for owners may: one word of each record is given by
-- the entry, and every other word is as it was. Assumes nothing.
use mathlib.Core.Path.{◌≡◌}
use mathlib.Core.List.{List}
use Prim.Native.Nat.{ℕ}
use Rattle.extents.proofs.Determined.{one-word-given}
use Rattle.owners.specs.Owned.{class_in, Classed, owner_in, Owned}

module _ {points directory one two : List ℕ} {n : ℕ} where
  pub one-classed : Classed points directory one n → Classed points directory two n → one ≡ two
  one-classed a b =
      one-word-given directory n a.as_long b.as_long 2 (class_in points directory n) a.class-is b.class-is a.rest-stays b.rest-stays

  pub one-owned : Owned points directory one n → Owned points directory two n → one ≡ two
  one-owned a b = one-word-given directory n a.as_long b.as_long 3 (owner_in points directory n) a.owner-is b.owner-is a.rest-stays b.rest-stays

-- What a search finds of a ring stays while what it finds is stored: a class goes by the rings alone, and an owner by the rings and their classes.
-- Assumes nothing.
use Rattle.std.specs.Prelude.{◌≡◌, List, ℕ, zero, suc, ◌*◌, ◌+◌, ◌≤◌, refl}
use Rattle.std.proofs.Common.{arith}
use Rattle.extents.specs.Records.{record_first, record_count, record_class, record_ring, record_rings, record_classes}
use Rattle.owners.specs.Owned.{class_in, owner_in}
use Rattle.owners.specs.Stored.{Beside}

-- the words of the rings are as they were
pub record SameRings (start directory : List ℕ) : Type 0 where
  pub same_first : (r : ℕ) → record_first directory r ≡ record_first start r
  pub same_count : (r : ℕ) → record_count directory r ≡ record_count start r

-- the third and the fourth word are none of the ring's
pub same-rings : {offset : ℕ} {start directory : List ℕ} → 2 ≤ offset → Beside offset start directory → SameRings start directory
unfolding record_first record_count
same-rings high b =
    record { same_first = λ r. b.others (4 * r) (λ q. omega arith); same_count = λ r. b.others (4 * r + 1) (λ q. omega arith) }

module _ {start directory : List ℕ} (points : List ℕ) (same : SameRings start directory) where
  pub ring-stays : (r : ℕ) → record_ring points directory r ≡ record_ring points start r
  unfolding record_ring
  ring-stays r = rw (same.same_first r, same.same_count r)

  rings-stay : (k n : ℕ) → record_rings points directory k n ≡ record_rings points start k n
  unfolding record_rings
  rings-stay k zero = refl
  rings-stay k (suc n) = rw (ring-stays k, rings-stay (suc k) n)

module _ {start directory : List ℕ} (b : Beside 3 start directory) where
  same-class : (r : ℕ) → record_class directory r ≡ record_class start r
  unfolding record_class
  same-class r = b.others (4 * r + 2) (λ q. omega arith)

  classes-stay : (k n : ℕ) → record_classes directory k n ≡ record_classes start k n
  unfolding record_classes
  classes-stay k zero = refl
  classes-stay k (suc n) = rw (same-class k, classes-stay (suc k) n)

module _ (points start directory : List ℕ) where
  pub class-stays : Beside 2 start directory → (n r : ℕ) → class_in points directory n r ≡ class_in points start n r
  unfolding class_in
  class-stays b n r =
      let same : SameRings start directory = same-rings (omega arith) b in
      rw (rings-stay points same 0 n, ring-stays points same r)

  pub owner-stays : Beside 3 start directory → (n r : ℕ) → owner_in points directory n r ≡ owner_in points start n r
  unfolding owner_in
  owner-stays b n r =
      let same : SameRings start directory = same-rings (omega arith) b in
      rw (same-class b r, classes-stay b 0 n, rings-stay points same 0 n, ring-stays points same r)

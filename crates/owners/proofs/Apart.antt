-- What a search passes over: the ring of a number whose extent is apart from where a ring reaches does not take that ring, so it is neither among its takers
-- nor its owner. Assumes nothing.
use mathlib.Core.Path.{◌≡◌, refl, ap}
use mathlib.Core.Bool.{Bool, true, false, not, ◌&&◌}
use mathlib.Core.List.{List}
use Prim.Native.Nat.{ℕ, ◌≤◌, ◌<◌}
use native.Mathlib.Omega.{arith}
use lib.Dec.{eqb}
use Rattle.scope.specs.Contour.{takes}
use Rattle.extents.specs.declared.Extent.{Extent}
use Rattle.extents.specs.declared.Ladder.{Ladder}
use Rattle.extents.specs.Extents.{apart, extent_of, extent_at, reach}
use Rattle.extents.specs.Ladders.{item_extent, NextNear}
use Rattle.extents.specs.Records.{record_ring, record_class, rank_of, Filed}
use Rattle.nearness.proofs.Taking.{apart-is-not-taken}
use Rattle.owners.specs.Searched.{takes_other, may_own}
use Rattle.extents.proofs.Permutes.{taken-below}

-- an extent in a table holds two words of 16 bits for its left and top
item-fits : (table : List ℕ) (l : Ladder) (i : ℕ) → ((item_extent table l i).left ≤ 65535) × ((item_extent table l i).top ≤ 65535)
unfolding item_extent extent_at
item-fits table l i = (omega arith, omega arith)

and-false : (b : Bool) → b && false ≡ false
and-false true = refl
and-false false = refl

module _ {points directory table : List ℕ} {n : ℕ} {rings chunks : Ladder} (f : Filed points directory table n rings chunks) (at : ℕ) where
  far-takes-not : (k : ℕ) → k < n → apart (item_extent table rings k) (reach (extent_of (record_ring points directory at))) ≡ true →
      takes (record_ring points directory (rank_of table n k)) (record_ring points directory at) ≡ false
  unfolding record_ring
  far-takes-not k below far =
      let fits = item-fits table rings k in
      let filed = f.extents-filed k below in
      apart-is-not-taken (record_ring points directory (rank_of table n k)) (record_ring points directory at)
      (f.rings-there.ring-there (rank_of table n k) (taken-below (rank_of table n) n f.ranks-permute k below)).stepping
      (omega (arith, ap (λ (e : Extent). e.left) filed, fits.0))
      (omega (arith, ap (λ (e : Extent). e.top) filed, fits.1))
      (rw filed at far)

  module _ {from found : ℕ} {query : Extent} (near : NextNear table rings from query found)
      (e : query ≡ reach (extent_of (record_ring points directory at))) where
    passed-takes-not : (k : ℕ) → from ≤ k → k < found → takes (record_ring points directory (rank_of table n k)) (record_ring points directory at) ≡ false
    passed-takes-not k after before =
        far-takes-not k (omega (arith, near.not-past, f.rings-counted)) (rw e at (near.apart-before k after before))

    pub passed-is-no-taker : (k : ℕ) → from ≤ k → k < found → takes_other points directory at (rank_of table n k) ≡ false
    unfolding takes_other
    passed-is-no-taker k after before = rw (passed-takes-not k after before) (and-false (not (eqb at (rank_of table n k))))

    pub passed-is-no-owner : (k : ℕ) → from ≤ k → k < found → may_own points directory at (rank_of table n k) ≡ false
    unfolding may_own
    passed-is-no-owner k after before = rw (passed-takes-not k after before) (and-false (eqb (record_class directory (rank_of table n k)) 0))

-- What other crates cite: the tables of a contour and of a band pass number 9, whatever words stand behind them. Both are the records of an order, with fates
-- by classes. Assumes nothing.
use mathlib.Core.Path.{◌≡◌, refl, sym, ◌∙◌, ap}
use mathlib.Core.Bool.{Bool, false}
use mathlib.Core.List.{List, [], ◌∷◌, ◌++◌}
use Prim.Native.Nat.{ℕ, suc, ◌+◌, ◌≤◌}
use native.Mathlib.Omega.{arith}
use lib.ListN.{length, length-append, length-map}
use Rattle.scope.specs.Limits.{coordinate_limit, point_limit}
use Rattle.scope.specs.Stitching.{Line}
use Rattle.scope.specs.Area.{area, positive}
use Rattle.scope.specs.Contour.{fates_by, contour_classes, contour_fates}
use Rattle.scope.specs.Band.{Numbered, band_order, order_rings, classes_from, band_fates}
use Rattle.scope.specs.Tables.{packed_points, ordered_records, contour_records, band_points, band_records}
use Rattle.scope.specs.GeoJson.{ring_set_refused}
use Rattle.laws.proofs.Conservation.{Each}
use Rattle.laws.proofs.Rings.{RingLaw}
use Rattle.readable.proofs.Packed.{Fit}
use Rattle.readable.proofs.Orders.{OrderOf, by_number, by_key}
use Rattle.readable.proofs.Fates.{fates-length, fates-owned}
use Rattle.readable.proofs.Passing.{records-pass}

-- the rings of a grid are fit where it is known of each that its points are few and within the limit
pub rings-fit : (dx dy : ℕ) (Drawn : Line → Type 0)
    → ((ring : Line) → Drawn ring → (length ring ≤ point_limit) × Each (λ p. (p.x ≤ coordinate_limit) × (p.y ≤ coordinate_limit)) ring)
    → (rings : List Line) → Each (RingLaw dx dy) rings → Each Drawn rings → Each Fit rings
rings-fit dx dy Drawn known [] laws drawn = tt
rings-fit dx dy Drawn known (ring ∷ rings) laws drawn = (
  record { is-closed = laws.0.is-closed; four = omega (arith, laws.0.five); few = (known ring drawn.0).0; inside = (known ring drawn.0).1 },
  rings-fit dx dy Drawn known rings laws.1 drawn.1,
)

-- the records of an order by any classes; outers are the rings in that order
classed-pass : {all : List Line} {order : List Numbered} (o : OrderOf all order) → Each Fit all → (classes : List Bool) (outers : List Line)
    → length classes ≡ length outers → length outers ≡ length order → (pp pd : List ℕ)
    → ring_set_refused (packed_points all ++ pp) (ordered_records all 0 order (fates_by classes outers classes outers) ++ pd) (length all) ≡ false
classed-pass o fit classes outers e f pp pd =
    rw o.as_many at
    (records-pass o fit (fates_by classes outers classes outers) (fates-length classes outers classes outers e ∙ f) (fates-owned classes outers e) pp pd)

pub contour-passes : (rings : List Line) → Each Fit rings → (pp pd : List ℕ)
    → ring_set_refused (packed_points rings ++ pp) (contour_records rings ++ pd) (length rings) ≡ false
unfolding contour_records contour_fates contour_classes
contour-passes rings fit pp pd =
    let o = by_number rings in
    classed-pass o fit (contour_classes rings) rings (length-map rings (λ ring. positive (area ring))) (sym o.as_many) pp pd

classes-length : (i : ℕ) (all rings : List Line) → length (classes_from i all rings) ≡ length rings
unfolding classes_from
classes-length i all [] = refl
classes-length i all (ring ∷ rings) = ap suc (classes-length (suc i) all rings)

pub each_append : {X : Type 0} (P : X → Type 0) (xs ys : List X) → Each P xs → Each P ys → Each P (xs ++ ys)
each_append P [] ys ps qs = qs
each_append P (x ∷ xs) ys ps qs = (ps.0, each_append P xs ys ps.1 qs)

pub band-passes : (lower upper : List Line) → Each Fit lower → Each Fit upper → (pp pd : List ℕ)
    → ring_set_refused (band_points lower upper ++ pp) (band_records lower upper ++ pd) (length lower + length upper) ≡ false
unfolding band_points band_records band_fates order_rings
band-passes lower upper low up pp pd =
    let rings = order_rings (band_order lower upper) in
    rw length-append at
    (classed-pass (by_key lower upper) (each_append Fit lower upper low up) (classes_from 0 rings rings) rings (classes-length 0 rings rings)
    (length-map (band_order lower upper) (λ n. n.ring)) pp pd)

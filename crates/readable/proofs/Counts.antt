-- The counts of a contour's records are the rings' points: their sum is the number of all points. Assumes nothing.
use mathlib.Core.Path.{◌≡◌, refl, sym, ◌∙◌, ap}
use mathlib.Core.List.{List, [], ◌∷◌, ◌++◌}
use Prim.Native.Nat.{ℕ, zero, suc, ◌+◌, ◌<◌}
use native.Mathlib.Nat.{le_of_suc-le-suc, not-suc-le-zero}
use native.Mathlib.Omega.{arith}
use lib.ListN.{length, get_or, length-map}
use Rattle.scope.specs.Pairs.{sum_from}
use Rattle.scope.specs.Stitching.{Line}
use Rattle.scope.specs.Area.{area, positive}
use Rattle.scope.specs.Contour.{contour_classes, contour_fates}
use Rattle.scope.specs.Band.{numbered_from}
use Rattle.scope.specs.Tables.{contour_records}
use Rattle.scope.specs.GeoJson.{count_at}
use Rattle.laws.proofs.Total.{total}
use Rattle.laws.proofs.Sums.{sum_agrees}
use Rattle.readable.proofs.Orders.{nobody, OrderOf, by_number}
use Rattle.readable.proofs.Fates.{fates-length}
use Rattle.readable.proofs.Records.{recorded}

-- a sum from one number further on
sum-after : (f : ℕ → ℕ) (i k : ℕ) → sum_from f (suc i) k ≡ sum_from (λ j. f (suc j)) i k
unfolding sum_from
sum-after f i zero = refl
sum-after f i (suc k) = ap (λ (n : ℕ). f (suc i) + n) (sum-after f (suc i) k)

-- a measure of each, by place
sum-of-list : {X : Type 0} (w : X → ℕ) (d : X) (xs : List X) → sum_from (λ i. w (get_or xs i d)) 0 (length xs) ≡ total w xs
unfolding sum_from total
sum-of-list w d [] = refl
sum-of-list w d (x ∷ xs) = omega (arith, sum-after (λ i. w (get_or (x ∷ xs) i d)) 0 (length xs), sum-of-list w d xs)

numbered-ring : (k : ℕ) (rings : List Line) (i : ℕ) → i < length rings → (get_or (numbered_from k rings) i nobody).ring ≡ get_or rings i []
unfolding numbered_from
numbered-ring k [] i h = absurd (not-suc-le-zero h)
numbered-ring k (ring ∷ rings) zero h = refl
numbered-ring k (ring ∷ rings) (suc i) h = numbered-ring (suc k) rings i (le_of_suc-le-suc h)

pub counts-are-points : (rings : List Line) (past : List ℕ) → sum_from (count_at (contour_records rings ++ past)) 0 (length rings) ≡ total length rings
unfolding contour_records contour_fates contour_classes
counts-are-points rings past =
    sum_agrees (count_at (contour_records rings ++ past)) (λ i. length (get_or rings i [])) 0 (length rings) (λ i low high. count i (omega arith)) ∙ sum-of-list length [] rings
  where
    ordered : OrderOf rings (numbered_from 0 rings)
    ordered = by_number rings

    as_many : length (contour_fates rings) ≡ length (numbered_from 0 rings)
    as_many = fates-length (contour_classes rings) rings (contour_classes rings) rings (length-map rings (λ ring. positive (area ring))) ∙ sym ordered.as_many

    count : (i : ℕ) → i < length rings → count_at (contour_records rings ++ past) i ≡ length (get_or rings i [])
    count i h =
        (recorded rings (numbered_from 0 rings) (contour_fates rings) as_many past i (omega (arith, ordered.as_many))).count-is ∙ ap length (numbered-ring 0 rings i h)

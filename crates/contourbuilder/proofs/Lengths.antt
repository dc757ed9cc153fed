-- How many words the points and the records of a contour and of a band are. By induction on the rings. Assumes nothing.
use mathlib.Core.Path.{◌≡◌, refl, sym, ◌∙◌, ap}
use mathlib.Core.Bool.{Bool}
use mathlib.Core.List.{List, [], ◌∷◌, ◌++◌, append_assoc}
use Prim.Native.Nat.{ℕ, suc, ◌+◌, ◌*◌}
use native.Mathlib.Omega.{arith}
use lib.ListN.{length, length-append}
use Rattle.scope.specs.Stitching.{Line}
use Rattle.scope.specs.Contour.{contour_fates, contour_classes, fates_by}
use Rattle.scope.specs.Band.{sort_key, Numbered, numbered_from, sorted, band_order, order_rings, classes_from, band_fates}
use Rattle.sorting.proofs.TwoPasses.{by_length, sorted-is-by}
use Rattle.scope.specs.Tables.{ring_words, packed_points, contour_records, band_records}
use Rattle.spreading.proofs.Laws.{records-length}

pub packed-both : (lower upper : List Line) → packed_points (lower ++ upper) ≡ packed_points lower ++ packed_points upper
unfolding packed_points
packed-both [] upper = refl
packed-both (ring ∷ lower) upper = ap (λ (l : List ℕ). ring_words ring ++ l) (packed-both lower upper) ∙ sym (append_assoc (ring_words ring) (packed_points lower) (packed_points upper))

sorted-length : (ns : List Numbered) → length (sorted ns) ≡ length ns
sorted-length ns = ap length (sorted-is-by ns) ∙ by_length (λ n. sort_key n.ring) ns

numbered-length : (k : ℕ) (rings : List Line) → length (numbered_from k rings) ≡ length rings
unfolding numbered_from
numbered-length k [] = refl
numbered-length k (ring ∷ rings) = ap suc (numbered-length (suc k) rings)

rings-length : (order : List Numbered) → length (order_rings order) ≡ length order
unfolding order_rings
rings-length [] = refl
rings-length (n ∷ ns) = ap suc (rings-length ns)

classes-length : (i : ℕ) (all rings : List Line) → length (classes_from i all rings) ≡ length rings
unfolding classes_from
classes-length i all [] = refl
classes-length i all (ring ∷ rings) = ap suc (classes-length (suc i) all rings)

fates-length : (classes : List Bool) (all : List Line) (cs : List Bool) (rings : List Line) → length cs ≡ length rings → length (fates_by classes all cs rings) ≡ length rings
unfolding fates_by
fates-length classes all [] [] e = refl
fates-length classes all [] (ring ∷ rings) e = absurd (omega arith)
fates-length classes all (c ∷ cs) [] e = absurd (omega arith)
fates-length classes all (c ∷ cs) (ring ∷ rings) e = ap suc (fates-length classes all cs rings (omega arith))

classes-counted : (rings : List Line) → length (contour_classes rings) ≡ length rings
unfolding contour_classes
classes-counted [] = refl
classes-counted (ring ∷ rings) = ap suc (classes-counted rings)

-- as many fates as rings, of a contour and of a band
pub contour-fates-length : (rings : List Line) → length (contour_fates rings) ≡ length (numbered_from 0 rings)
unfolding contour_fates
contour-fates-length rings = fates-length (contour_classes rings) rings (contour_classes rings) rings (classes-counted rings) ∙ sym (numbered-length 0 rings)

pub band-fates-length : (order : List Numbered) → length (band_fates (order_rings order)) ≡ length order
unfolding band_fates
band-fates-length order =
    let rings = order_rings order in
    fates-length (classes_from 0 rings rings) rings (classes_from 0 rings rings) rings (classes-length 0 rings rings) ∙ rings-length order

pub contour-length : (rings : List Line) → length (contour_records rings) ≡ 6 * length rings
unfolding contour_records
contour-length rings =
    records-length rings (numbered_from 0 rings) (contour_fates rings) (contour-fates-length rings) ∙ ap (λ (n : ℕ). 6 * n) (numbered-length 0 rings)

pub band-length : (lower upper : List Line) → length (band_records lower upper) ≡ 6 * (length lower + length upper)
unfolding band_records band_order
band-length lower upper =
    let order = sorted (numbered_from 0 (lower ++ upper)) in
    omega (arith, records-length (lower ++ upper) order (band_fates (order_rings order)) (band-fates-length order), sorted-length (numbered_from 0 (lower ++ upper)), numbered-length 0 (lower ++ upper), length-append lower upper)

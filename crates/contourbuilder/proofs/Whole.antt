-- From the records of a contour or a band without areas to whole ones: the points that each names are its ring's, so spreading them out gives each its ring's
-- area. Assumes nothing.
use mathlib.Core.Path.{◌≡◌, sym, ◌∙◌, ap, ap₂, subst}
use mathlib.Core.Bool.{Bool, true, false}
use mathlib.Core.List.{List}
use Prim.Native.Nat.{ℕ, ◌+◌, ◌*◌, ◌<◌, ◌≤◌}
use native.Mathlib.Omega.{arith}
use lib.ListN.{length, get_or}
use Rattle.scope.specs.Stitching.{Line}
use Rattle.scope.specs.Area.{area}
use Rattle.scope.specs.Contour.{Fate, contour_fates}
use Rattle.scope.specs.Band.{Numbered, numbered_from, sorted, sort_key, order_rings, band_fates}
use Rattle.scope.specs.GeoJson.{words_in}
use Rattle.scope.specs.Tables.{written, short_of, record_of, ordered_by, ordered_records}
use Rattle.extents.specs.Records.{record_count}
use Rattle.measuring.specs.Ringed.{area_in}
use Rattle.measuring.proofs.Complement.{area-within}
use Rattle.spreading.specs.Spread.{spread_from}
use Rattle.spreading.proofs.Laws.{Named, ordered-written}
use Rattle.sorting.proofs.TwoPasses.{sorted-is-by}
use Rattle.noting.specs.Noted.{start_of, counted_ring, Countable}
use Rattle.noting.proofs.Walk.{end-within}
use Rattle.noting.proofs.Rings.{ring-points}
use Rattle.regions.specs.Regions.{counted_rings, contour_by, sorted_by}
use Rattle.regions.proofs.Orders.{nobody, ring-length, first-at, OrderOf, among-at, order-by-number, order-sorted}
use Rattle.contourbuilder.specs.Owning.{records_by}
use Rattle.contourbuilder.proofs.Lengths.{contour-fates-length, band-fates-length}

module _ (points start : List ℕ) (n : ℕ) (countable : Countable points start n) where
  abbrev rings : List Line
  rings = counted_rings points start 0 n

  -- the points that the record of a ring names are the ring's
  counted-named : (m : Numbered) → m.number < n → m.ring ≡ counted_ring points start m.number → Named points rings nobody m
  unfolding counted_ring words_in
  counted-named m within counted =
      let count : length m.ring ≡ record_count start m.number = ap length counted ∙ ring-length points (start_of start m.number) (record_count start m.number) in
      let there : 2 * (start_of start m.number + record_count start m.number) ≤ length points = omega (arith, end-within start m.number n within, countable.points-there) in
      ap₂ (area_in points) (first-at points start n m.number (omega arith)) count
      ∙ area-within points (start_of start m.number) (record_count start m.number) there
      ∙ ap area (ring-points points (start_of start m.number) (record_count start m.number) there ∙ sym counted)

  -- an order of the rings, with any fates
  whole-written : (order : List Numbered) → OrderOf points start n order → (fates : List Fate) → length fates ≡ length order
      → written (spread_from points (written (ordered_by short_of rings 0 order fates) start) 0 n) (written (ordered_by short_of rings 0 order fates) start) ≡ written (ordered_records rings 0 order fates) start
  whole-written order o fates many =
      ap (λ (k : ℕ). written (spread_from points (written (ordered_by short_of rings 0 order fates) start) 0 k) (written (ordered_by short_of rings 0 order fates) start)) (sym o.as_many)
      ∙ ordered-written points rings nobody start order fates many
      (λ r h. let m = among-at points start n order o r (omega (arith, o.as_many)) in counted-named (get_or order r nobody) m.number-within m.ring-counted)

  by_number : OrderOf points start n (numbered_from 0 rings)
  by_number = order-by-number points start n

  by_size : OrderOf points start n (sorted (numbered_from 0 rings))
  by_size = subst (OrderOf points start n) (sym (sorted-is-by (numbered_from 0 rings))) (order-sorted points start (λ m. sort_key m.ring) n (numbered_from 0 rings) by_number)

  pub either-written : (band : Bool) {short directory' : List ℕ} → short ≡ written (records_by short_of band rings) start → directory' ≡ written (spread_from points short 0 n) short
      → directory' ≡ written (records_by record_of band rings) start
  unfolding records_by contour_by sorted_by
  either-written true e f = f ∙ ap (λ (l : List ℕ). written (spread_from points l 0 n) l) e ∙ whole-written (sorted (numbered_from 0 rings)) by_size (band_fates (order_rings (sorted (numbered_from 0 rings)))) (band-fates-length (sorted (numbered_from 0 rings)))
  either-written false e f = f ∙ ap (λ (l : List ℕ). written (spread_from points l 0 n) l) e ∙ whole-written (numbered_from 0 rings) by_number (contour_fates rings) (contour-fates-length rings)

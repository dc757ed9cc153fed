-- The records of fit rings in an order, with fates in which a hole's owner is a polygon or none, pass number 9, whatever words stand behind them. Each test of
-- number 9 fails by what the record says. Assumes nothing.
use mathlib.Core.Path.{◌≡◌, refl, ◌∙◌, ap}
use mathlib.Core.Bool.{Bool, false, and-false}
use mathlib.Core.List.{List, [], ◌++◌}
use Prim.Native.Nat.{ℕ, zero, suc, ◌*◌, ◌≤◌, ◌<◌}
use native.Mathlib.Omega.{arith}
use lib.ListN.{length, get_or, length-append}
use borrow.Author.Tests.{le-ltb, lt-ltb, eq-eqb}
use Rattle.scope.specs.Limits.{coordinate_limit, point_limit, record_stride, no_owner}
use Rattle.scope.specs.Stitching.{Line}
use Rattle.scope.specs.Area.{area, low_word, high_word}
use Rattle.scope.specs.Room.{directory_words}
use Rattle.scope.specs.Contour.{Fate, polygon, hole, dropped, line, class_word, owner_word}
use Rattle.scope.specs.Band.{Numbered}
use Rattle.scope.specs.Tables.{packed_points, ordered_records}
use Rattle.scope.specs.GeoJson.{class_at, owner_at, ring_at, directory_short, range_outside, count_out, coordinate_over, unclosed, area_off, class_out, is_polygon, is_hole, owned_by_another, owned_by_none, record_refused, any_below, ring_set_refused}
use Rattle.laws.proofs.Conservation.{Each}
use Rattle.readable.proofs.Packed.{Fit, none_above, closed-passes}
use Rattle.readable.proofs.Orders.{nobody, Among, OrderOf, each_at}
use Rattle.readable.proofs.Fates.{OwnedBy, PolygonIn}
use Rattle.readable.proofs.Records.{records-length, Recorded, recorded, range-within, words_are, ring-found}

-- the number of a record whose class is 0
abbrev PolygonAt : List ℕ → ℕ → ℕ → Type 0
PolygonAt directory rings i = (i < rings) × (class_at directory i ≡ 0)

-- ---- one record

-- the tests of its class and its owner
record FatePasses (directory : List ℕ) (rings k : ℕ) : Type 0 where
  class : class_out directory k ≡ false
  another : owned_by_another directory k ≡ false
  none : owned_by_none directory rings k ≡ false

fate-passes : (directory : List ℕ) (rings k : ℕ) (fate : Fate) → class_at directory k ≡ class_word fate → owner_at directory k ≡ owner_word k fate
    → OwnedBy (PolygonAt directory rings) fate → FatePasses directory rings k
unfolding class_word owner_word class_out owned_by_another owned_by_none is_polygon is_hole
fate-passes directory rings k polygon c o w = record { class = rw c; another = rw (c, o, eq-eqb k k refl); none = rw c }
fate-passes directory rings k (hole owner) c o w = record { class = rw c; another = rw c; none = rw (c, o, lt-ltb owner rings w.0, w.1) }
fate-passes directory rings k dropped c o w = record { class = rw c; another = rw c; none = rw (c, o, eq-eqb no_owner no_owner refl, and-false) }
fate-passes directory rings k line c o w = absurd w

module _ {all : List Line} {directory : List ℕ} {k : ℕ} {m : Numbered} {fate : Fate} (r : Recorded all directory k m fate) (among : Among all m) (fit : Fit m.ring)
    (past : List ℕ) where
  range-passes : range_outside (packed_points all ++ past) directory k ≡ false
  unfolding range_outside
  range-passes = le-ltb _ _ (range-within r among past)

  count-passes : count_out directory k ≡ false
  unfolding count_out
  count-passes = rw (r.count-is, le-ltb (length m.ring) 4 fit.four, le-ltb point_limit (length m.ring) fit.few)

  coordinates-pass : coordinate_over (packed_points all ++ past) directory k ≡ false
  unfolding coordinate_over
  coordinates-pass = rw (words_are r among past) (none_above coordinate_limit m.ring fit.inside)

  ends-pass : unclosed (ring_at (packed_points all ++ past) directory k) ≡ false
  ends-pass = ap unclosed (ring-found r among past) ∙ closed-passes m.ring fit.is-closed

  area-passes : area_off (packed_points all ++ past) directory k ≡ false
  unfolding area_off
  area-passes =
      rw (r.area-low-is, r.area-high-is, ring-found r among past, eq-eqb (low_word (area m.ring)) _ refl, eq-eqb (high_word (area m.ring)) _ refl)

  record-passes : (rings : ℕ) → OwnedBy (PolygonAt directory rings) fate → record_refused (packed_points all ++ past) directory rings k ≡ false
  unfolding record_refused
  record-passes rings owned =
      let p = fate-passes directory rings k fate r.class-is r.owner-is owned in
      rw (range-passes, count-passes, coordinates-pass, ends-pass, area-passes, p.class, p.another, p.none)

-- ---- all of them

-- where a test fails at each number below n, none passes
none_pass : (test : ℕ → Bool) (n : ℕ) → ((k : ℕ) → k < n → test k ≡ false) → any_below test n ≡ false
unfolding any_below
none_pass test zero f = refl
none_pass test (suc n) f = rw (none_pass test n (λ k h. f k (omega arith)), f n (omega arith))

module _ {all : List Line} {order : List Numbered} (o : OrderOf all order) (fit : Each Fit all) (fates : List Fate) (e : length fates ≡ length order)
    (owned : Each (OwnedBy (PolygonIn fates)) fates) (pp pd : List ℕ) where
  abbrev directory : List ℕ
  directory = ordered_records all 0 order fates ++ pd

  at : (k : ℕ) → k < length order → Recorded all directory k (get_or order k nobody) (get_or fates k line)
  at k h = recorded all order fates e pd k h

  polygon-at : (i : ℕ) → PolygonIn fates i → PolygonAt directory (length order) i
  unfolding class_word
  polygon-at i p =
      let h : i < length order = omega (arith, p.0) in
      (h, (at i h).class-is ∙ ap class_word p.1)

  owned-by-class : (fate : Fate) → OwnedBy (PolygonIn fates) fate → OwnedBy (PolygonAt directory (length order)) fate
  owned-by-class polygon w = tt
  owned-by-class (hole owner) w = polygon-at owner w
  owned-by-class dropped w = tt
  owned-by-class line w = w

  each-passes : (k : ℕ) → k < length order → record_refused (packed_points all ++ pp) directory (length order) k ≡ false
  each-passes k h =
      let among : Among all (get_or order k nobody) = each_at (Among all) order nobody o.all_among k h in
      let ring-fit : Fit (get_or order k nobody).ring = rw among.ring-is at (each_at Fit all [] fit (get_or order k nobody).number among.number-within) in
      record-passes (at k h) among ring-fit pp (length order)
      (owned-by-class (get_or fates k line) (each_at (OwnedBy (PolygonIn fates)) fates line owned k (omega arith)))

  pub records-pass : ring_set_refused (packed_points all ++ pp) (ordered_records all 0 order fates ++ pd) (length order) ≡ false
  unfolding ring_set_refused directory_short directory_words
  records-pass =
      let long : record_stride * length order ≤ length directory = omega (arith, length-append (ordered_records all 0 order fates) pd, records-length all 0 order fates e) in
      rw (le-ltb (length directory) (record_stride * length order) long)
      (none_pass (record_refused (packed_points all ++ pp) directory (length order)) (length order) each-passes)

-- Rings whose points are packed and whose counts stand in a directory are the rings that the directory stands for, and there is room to find their owners.
-- Each law takes the next ring, or its next point, off the front of what is packed. Assumes nothing.
use mathlib.Core.Path.{◌≡◌, refl, sym, ◌∙◌, ap, ap₂, subst}
use mathlib.Core.List.{List, [], ◌∷◌, ◌++◌, append_assoc}
use Prim.Native.Nat.{ℕ, zero, suc, ◌+◌, ◌*◌, ◌^◌, ◌≤◌, ◌<◌}
use native.Mathlib.Nat.{le_of_suc-le-suc, not-suc-le-zero}
use native.Mathlib.Omega.{arith}
use lib.ListN.{length, get_or, length-append}
use lib.Seq.{get_or-append-add, get_or-append_seam}
use Rattle.scope.specs.Limits.{coordinate_limit, point_limit}
use Rattle.scope.specs.Cells.{Point}
use Rattle.scope.specs.Stitching.{Line}
use Rattle.scope.specs.Pairs.{sum_from}
use Rattle.scope.specs.Tables.{ring_words, packed_points, first_point}
use Rattle.laws.proofs.Sums.{sum-last}
use Rattle.laws.proofs.Total.{total}
use Rattle.laws.proofs.Conservation.{Each}
use Rattle.laws.proofs.Rings.{Chain}
use Rattle.extents.specs.Points.{point_in, ring_in, Stepping}
use Rattle.extents.specs.Records.{record_count}
use Rattle.noting.specs.Noted.{start_of, counted_ring}
use Rattle.regions.specs.Regions.{counted_rings, Workable}

-- a point whose words stand behind 2k others is the point of number k
point-behind : (before : List ℕ) (k x y : ℕ) (past : List ℕ) → length before ≡ 2 * k → point_in (before ++ (x ∷ y ∷ past)) k ≡ record { x = x; y = y }
unfolding point_in
point-behind before k x y past h =
    ap₂ (λ (a b : ℕ). record { x = a; y = b })
    (ap (λ (i : ℕ). get_or (before ++ (x ∷ y ∷ past)) i 0) (sym h) ∙ get_or-append_seam before x (y ∷ past) 0)
    (ap (λ (i : ℕ). get_or (before ++ (x ∷ y ∷ past)) i 0) (omega arith) ∙ get_or-append-add before (x ∷ y ∷ past) 1 0)

-- a ring whose words stand behind 2k others is the ring from point k on
ring-behind : (before : List ℕ) (k : ℕ) (l : Line) (past : List ℕ) → length before ≡ 2 * k → ring_in (before ++ (ring_words l ++ past)) k (length l) ≡ l
unfolding ring_in ring_words
ring-behind before k [] past h = refl
ring-behind before k (p ∷ l) past h =
    ap₂ (λ (q : Point) (m : Line). q ∷ m) (point-behind before k p.x p.y (ring_words l ++ past) h)
    (ap (λ (ws : List ℕ). ring_in ws (suc k) (length l)) (sym (append_assoc before (p.x ∷ p.y ∷ []) (ring_words l ++ past)))
    ∙ ring-behind (before ++ (p.x ∷ p.y ∷ [])) (suc k) l past (omega (arith, length-append before (p.x ∷ p.y ∷ []))))

ring-length : (l : Line) → length (ring_words l) ≡ 2 * length l
unfolding ring_words
ring-length [] = refl
ring-length (p ∷ l) = omega (arith, ring-length l)

-- of rings packed behind 2k words, the ring of number r
ring-packed : (before : List ℕ) (k : ℕ) (rings : List Line) (r : ℕ) → length before ≡ 2 * k → r < length rings
    → ring_in (before ++ packed_points rings) (k + first_point rings r) (length (get_or rings r [])) ≡ get_or rings r []
unfolding packed_points first_point
ring-packed before k [] r h hr = absurd (not-suc-le-zero hr)
ring-packed before k (ring ∷ rings) zero h hr =
    ap (λ (i : ℕ). ring_in (before ++ (ring_words ring ++ packed_points rings)) i (length ring)) (omega arith) ∙ ring-behind before k ring (packed_points rings) h
ring-packed before k (ring ∷ rings) (suc r) h hr =
    ap₂ (λ (ws : List ℕ) (i : ℕ). ring_in ws i (length (get_or rings r []))) (sym (append_assoc before (ring_words ring) (packed_points rings))) (omega arith)
    ∙ ring-packed (before ++ ring_words ring) (k + length ring) rings r (omega (arith, length-append before (ring_words ring), ring-length ring)) (le_of_suc-le-suc hr)

-- every packed word is within the limit
words-within : (limit : ℕ) (l : Line) → Each (λ p. (p.x ≤ limit) × (p.y ≤ limit)) l → (past : List ℕ) → ((i : ℕ) → get_or past i 0 ≤ limit) → (i : ℕ) → get_or (ring_words l ++ past) i 0 ≤ limit
unfolding ring_words
words-within limit [] w past ps i = ps i
words-within limit (p ∷ l) w past ps zero = w.0.0
words-within limit (p ∷ l) w past ps (suc zero) = w.0.1
words-within limit (p ∷ l) w past ps (suc (suc i)) = words-within limit l w.1 past ps i

packed-within : (limit : ℕ) (rings : List Line) → Each (Each (λ p. (p.x ≤ limit) × (p.y ≤ limit))) rings → (i : ℕ) → get_or (packed_points rings) i 0 ≤ limit
unfolding packed_points
packed-within limit [] w i = omega arith
packed-within limit (ring ∷ rings) w i = words-within limit ring w.0 (packed_points rings) (packed-within limit rings w.1) i

-- neighbours that differ, as the searches ask it
pub steps : (l : Line) → Chain (λ p q. p ≡ q → ⊥) l → Stepping l
steps [] c = tt
steps (p ∷ []) c = tt
steps (p ∷ q ∷ l) c = (c.0, steps (q ∷ l) c.1)

-- a ring of one of many, and what holds of each ring holds of it
each_at : (P : Line → Type 0) (rings : List Line) (r : ℕ) → Each P rings → r < length rings → P (get_or rings r [])
each_at P [] r e h = absurd (not-suc-le-zero h)
each_at P (ring ∷ rings) zero e h = e.0
each_at P (ring ∷ rings) (suc r) e h = each_at P rings r e.1 (le_of_suc-le-suc h)

-- where a ring begins, and how long all are
first-before : (rings : List Line) (r : ℕ) → r < length rings → first_point rings r + length (get_or rings r []) ≡ first_point rings (suc r)
unfolding first_point
first-before [] r h = absurd (not-suc-le-zero h)
first-before (ring ∷ []) zero h = omega arith
first-before (ring ∷ other ∷ rings) zero h = omega arith
first-before (ring ∷ rings) (suc r) h = omega (arith, first-before rings r (le_of_suc-le-suc h))

first-all : (rings : List Line) → first_point rings (length rings) ≡ total length rings
unfolding first_point total
first-all [] = refl
first-all (ring ∷ rings) = omega (arith, first-all rings)

first_below : (rings : List Line) (r : ℕ) → r ≤ length rings → first_point rings r ≤ total length rings
unfolding first_point total
first_below rings zero h = omega arith
first_below [] (suc r) h = omega arith
first_below (ring ∷ rings) (suc r) h = omega (arith, first_below rings r (le_of_suc-le-suc h))

packed-length : (rings : List Line) → length (packed_points rings) ≡ 2 * total length rings
unfolding packed_points total
packed-length [] = refl
packed-length (ring ∷ rings) = omega (arith, length-append (ring_words ring) (packed_points rings), ring-length ring, packed-length rings)

-- what is asked of each ring
pub record Drawn (ring : Line) : Type 0 where
  pub some : 1 ≤ length ring
  pub few : length ring ≤ point_limit
  pub steps-differ : Stepping ring
  pub inside : Each (λ p. (p.x ≤ coordinate_limit) × (p.y ≤ coordinate_limit)) ring

all-inside : (rings : List Line) → Each Drawn rings → Each (Each (λ p. (p.x ≤ coordinate_limit) × (p.y ≤ coordinate_limit))) rings
all-inside [] d = tt
all-inside (ring ∷ rings) d = (d.0.inside, all-inside rings d.1)

-- the points are the rings packed, and the records have their counts
pub record Laid (rings : List Line) (points directory : List ℕ) : Type 0 where
  pub points-are : points ≡ packed_points rings
  pub records-there : 4 * length rings ≤ length directory
  pub counts-are : (r : ℕ) → r < length rings → record_count directory r ≡ length (get_or rings r [])

module _ {rings : List Line} {points directory : List ℕ} (laid : Laid rings points directory) where
  pub start_is : (r : ℕ) → r ≤ length rings → start_of directory r ≡ first_point rings r
  unfolding start_of sum_from first_point
  start_is zero h = refl
  start_is (suc r) h =
      sum-last (record_count directory) r ∙ omega (arith, start_is r (omega arith), laid.counts-are r h, first-before rings r h)

  ring-in : (r : ℕ) → r < length rings → ring_in points (start_of directory r) (record_count directory r) ≡ get_or rings r []
  ring-in r h =
      ap₂ (λ (ws : List ℕ) (i : ℕ). ring_in ws i (record_count directory r)) laid.points-are (omega (arith, start_is r (omega arith)))
      ∙ ap (ring_in (packed_points rings) (0 + first_point rings r)) (laid.counts-are r h)
      ∙ ring-packed [] 0 rings r refl h

  pub ring-is : (r : ℕ) → r < length rings → counted_ring points directory r ≡ get_or rings r []
  unfolding counted_ring
  ring-is r h = ring-in r h

  -- n rings from ring k on, where the rings before it are passed
  rest-are : (rest : List Line) (k : ℕ) → ((r : ℕ) → r < length rest → counted_ring points directory (k + r) ≡ get_or rest r []) → counted_rings points directory k (length rest) ≡ rest
  unfolding counted_rings
  rest-are [] k e = refl
  rest-are (ring ∷ rest) k e =
      ap₂ (λ (l : Line) (ls : List Line). l ∷ ls) (ap (counted_ring points directory) (omega arith) ∙ e 0 (omega arith))
      (rest-are rest (suc k) (λ r h. ap (counted_ring points directory) (omega arith) ∙ e (suc r) (omega arith)))

  pub rings-are : counted_rings points directory 0 (length rings) ≡ rings
  rings-are = rest-are rings 0 (λ r h. ap (counted_ring points directory) (omega arith) ∙ ring-is r h)

  pub workable : Each Drawn rings → length rings < 2 ^ 32 → total length rings < 2 ^ 32 → (scratch : List ℕ) → 4 * length rings ≤ length scratch → Workable points directory scratch (length rings)
  workable drawn few points-few scratch room = record {
    countable = record {
      records-there = laid.records-there;
      few = few;
      points-there = omega (arith, points-long, all-points);
      points-few = omega (arith, all-points);
      counts-within = λ r h. (omega (arith, laid.counts-are r h, (at r h).some), omega (arith, laid.counts-are r h, (at r h).few));
      coordinates-within = λ i h. omega (arith, words_are i, packed-within coordinate_limit rings insides i);
    };
    rings-there = λ r h. record {
      some = omega (arith, laid.counts-are r h, (at r h).some);
      within = omega (arith, points-long, start_is r (omega arith), laid.counts-are r h, first-before rings r h, first_below rings (suc r) h);
      stepping = subst Stepping (sym (ring-in r h)) (at r h).steps-differ;
    };
    room = room;
  }
    where
      at : (r : ℕ) → r < length rings → Drawn (get_or rings r [])
      at r h = each_at Drawn rings r drawn h

      all-points : start_of directory (length rings) ≡ total length rings
      all-points = start_is (length rings) (omega arith) ∙ first-all rings

      points-long : 2 * total length rings ≤ length points
      points-long = omega (arith, ap length laid.points-are, packed-length rings)

      insides : Each (Each (λ p. (p.x ≤ coordinate_limit) × (p.y ≤ coordinate_limit))) rings
      insides = all-inside rings drawn

      words_are : (i : ℕ) → get_or points i 0 ≡ get_or (packed_points rings) i 0
      words_are i = ap (λ (ws : List ℕ). get_or ws i 0) laid.points-are

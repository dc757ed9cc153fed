-- The owner of a ring, sought among the rings of a set from the first on: those that are not passed yet give the owner that all do; and what the owner that is found
-- shows of the polygons before it. Each law goes by how many rings are left. Assumes nothing.
use mathlib.Core.Path.{◌≡◌, refl, sym, ap, subst, ◌∙◌}
use mathlib.Core.Bool.{Bool, true, false, cond, true≢false, ◌&&◌}
use mathlib.Core.List.{List, [], ◌∷◌}
use Prim.Native.Nat.{ℕ, zero, suc, ◌+◌, ◌-◌, ◌<◌, ◌≤◌}
use native.Mathlib.Decide.{ℕ_discrete}
use native.Mathlib.Nat.{add-zero, zero-add, le_of_suc-le-suc, not-suc-le-zero}
use native.Mathlib.Numerals.{add-one}
use native.Mathlib.Omega.{arith}
use lib.Dec.{ltb}
use lib.ListN.{length, get_or}
use borrow.Author.Tests.{ltb-true}
use Rattle.error.specs.declared.Refusal.TheVariants.{BadRingSet, NotThere}
use Rattle.scope.specs.Stitching.{Line}
use Rattle.scope.specs.Area.{area, positive}
use Rattle.scope.specs.Containment.{Answer, outside, boundary, inside, ring_against, not_outside}
use Rattle.scope.specs.Contour.{Fate, polygon, hole, dropped, line, takes, owner_from, fates_by, contour_classes, contour_fates}
use Rattle.scope.specs.GeoJson.{ring_at, ring_set_refused}
use Rattle.deciding.specs.Decisions.{decision_of, answer_in}
use Rattle.deciding.proofs.Laws.{decision-answers}
use Rattle.explaining.specs.declared.RingFate.{RingFate}
use Rattle.explaining.specs.declared.RingFate.TheVariants as fate-is
use Rattle.explaining.specs.Fates.{rings_from, rings_in, told, hole_told, fate_told, fate_answer, is_polygon_by, AllOutside, Owner, FateFound}
use Rattle.std.specs.Prelude.{Result, Ok, Err}
use Rattle.error.specs.declared.Refusal.{Refusal}

-- ---- document 01's fates, one by one

pub fates-at : (classes : List Bool) (all rings : List Line) (i : ℕ) → i < length rings →
    get_or (fates_by classes all (contour_classes rings) rings) i dropped ≡ cond (positive (area (get_or rings i []))) polygon (owner_from 0 classes all (get_or rings i []))
unfolding fates_by contour_classes
fates-at classes all [] i h = absurd (not-suc-le-zero h)
fates-at classes all (ring ∷ rings) zero h = refl
fates-at classes all (ring ∷ rings) (suc i) h = fates-at classes all rings i (le_of_suc-le-suc h)

told-by : (all : List Line) (ring : Line) (b : Bool) (fate : Fate) → told all ring (cond b polygon fate) ≡ cond b fate-is.Polygon (told all ring fate)
unfolding told
told-by all ring true fate = refl
told-by all ring false fate = refl

-- the owner's decision says whether it takes the ring
pub taken-by : (outer ring : Line) → not_outside (answer_in (decision_of outer ring)) ≡ takes outer ring
unfolding takes
taken-by outer ring = ap not_outside (decision-answers outer ring)

not_taken : (a : Answer) → not_outside a ≡ false → a ≡ outside
unfolding not_outside
not_taken outside e = refl
not_taken boundary e = absurd (true≢false e)
not_taken inside e = absurd (true≢false e)

module _ (ps directory : List ℕ) where
  -- ---- the rings of a set

  rings-at : (n k j : ℕ) → j < n → get_or (rings_from ps directory k n) j [] ≡ ring_at ps directory (k + j)
  unfolding rings_from
  rings-at zero k j h = absurd (omega arith)
  rings-at (suc n) k zero h = rw add-zero
  rings-at (suc n) k (suc j) h = rings-at n (suc k) j (omega arith) ∙ ap (ring_at ps directory) (omega arith)

  rings-counted : (n k : ℕ) → length (rings_from ps directory k n) ≡ n
  unfolding rings_from
  rings-counted zero k = refl
  rings-counted (suc n) k = ap suc (rings-counted n (suc k))

  pub ring_of : {rings i : ℕ} → i < rings → get_or (rings_in ps directory rings) i [] ≡ ring_at ps directory i
  unfolding rings_in
  ring_of {rings} {i} h = rings-at rings 0 i h ∙ ap (ring_at ps directory) (zero-add i)

  module _ (ring : Line) where
    -- the owner among n rings from ring k on
    abbrev owner_among : ℕ → ℕ → Fate
    owner_among k n = owner_from k (contour_classes (rings_from ps directory k n)) (rings_from ps directory k n) ring

    among_next : (k n : ℕ) → owner_among k (suc n) ≡ cond (is_polygon_by ps directory k && takes (ring_at ps directory k) ring) (hole k) (owner_among (suc k) n)
    unfolding owner_from contour_classes rings_from is_polygon_by
    among_next k n = refl

    -- ---- the walk

    pub record Sought (rings k : ℕ) : Type 0 where
      pub left : owner_among 0 rings ≡ owner_among k (rings - k)

    pub sought-begin : (rings : ℕ) → Sought rings 0
    sought-begin rings =
        let all : rings - 0 ≡ rings = omega arith in
        record { left = rw all refl }

    module _ {rings k : ℕ} (s : Sought rings k) where
      sought-next : k < rings → owner_among 0 rings ≡ cond (is_polygon_by ps directory k && takes (ring_at ps directory k) ring) (hole k) (owner_among (k + 1) (rings - (k + 1)))
      sought-next h =
          let e : rings - k ≡ suc (rings - (k + 1)) = omega arith in
          s.left ∙ ap (owner_among k) e ∙ among_next k (rings - (k + 1)) ∙ rw (add-one k) refl

      -- a ring that is no polygon, or that does not take the ring, is passed
      pub not-a-polygon : k < rings → is_polygon_by ps directory k ≡ false → Sought rings (k + 1)
      not-a-polygon h e = record { left = sought-next h ∙ rw e refl }

      pub not-the-owner : k < rings → is_polygon_by ps directory k ≡ true → takes (ring_at ps directory k) ring ≡ false → Sought rings (k + 1)
      not-the-owner h e f = record { left = sought-next h ∙ rw (e, f) refl }

      -- any other is the owner
      pub the-owner : k < rings → is_polygon_by ps directory k ≡ true → takes (ring_at ps directory k) ring ≡ true →
          fate-is.Hole k (decision_of (ring_at ps directory k) ring) ≡ hole_told (rings_in ps directory rings) ring
      unfolding hole_told told rings_in
      the-owner h e f =
          let found : owner_among 0 rings ≡ hole k = sought-next h ∙ rw (e, f) refl in
          sym (ap (told (rings_from ps directory 0 rings) ring) found ∙ ap (λ (l : Line). fate-is.Hole k (decision_of l ring)) (ring_of h))

      pub no-owner : rings ≤ k → fate-is.Dropped ≡ hole_told (rings_in ps directory rings) ring
      unfolding hole_told told rings_in owner_from contour_classes rings_from
      no-owner h =
          let e : rings - k ≡ 0 = omega arith in
          sym (ap (told (rings_from ps directory 0 rings) ring) (s.left ∙ ap (owner_among k) e))

    -- ---- what an owner shows

    abbrev Outsides : ℕ → ℕ → Type 0
    Outsides from to = (j : ℕ) → from ≤ j → j < to → is_polygon_by ps directory j ≡ true → ring_against (ring_at ps directory j) ring ≡ outside

    -- a fate that was sought from ring k to the ring before `end`
    abbrev Shown : ℕ → ℕ → Fate → Type 0
    Shown k end polygon = ⊥
    Shown k end (hole j) = (k ≤ j) × (j < end) × (is_polygon_by ps directory j ≡ true) × (takes (ring_at ps directory j) ring ≡ true) × Outsides k j
    Shown k end dropped = Outsides k end
    Shown k end line = ⊥

    one_more : (k end : ℕ) → (is_polygon_by ps directory k ≡ true → ring_against (ring_at ps directory k) ring ≡ outside) → (to : ℕ) → Outsides (suc k) to → Outsides k to
    one_more k end here to behind j h l p = by (ℕ_discrete j k)
      where
        by : Dec (j ≡ k) → ring_against (ring_at ps directory j) ring ≡ outside
        by (yes e) = rw e (here (rw e at p))
        by (no n) = behind j (omega arith) l p

    shown-more : (k end : ℕ) → (is_polygon_by ps directory k ≡ true → ring_against (ring_at ps directory k) ring ≡ outside) → (fate : Fate) → Shown (suc k) end fate → Shown k end fate
    shown-more k end here polygon s = s
    shown-more k end here (hole j) s = (omega (arith, s.0), s.1, s.2, s.3, one_more k end here j s.4)
    shown-more k end here dropped s = one_more k end here end s
    shown-more k end here line s = s

    shown : (n k end : ℕ) → k + n ≡ end → Shown k end (owner_among k n)
    unfolding owner_from contour_classes rings_from is_polygon_by takes
    shown zero k end e = λ j h l p. absurd (omega arith)
    shown (suc n) k end e = by (is_polygon_by ps directory k) (takes (ring_at ps directory k) ring) refl refl (shown n (suc k) end (omega arith))
      where
        by : (a b : Bool) → is_polygon_by ps directory k ≡ a → takes (ring_at ps directory k) ring ≡ b → Shown (suc k) end (owner_among (suc k) n)
            → Shown k end (cond (a && b) (hole k) (owner_among (suc k) n))
        by true true p t behind = (omega arith, omega arith, p, t, λ j h l q. absurd (omega arith))
        by true false p t behind = shown-more k end (λ q. not_taken _ t) (owner_among (suc k) n) behind
        by false b p t behind = shown-more k end (λ q. absurd (true≢false (sym q ∙ p))) (owner_among (suc k) n) behind

  -- ---- the answer of the call

  module _ (rings i : ℕ) where
    -- what an answer shows
    abbrev Shows : Result RingFate Refusal → Type 0
    Shows (Ok fate-is.Polygon) = Unit {0}
    Shows (Ok (fate-is.Hole k d)) = Owner ps directory rings i k d
    Shows (Ok fate-is.Dropped) = AllOutside ps directory i rings
    Shows (Err why) = Unit {0}

    told-shows : i < rings → (fate : Fate) → Shown (ring_at ps directory i) 0 rings fate → Shows (Ok (told (rings_in ps directory rings) (ring_at ps directory i) fate))
    unfolding told
    told-shows h polygon s = absurd s
    told-shows h (hole k) s = record {
      within = s.1;
      is-polygon = s.2;
      decided = ap (λ (l : Line). decision_of l (ring_at ps directory i)) (ring_of s.1);
      taken = s.3;
      lower-outside = λ j l p. s.4 j (omega arith) l p;
    }
    told-shows h dropped s = λ j l p. s j (omega arith) l p
    told-shows h line s = absurd s

    -- the fate of a ring of the set, polygon or not
    pub fate_of : i < rings → fate_told (rings_in ps directory rings) i ≡ cond (is_polygon_by ps directory i) fate-is.Polygon (hole_told (rings_in ps directory rings) (ring_at ps directory i))
    unfolding fate_told hole_told contour_fates is_polygon_by rings_in
    fate_of h =
        let fates = fates-at (contour_classes (rings_in ps directory rings)) (rings_in ps directory rings) (rings_in ps directory rings) i (rw rings-counted h) in
        rw (fates, ring_of h) (told-by (rings_in ps directory rings) (ring_at ps directory i) (positive (area (ring_at ps directory i))) _)

    shows : Shows (fate_answer ps directory rings i)
    unfolding fate_answer hole_told rings_in
    shows = by (ring_set_refused ps directory rings) (ltb i rings) refl
      where
        polygon-or-not : i < rings → (b : Bool) → Shows (Ok (cond b fate-is.Polygon (hole_told (rings_in ps directory rings) (ring_at ps directory i))))
        polygon-or-not h true = tt
        polygon-or-not h false = told-shows h (owner_among (ring_at ps directory i) 0 rings) (shown (ring_at ps directory i) rings 0 rings (zero-add rings))

        by : (a b : Bool) → ltb i rings ≡ b → Shows (cond a (Err BadRingSet) (cond b (Ok (fate_told (rings_in ps directory rings) i)) (Err NotThere)))
        by true b e = tt
        by false true e = let h = ltb-true i rings e in rw (fate_of h) (polygon-or-not h (is_polygon_by ps directory i))
        by false false e = tt

    pub fate_found : {answer : Result RingFate Refusal} → answer ≡ fate_answer ps directory rings i → FateFound ps directory rings i answer
    fate_found {answer} e = record {
      answers = e;
      of-hole = λ k d f. subst Shows (sym e ∙ f) shows;
      of-dropped = λ f. subst Shows (sym e ∙ f) shows;
    }

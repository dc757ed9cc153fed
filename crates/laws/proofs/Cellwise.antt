-- One cell drawn: the lines stay balanced, no point is marked twice in a role, and the number of open lines changes by the case table.
-- Induction over the cell's strokes; a stroke's sides are used up by it. Assumes nothing.
use mathlib.Core.Path.{◌≡◌, refl, sym, ◌∙◌, ap, subst}
use mathlib.Core.Bool.{Bool, true, false, not, ◌&&◌, false≢true}
use mathlib.Core.List.{List, [], ◌∷◌, ◌++◌, map, append_assoc, append-nil}
use Prim.Native.Nat.{ℕ, suc, ◌+◌, ◌≤◌}
use native.Mathlib.Omega.{arith}
use lib.ListN.{length}
use Rattle.scope.specs.Terrain.{Sheet}
use Rattle.scope.specs.declared.Side.{Side}
use Rattle.scope.specs.declared.Side.TheVariants.{Left, Right, Top, Bottom}
use Rattle.scope.specs.Cells.{same_side, Point, Stroke, ◌⟶◌, Segment, same_point, when, point_of, placed, on_finished, met}
use Rattle.scope.specs.Stitching.{Drawing, nothing, stitch, stitch_all}
use Rattle.laws.proofs.Total.{total, total-append}
use Rattle.laws.proofs.Ends.{and_left, and_right, same-eq}
use Rattle.laws.proofs.Counting.{same, Balanced, Fresh, fewer-or-more, balanced-after}
use Rattle.laws.proofs.Edges.{Outside, ends_on, begins_on, sides_apart}
use Rattle.laws.proofs.Strokes.{Role, begin, finish, other, side_by, leaving, fitting, head-fits, rest-fits, other-side}
use Rattle.laws.proofs.Marks.{point_by, marked, marked-ended, marked-begun, on_side, drawable, point-of-stroke}

-- segments drawn one after the other
pub stitch-append : (d : Drawing) (σs τs : List Segment) → stitch_all d (σs ++ τs) ≡ stitch_all (stitch_all d σs) τs
unfolding stitch_all
stitch-append d [] τs = refl
stitch-append d (σ ∷ σs) τs = stitch-append (stitch d σ) σs τs

-- how many lines are open once they are drawn
unfoldable pub open_count : List Segment → ℕ
open_count σs = length (stitch_all nothing σs).lines

-- what every number of cells leaves
pub record Sound (σs : List Segment) : Type 0 where
  pub balanced : Balanced (stitch_all nothing σs) σs
  pub once : (role : Role) (p : Point) → marked role σs p ≤ 1

pub marked_append : (role : Role) (σs τs : List Segment) (p : Point) → marked role (σs ++ τs) p ≡ marked role σs p + marked role τs p
unfolding marked
marked_append role σs τs p = total-append (λ σ. same p (point_by role σ)) σs τs

-- one more segment
module _ (σs : List Segment) (σ : Segment) (a b : ℕ) (sound : Sound σs) (fresh : Fresh σs σ a b) where
  pub one_more : stitch_all nothing (σs ++ (σ ∷ [])) ≡ stitch (stitch_all nothing σs) σ
  one_more = stitch-append nothing σs (σ ∷ []) ∙ last (stitch_all nothing σs)
    where
      last : (d : Drawing) → stitch_all d (σ ∷ []) ≡ stitch d σ
      last d = unfold stitch_all in refl

  count-after : open_count (σs ++ (σ ∷ [])) + a + b ≡ open_count σs + 1
  unfolding open_count
  count-after = omega (arith, ap (λ (d : Drawing). length d.lines) one_more, fewer-or-more (stitch_all nothing σs) σs σ a b sound.balanced fresh)

  once_after : (role : Role) (p : Point) → marked role σs (point_by role σ) ≡ 0 → marked role (σs ++ (σ ∷ [])) p ≤ 1
  once_after role p unused = by (same_point p (point_by role σ)) refl
    where
      by : (b : Bool) → same_point p (point_by role σ) ≡ b → marked role (σs ++ (σ ∷ [])) p ≤ 1
      by true e = unfold marked total in omega (arith, marked_append role σs (σ ∷ []) p, ap (when 1) e, ap (marked role σs) (same-eq p (point_by role σ) e))
      by false e = unfold marked total in omega (arith, marked_append role σs (σ ∷ []) p, ap (when 1) e, sound.once role p)

  pub sound-after : Sound (σs ++ (σ ∷ []))
  sound-after = record {
    balanced = subst (λ (d : Drawing). Balanced d (σs ++ (σ ∷ []))) (sym one_more) (balanced-after (stitch_all nothing σs) σs σ a b sound.balanced fresh);
    once = by;
  }
    where
      by : (role : Role) (p : Point) → marked role (σs ++ (σ ∷ [])) p ≤ 1
      by begin p = once_after begin p (marked-begun σs σ.from ∙ fresh.not-begun)
      by finish p = once_after finish p (marked-ended σs σ.to ∙ fresh.not-ended)

-- a side cannot be both
exclusive : (a b : Bool) → a && not b ≡ true → b && not a ≡ true → ⊥
exclusive true b h k = false≢true (and_right b false k)
exclusive false b h k = false≢true h

module _ (A : Sheet) {dx dy : ℕ} (out : Outside A dx dy) (c r : ℕ) where
  not-both : (d : Side) → begins_on A c r d ≡ true → ends_on A c r d ≡ true → ⊥
  not-both Left h k = exclusive (A c r) (A c (suc r)) h k
  not-both Right h k = exclusive (A (suc c) (suc r)) (A (suc c) r) h k
  not-both Top h k = exclusive (A (suc c) r) (A c r) h k
  not-both Bottom h k = exclusive (A c (suc r)) (A (suc c) (suc r)) h k

  one-role : (role : Role) (d : Side) → on_side role A c r d ≡ true → on_side (other role) A c r d ≡ true → ⊥
  one-role begin d h k = not-both d h k
  one-role finish d h k = not-both d k h

  pub roles-apart : (role : Role) (d e : Side) → on_side role A c r d ≡ true → on_side (other role) A c r e ≡ true → same_point (point_of c r d) (point_of c r e) ≡ false
  roles-apart role d e h k =
      sides_apart c r d e (drawable A out role c r d h) (drawable A out (other role) c r e k)
      (λ q. one-role role d h (subst (λ (b : Side). on_side (other role) A c r b ≡ true) (sym q) k))

  -- the sides that are still free are as the samples say, and marked only where finished cells share them
  pub record Ready (σs : List Segment) (free : Role → Side → Bool) : Type 0 where
    pub as-sampled : (role : Role) (d : Side) → free role d ≡ true → on_side role A c r d ≡ true
    pub unmarked-side : (role : Role) (d : Side) → free role d ≡ true → marked role σs (point_of c r d) ≡ 0
    pub shared-side : (role : Role) (d : Side) → free role d ≡ true → marked (other role) σs (point_of c r d) ≡ on_finished d

  at_most_one : (d : Side) → on_finished d ≤ 1
  unfolding on_finished
  at_most_one Left = omega arith
  at_most_one Right = omega arith
  at_most_one Top = omega arith
  at_most_one Bottom = omega arith

  module _ (σs : List Segment) (free : Role → Side → Bool) (ready : Ready σs free) (s e : Side) (hs : free begin s ≡ true) (he : free finish e ≡ true) where
    pub fresh : Fresh σs (placed c r (s ⟶ e)) (on_finished s) (on_finished e)
    unfolding placed
    fresh = record {
      apart = roles-apart begin s e (ready.as-sampled begin s hs) (ready.as-sampled finish e he);
      ended-at-start = sym (marked-ended σs (point_of c r s)) ∙ ready.shared-side begin s hs;
      begun-at-end = sym (marked-begun σs (point_of c r e)) ∙ ready.shared-side finish e he;
      not-begun = sym (marked-begun σs (point_of c r s)) ∙ ready.unmarked-side begin s hs;
      not-ended = sym (marked-ended σs (point_of c r e)) ∙ ready.unmarked-side finish e he;
      once-ended = at_most_one s;
      once-begun = at_most_one e;
    }

    side-used : (role : Role) → free role (side_by role (s ⟶ e)) ≡ true
    side-used begin = hs
    side-used finish = he

    more : (role : Role) (p : Point) → marked role (σs ++ (placed c r (s ⟶ e) ∷ [])) p ≡ marked role σs p + same p (point_of c r (side_by role (s ⟶ e)))
    more role p = unfold marked total in omega (arith, marked_append role σs (placed c r (s ⟶ e) ∷ []) p, ap (same p) (point-of-stroke role c r (s ⟶ e)))

    pub ready-after : Ready (σs ++ (placed c r (s ⟶ e) ∷ [])) (leaving free (s ⟶ e))
    ready-after = record {
      as-sampled = λ role d h. ready.as-sampled role d (was_free role d h);
      unmarked-side = λ role d h. omega (arith, more role (point_of c r d), ready.unmarked-side role d (was_free role d h), ap (when 1) (not-it role d h));
      shared-side = λ role d h. omega (arith, more (other role) (point_of c r d), ready.shared-side role d (was_free role d h), ap (when 1) (not-other role d h));
    }
      where
        was_free : (role : Role) (d : Side) → leaving free (s ⟶ e) role d ≡ true → free role d ≡ true
        was_free role d h = and_left (free role d) (not (same_side d (side_by role (s ⟶ e)))) h

        not-it : (role : Role) (d : Side) → leaving free (s ⟶ e) role d ≡ true → same_point (point_of c r d) (point_of c r (side_by role (s ⟶ e))) ≡ false
        not-it role d h =
            sides_apart c r d (side_by role (s ⟶ e)) (drawable A out role c r d (ready.as-sampled role d (was_free role d h)))
            (drawable A out role c r (side_by role (s ⟶ e)) (ready.as-sampled role (side_by role (s ⟶ e)) (side-used role)))
            (other-side d (side_by role (s ⟶ e)) (and_right (free role d) (not (same_side d (side_by role (s ⟶ e)))) h))

        not-other : (role : Role) (d : Side) → leaving free (s ⟶ e) role d ≡ true → same_point (point_of c r d) (point_of c r (side_by (other role) (s ⟶ e))) ≡ false
        not-other role d h =
            roles-apart role d (side_by (other role) (s ⟶ e)) (ready.as-sampled role d (was_free role d h))
            (ready.as-sampled (other role) (side_by (other role) (s ⟶ e)) (side-used (other role)))

  -- the cell's strokes, one after the other
  pub strokes-drawn : (strokes : List Stroke) (σs : List Segment) (free : Role → Side → Bool) → Sound σs → Ready σs free → fitting free strokes ≡ true
      → Sound (σs ++ map (placed c r) strokes) × (open_count (σs ++ map (placed c r) strokes) + met strokes ≡ open_count σs + length strokes)
  unfolding met
  strokes-drawn [] σs free sound ready fits = rw (append-nil σs) (sound, refl)
  strokes-drawn ((s ⟶ e) ∷ strokes) σs free sound ready fits =
      rw (← append_assoc σs (placed c r (s ⟶ e) ∷ []) (map (placed c r) strokes))
      (let f = fresh σs free ready s e (head-fits free (s ⟶ e) strokes fits begin) (head-fits free (s ⟶ e) strokes fits finish) in
      let later = strokes-drawn strokes (σs ++ (placed c r (s ⟶ e) ∷ [])) (leaving free (s ⟶ e))
      (sound-after σs (placed c r (s ⟶ e)) (on_finished s) (on_finished e) sound f)
      (ready-after σs free ready s e (head-fits free (s ⟶ e) strokes fits begin) (head-fits free (s ⟶ e) strokes fits finish))
      (rest-fits free (s ⟶ e) strokes fits) in
      (later.0, omega (arith, later.1, count-after σs (placed c r (s ⟶ e)) (on_finished s) (on_finished e) sound f)))

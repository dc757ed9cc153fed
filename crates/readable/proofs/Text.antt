-- How often a ring stands in the text of a checked set: a polygon once, a hole that is not dropped once, a dropped hole never, and no other ring. A ring is
-- counted among the polygons' numbers, and a hole as often as its owner is. Other crates cite `told`. Assumes nothing.
use mathlib.Core.Path.{◌≡◌, refl, sym, ◌∙◌, ap}
use mathlib.Core.Bool.{Bool, true, false, cond, ◌&&◌}
use mathlib.Core.List.{List, [], ◌∷◌, flat_map}
use mathlib.Core.Logic.{⊎_elim}
use Prim.Native.Nat.{ℕ, zero, suc, ◌+◌, ◌≤◌, ◌<◌}
use native.Mathlib.Nat.{zero-add}
use native.Mathlib.Decide.{ℕ_discrete}
use native.Mathlib.Omega.{arith}
use lib.Dec.{eqb}
use borrow.Author.Tests.{eq-eqb, ne_eqb}
use Rattle.scope.specs.Limits.{no_owner}
use Rattle.scope.specs.Cells.{when}
use Rattle.scope.specs.GeoJson.{class_at, owner_at, is_polygon, is_hole, ring_set_refused, numbers_of, polygon_numbers, is_hole_of, hole_numbers}
use Rattle.laws.proofs.Total.{total, total-append, tally}
use Rattle.ringset.proofs.Laws.{sound}

-- the rings of the text by record number, in the order in which they stand there: each polygon, and behind it its holes
unfoldable pub text_rings : List ℕ → ℕ → List ℕ
text_rings directory rings = flat_map (λ k. k ∷ hole_numbers directory rings k) (polygon_numbers directory rings)

-- how often a number stands in a list
abbrev pub times : ℕ → List ℕ → ℕ
times k ks = total (tally (eqb k)) ks

-- nothing, whether it counts or not
none-of-it : (b : Bool) → when 0 b ≡ 0
none-of-it true = refl
none-of-it false = refl

-- ---- numbers that pass a test

module _ (test : ℕ → Bool) (k : ℕ) where
  -- one number more
  last : (n : ℕ) → times k (numbers_of test (suc n)) ≡ times k (numbers_of test n) + when (when 1 (test n)) (eqb k n)
  unfolding numbers_of total
  last n = omega (arith, total-append (tally (eqb k)) (numbers_of test n) (cond (test n) (n ∷ []) []), by (test n))
    where
      by : (a : Bool) → times k (cond a (n ∷ []) []) ≡ when (when 1 a) (eqb k n)
      by true = omega arith
      by false = sym (none-of-it (eqb k n))

  -- a number from n on does not stand among those below n
  beyond : (n : ℕ) → n ≤ k → times k (numbers_of test n) ≡ 0
  unfolding numbers_of total
  beyond zero h = refl
  beyond (suc n) h = omega (arith, last n, beyond n (omega arith), ap (when (when 1 (test n))) (ne_eqb k n (λ e. omega arith)))

  -- one below n stands there once if it passes
  below : (n : ℕ) → k < n → times k (numbers_of test n) ≡ when 1 (test k)
  below zero h = absurd (omega arith)
  below (suc n) h = by (ℕ_discrete k n) (below n)
    where
      by : Dec (k ≡ n) → (k < n → times k (numbers_of test n) ≡ when 1 (test k)) → times k (numbers_of test (suc n)) ≡ when 1 (test k)
      by (yes e) less = omega (arith, last n, beyond n (omega arith), ap (when (when 1 (test n))) (eq-eqb k n e), ap (λ (m : ℕ). when 1 (test m)) e)
      by (no ne) less = omega (arith, last n, less (omega arith), ap (when (when 1 (test n))) (ne_eqb k n ne))

-- ---- numbers, each followed by others

-- k stands once behind its owner where it is marked, and behind no other; so it stands among all of them as often as it and its owner stand among ps
module _ (k owner : ℕ) (mark : Bool) (behind : ℕ → List ℕ) (stands : (p : ℕ) → times k (behind p) ≡ when 1 (mark && eqb owner p)) where
  shared : (b : Bool) (m : ℕ) → when 1 (mark && b) + when m mark ≡ when (when 1 b + m) mark
  shared b m = by mark
    where
      by : (a : Bool) → when 1 (a && b) + when m a ≡ when (when 1 b + m) a
      by true = refl
      by false = refl

  gathered : (ps : List ℕ) → times k (flat_map (λ p. p ∷ behind p) ps) ≡ times k ps + when (times owner ps) mark
  unfolding flat_map total
  gathered [] = omega (arith, none-of-it mark)
  gathered (p ∷ ps) =
      omega (arith, total-append (tally (eqb k)) (behind p) (flat_map (λ p. p ∷ behind p) ps), stands p, gathered ps, shared (eqb owner p) (times owner ps))

-- ---- the rings of a text

module _ (directory : List ℕ) (rings k : ℕ) where
  -- no ring but those stated
  pub no_other : rings ≤ k → times k (text_rings directory rings) ≡ 0
  unfolding text_rings polygon_numbers hole_numbers
  no_other h =
      omega (arith, gathered k 0 false (hole_numbers directory rings) (λ p. beyond (is_hole_of directory p) k rings h) (polygon_numbers directory rings), beyond (is_polygon directory) k rings h)

  module _ (h : k < rings) where
    ring-times : times k (text_rings directory rings)
        ≡ when 1 (is_polygon directory k) + when (times (owner_at directory k) (polygon_numbers directory rings)) (is_hole directory k)
    unfolding text_rings polygon_numbers hole_numbers is_hole_of
    ring-times =
        gathered k (owner_at directory k) (is_hole directory k) (hole_numbers directory rings) (λ p. below (is_hole_of directory p) k rings h) (polygon_numbers directory rings)
        ∙ ap (λ (m : ℕ). m + when (times (owner_at directory k) (polygon_numbers directory rings)) (is_hole directory k)) (below (is_polygon directory) k rings h)

    pub polygon-once : class_at directory k ≡ 0 → times k (text_rings directory rings) ≡ 1
    unfolding is_polygon is_hole
    polygon-once c = ring-times ∙ rw c

    hole-times : class_at directory k ≡ 1 → times k (text_rings directory rings) ≡ times (owner_at directory k) (polygon_numbers directory rings)
    unfolding is_polygon is_hole
    hole-times c = ring-times ∙ rw (c, zero-add)

    pub hole-once : class_at directory k ≡ 1 → owner_at directory k < rings → class_at directory (owner_at directory k) ≡ 0 → times k (text_rings directory rings) ≡ 1
    unfolding polygon_numbers is_polygon
    hole-once c o p = hole-times c ∙ below (is_polygon directory) (owner_at directory k) rings o ∙ rw p

    pub dropped-never : class_at directory k ≡ 1 → rings ≤ owner_at directory k → times k (text_rings directory rings) ≡ 0
    unfolding polygon_numbers
    dropped-never c o = hole-times c ∙ beyond (is_polygon directory) (owner_at directory k) rings o

-- what a text has of the rings of its set
pub record Told (directory : List ℕ) (rings : ℕ) : Type 0 where
  pub polygons-once : (k : ℕ) → k < rings → class_at directory k ≡ 0 → times k (text_rings directory rings) ≡ 1
  pub holes-once : (k : ℕ) → k < rings → class_at directory k ≡ 1 → (owner_at directory k ≡ no_owner → ⊥) → times k (text_rings directory rings) ≡ 1
  pub dropped-never : (k : ℕ) → k < rings → class_at directory k ≡ 1 → owner_at directory k ≡ no_owner → times k (text_rings directory rings) ≡ 0
  pub no-others : (k : ℕ) → rings ≤ k → times k (text_rings directory rings) ≡ 0

pub told : (ps directory : List ℕ) (rings : ℕ) → rings ≤ no_owner → ring_set_refused ps directory rings ≡ false → Told directory rings
told ps directory rings few e = record {
  polygons-once = λ k h c. polygon-once directory rings k h c;
  holes-once = λ k h c o. ⊎_elim (λ d. absurd (o d)) (λ p. hole-once directory rings k h c p.0 p.1) (((sound ps directory rings e).at k h).hole c);
  dropped-never = λ k h c o. dropped-never directory rings k h c (omega arith);
  no-others = λ k h. no_other directory rings k h;
}

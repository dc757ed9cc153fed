-- Words behind a ring set do not matter: the text of a set that passes number 9 is the same, whatever stands behind its points and its records. Every record
-- that the text asks for is among those stated, and every range lies within the points. Assumes nothing.
use mathlib.Core.Path.{◌≡◌, refl, sym, ◌∙◌, ap, ap₂}
use mathlib.Core.Bool.{Bool, true, false, cond}
use mathlib.Core.List.{List, [], ◌∷◌, ◌++◌, map, map-append}
use Prim.Native.Nat.{ℕ, zero, suc, ◌+◌, ◌*◌, ◌<◌}
use native.Mathlib.Nat.{add-zero}
use native.Mathlib.Omega.{arith}
use lib.ListN.{get_or, drop, length-drop, get_or-append}
use lib.Seq.{take-append-le, drop-append-le}
use Rattle.scope.specs.Limits.{record_stride}
use Rattle.scope.specs.Area.{points}
use Rattle.scope.specs.GeoJson.{first_at, count_at, class_at, owner_at, words_in, ring_words_at, ring_at, is_polygon, is_hole, joined, bracketed, ring_text, written_at, numbers_of, polygon_numbers, is_hole_of, hole_numbers, polygon_text, opening, geo_json_text}
use Rattle.ringset.proofs.Laws.{Sound}

-- ---- numbers below n

numbers-same : (f g : ℕ → Bool) (n : ℕ) → ((k : ℕ) → k < n → f k ≡ g k) → numbers_of f n ≡ numbers_of g n
unfolding numbers_of
numbers-same f g zero same = refl
numbers-same f g (suc n) same = rw (numbers-same f g n (λ k h. same k (omega arith)), same n (omega arith))

texts-same : (test : ℕ → Bool) (f g : ℕ → List ℕ) (n : ℕ) → ((k : ℕ) → k < n → f k ≡ g k) → map f (numbers_of test n) ≡ map g (numbers_of test n)
unfolding numbers_of
texts-same test f g zero same = refl
texts-same test f g (suc n) same =
    map-append f (numbers_of test n) (cond (test n) (n ∷ []) [])
    ∙ ap₂ ◌++◌ (texts-same test f g n (λ k h. same k (omega arith))) (last (test n) (same n (omega arith)))
    ∙ sym (map-append g (numbers_of test n) (cond (test n) (n ∷ []) []))
  where
    last : (b : Bool) → f n ≡ g n → map f (cond b (n ∷ []) []) ≡ map g (cond b (n ∷ []) [])
    last true e = ap (λ (t : List ℕ). t ∷ []) e
    last false e = refl

-- the texts of those that pass
told_same : (s t : ℕ → Bool) (f g : ℕ → List ℕ) (n : ℕ) → ((k : ℕ) → k < n → s k ≡ t k) → ((k : ℕ) → k < n → f k ≡ g k) → map f (numbers_of s n) ≡ map g (numbers_of t n)
told_same s t f g n tests texts = ap (map f) (numbers-same s t n tests) ∙ texts-same t f g n texts

-- ---- a set and what stands behind it

module _ (ps directory : List ℕ) (rings : ℕ) (set : Sound ps directory rings) (pp pd : List ℕ) where
  module _ (k : ℕ) (h : k < rings) where
    word_same : (j : ℕ) → j < 4 → get_or (directory ++ pd) (record_stride * k + j) 0 ≡ get_or directory (record_stride * k + j) 0
    unfolding record_stride
    word_same j few = get_or-append directory pd 0 (record_stride * k + j) (omega (arith, set.long))

    first-same : first_at (directory ++ pd) k ≡ first_at directory k
    unfolding first_at
    first-same = rw add-zero at (word_same 0 (omega arith))

    count_same : count_at (directory ++ pd) k ≡ count_at directory k
    unfolding count_at
    count_same = word_same 1 (omega arith)

    class_same : class_at (directory ++ pd) k ≡ class_at directory k
    unfolding class_at
    class_same = word_same 2 (omega arith)

    owner-same : owner_at (directory ++ pd) k ≡ owner_at directory k
    unfolding owner_at
    owner-same = word_same 3 (omega arith)

    polygon-same : is_polygon (directory ++ pd) k ≡ is_polygon directory k
    unfolding is_polygon
    polygon-same = rw class_same

    hole-same : (owner : ℕ) → is_hole_of (directory ++ pd) owner k ≡ is_hole_of directory owner k
    unfolding is_hole_of is_hole
    hole-same owner = rw (class_same, owner-same)

    ring-same : ring_at (ps ++ pp) (directory ++ pd) k ≡ ring_at ps directory k
    unfolding ring_at ring_words_at words_in
    ring-same =
        let within = (set.at k h).within in
        rw (first-same, count_same, drop-append-le (2 * first_at directory k) ps pp (omega arith)) (ap points (take-append-le (2 * count_at directory k) (drop (2 * first_at directory k) ps) pp (simp length-drop (omega arith))))

    written_same : written_at (ps ++ pp) (directory ++ pd) k ≡ written_at ps directory k
    unfolding written_at
    written_same = rw (class_same, ring-same)

  holes-same : (k : ℕ) → map (λ r. ring_text (written_at (ps ++ pp) (directory ++ pd) r)) (hole_numbers (directory ++ pd) rings k) ≡ map (λ r. ring_text (written_at ps directory r)) (hole_numbers directory rings k)
  unfolding hole_numbers
  holes-same k =
      told_same (is_hole_of (directory ++ pd) k) (is_hole_of directory k) (λ r. ring_text (written_at (ps ++ pp) (directory ++ pd) r)) (λ r. ring_text (written_at ps directory r)) rings
      (λ r h. hole-same r h k) (λ r h. ap ring_text (written_same r h))

  polygon-text-same : (k : ℕ) → k < rings → polygon_text (ps ++ pp) (directory ++ pd) rings k ≡ polygon_text ps directory rings k
  unfolding polygon_text
  polygon-text-same k h = ap (λ (ts : List (List ℕ)). bracketed (joined ts)) (ap₂ ◌∷◌ (ap ring_text (written_same k h)) (holes-same k))

  pub text-without-what-is-behind : geo_json_text (ps ++ pp) (directory ++ pd) rings ≡ geo_json_text ps directory rings
  unfolding geo_json_text polygon_numbers
  text-without-what-is-behind =
      ap (λ (ts : List (List ℕ)). opening ++ (bracketed (joined ts) ++ (125 ∷ [])))
      (told_same (is_polygon (directory ++ pd)) (is_polygon directory) (polygon_text (ps ++ pp) (directory ++ pd) rings) (polygon_text ps directory rings) rings polygon-same polygon-text-same)

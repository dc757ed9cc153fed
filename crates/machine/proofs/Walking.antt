-- One walk along the links gives the words and the records of the rings that the tables hold, in order, whatever words a point has. Assumes nothing.
use mathlib.Core.Path.{◌≡◌, refl, sym, ◌∙◌, ap, ap₂, subst}
use mathlib.Core.Bool.{Bool, true, false, cond}
use mathlib.Core.List.{List, [], ◌∷◌, ◌++◌, map, flat_map, append_assoc, append-nil}
use Prim.Native.Nat.{ℕ, zero, suc, ◌+◌, ◌-◌, ◌*◌, ◌^◌, ◌≤◌, ◌<◌}
use native.Mathlib.Nat.{suc-add, zero-add, add-zero, mul_comm, mod-eq_of_lt}
use native.Mathlib.Omega.{arith}
use lib.Dec.{ltb}
use lib.IntN.{ℤ, pos, ◌+ℤ◌, +ℤ_assoc, +ℤ_idl, +ℤ_idr, +ℤ_invr}
use lib.ListN.{length, length-append, length-map}
use borrow.Author.Tests.{lt-ltb, le-ltb, eq-eqb}
use Rattle.scope.specs.Limits.{no_owner}
use Rattle.scope.specs.Cells.{Point, indexed_point, when}
use Rattle.scope.specs.Stitching.{Line}
use Rattle.scope.specs.Area.{twist, twists, last_of, area, area_words}
use Rattle.scope.specs.Contour.{Fate, line, class_word, owner_word}
use Rattle.scope.specs.Tables.{short_of, record_of, bare_by, bare_records}
use Rattle.laws.proofs.Total.{total}
use Rattle.machine.specs.Machine.{mark, link_point, link_next}
use Rattle.machine.specs.Walk.{walk_words, start_point, link_twist, walk_by, record_words, walk_records, measured_words, walk_measured}
use Rattle.machine.proofs.Chains.{Linked, uses, uses-cons}
use Rattle.machine.proofs.Held.{spelled, HeldRing, HeldRings}

-- ---- the words of a list, one item's after the other's

module _ {A B : Type 0} (f : A → List B) where
  flat_map-append : (l m : List A) → flat_map f (l ++ m) ≡ flat_map f l ++ flat_map f m
  unfolding flat_map
  flat_map-append [] m = refl
  flat_map-append (a ∷ l) m = ap (λ (w : List B). f a ++ w) (flat_map-append l m) ∙ sym (append_assoc (f a) (flat_map f l) (flat_map f m))

  flat_map-map : {C : Type 0} (g : C → A) (l : List C) → flat_map f (map g l) ≡ flat_map (λ c. f (g c)) l
  unfolding flat_map
  flat_map-map g [] = refl
  flat_map-map g (c ∷ l) = ap (λ (w : List B). f (g c) ++ w) (flat_map-map g l)

module _ (links : List ℕ) where
  -- what is next of a link that holds the mark
  after-mark : (k h : ℕ) → link_next links k ≡ mark + h → (ltb (link_next links k) mark ≡ false) × (link_next links k - mark ≡ h)
  after-mark k h e = (le-ltb (link_next links k) mark (omega arith), omega arith)

  first_of : (a : ℕ) (x : ℕ) (l : List ℕ) (z : ℕ) → Linked (link_next links) a (x ∷ l) z → x ≡ a
  first_of a x [] z h = h.0
  first_of a x (y ∷ l) z h = h.0

-- ---- words

module _ {Word : Type 0} (words : ℕ → List Word) (links : List ℕ) where
  -- one link further, within a ring and at its end
  inner-step : (first k n : ℕ) → ltb (link_next links k) mark ≡ true → walk_words words links first k (suc n) ≡ words k ++ walk_words words links first (link_next links k) n
  unfolding walk_words
  inner-step first k n t =
      ap (λ (b : Bool). cond b (words k ++ walk_words words links first (link_next links k) n) (words k ++ (words first ++ walk_words words links (link_next links k - mark) (link_next links k - mark) n))) t

  last_step : (first k h n : ℕ) → (ltb (link_next links k) mark ≡ false) × (link_next links k - mark ≡ h) → walk_words words links first k (suc n) ≡ words k ++ (words first ++ walk_words words links h h n)
  unfolding walk_words
  last_step first k h n w =
      ap₂ (λ (b : Bool) (m : ℕ). cond b (words k ++ walk_words words links first (link_next links k) n) (words k ++ (words first ++ walk_words words links m m n))) w.0 w.1

  walk-ring : (first a : ℕ) (chain : List ℕ) (z h n : ℕ) → Linked (link_next links) a chain z → ((k : ℕ) → 1 ≤ uses k chain → k < mark) → link_next links z ≡ mark + h
      → walk_words words links first a (length chain + n) ≡ flat_map words chain ++ (words first ++ walk_words words links h h n)
  unfolding flat_map
  walk-ring first a [] z h n l small e = absurd l
  walk-ring first a (x ∷ []) z h n l small e =
      ap (walk_words words links first a) (suc-add 0 n ∙ ap suc (zero-add n))
      ∙ last_step first a h n (after-mark links a h (ap (link_next links) (sym l.0 ∙ l.1) ∙ e))
      ∙ ap (λ (m : ℕ). words m ++ (words first ++ walk_words words links h h n)) (sym l.0)
      ∙ ap (λ (w : List Word). w ++ (words first ++ walk_words words links h h n)) (sym (append-nil (words x)))
  walk-ring first a (x ∷ y ∷ c) z h n l small e =
      ap (walk_words words links first a) (suc-add (length (y ∷ c)) n)
      ∙ inner-step first a (length (y ∷ c) + n) (lt-ltb (link_next links a) mark (omega (arith, small y (omega (arith, uses-cons y x (y ∷ c), uses-cons y y c, ap (when 1) (eq-eqb y y refl))), first_of links (link_next links x) y c z l.1, ap (link_next links) l.0)))
      ∙ ap₂ (λ (m : ℕ) (w : List Word). words m ++ w) (sym l.0)
      (ap (λ (m : ℕ). walk_words words links first m (length (y ∷ c) + n)) (ap (link_next links) (sym l.0))
      ∙ walk-ring first (link_next links x) (y ∷ c) z h n l.1 (λ k u. small k (omega (arith, uses-cons k x (y ∷ c)))) e)
      ∙ sym (append_assoc (words x) (flat_map words (y ∷ c)) (words first ++ walk_words words links h h n))

-- f gives the words of a point
module _ {Word : Type 0} (f : Point → List Word) (dx : ℕ) (links : List ℕ) where
  abbrev words : ℕ → List Word
  words k = f (indexed_point dx (link_point links k))

  -- a held ring's words
  held-words : (first last : ℕ) (chain : List ℕ) (ring : Line) → HeldRing dx links first last chain ring → flat_map f ring ≡ flat_map words chain ++ words first
  unfolding spelled flat_map
  held-words first last chain ring held =
      ap (flat_map f) held.spells
      ∙ flat_map-append f (spelled dx links chain) (indexed_point dx (link_point links first) ∷ [])
      ∙ ap₂ (λ (a b : List Word). a ++ b) (flat_map-map f (λ k. indexed_point dx (link_point links k)) chain) (append-nil (words first))

  -- all rings
  pub words-walked : (head : ℕ) (loops : List (List ℕ)) (rings : List Line) (tail : ℕ) → HeldRings dx links head loops rings tail → ((k : ℕ) → 1 ≤ total (uses k) loops → k < mark)
      → walk_words words links head head (total length loops) ≡ flat_map (flat_map f) rings
  unfolding total flat_map
  words-walked head [] [] tail held numbers = unfold walk_words in refl
  words-walked head [] (ring ∷ rings) tail held numbers = absurd held
  words-walked head (q ∷ []) [] tail held numbers = absurd held
  words-walked head (q ∷ []) (ring ∷ []) tail held numbers =
      walk-ring words links head head q tail 0 0 held.0.linked (λ k u. numbers k (omega arith)) (held.1 ∙ sym (add-zero mark))
      ∙ sym (append_assoc (flat_map words q) (words head) (walk_words words links 0 0 0))
      ∙ ap₂ (λ (a b : List Word). a ++ b) (sym (held-words head tail q ring held.0)) (unfold walk_words in refl)
  words-walked head (q ∷ []) (ring ∷ ring' ∷ rings) tail held numbers = absurd held
  words-walked head (q ∷ q' ∷ qs) [] tail held numbers = absurd held
  words-walked head (q ∷ q' ∷ qs) (ring ∷ []) tail held numbers = absurd held
  words-walked head (q ∷ q' ∷ qs) (ring ∷ ring' ∷ rings) tail held numbers =
      walk-ring words links head head q held.0 held.1 (length q' + total length qs) held.2.linked (λ k u. numbers k (omega arith)) held.3
      ∙ sym (append_assoc (flat_map words q) (words head) (walk_words words links held.1 held.1 (length q' + total length qs)))
      ∙ ap₂ (λ (a b : List Word). a ++ b) (sym (held-words head held.0 q ring held.2))
      (words-walked held.1 (q' ∷ qs) (ring' ∷ rings) tail held.4 (λ k u. numbers k (omega arith)))

-- ---- counts

module _ (dx : ℕ) (links : List ℕ) where
  -- a held ring has a point more than links
  held-length : (first last : ℕ) (chain : List ℕ) (ring : Line) → HeldRing dx links first last chain ring → length ring ≡ length chain + 1
  unfolding spelled
  held-length first last chain ring held =
      omega (arith, ap length held.spells, length-append (map (λ k. indexed_point dx (link_point links k)) chain) (indexed_point dx (link_point links first) ∷ []), length-map chain (λ k. indexed_point dx (link_point links k)))

  pub points-counted : (head : ℕ) (loops : List (List ℕ)) (rings : List Line) (tail : ℕ) → HeldRings dx links head loops rings tail → total length rings ≡ total length loops + length loops
  unfolding total
  points-counted head [] [] tail held = refl
  points-counted head [] (ring ∷ rings) tail held = absurd held
  points-counted head (q ∷ []) [] tail held = absurd held
  points-counted head (q ∷ []) (ring ∷ []) tail held = omega (arith, held-length head tail q ring held.0)
  points-counted head (q ∷ []) (ring ∷ ring' ∷ rings) tail held = absurd held
  points-counted head (q ∷ q' ∷ qs) [] tail held = absurd held
  points-counted head (q ∷ q' ∷ qs) (ring ∷ []) tail held = absurd held
  points-counted head (q ∷ q' ∷ qs) (ring ∷ ring' ∷ rings) tail held = omega (arith, held-length head held.0 q ring held.2, points-counted held.1 (q' ∷ qs) (ring' ∷ rings) tail held.4)

-- ---- records

-- a step that stays adds nothing
no_step : (p : Point) → twist p p ≡ pos 0
unfolding twist
no_step p = rw (mul_comm p.y p.x) (+ℤ_invr (pos (p.x * p.y)))

-- the area of a closed ring: what the steps from its first point add
pub closed-area : (p : Point) (l : Line) → last_of p l ≡ p → area (p ∷ l) ≡ twists p l
unfolding area
closed-area p l closed =
    let first : twists p (p ∷ l) ≡ twist p p +ℤ twists p l = unfold twists in refl in
    ap (λ (q : Point). twists q (p ∷ l)) closed ∙ first ∙ ap (λ (z : ℤ). z +ℤ twists p l) (no_step p) ∙ +ℤ_idl (twists p l)

last-behind : (p : Point) (l : Line) (q : Point) → last_of p (l ++ (q ∷ [])) ≡ q
unfolding last_of
last-behind p [] q = refl
last-behind p (r ∷ l) q = last-behind r l q

-- words gives a record
module _ (words : ℕ → ℕ → ℤ → List ℕ) (dx : ℕ) (links : List ℕ) where
  inner-record : (h f size : ℕ) (a : ℤ) (k n : ℕ) → ltb (link_next links k) mark ≡ true
      → walk_by words dx links h f size a k (suc n) ≡ walk_by words dx links h f (suc size) (a +ℤ link_twist dx links k (link_next links k)) (link_next links k) n
  unfolding walk_by
  inner-record h f size a k n t = rw t

  last-record : (h f size : ℕ) (a : ℤ) (k h' n : ℕ) → (ltb (link_next links k) mark ≡ false) × (link_next links k - mark ≡ h')
      → walk_by words dx links h f size a k (suc n) ≡ words f (size + 2) (a +ℤ link_twist dx links k h) ++ walk_by words dx links h' (f + size + 2) 0 (pos 0) h' n
  unfolding walk_by
  last-record h f size a k h' n w = rw (w.0, w.1)

  -- the steps from a link along a chain behind it, and back to link h
  steps : ℕ → ℕ → List ℕ → ℤ
  steps h x [] = link_twist dx links x h
  steps h x (y ∷ c) = link_twist dx links x y +ℤ steps h y c

  record-walked : (h f size : ℕ) (a : ℤ) (x : ℕ) (chain : List ℕ) (z h' n : ℕ) → Linked (link_next links) x (x ∷ chain) z → ((k : ℕ) → 1 ≤ uses k (x ∷ chain) → k < mark)
      → link_next links z ≡ mark + h'
      → walk_by words dx links h f size a x (length (x ∷ chain) + n)
      ≡ words f (size + length (x ∷ chain) + 1) (a +ℤ steps h x chain) ++ walk_by words dx links h' (f + (size + length (x ∷ chain) + 1)) 0 (pos 0) h' n
  unfolding steps
  record-walked h f size a x [] z h' n l small e =
      ap (walk_by words dx links h f size a x) (suc-add 0 n ∙ ap suc (zero-add n))
      ∙ last-record h f size a x h' n (after-mark links x h' (ap (link_next links) l.1 ∙ e))
      ∙ ap₂ (λ (count first : ℕ). words f count (a +ℤ link_twist dx links x h) ++ walk_by words dx links h' first 0 (pos 0) h' n) count-is first-is
    where
      count-is : size + 2 ≡ size + 1 + 1
      count-is = omega arith

      first-is : f + size + 2 ≡ f + (size + 1 + 1)
      first-is = omega arith
  record-walked h f size a x (y ∷ c) z h' n l small e =
      ap (walk_by words dx links h f size a x) (suc-add (length (y ∷ c)) n)
      ∙ inner-record h f size a x (length (y ∷ c) + n) (lt-ltb (link_next links x) mark (omega (arith, small y (omega (arith, uses-cons y x (y ∷ c), uses-cons y y c, ap (when 1) (eq-eqb y y refl))), next-is)))
      ∙ ap (λ (m : ℕ). walk_by words dx links h f (suc size) (a +ℤ link_twist dx links x m) m (length (y ∷ c) + n)) (sym next-is)
      ∙ record-walked h f (suc size) (a +ℤ link_twist dx links x y) y c z h' n (subst (λ (m : ℕ). Linked (link_next links) m (y ∷ c) z) (sym next-is) l.1) (λ k u. small k (omega (arith, uses-cons k x (y ∷ c)))) e
      ∙ ap₂ (λ (count : ℕ) (s : ℤ). words f count s ++ walk_by words dx links h' (f + count) 0 (pos 0) h' n) count-is (+ℤ_assoc a (link_twist dx links x y) (steps h y c))
    where
      next-is : y ≡ link_next links x
      next-is = first_of links (link_next links x) y c z l.1

      count-is : suc size + length (y ∷ c) + 1 ≡ size + suc (length (y ∷ c)) + 1
      count-is = omega arith

  -- the steps along a ring's links are those along its points
  steps-spelled : (h x : ℕ) (chain : List ℕ) → steps h x chain ≡ twists (start_point dx links x) (spelled dx links chain ++ (start_point dx links h ∷ []))
  unfolding steps link_twist twists spelled start_point
  steps-spelled h x [] = sym (+ℤ_idr (twist (start_point dx links x) (start_point dx links h)))
  steps-spelled h x (y ∷ c) = ap (λ (s : ℤ). twist (start_point dx links x) (start_point dx links y) +ℤ s) (steps-spelled h y c)

  -- so they are its area
  held-area : (last x : ℕ) (chain : List ℕ) (ring : Line) → HeldRing dx links x last (x ∷ chain) ring → pos 0 +ℤ steps x x chain ≡ area ring
  unfolding spelled start_point
  held-area last x chain ring held =
      +ℤ_idl (steps x x chain) ∙ steps-spelled x x chain
      ∙ sym (ap area held.spells ∙ closed-area (start_point dx links x) (spelled dx links chain ++ (start_point dx links x ∷ [])) (last-behind (start_point dx links x) (spelled dx links chain) (start_point dx links x)))

  -- a ring that is held
  ring-recorded : (f last head : ℕ) (q : List ℕ) (ring : Line) (h' n : ℕ) → HeldRing dx links head last q ring → ((k : ℕ) → 1 ≤ uses k q → k < mark) → link_next links last ≡ mark + h'
      → walk_by words dx links head f 0 (pos 0) head (length q + n) ≡ words f (length ring) (area ring) ++ walk_by words dx links h' (f + length ring) 0 (pos 0) h' n
  ring-recorded f last head [] ring h' n held small e = absurd held.linked
  ring-recorded f last head (x ∷ c) ring h' n held small e =
      subst (λ (m : ℕ). HeldRing dx links m last (x ∷ c) ring → walk_by words dx links m f 0 (pos 0) m (length (x ∷ c) + n) ≡ words f (length ring) (area ring) ++ walk_by words dx links h' (f + length ring) 0 (pos 0) h' n)
      (first_of links head x c last held.linked) from held
    where
      from : HeldRing dx links x last (x ∷ c) ring → walk_by words dx links x f 0 (pos 0) x (length (x ∷ c) + n) ≡ words f (length ring) (area ring) ++ walk_by words dx links h' (f + length ring) 0 (pos 0) h' n
      from held =
          record-walked x f 0 (pos 0) x c last h' n held.linked small e
          ∙ ap₂ (λ (count : ℕ) (a : ℤ). words f count a ++ walk_by words dx links h' (f + count) 0 (pos 0) h' n) same (held-area last x c ring held)
        where
          same : 0 + length (x ∷ c) + 1 ≡ length ring
          same = omega (arith, held-length dx links x last (x ∷ c) ring held)

  -- all rings
  pub rings-recorded : (k first head : ℕ) (loops : List (List ℕ)) (rings : List Line) (tail : ℕ) → HeldRings dx links head loops rings tail → ((k : ℕ) → 1 ≤ total (uses k) loops → k < mark)
      → walk_by words dx links head first 0 (pos 0) head (total length loops) ≡ bare_by (λ (k f : ℕ) (ring : Line) (fate : Fate). words f (length ring) (area ring)) k first rings
  unfolding total bare_by
  rings-recorded k first head [] [] tail held numbers = unfold walk_by in refl
  rings-recorded k first head [] (ring ∷ rings) tail held numbers = absurd held
  rings-recorded k first head (q ∷ []) [] tail held numbers = absurd held
  rings-recorded k first head (q ∷ []) (ring ∷ []) tail held numbers =
      ring-recorded first tail head q ring 0 0 held.0 (λ m u. numbers m (omega arith)) (held.1 ∙ sym (add-zero mark))
      ∙ ap (λ (w : List ℕ). words first (length ring) (area ring) ++ w) (unfold walk_by in refl)
  rings-recorded k first head (q ∷ []) (ring ∷ ring' ∷ rings) tail held numbers = absurd held
  rings-recorded k first head (q ∷ q' ∷ qs) [] tail held numbers = absurd held
  rings-recorded k first head (q ∷ q' ∷ qs) (ring ∷ []) tail held numbers = absurd held
  rings-recorded k first head (q ∷ q' ∷ qs) (ring ∷ ring' ∷ rings) tail held numbers =
      ring-recorded first held.0 head q ring held.1 (length q' + total length qs) held.2 (λ m u. numbers m (omega arith)) held.3
      ∙ ap (λ (w : List ℕ). words first (length ring) (area ring) ++ w)
      (rings-recorded (suc k) (first + length ring) held.1 (q' ∷ qs) (ring' ∷ rings) tail held.4 (λ m u. numbers m (omega arith)))

-- records that go by no area
module _ (words : ℕ → ℕ → List ℕ) (links : List ℕ) where
  pub by-no-area : (dx dx' h h' first size : ℕ) (a a' : ℤ) (k n : ℕ) → walk_by (λ f count z. words f count) dx links h first size a k n ≡ walk_by (λ f count z. words f count) dx' links h' first size a' k n
  unfolding walk_by
  by-no-area dx dx' h h' first size a a' k zero = refl
  by-no-area dx dx' h h' first size a a' k (suc n) =
      ap₂ (cond (ltb (link_next links k) mark))
      (by-no-area dx dx' h h' first (suc size) (a +ℤ link_twist dx links k (link_next links k)) (a' +ℤ link_twist dx' links k (link_next links k)) (link_next links k) n)
      (ap (λ (w : List ℕ). words first (size + 2) ++ w)
      (by-no-area dx dx' (link_next links k - mark) (link_next links k - mark) (first + size + 2) 0 (pos 0) (pos 0) (link_next links k - mark) n))

-- records of the same words, where the numbers fit their words
bare-same : (v w : ℕ → ℕ → Line → Fate → List ℕ) → ((k f : ℕ) (ring : Line) → f + length ring < 2 ^ 32 → v k f ring line ≡ w k f ring line)
    → (k first : ℕ) (rings : List Line) → first + total length rings < 2 ^ 32 → bare_by v k first rings ≡ bare_by w k first rings
unfolding bare_by total
bare-same v w same k first [] fits = refl
bare-same v w same k first (ring ∷ rings) fits =
    ap₂ (λ (a b : List ℕ). a ++ b) (same k first ring (omega arith)) (bare-same v w same (suc k) (first + length ring) rings (omega arith))

short-fits : (k first : ℕ) (ring : Line) → first + length ring < 2 ^ 32 → record_words first (length ring) ≡ short_of k first ring line
unfolding record_words short_of class_word owner_word
short-fits k first ring fits =
    ap₂ (λ (a b : ℕ). a ∷ b ∷ 2 ∷ no_owner ∷ []) (mod-eq_of_lt (omega arith)) (mod-eq_of_lt (omega arith))

module _ (dx : ℕ) (links : List ℕ) (head : ℕ) (loops : List (List ℕ)) (rings : List Line) (tail : ℕ) (held : HeldRings dx links head loops rings tail)
    (numbers : (k : ℕ) → 1 ≤ total (uses k) loops → k < mark) (fits : total length rings < 2 ^ 32) where
  -- without areas
  pub records-walked : walk_records links 0 0 head (total length loops) ≡ bare_by short_of 0 0 rings
  unfolding walk_records
  records-walked =
      by-no-area record_words links 0 dx 0 head 0 0 (pos 0) (pos 0) head (total length loops)
      ∙ rings-recorded (λ (f count : ℕ) (a : ℤ). record_words f count) dx links 0 0 head loops rings tail held numbers
      ∙ bare-same (λ (k f : ℕ) (ring : Line) (fate : Fate). record_words f (length ring)) short_of short-fits 0 0 rings (omega arith)

  -- with areas
  pub measured-walked : walk_measured dx links head 0 0 (pos 0) head (total length loops) ≡ bare_records 0 0 rings
  measured-walked =
      rings-recorded measured_words dx links 0 0 head loops rings tail held numbers
      ∙ bare-same (λ (k f : ℕ) (ring : Line) (fate : Fate). measured_words f (length ring) (area ring)) record_of
      (λ k f ring h. unfold measured_words record_of in ap (λ (w : List ℕ). w ++ area_words (area ring)) (short-fits k f ring h)) 0 0 rings (omega arith)

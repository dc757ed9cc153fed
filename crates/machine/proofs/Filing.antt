-- The frontier's words: each tip of an open line has its slot filed under the tip's word. What each rule's stores leave of that. Assumes nothing.
use mathlib.Core.Path.{◌≡◌, sym, ◌∙◌, ap, subst}
use mathlib.Core.Bool.{Bool, true, false, cond}
use mathlib.Core.List.{List, [], ◌∷◌, ◌++◌}
use Prim.Native.Nat.{ℕ, suc, ◌+◌, ◌*◌, ◌/◌, ◌%◌, ◌≤◌, ◌<◌}
use native.Mathlib.Nat.{mod-lt}
use native.Mathlib.Decide.{ℕ_discrete}
use native.Mathlib.Omega.{arith}
use lib.Dec.{eqb}
use lib.ListN.{length, get_or, set, length-set, length-append, get_or-append}
use lib.Seq.{get_or-set_same, get_or-set_other, get_or-append_seam}
use borrow.Author.Tests.{eq-eqb, ne_eqb}
use Rattle.scope.specs.Cells.{Point, indexed_point, same_point}
use Rattle.scope.specs.Stitching.{Line, starts_at, ends_at}
use Rattle.laws.proofs.Ends.{same-eq, same_refl, end-of-appended}
use Rattle.laws.proofs.Strokes.{begin, finish}
use Rattle.laws.proofs.Tips.{Tip, tip_by, edge_word}
use Rattle.machine.specs.Machine.{column_word, first_link, last_link, end_point, link_count, link_point, link_next, with_slot, moved, released}
use Rattle.machine.proofs.Views.{Slot, length-with_slot, frontier-of-with_slot}
use Rattle.machine.proofs.Chains.{Linked}
use Rattle.machine.proofs.Held.{spelled, HeldLine}
use Rattle.machine.proofs.Removal.{drop_at, drop-same, drop-other, column-in-frontier}

-- ---- the tips of a held line are its first link's point and its end

module _ (dx : ℕ) (links : List ℕ) (slot : Slot) (chain : List ℕ) (line : Line) (held : HeldLine dx links slot chain line) where
  start_point : Point
  start_point = indexed_point dx (link_point links slot.first)

  last_point : Point
  last_point = indexed_point dx slot.end

  starts-there : (p : Point) → starts_at p line ≡ same_point p start_point
  starts-there p = ap (starts_at p) held.spells ∙ by chain held.linked
    where
      by : (l : List ℕ) → Linked (link_next links) slot.first l slot.last → starts_at p (spelled dx links l ++ (indexed_point dx slot.end ∷ [])) ≡ same_point p start_point
      by [] h = absurd h
      by (x ∷ []) h = unfold starts_at spelled start_point in ap (λ (n : ℕ). same_point p (indexed_point dx (link_point links n))) h.0
      by (x ∷ y ∷ l) h = unfold starts_at spelled start_point in ap (λ (n : ℕ). same_point p (indexed_point dx (link_point links n))) h.0

  ends_there : (p : Point) → ends_at p line ≡ same_point p last_point
  unfolding last_point
  ends_there p = ap (ends_at p) held.spells ∙ end-of-appended p (indexed_point dx slot.end) (spelled dx links chain)

  pub starts-at-start : starts_at (indexed_point dx (link_point links slot.first)) line ≡ true
  unfolding start_point
  starts-at-start = starts-there start_point ∙ same_refl start_point

  pub start-tip : Tip (indexed_point dx (link_point links slot.first)) line
  start-tip = record { role = begin; there = starts-at-start }

  pub ends-at-end : ends_at (indexed_point dx slot.end) line ≡ true
  unfolding last_point
  ends-at-end = ends_there last_point ∙ same_refl last_point

  pub end-tip : Tip (indexed_point dx slot.end) line
  end-tip = record { role = finish; there = ends-at-end }

  pub starts_is : (p : Point) → starts_at p line ≡ true → p ≡ indexed_point dx (link_point links slot.first)
  unfolding start_point
  starts_is p h = same-eq p start_point (sym (starts-there p) ∙ h)

  pub ends_is : (p : Point) → ends_at p line ≡ true → p ≡ indexed_point dx slot.end
  unfolding last_point
  ends_is p h = same-eq p last_point (sym (ends_there p) ∙ h)

  -- so a tip is a point of some index
  pub tip-index : (p : Point) → Tip p line → (n : ℕ) × (p ≡ indexed_point dx n)
  tip-index p tip = by tip.role tip.there
    where
      by : (role : _) → tip_by role p line ≡ true → (n : ℕ) × (p ≡ indexed_point dx n)
      by begin h = (link_point links slot.first, starts_is p h)
      by finish h = (slot.end, ends_is p h)

pub word-in-frontier : (dx n : ℕ) → edge_word dx (indexed_point dx n) < dx + 2
unfolding edge_word indexed_point
word-in-frontier dx n = by (eqb (n % (2 * (dx + 1)) % 2) 1)
  where
    by : (b : Bool) → cond b (dx + 1) (n % (2 * (dx + 1)) / 2) < dx + 2
    by true = omega arith
    by false = omega (arith, mod-lt n {m = 2 * (dx + 1)} (omega arith))

-- a point of even x has its column's word
pub column-of-even : (dx n : ℕ) → ((indexed_point dx n).x % 2 ≡ 1 → ⊥) → edge_word dx (indexed_point dx n) ≡ column_word dx n
unfolding edge_word indexed_point column_word
column-of-even dx n even = ap (λ (b : Bool). cond b (dx + 1) (n % (2 * (dx + 1)) / 2)) (ne_eqb (n % (2 * (dx + 1)) % 2) 1 even)

-- ---- what is filed

-- each tip that counts has its line's slot under its word
abbrev pub Filed : ℕ → (Point → Type 0) → List ℕ → List Line → Type 0
Filed dx live table ls = (i : ℕ) → i < length ls → (p : Point) → Tip p (get_or ls i []) → live p → get_or table (edge_word dx p) 0 ≡ i

-- words of tips lie in the frontier
abbrev pub Framed : ℕ → List Line → Type 0
Framed dx ls = (i : ℕ) → i < length ls → (p : Point) → Tip p (get_or ls i []) → edge_word dx p < dx + 2

-- slot f stored anew, and a new tip filed under its word
module _ (dx : ℕ) (live live' : Point → Type 0) (table : List ℕ) (ls : List Line) (f : ℕ) (line' : Line) (tip : Point) (a b e z : ℕ)
    (inside : f < length ls) (room : dx + 2 ≤ length table) (filed : Filed dx live table ls) (framed : Framed dx (set ls f line'))
    (old-tips : (p : Point) → (p ≡ tip → ⊥) → Tip p line' → Tip p (get_or ls f []))
    (alone : (i : ℕ) → i < length ls → (p : Point) → Tip p (get_or (set ls f line') i []) → live' p → edge_word dx p ≡ edge_word dx tip → i ≡ f)
    (keeps : (i : ℕ) → i < length ls → (p : Point) → Tip p (get_or (set ls f line') i []) → live' p → (p ≡ tip → ⊥) → live p) where
  pub filed-anew : Filed dx live' (set (with_slot dx table f a b e z) (edge_word dx tip) f) (set ls f line')
  filed-anew i hi p t l = by (ℕ_discrete (edge_word dx p) (edge_word dx tip)) (ℕ_discrete i f)
    where
      below : i < length ls
      below = subst (λ (n : ℕ). i < n) (length-set ls f line') hi

      word : edge_word dx p < dx + 2
      word = framed i hi p t

      other-point : (edge_word dx p ≡ edge_word dx tip → ⊥) → p ≡ tip → ⊥
      other-point ne q = ne (ap (edge_word dx) q)

      before : (edge_word dx p ≡ edge_word dx tip → ⊥) → Tip p (get_or ls i []) → get_or (set (with_slot dx table f a b e z) (edge_word dx tip) f) (edge_word dx p) 0 ≡ i
      before ne was =
          get_or-set_other (with_slot dx table f a b e z) (edge_word dx tip) (edge_word dx p) f 0 ne
          ∙ frontier-of-with_slot dx table f a b e z (edge_word dx p) word
          ∙ filed i below p was (keeps i below p t l (other-point ne))

      by : Dec (edge_word dx p ≡ edge_word dx tip) → Dec (i ≡ f) → get_or (set (with_slot dx table f a b e z) (edge_word dx tip) f) (edge_word dx p) 0 ≡ i
      by (yes w) k =
          ap (λ (n : ℕ). get_or (set (with_slot dx table f a b e z) (edge_word dx tip) f) n 0) w
          ∙ get_or-set_same (with_slot dx table f a b e z) (edge_word dx tip) f 0 (omega (arith, length-with_slot dx table f a b e z, word))
          ∙ sym (alone i below p t l w)
      by (no ne) (yes k) =
          before ne (subst (λ (n : ℕ). Tip p (get_or ls n [])) (sym k)
          (old-tips p (other-point ne) (subst (Tip p) (get_or-set_same ls f line' [] inside) (subst (λ (n : ℕ). Tip p (get_or (set ls f line') n [])) k t))))
      by (no ne) (no k) = before ne (subst (Tip p) (get_or-set_other ls f i line' [] k) t)

-- a new line in a new slot, filed under its two words
module _ (dx : ℕ) (live live' : Point → Type 0) (table : List ℕ) (ls : List Line) (line' : Line) (one two : Point) (a b e z : ℕ)
    (room : dx + 2 ≤ length table) (filed : Filed dx live table ls) (framed : Framed dx (ls ++ (line' ∷ [])))
    (new-tips : (p : Point) → Tip p line' → (p ≡ one → ⊥) → p ≡ two)
    (alone : (i : ℕ) → i < length ls → (p : Point) → Tip p (get_or ls i []) → (edge_word dx p ≡ edge_word dx one → ⊥) × (edge_word dx p ≡ edge_word dx two → ⊥))
    (keeps : (i : ℕ) → i < length ls → (p : Point) → Tip p (get_or ls i []) → live' p → live p)
    (words : (edge_word dx one < dx + 2) × (edge_word dx two < dx + 2)) where
  abbrev filed-table : List ℕ
  filed-table = set (set (with_slot dx table (length ls) a b e z) (edge_word dx one) (length ls)) (edge_word dx two) (length ls)

  long : length (set (with_slot dx table (length ls) a b e z) (edge_word dx one) (length ls)) ≡ length table
  long = length-set (with_slot dx table (length ls) a b e z) (edge_word dx one) (length ls) ∙ length-with_slot dx table (length ls) a b e z

  new-there : (p : Point) → Tip p line' → get_or filed-table (edge_word dx p) 0 ≡ length ls
  new-there p t = by (ℕ_discrete (edge_word dx p) (edge_word dx two))
    where
      by : Dec (edge_word dx p ≡ edge_word dx two) → get_or filed-table (edge_word dx p) 0 ≡ length ls
      by (yes w) =
          ap (λ (n : ℕ). get_or filed-table n 0) w
          ∙ get_or-set_same (set (with_slot dx table (length ls) a b e z) (edge_word dx one) (length ls)) (edge_word dx two) (length ls) 0 (omega (arith, long, words.1))
      by (no ne) = first (ℕ_discrete (edge_word dx p) (edge_word dx one))
        where
          first : Dec (edge_word dx p ≡ edge_word dx one) → get_or filed-table (edge_word dx p) 0 ≡ length ls
          first (yes w) =
              get_or-set_other (set (with_slot dx table (length ls) a b e z) (edge_word dx one) (length ls)) (edge_word dx two) (edge_word dx p) (length ls) 0 ne
              ∙ ap (λ (n : ℕ). get_or (set (with_slot dx table (length ls) a b e z) (edge_word dx one) (length ls)) n 0) w
              ∙ get_or-set_same (with_slot dx table (length ls) a b e z) (edge_word dx one) (length ls) 0 (omega (arith, length-with_slot dx table (length ls) a b e z, words.0))
          first (no ne') = absurd (ne (ap (edge_word dx) (new-tips p t (λ q. ne' (ap (edge_word dx) q)))))

  pub filed-new : Filed dx live' filed-table (ls ++ (line' ∷ []))
  filed-new i hi p t l = by (ℕ_discrete i (length ls))
    where
      by : Dec (i ≡ length ls) → get_or filed-table (edge_word dx p) 0 ≡ i
      by (yes k) = new-there p (subst (Tip p) (ap (λ (n : ℕ). get_or (ls ++ (line' ∷ [])) n []) k ∙ get_or-append_seam ls line' [] []) t) ∙ sym k
      by (no k) =
          get_or-set_other (set (with_slot dx table (length ls) a b e z) (edge_word dx one) (length ls)) (edge_word dx two) (edge_word dx p) (length ls) 0 (alone i below p was).1
          ∙ get_or-set_other (with_slot dx table (length ls) a b e z) (edge_word dx one) (edge_word dx p) (length ls) 0 (alone i below p was).0
          ∙ frontier-of-with_slot dx table (length ls) a b e z (edge_word dx p) (framed i hi p t)
          ∙ filed i below p was (keeps i below p was l)
        where
          below : i < length ls
          below = omega (arith, length-append ls (line' ∷ []))

          was : Tip p (get_or ls i [])
          was = subst (Tip p) (get_or-append ls (line' ∷ []) [] i below) t

-- a line goes, and the last one's tips are filed under its new slot
module _ (dx : ℕ) (table links : List ℕ) (ls : List Line) (m g : ℕ) (long : length ls ≡ suc m) (hg : g < suc m) (room : dx + 2 ≤ length table)
    (filed : (i : ℕ) → i < suc m → (i ≡ g → ⊥) → (p : Point) → Tip p (get_or ls i []) → get_or table (edge_word dx p) 0 ≡ i)
    (framed : (i : ℕ) → i < suc m → (i ≡ g → ⊥) → (p : Point) → Tip p (get_or ls i []) → edge_word dx p < dx + 2)
    (alone : (i j : ℕ) → i < suc m → j < suc m → (i ≡ g → ⊥) → (j ≡ g → ⊥) → (p q : Point) → Tip p (get_or ls i []) → Tip q (get_or ls j []) → edge_word dx p ≡ edge_word dx q → i ≡ j)
    (last-tips : (m ≡ g → ⊥) → (p : Point) → Tip p (get_or ls m []) → (edge_word dx p ≡ column_word dx (link_point links (first_link dx table m)) → ⊥) → edge_word dx p ≡ column_word dx (end_point dx table m))
    (first-tip : (m ≡ g → ⊥) → (p : Point) × Tip p (get_or ls m []) × (edge_word dx p ≡ column_word dx (link_point links (first_link dx table m))))
    (end-tip' : (m ≡ g → ⊥) → (p : Point) × Tip p (get_or ls m []) × (edge_word dx p ≡ column_word dx (end_point dx table m))) where
  stored : List ℕ
  stored = with_slot dx table g (first_link dx table m) (last_link dx table m) (end_point dx table m) (link_count dx table m)

  w₁ : ℕ
  w₁ = column_word dx (link_point links (first_link dx table m))

  w₂ : ℕ
  w₂ = column_word dx (end_point dx table m)

  long-stored : length stored ≡ length table
  unfolding stored
  long-stored = length-with_slot dx table g (first_link dx table m) (last_link dx table m) (end_point dx table m) (link_count dx table m)

  -- a word that is neither of the last line's two is as it was
  moved-else : (w : ℕ) → w < dx + 2 → (w ≡ w₁ → ⊥) → (w ≡ w₂ → ⊥) → get_or (moved dx table links m g) w 0 ≡ get_or table w 0
  unfolding moved w₁ w₂ stored
  moved-else w h n₁ n₂ =
      get_or-set_other (set stored w₁ g) w₂ w g 0 n₂
      ∙ get_or-set_other stored w₁ w g 0 n₁
      ∙ frontier-of-with_slot dx table g (first_link dx table m) (last_link dx table m) (end_point dx table m) (link_count dx table m) w h

  -- and each of the two holds the new slot
  moved-second : get_or (moved dx table links m g) w₂ 0 ≡ g
  unfolding moved w₁ w₂ stored
  moved-second = get_or-set_same (set stored w₁ g) w₂ g 0 (omega (arith, length-set stored w₁ g, long-stored, column-in-frontier dx (end_point dx table m)))

  moved-first : (w₁ ≡ w₂ → ⊥) → get_or (moved dx table links m g) w₁ 0 ≡ g
  unfolding moved w₁ w₂ stored
  moved-first ne =
      get_or-set_other (set stored w₁ g) w₂ w₁ g 0 ne
      ∙ get_or-set_same stored w₁ g 0 (omega (arith, long-stored, column-in-frontier dx (link_point links (first_link dx table m))))

  tips-moved : (m ≡ g → ⊥) → (p : Point) → Tip p (get_or ls m []) → get_or (moved dx table links m g) (edge_word dx p) 0 ≡ g
  unfolding w₁ w₂
  tips-moved ne p t = by (ℕ_discrete (edge_word dx p) w₂) (ℕ_discrete (edge_word dx p) w₁)
    where
      by : Dec (edge_word dx p ≡ w₂) → Dec (edge_word dx p ≡ w₁) → get_or (moved dx table links m g) (edge_word dx p) 0 ≡ g
      by (yes e) k = ap (λ (n : ℕ). get_or (moved dx table links m g) n 0) e ∙ moved-second
      by (no n₂) (yes e) = ap (λ (n : ℕ). get_or (moved dx table links m g) n 0) e ∙ moved-first (λ q. n₂ (e ∙ q))
      by (no n₂) (no n₁) = absurd (n₂ (last-tips ne p t n₁))

  tips-stay : (m ≡ g → ⊥) → (j : ℕ) → j < m → (j ≡ g → ⊥) → (p : Point) → Tip p (get_or ls j []) → get_or (moved dx table links m g) (edge_word dx p) 0 ≡ j
  unfolding w₁ w₂
  tips-stay ne j hj k p t =
      moved-else (edge_word dx p) (framed j (omega arith) k p t)
      (λ e. absurd (omega (arith, alone j m (omega arith) (omega arith) k ne p (first-tip ne).0 t (first-tip ne).1 (e ∙ sym (first-tip ne).2))))
      (λ e. absurd (omega (arith, alone j m (omega arith) (omega arith) k ne p (end-tip' ne).0 t (end-tip' ne).1 (e ∙ sym (end-tip' ne).2))))
      ∙ filed j (omega arith) k p t

  pub filed-left : (j : ℕ) → j < m → (p : Point) → Tip p (get_or (drop_at [] ls g) j []) → get_or (released dx table links m g) (edge_word dx p) 0 ≡ j
  unfolding released
  filed-left j hj p t = by (ℕ_discrete g m) (ℕ_discrete j g)
    where
      other : (j ≡ g → ⊥) → Tip p (get_or ls j [])
      other k = subst (Tip p) (drop-other [] ls g m long (omega arith) j hj k) t

      by : Dec (g ≡ m) → Dec (j ≡ g) → get_or (cond (eqb g m) table (moved dx table links m g)) (edge_word dx p) 0 ≡ j
      by (yes e) k = rw (eq-eqb g m e) (filed j (omega arith) (λ q. omega arith) p (other (λ q. omega arith)))
      by (no ne) (yes k) =
          rw (ne_eqb g m ne)
          (tips-moved (λ q. ne (sym q)) p (subst (Tip p) (ap (λ (n : ℕ). get_or (drop_at [] ls g) n []) k ∙ drop-same [] ls g m long (omega arith) (omega arith)) t) ∙ sym k)
      by (no ne) (no k) = rw (ne_eqb g m ne) (tips-stay (λ q. ne (sym q)) j hj k p (other k))

-- A line goes: the last one takes its place, in the list of lines, in the list of chains and in the slots alike. Assumes nothing.
use mathlib.Core.Path.{◌≡◌, refl, sym, ◌∙◌, ap, subst}
use mathlib.Core.Bool.{Bool, true, false, cond}
use mathlib.Core.List.{List, []}
use Prim.Native.Nat.{ℕ, suc, ◌+◌, ◌-◌, ◌*◌, ◌≤◌, ◌<◌}
use native.Mathlib.Nat.{mod-lt}
use native.Mathlib.Decide.{ℕ_discrete}
use native.Mathlib.Omega.{arith}
use lib.Dec.{eqb}
use lib.ListN.{length, get_or, set, take, drop, length-set, length-take}
use lib.Seq.{get_or-set_same, get_or-set_other, get_or-take}
use borrow.Author.Tests.{eq-eqb, ne_eqb}
use Rattle.scope.specs.Stitching.{Line, without}
use Rattle.laws.proofs.Total.{total, total-moved}
use Rattle.machine.specs.Machine.{column_word, first_link, last_link, end_point, link_count, link_point, with_slot, moved, released}
use Rattle.machine.proofs.Views.{slot_at, length-with_slot, slot-of-filed, slot-of-other, slot-of-same, past-filed, past-with_slot}
use Rattle.machine.proofs.Held.{HeldLine}

-- element i goes, and the last one takes its place
unfoldable pub drop_at : {X : Type 0} → X → List X → ℕ → List X
drop_at d xs i = take (length xs - 1) (set xs i (get_or xs (length xs - 1) d))

pub without_is : (ls : List Line) (i : ℕ) → without ls i ≡ drop_at [] ls i
unfolding without drop_at
without_is ls i = refl

module _ {X : Type 0} (d : X) (xs : List X) (i m : ℕ) (long : length xs ≡ suc m) (inside : i < length xs) where
  one_less : length xs - 1 ≡ m
  one_less = omega arith

  drop-is : drop_at d xs i ≡ take m (set xs i (get_or xs m d))
  unfolding drop_at
  drop-is = ap (λ (n : ℕ). take n (set xs i (get_or xs n d))) one_less

  pub total-drop : (w : X → ℕ) → total w (drop_at d xs i) + w (get_or xs i d) ≡ total w xs
  total-drop w = rw drop-is (total-moved w xs m i d long inside)

  pub length-drop-at : length (drop_at d xs i) ≡ m
  length-drop-at = rw drop-is (omega (arith, length-take m (set xs i (get_or xs m d)), length-set xs i (get_or xs m d)))

  pub drop-same : i < m → get_or (drop_at d xs i) i d ≡ get_or xs m d
  drop-same h = rw drop-is (get_or-take m (set xs i (get_or xs m d)) i d h ∙ get_or-set_same xs i (get_or xs m d) d inside)

  pub drop-other : (j : ℕ) → j < m → (j ≡ i → ⊥) → get_or (drop_at d xs i) j d ≡ get_or xs j d
  drop-other j h ne = rw drop-is (get_or-take m (set xs i (get_or xs m d)) j d h ∙ get_or-set_other xs i j (get_or xs m d) d ne)

-- a column's word lies in the frontier
pub column-in-frontier : (dx index : ℕ) → column_word dx index < dx + 1
unfolding column_word
column-in-frontier dx index = omega (arith, mod-lt index {m = 2 * (dx + 1)} (omega arith))

module _ (dx : ℕ) (lines links : List ℕ) (m i : ℕ) where
  stored : List ℕ
  stored = with_slot dx lines i (first_link dx lines m) (last_link dx lines m) (end_point dx lines m) (link_count dx lines m)

  filed : (j : ℕ) → slot_at dx (moved dx lines links m i) j ≡ slot_at dx stored j
  unfolding moved stored
  filed j =
      slot-of-filed dx (set stored (column_word dx (link_point links (first_link dx lines m))) i) (column_word dx (end_point dx lines m)) i j (omega (arith, column-in-frontier dx (end_point dx lines m)))
      ∙ slot-of-filed dx stored (column_word dx (link_point links (first_link dx lines m))) i j (omega (arith, column-in-frontier dx (link_point links (first_link dx lines m))))

  pub length_moved : length (moved dx lines links m i) ≡ length lines
  unfolding moved
  length_moved = simp (length-set, length-with_slot)

  pub length-released : length (released dx lines links m i) ≡ length lines
  unfolding released
  length-released = by (eqb i m)
    where
      by : (b : Bool) → length (cond b lines (moved dx lines links m i)) ≡ length lines
      by true = refl
      by false = length_moved

  slot-moved : dx + 2 + 4 * (i + 1) ≤ length lines → slot_at dx (moved dx lines links m i) i ≡ slot_at dx lines m
  unfolding stored
  slot-moved h = filed i ∙ slot-of-same dx lines i (first_link dx lines m) (last_link dx lines m) (end_point dx lines m) (link_count dx lines m) h

  slot_kept : (j : ℕ) → (j ≡ i → ⊥) → slot_at dx (moved dx lines links m i) j ≡ slot_at dx lines j
  unfolding stored
  slot_kept j ne = filed j ∙ slot-of-other dx lines i (first_link dx lines m) (last_link dx lines m) (end_point dx lines m) (link_count dx lines m) j ne

-- the lines that are left are held in their new places
lines_left : (dx : ℕ) (lines links : List ℕ) (chains : List (List ℕ)) (ls : List Line) (m g : ℕ)
    → length ls ≡ suc m → length chains ≡ suc m → g < suc m → dx + 2 + 4 * suc m ≤ length lines
    → ((i : ℕ) → i < suc m → (i ≡ g → ⊥) → HeldLine dx links (slot_at dx lines i) (get_or chains i []) (get_or ls i []))
    → (j : ℕ) → j < m → HeldLine dx links (slot_at dx (released dx lines links m g) j) (get_or (drop_at [] chains g) j []) (get_or (drop_at [] ls g) j [])
unfolding released
lines_left dx lines links chains ls m g nl nc hg room held j hj = by (ℕ_discrete g m) (ℕ_discrete j g)
  where
    goal : List ℕ → Type 0
    goal after = HeldLine dx links (slot_at dx after j) (get_or (drop_at [] chains g) j []) (get_or (drop_at [] ls g) j [])

    others : (ne : j ≡ g → ⊥) → HeldLine dx links (slot_at dx lines j) (get_or (drop_at [] chains g) j []) (get_or (drop_at [] ls g) j [])
    others ne =
        rw (drop-other [] chains g m nc (omega arith) j hj ne, drop-other [] ls g m nl (omega arith) j hj ne) (held j (omega arith) ne)

    by : Dec (g ≡ m) → Dec (j ≡ g) → HeldLine dx links (slot_at dx (cond (eqb g m) lines (moved dx lines links m g)) j) (get_or (drop_at [] chains g) j []) (get_or (drop_at [] ls g) j [])
    by (yes e) q = rw (eq-eqb g m e) (others (λ k. omega arith))
    by (no ne) (yes e) =
        rw (ne_eqb g m ne, e, slot-moved dx lines links m g (omega arith), drop-same [] chains g m nc (omega arith) (omega arith), drop-same [] ls g m nl (omega arith) (omega arith))
        (held m (omega arith) (λ k. ne (sym k)))
    by (no ne) (no ne') = rw (ne_eqb g m ne, slot_kept dx lines links m g j ne') (others ne')

-- of as many lines as there are chains, line g goes
module _ (chains : List (List ℕ)) (ls : List Line) (g : ℕ) (chained : length chains ≡ length ls) (inside : g < length ls) where
  abbrev m : ℕ
  m = length ls - 1

  long : length ls ≡ suc m
  long = omega arith

  length-left : length (without ls g) ≡ m
  unfolding without drop_at
  length-left = length-drop-at [] ls g m long inside

  pub one_fewer : suc (length (without ls g)) ≡ length ls
  one_fewer = omega (arith, length-left)

  pub chains-left : length (drop_at [] chains g) ≡ length (without ls g)
  chains-left = length-drop-at [] chains g m (chained ∙ long) (omega arith) ∙ sym length-left

  pub total_left : (w : List ℕ → ℕ) → total w (drop_at [] chains g) + w (get_or chains g []) ≡ total w chains
  total_left = total-drop [] chains g m (chained ∙ long) (omega arith)

  -- a line that stays has a place
  pub place-left : (i : ℕ) → i < length ls → (i ≡ g → ⊥) → (j : ℕ) × (j < length (without ls g)) × (get_or (without ls g) j [] ≡ get_or ls i [])
  unfolding without drop_at
  place-left i hi ne = by (ℕ_discrete i m)
    where
      by : Dec (i ≡ m) → (j : ℕ) × (j < length (drop_at [] ls g)) × (get_or (drop_at [] ls g) j [] ≡ get_or ls i [])
      by (yes e) = (g, omega (arith, length-left), drop-same [] ls g m long inside (omega arith) ∙ ap (λ (n : ℕ). get_or ls n []) (sym e))
      by (no e) = (i, omega (arith, length-left), drop-other [] ls g m long inside i (omega arith) ne)

  -- and is held there, as long as its links are
  module _ (dx : ℕ) (lines links : List ℕ) (count : ℕ) (counted : count ≡ length ls) (room : dx + 2 + 4 * length ls ≤ length lines)
      (others : (i : ℕ) → i < length ls → (i ≡ g → ⊥) → HeldLine dx links (slot_at dx lines i) (get_or chains i []) (get_or ls i [])) where
    pub count_left : count - 1 ≡ length (without ls g)
    count_left = omega (arith, length-left)

    pub held-left : (j : ℕ) → j < length (without ls g) → HeldLine dx links (slot_at dx (released dx lines links (count - 1) g) j) (get_or (drop_at [] chains g) j []) (get_or (without ls g) j [])
    unfolding without drop_at
    held-left j hj =
        subst (λ (n : ℕ). HeldLine dx links (slot_at dx (released dx lines links n g) j) (get_or (drop_at [] chains g) j []) (get_or (drop_at [] ls g) j [])) (sym (count_left ∙ length-left))
        (lines_left dx lines links chains ls m g long (chained ∙ long) (omega arith) (omega arith) (λ i hi away. others i (omega arith) away) j (omega (arith, length-left)))

-- words past the slots stay
pub past-released : (dx h : ℕ) (lines links : List ℕ) (m i : ℕ) → i < h → drop (dx + 2 + 4 * h) (released dx lines links m i) ≡ drop (dx + 2 + 4 * h) lines
unfolding released moved
past-released dx h lines links m i k = by (eqb i m)
  where
    by : (b : Bool) → drop (dx + 2 + 4 * h) (cond b lines (moved dx lines links m i)) ≡ drop (dx + 2 + 4 * h) lines
    by true = refl
    by false =
        past-filed dx h (set (with_slot dx lines i (first_link dx lines m) (last_link dx lines m) (end_point dx lines m) (link_count dx lines m)) (column_word dx (link_point links (first_link dx lines m))) i) (column_word dx (end_point dx lines m)) i (omega (arith, column-in-frontier dx (end_point dx lines m)))
        ∙ past-filed dx h (with_slot dx lines i (first_link dx lines m) (last_link dx lines m) (end_point dx lines m) (link_count dx lines m)) (column_word dx (link_point links (first_link dx lines m))) i (omega (arith, column-in-frontier dx (link_point links (first_link dx lines m))))
        ∙ past-with_slot dx h lines i (first_link dx lines m) (last_link dx lines m) (end_point dx lines m) (link_count dx lines m) k

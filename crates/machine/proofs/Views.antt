-- What is read of the tables after a store: a slot, a frontier word, a link. Each store changes just the part that it names, as long as it lies inside
-- the table. Assumes nothing.
use mathlib.Core.Path.{◌≡◌, ◌∙◌}
use mathlib.Core.List.{List}
use Prim.Native.Nat.{ℕ, ◌+◌, ◌*◌, ◌≤◌, ◌<◌}
use native.Mathlib.Omega.{arith}
use lib.ListN.{length, get_or, set, drop, length-set}
use lib.Seq.{get_or-set_same, get_or-set_other, drop-set-lt}
use Rattle.machine.specs.Machine.{slot_word, first_link, last_link, end_point, link_point, link_next, with_next, with_link, with_slot}

-- the parts of a slot that say which line it holds
pub record Slot : Type 0 where
  pub first : ℕ
  pub last : ℕ
  pub end : ℕ

abbrev pub slot_at : ℕ → List ℕ → ℕ → Slot
slot_at dx lines i = record { first = first_link dx lines i; last = last_link dx lines i; end = end_point dx lines i }

slot-eq : {a b c a' b' c' : ℕ} → a ≡ a' → b ≡ b' → c ≡ c' → ◌≡◌ {A = Slot} (record { first = a; last = b; end = c }) (record { first = a'; last = b'; end = c' })
slot-eq p q r = λ i. record { first = p i; last = q i; end = r i }

-- a read somewhere else
elsewhere : (l : List ℕ) (i j v : ℕ) → (j ≡ i → ⊥) → get_or (set l i v) j 0 ≡ get_or l j 0
elsewhere l i j v ne = get_or-set_other l i j v 0 ne

-- four stores in a row from w on, as a slot has them
module _ (l : List ℕ) (w a b e z : ℕ) where
  one : List ℕ
  one = set l (w + 0) a

  two : List ℕ
  two = set one (w + 1) b

  three : List ℕ
  three = set two (w + 2) e

  four : List ℕ
  four = set three (w + 3) z

  outside-four : (j : ℕ) → ((q : ℕ) → q < 4 → j ≡ w + q → ⊥) → get_or four j 0 ≡ get_or l j 0
  unfolding four three two one
  outside-four j ne =
      elsewhere three (w + 3) j z (ne 3 (omega arith))
      ∙ elsewhere two (w + 2) j e (ne 2 (omega arith))
      ∙ elsewhere one (w + 1) j b (ne 1 (omega arith))
      ∙ elsewhere l (w + 0) j a (ne 0 (omega arith))

  module _ (h : w + 4 ≤ length l) where
    first-of-four : get_or four (w + 0) 0 ≡ a
    unfolding four three two one
    first-of-four =
        elsewhere three (w + 3) (w + 0) z (λ k. omega arith)
        ∙ elsewhere two (w + 2) (w + 0) e (λ k. omega arith)
        ∙ elsewhere one (w + 1) (w + 0) b (λ k. omega arith)
        ∙ get_or-set_same l (w + 0) a 0 (omega arith)

    second-of-four : get_or four (w + 1) 0 ≡ b
    unfolding four three two one
    second-of-four =
        elsewhere three (w + 3) (w + 1) z (λ k. omega arith)
        ∙ elsewhere two (w + 2) (w + 1) e (λ k. omega arith)
        ∙ get_or-set_same one (w + 1) b 0 (simp length-set (omega arith))

    third-of-four : get_or four (w + 2) 0 ≡ e
    unfolding four three two one
    third-of-four =
        elsewhere three (w + 3) (w + 2) z (λ k. omega arith)
        ∙ get_or-set_same two (w + 2) e 0 (simp length-set (omega arith))

module _ (dx : ℕ) (lines : List ℕ) where
  pub length-with_slot : (i a b e z : ℕ) → length (with_slot dx lines i a b e z) ≡ length lines
  unfolding with_slot
  length-with_slot i a b e z = simp length-set

  -- a store to the frontier leaves the slots
  pub slot-of-filed : (w v j : ℕ) → w < dx + 2 → slot_at dx (set lines w v) j ≡ slot_at dx lines j
  unfolding first_link last_link end_point slot_word
  slot-of-filed w v j h =
      slot-eq
      (elsewhere lines w (dx + 2 + 4 * j + 0) v (λ e. omega arith))
      (elsewhere lines w (dx + 2 + 4 * j + 1) v (λ e. omega arith))
      (elsewhere lines w (dx + 2 + 4 * j + 2) v (λ e. omega arith))

  -- a store to a slot leaves the frontier and the other slots, and the slot as it says
  module _ (i a b e z : ℕ) where
    pub frontier-of-with_slot : (w : ℕ) → w < dx + 2 → get_or (with_slot dx lines i a b e z) w 0 ≡ get_or lines w 0
    unfolding with_slot slot_word four three two one
    frontier-of-with_slot w h = outside-four lines (dx + 2 + 4 * i) a b e z w (λ q k m. omega arith)

    pub slot-of-other : (j : ℕ) → (j ≡ i → ⊥) → slot_at dx (with_slot dx lines i a b e z) j ≡ slot_at dx lines j
    unfolding with_slot slot_word first_link last_link end_point four three two one
    slot-of-other j ne =
        slot-eq
        (outside-four lines (dx + 2 + 4 * i) a b e z (dx + 2 + 4 * j + 0) (λ q k m. ne (omega arith)))
        (outside-four lines (dx + 2 + 4 * i) a b e z (dx + 2 + 4 * j + 1) (λ q k m. ne (omega arith)))
        (outside-four lines (dx + 2 + 4 * i) a b e z (dx + 2 + 4 * j + 2) (λ q k m. ne (omega arith)))

    pub slot-of-same : dx + 2 + 4 * (i + 1) ≤ length lines → slot_at dx (with_slot dx lines i a b e z) i ≡ record { first = a; last = b; end = e }
    unfolding with_slot slot_word first_link last_link end_point four three two one
    slot-of-same h =
        slot-eq
        (first-of-four lines (dx + 2 + 4 * i) a b e z (omega arith))
        (second-of-four lines (dx + 2 + 4 * i) a b e z (omega arith))
        (third-of-four lines (dx + 2 + 4 * i) a b e z (omega arith))

-- links
module _ (links : List ℕ) where
  pub length-with_next : (k v : ℕ) → length (with_next links k v) ≡ length links
  unfolding with_next
  length-with_next k v = length-set links (2 * k + 1) v

  pub length-with_link : (k p n : ℕ) → length (with_link links k p n) ≡ length links
  unfolding with_link with_next
  length-with_link k p n = simp length-set

  pub point-of-with_next : (k v l : ℕ) → link_point (with_next links k v) l ≡ link_point links l
  unfolding link_point with_next
  point-of-with_next k v l = elsewhere links (2 * k + 1) (2 * l) v (λ e. omega arith)

  pub next-of-same : (k v : ℕ) → 2 * k + 1 < length links → link_next (with_next links k v) k ≡ v
  unfolding link_next with_next
  next-of-same k v h = get_or-set_same links (2 * k + 1) v 0 h

  pub next-of-other : (k v l : ℕ) → (l ≡ k → ⊥) → link_next (with_next links k v) l ≡ link_next links l
  unfolding link_next with_next
  next-of-other k v l ne = elsewhere links (2 * k + 1) (2 * l + 1) v (λ e. ne (omega arith))

module _ (links : List ℕ) (k p n : ℕ) where
  pub point-of-new : 2 * k + 1 < length links → link_point (with_link links k p n) k ≡ p
  unfolding with_link link_point
  point-of-new h = point-of-with_next (set links (2 * k) p) k n k ∙ get_or-set_same links (2 * k) p 0 (omega arith)

  pub point-of-old : (l : ℕ) → (l ≡ k → ⊥) → link_point (with_link links k p n) l ≡ link_point links l
  unfolding with_link link_point
  point-of-old l ne = point-of-with_next (set links (2 * k) p) k n l ∙ elsewhere links (2 * k) (2 * l) p (λ e. ne (omega arith))

  pub next-of-new : 2 * k + 1 < length links → link_next (with_link links k p n) k ≡ n
  unfolding with_link
  next-of-new h = next-of-same (set links (2 * k) p) k n (simp length-set h)

  pub next-of-old : (l : ℕ) → (l ≡ k → ⊥) → link_next (with_link links k p n) l ≡ link_next links l
  unfolding with_link link_next
  next-of-old l ne = next-of-other (set links (2 * k) p) k n l ne ∙ elsewhere links (2 * k) (2 * l + 1) p (λ e. omega arith)

-- ---- words past a number of them stay

pub past-filed : (dx h : ℕ) (lines : List ℕ) (w v : ℕ) → w < dx + 2 → drop (dx + 2 + 4 * h) (set lines w v) ≡ drop (dx + 2 + 4 * h) lines
past-filed dx h lines w v k = drop-set-lt (dx + 2 + 4 * h) lines w v (omega arith)

pub past-with_slot : (dx h : ℕ) (lines : List ℕ) (i a b e z : ℕ) → i < h → drop (dx + 2 + 4 * h) (with_slot dx lines i a b e z) ≡ drop (dx + 2 + 4 * h) lines
unfolding with_slot slot_word four three two one
past-with_slot dx h lines i a b e z k =
    drop-set-lt (dx + 2 + 4 * h) (three lines (dx + 2 + 4 * i) a b e z) (dx + 2 + 4 * i + 3) z (omega arith)
    ∙ drop-set-lt (dx + 2 + 4 * h) (two lines (dx + 2 + 4 * i) a b e z) (dx + 2 + 4 * i + 2) e (omega arith)
    ∙ drop-set-lt (dx + 2 + 4 * h) (one lines (dx + 2 + 4 * i) a b e z) (dx + 2 + 4 * i + 1) b (omega arith)
    ∙ drop-set-lt (dx + 2 + 4 * h) lines (dx + 2 + 4 * i + 0) a (omega arith)

pub past-with_next : (room : ℕ) (links : List ℕ) (k v : ℕ) → k < room → drop (2 * room) (with_next links k v) ≡ drop (2 * room) links
unfolding with_next
past-with_next room links k v h = drop-set-lt (2 * room) links (2 * k + 1) v (omega arith)

pub past-with_link : (room : ℕ) (links : List ℕ) (k p n : ℕ) → k < room → drop (2 * room) (with_link links k p n) ≡ drop (2 * room) links
unfolding with_link
past-with_link room links k p n h = past-with_next room (set links (2 * k) p) k n h ∙ drop-set-lt (2 * room) links (2 * k) p (omega arith)

-- What it means that the tables hold a drawing: each slot's chain of links spells its line, vertex by vertex, the rings' chains follow one another by the
-- mark, and no link stands in two places. Laws of what a store leaves. Assumes nothing.
use mathlib.Core.Path.{◌≡◌, refl, sym, ◌∙◌, ap, ap₂}
use mathlib.Core.List.{List, [], ◌∷◌, ◌++◌, map}
use Prim.Native.Nat.{ℕ, suc, ◌+◌, ◌≤◌, ◌<◌}
use native.Mathlib.Omega.{arith}
use lib.ListN.{length, get_or}
use Rattle.scope.specs.Cells.{indexed_point}
use Rattle.scope.specs.Stitching.{Line, Drawing}
use Rattle.laws.proofs.Total.{total, total-at, total-two}
use Rattle.machine.specs.Machine.{mark, link_point, link_next, Tables}
use Rattle.machine.proofs.Views.{Slot, slot_at}
use Rattle.machine.proofs.Chains.{Linked, uses, uses-first, uses-last, linked-still, linked-but-last, map-still}

-- the start points of a chain's links
unfoldable pub spelled : ℕ → List ℕ → List ℕ → Line
spelled dx links chain = map (λ k. indexed_point dx (link_point links k)) chain

pub record HeldLine (dx : ℕ) (links : List ℕ) (slot : Slot) (chain : List ℕ) (line : Line) : Type 0 where
  pub linked : Linked (link_next links) slot.first chain slot.last
  pub spells : line ≡ spelled dx links chain ++ (indexed_point dx slot.end ∷ [])

-- a ring's first point stands last again
pub record HeldRing (dx : ℕ) (links : List ℕ) (first last : ℕ) (chain : List ℕ) (ring : Line) : Type 0 where
  pub linked : Linked (link_next links) first chain last
  pub spells : ring ≡ spelled dx links chain ++ (indexed_point dx (link_point links first) ∷ [])

-- rings from the first link of the first to the last link of the last
abbrev pub HeldRings : ℕ → List ℕ → ℕ → List (List ℕ) → List Line → ℕ → Type 0
HeldRings dx links head [] [] tail = Unit {0}
HeldRings dx links head [] (ring ∷ rings) tail = ⊥
HeldRings dx links head (q ∷ []) [] tail = ⊥
HeldRings dx links head (q ∷ []) (ring ∷ []) tail = HeldRing dx links head tail q ring × (link_next links tail ≡ mark)
HeldRings dx links head (q ∷ []) (ring ∷ ring' ∷ rings) tail = ⊥
HeldRings dx links head (q ∷ q' ∷ qs) [] tail = ⊥
HeldRings dx links head (q ∷ q' ∷ qs) (ring ∷ []) tail = ⊥
HeldRings dx links head (q ∷ q' ∷ qs) (ring ∷ ring' ∷ rings) tail =
    (last : ℕ) × (head' : ℕ) × HeldRing dx links head last q ring × (link_next links last ≡ mark + head') × HeldRings dx links head' (q' ∷ qs) (ring' ∷ rings) tail

-- the tables hold the drawing, in links with numbers below bound
pub record Held (dx bound : ℕ) (t : Tables) (d : Drawing) (chains loops : List (List ℕ)) : Type 0 where
  pub count-is : t.progress.count ≡ length d.lines
  pub chains-are : length chains ≡ length d.lines
  pub lines-held : (i : ℕ) → i < length d.lines → HeldLine dx t.links (slot_at dx t.lines i) (get_or chains i []) (get_or d.lines i [])
  pub once : (k : ℕ) → total (uses k) chains + total (uses k) loops ≤ 1
  pub unused : (k : ℕ) → bound ≤ k → total (uses k) chains + total (uses k) loops ≡ 0
  pub rings-are : t.progress.rings ≡ length loops
  pub rings-held : HeldRings dx t.links t.progress.head loops d.rings t.progress.tail

-- links that are not stored to
pub record Still (links links' : List ℕ) (k : ℕ) : Type 0 where
  pub point : link_point links' k ≡ link_point links k
  pub next : link_next links' k ≡ link_next links k

module _ (dx : ℕ) (links links' : List ℕ) where
  pub spelled-still : (chain : List ℕ) → ((k : ℕ) → 1 ≤ uses k chain → link_point links' k ≡ link_point links k) → spelled dx links' chain ≡ spelled dx links chain
  unfolding spelled
  spelled-still chain same = map-still (λ k. indexed_point dx (link_point links k)) (λ k. indexed_point dx (link_point links' k)) chain (λ k used. ap (indexed_point dx) (same k used))

  pub line-still : (slot : Slot) (chain : List ℕ) (line : Line) → ((k : ℕ) → 1 ≤ uses k chain → Still links links' k) → HeldLine dx links slot chain line → HeldLine dx links' slot chain line
  line-still slot chain line still held = record {
    linked = linked-still (link_next links) (link_next links') slot.first chain slot.last held.linked (λ k used. (still k used).next);
    spells = held.spells ∙ ap (λ (l : Line). l ++ (indexed_point dx slot.end ∷ [])) (sym (spelled-still chain (λ k used. (still k used).point)));
  }

  pub ring-still : (first last : ℕ) (chain : List ℕ) (ring : Line) → ((k : ℕ) → 1 ≤ uses k chain → Still links links' k) → HeldRing dx links first last chain ring → HeldRing dx links' first last chain ring
  ring-still first last chain ring still held = record {
    linked = linked-still (link_next links) (link_next links') first chain last held.linked (λ k used. (still k used).next);
    spells =
        held.spells
        ∙ ap₂ (λ (l : Line) (n : ℕ). l ++ (indexed_point dx n ∷ []))
        (sym (spelled-still chain (λ k used. (still k used).point)))
        (sym (still first (uses-first (link_next links) first chain last held.linked)).point);
  }

  -- the ring whose last link is stored to
  ring-but-last : (first last : ℕ) (chain : List ℕ) (ring : Line) → uses last chain ≤ 1 → ((k : ℕ) → 1 ≤ uses k chain → link_point links' k ≡ link_point links k)
      → ((k : ℕ) → 1 ≤ uses k chain → (k ≡ last → ⊥) → link_next links' k ≡ link_next links k) → HeldRing dx links first last chain ring → HeldRing dx links' first last chain ring
  ring-but-last first last chain ring single points nexts held = record {
    linked = linked-but-last (link_next links) (link_next links') first chain last held.linked single (λ k ne used. nexts k used ne);
    spells =
        held.spells
        ∙ ap₂ (λ (l : Line) (n : ℕ). l ++ (indexed_point dx n ∷ []))
        (sym (spelled-still chain points))
        (sym (points first (uses-first (link_next links) first chain last held.linked)));
  }

  pub uses-tail : (head : ℕ) (q : List ℕ) (qs : List (List ℕ)) (rings : List Line) (tail : ℕ) → HeldRings dx links head (q ∷ qs) rings tail → 1 ≤ total (uses tail) (q ∷ qs)
  unfolding total
  uses-tail head q [] [] tail h = absurd h
  uses-tail head q [] (ring ∷ []) tail h = omega (arith, uses-last (link_next links) head q tail h.0.linked)
  uses-tail head q [] (ring ∷ ring' ∷ rings) tail h = absurd h
  uses-tail head q (q' ∷ qs) [] tail h = absurd h
  uses-tail head q (q' ∷ qs) (ring ∷ []) tail h = absurd h
  uses-tail head q (q' ∷ qs) (ring ∷ ring' ∷ rings) tail h = omega (arith, uses-tail h.1 q' qs (ring' ∷ rings) tail h.4)

  pub rings-still : (head : ℕ) (loops : List (List ℕ)) (rings : List Line) (tail : ℕ) → ((k : ℕ) → 1 ≤ total (uses k) loops → Still links links' k)
      → HeldRings dx links head loops rings tail → HeldRings dx links' head loops rings tail
  unfolding total
  rings-still head [] [] tail still h = tt
  rings-still head [] (ring ∷ rings) tail still h = h
  rings-still head (q ∷ []) [] tail still h = h
  rings-still head (q ∷ []) (ring ∷ []) tail still h = (
    ring-still head tail q ring (λ k used. still k (omega arith)) h.0,
    (still tail (omega (arith, uses-last (link_next links) head q tail h.0.linked))).next ∙ h.1,
  )
  rings-still head (q ∷ []) (ring ∷ ring' ∷ rings) tail still h = h
  rings-still head (q ∷ q' ∷ qs) [] tail still h = h
  rings-still head (q ∷ q' ∷ qs) (ring ∷ []) tail still h = h
  rings-still head (q ∷ q' ∷ qs) (ring ∷ ring' ∷ rings) tail still h = (
    h.0,
    h.1,
    ring-still head h.0 q ring (λ k used. still k (omega arith)) h.2,
    (still h.0 (omega (arith, uses-last (link_next links) head q h.0 h.2.linked))).next ∙ h.3,
    rings-still h.1 (q' ∷ qs) (ring' ∷ rings) tail (λ k used. still k (omega arith)) h.4,
  )

  -- one ring more, whose first link the last link of the rings before learns
  pub rings-more : (head : ℕ) (q : List ℕ) (qs : List (List ℕ)) (rings : List Line) (tail first last : ℕ) (chain : List ℕ) (ring : Line)
      → total (uses tail) (q ∷ qs) ≤ 1
      → ((k : ℕ) → 1 ≤ total (uses k) (q ∷ qs) → link_point links' k ≡ link_point links k)
      → ((k : ℕ) → 1 ≤ total (uses k) (q ∷ qs) → (k ≡ tail → ⊥) → link_next links' k ≡ link_next links k)
      → link_next links' tail ≡ mark + first → HeldRing dx links' first last chain ring → link_next links' last ≡ mark
      → HeldRings dx links head (q ∷ qs) rings tail → HeldRings dx links' head (q ∷ qs ++ (chain ∷ [])) (rings ++ (ring ∷ [])) last
  unfolding total
  rings-more head q [] [] tail first last chain ring single points nexts told new end h = absurd h
  rings-more head q [] (r ∷ []) tail first last chain ring single points nexts told new end h = (
    tail,
    first,
    ring-but-last head tail q r (omega arith) (λ k used. points k (omega arith)) (λ k used ne. nexts k (omega arith) ne) h.0,
    told,
    (new, end),
  )
  rings-more head q [] (r ∷ r' ∷ rings) tail first last chain ring single points nexts told new end h = absurd h
  rings-more head q (q' ∷ qs) [] tail first last chain ring single points nexts told new end h = absurd h
  rings-more head q (q' ∷ qs) (r ∷ []) tail first last chain ring single points nexts told new end h = absurd h
  rings-more head q (q' ∷ qs) (r ∷ r' ∷ rings) tail first last chain ring single points nexts told new end h = (
    h.0,
    h.1,
    ring-still head h.0 q r (λ k used. record { point = points k (omega arith); next = nexts k (omega arith) (λ e. away k used e) }) h.2,
    nexts h.0 (omega (arith, uses-last (link_next links) head q h.0 h.2.linked)) (λ e. away h.0 (uses-last (link_next links) head q h.0 h.2.linked) e) ∙ h.3,
    rings-more h.1 q' qs (r' ∷ rings) tail first last chain ring (omega arith) (λ k used. points k (omega arith)) (λ k used ne. nexts k (omega arith) ne) told new end h.4,
  )
    where
      away : (k : ℕ) → 1 ≤ uses k q → k ≡ tail → ⊥
      away k used e = omega (arith, uses-tail h.1 q' qs (r' ∷ rings) tail h.4, ap (λ (n : ℕ). uses n q) e)

-- as many chains as rings
pub rings-counted : (dx : ℕ) (links : List ℕ) (head : ℕ) (loops : List (List ℕ)) (rings : List Line) (tail : ℕ) → HeldRings dx links head loops rings tail → length loops ≡ length rings
rings-counted dx links head [] [] tail h = refl
rings-counted dx links head [] (ring ∷ rings) tail h = absurd h
rings-counted dx links head (q ∷ []) [] tail h = absurd h
rings-counted dx links head (q ∷ []) (ring ∷ []) tail h = refl
rings-counted dx links head (q ∷ []) (ring ∷ ring' ∷ rings) tail h = absurd h
rings-counted dx links head (q ∷ q' ∷ qs) [] tail h = absurd h
rings-counted dx links head (q ∷ q' ∷ qs) (ring ∷ []) tail h = absurd h
rings-counted dx links head (q ∷ q' ∷ qs) (ring ∷ ring' ∷ rings) tail h = ap suc (rings-counted dx links h.1 (q' ∷ qs) (ring' ∷ rings) tail h.4)

-- a link stands in one chain at the most
module _ (chains : List (List ℕ)) where
  pub chain-uses : (i k : ℕ) → i < length chains → uses k (get_or chains i []) ≤ total (uses k) chains
  chain-uses i k h = total-at (uses k) chains i [] h

  pub one-chain : (i j k : ℕ) → i < length chains → j < length chains → (j ≡ i → ⊥) → uses k (get_or chains i []) + uses k (get_or chains j []) ≤ total (uses k) chains
  one-chain i j k hi hj ne = total-two (uses k) chains i j [] hi hj ne

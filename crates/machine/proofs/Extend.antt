-- A new link, and a link that learns of it: what the link table then holds, and the chains that come of it. Assumes nothing.
use mathlib.Core.Path.{◌≡◌, refl, sym, ◌∙◌, ap, ap₂}
use mathlib.Core.List.{List, [], ◌∷◌, ◌++◌, append_assoc}
use Prim.Native.Nat.{ℕ, ◌+◌, ◌*◌, ◌≤◌, ◌<◌}
use lib.ListN.{length}
use Rattle.scope.specs.Cells.{indexed_point}
use Rattle.scope.specs.Stitching.{Line}
use Rattle.machine.specs.Machine.{link_point, link_next, with_next, with_link}
use Rattle.machine.proofs.Views.{length-with_next, length-with_link, point-of-with_next, next-of-same, next-of-other, point-of-new, point-of-old, next-of-new, next-of-old}
use Rattle.machine.proofs.Chains.{Linked, uses, linked-but-last, linked-join}
use Rattle.machine.proofs.Held.{spelled, spelled-still}

pub spelled-append : (dx : ℕ) (links c c' : List ℕ) → spelled dx links (c ++ c') ≡ spelled dx links c ++ spelled dx links c'
unfolding spelled
spelled-append dx links [] c' = refl
spelled-append dx links (x ∷ c) c' = ap (λ (l : Line). indexed_point dx (link_point links x) ∷ l) (spelled-append dx links c c')

-- link k, from the point of index s, with the link v behind it; and link z before it
module _ (links : List ℕ) (k s v z : ℕ) (new-fits : 2 * k + 1 < length links) (old-fits : 2 * z + 1 < length links) (apart : z ≡ k → ⊥) where
  unfoldable pub extended : List ℕ
  extended = with_next (with_link links k s v) z k

  pub length-extended : length extended ≡ length links
  unfolding extended
  length-extended = length-with_next (with_link links k s v) z k ∙ length-with_link links k s v

  pub new-point : link_point extended k ≡ s
  unfolding extended
  new-point = point-of-with_next (with_link links k s v) z k k ∙ point-of-new links k s v new-fits

  pub old-point : (x : ℕ) → (x ≡ k → ⊥) → link_point extended x ≡ link_point links x
  unfolding extended
  old-point x ne = point-of-with_next (with_link links k s v) z k x ∙ point-of-old links k s v x ne

  pub new-next : link_next extended k ≡ v
  unfolding extended
  new-next = next-of-other (with_link links k s v) z k k (λ e. apart (sym e)) ∙ next-of-new links k s v new-fits

  pub told-next : link_next extended z ≡ k
  unfolding extended
  told-next = next-of-same (with_link links k s v) z k (rw (length-with_link links k s v) old-fits)

  pub old-next : (x : ℕ) → (x ≡ k → ⊥) → (x ≡ z → ⊥) → link_next extended x ≡ link_next links x
  unfolding extended
  old-next x ne ne' = next-of-other (with_link links k s v) z k x ne' ∙ next-of-old links k s v x ne

-- a chain with link k behind its last link, spelled: one point more
module _ (dx : ℕ) (links links' : List ℕ) (chain : List ℕ) (first last k s : ℕ)
    (linked : Linked (link_next links) first chain last) (single : uses last chain ≤ 1)
    (point-new : link_point links' k ≡ s)
    (points : (x : ℕ) → 1 ≤ uses x chain → link_point links' x ≡ link_point links x)
    (nexts : (x : ℕ) → 1 ≤ uses x chain → (x ≡ last → ⊥) → link_next links' x ≡ link_next links x)
    (told : link_next links' last ≡ k) where
  pub chain-longer : (rest : List ℕ) (end : ℕ) → Linked (link_next links') k (k ∷ rest) end → Linked (link_next links') first (chain ++ (k ∷ rest)) end
  chain-longer rest end h =
      linked-join (link_next links') first chain last k (k ∷ rest) end
      (linked-but-last (link_next links) (link_next links') first chain last linked single (λ x ne used. nexts x used ne)) told h

  pub spelled-longer : (rest : List ℕ) → spelled dx links' (chain ++ (k ∷ rest)) ≡ (spelled dx links chain ++ (indexed_point dx s ∷ [])) ++ spelled dx links' rest
  unfolding spelled
  spelled-longer rest =
      spelled-append dx links' chain (k ∷ rest)
      ∙ ap₂ (λ (l : Line) (n : ℕ). l ++ (indexed_point dx n ∷ spelled dx links' rest)) (spelled-still dx links links' chain points) point-new
      ∙ sym (append_assoc (spelled dx links chain) (indexed_point dx s ∷ []) (spelled dx links' rest))

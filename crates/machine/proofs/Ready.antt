-- What the rules of the table machine share, over tables that hold a drawing and have room for one link more: the new link, of any number that is not in use, is
-- in no chain, a line's last link is in its own chain alone, and a link stored behind it leaves the other lines and the rings as they are. Assumes nothing.
use mathlib.Core.Path.{◌≡◌, sym, ◌∙◌, ap}
use mathlib.Core.List.{List, [], ◌∷◌, ◌++◌, append-nil}
use Prim.Native.Nat.{ℕ, ◌+◌, ◌*◌, ◌≤◌, ◌<◌}
use native.Mathlib.Decide.{ℕ_discrete, dec_lt}
use native.Mathlib.Omega.{arith}
use lib.Dec.{eqb}
use lib.ListN.{length, get_or, set}
use borrow.Author.Tests.{eq-eqb, ne_eqb}
use Rattle.scope.specs.Cells.{Point, indexed_point, when}
use Rattle.scope.specs.Stitching.{Drawing}
use Rattle.laws.proofs.Total.{total}
use Rattle.machine.specs.Machine.{link_point, link_next, with_next, with_link, with_slot, Tables}
use Rattle.machine.proofs.Views.{slot_at, slot-of-filed, slot-of-other, slot-of-same}
use Rattle.machine.proofs.Chains.{Linked, uses, uses-nil, uses-cons, uses-first, uses-last}
use Rattle.machine.proofs.Held.{spelled, HeldLine, HeldRings, Held, Still, line-still, rings-still, chain-uses, one-chain}
use Rattle.machine.proofs.Extend.{extended, length-extended, new-point, old-point, new-next, told-next, old-next, chain-longer, spelled-longer}

-- the uses of a chain of one link
pub uses-one : (x k : ℕ) → uses x (k ∷ []) ≡ when 1 (eqb x k)
uses-one x k = omega (arith, uses-cons x k [], uses-nil x)

-- the uses of a link in the chains of lines and of rings
abbrev pub used : List (List ℕ) → List (List ℕ) → ℕ → ℕ
used chains loops k = total (uses k) chains + total (uses k) loops

-- the tables hold the drawing in links below bound, with slots for h lines; the link next is not in use, and there is room for it
pub record Ready (dx bound next h : ℕ) (t : Tables) (d : Drawing) (chains loops : List (List ℕ)) : Type 0 where
  pub held : Held dx bound t d chains loops
  pub fresh : used chains loops next ≡ 0
  pub room : dx + 2 + 4 * h ≤ length t.lines
  pub links-room : 2 * next + 1 < length t.links
  pub bound-room : 2 * bound ≤ length t.links

module _ {dx bound next h : ℕ} {t : Tables} {d : Drawing} {chains loops : List (List ℕ)} (now : Ready dx bound next h t d chains loops) where
  open now use {held, fresh, links-room, bound-room}

  -- a link in use has a number below the bound, and is not the new one
  pub below-bound : (k : ℕ) → 1 ≤ used chains loops k → k < bound
  below-bound k u = by (dec_lt k bound)
    where
      by : Dec (k < bound) → k < bound
      by (yes q) = q
      by (no q) = absurd (omega (arith, held.unused k (omega arith)))

  pub not_new : (k : ℕ) → 1 ≤ used chains loops k → k ≡ next → ⊥
  not_new k u e = omega (arith, fresh, ap (used chains loops) e)

  pub in-chains : (i : ℕ) → i < length d.lines → i < length chains
  in-chains i hi = omega (arith, held.chains-are)

  pub chain-used : (i k : ℕ) → i < length d.lines → 1 ≤ uses k (get_or chains i []) → 1 ≤ used chains loops k
  chain-used i k hi u = omega (arith, chain-uses chains i k (in-chains i hi))

  -- one link more: what holds of all links after it
  module _ (chains' loops' : List (List ℕ)) (more : (k : ℕ) → used chains' loops' k ≡ used chains loops k + when 1 (eqb k next)) where
    pub grown-once : (k : ℕ) → used chains' loops' k ≤ 1
    grown-once k = by (ℕ_discrete k next)
      where
        by : Dec (k ≡ next) → used chains' loops' k ≤ 1
        by (yes e) = omega (arith, more k, ap (when 1) (eq-eqb k next e), fresh, ap (used chains loops) e)
        by (no ne) = omega (arith, more k, ap (when 1) (ne_eqb k next ne), held.once k)

    pub grown-unused : (bound' : ℕ) → bound ≤ bound' → next < bound' → (k : ℕ) → bound' ≤ k → used chains' loops' k ≡ 0
    grown-unused bound' wide inside k b = omega (arith, more k, ap (when 1) (ne_eqb k next (λ e. omega arith)), held.unused k (omega arith))

  -- what the chain of line f uses, no other chain does and no ring
  module _ (f : ℕ) (hf : f < length d.lines) where
    open slot_at dx t.lines f use {first, last, end}

    abbrev chain : List ℕ
    chain = get_or chains f []

    pub held-f : HeldLine dx t.links (slot_at dx t.lines f) chain (get_or d.lines f [])
    held-f = held.lines-held f hf

    last-used : 1 ≤ uses last chain
    last-used = uses-last (link_next t.links) first chain last held-f.linked

    pub first-used : 1 ≤ used chains loops first
    first-used = chain-used f first hf (uses-first (link_next t.links) first chain last held-f.linked)

    pub last-below : last < bound
    last-below = below-bound last (chain-used f last hf last-used)

    -- a link that is not in use is not the line's last
    pub unused-not-last : (k : ℕ) → used chains loops k ≡ 0 → k ≡ last → ⊥
    unused-not-last k none e = omega (arith, chain-used f last hf last-used, ap (used chains loops) e)

    pub other-chain : (i k : ℕ) → i < length d.lines → (i ≡ f → ⊥) → 1 ≤ uses k (get_or chains i []) → k ≡ last → ⊥
    other-chain i k hi ne u e = omega (arith, held.once k, one-chain chains f i k (in-chains f hf) (in-chains i hi) ne, last-used, ap (λ (n : ℕ). uses n chain) e)

    pub in-rings : (k : ℕ) → 1 ≤ total (uses k) loops → k ≡ last → ⊥
    in-rings k u e = omega (arith, held.once k, chain-uses chains f k (in-chains f hf), last-used, ap (λ (n : ℕ). uses n chain) e)

    -- stores to the new link and to the last link alone leave the other lines and the rings
    module _ (links' : List ℕ) (still : (k : ℕ) → (k ≡ next → ⊥) → (k ≡ last → ⊥) → Still t.links links' k) where
      pub stays : (i : ℕ) → i < length d.lines → (i ≡ f → ⊥) → HeldLine dx links' (slot_at dx t.lines i) (get_or chains i []) (get_or d.lines i [])
      stays i hi ne =
          line-still dx t.links links' (slot_at dx t.lines i) (get_or chains i []) (get_or d.lines i [])
          (λ k u. still k (not_new k (chain-used i k hi u)) (other-chain i k hi ne u))
          (held.lines-held i hi)

      pub rings-stay : HeldRings dx links' t.progress.head loops d.rings t.progress.tail
      rings-stay =
          rings-still dx t.links links' t.progress.head loops d.rings t.progress.tail
          (λ k u. still k (not_new k (omega arith)) (in-rings k u)) held.rings-held

    -- the slot stored anew, and a frontier word behind it
    module _ (a b e z w v : ℕ) (hw : w < dx + 2) (fits : f < h) where
      pub slot-new : slot_at dx (set (with_slot dx t.lines f a b e z) w v) f ≡ record { first = a; last = b; end = e }
      slot-new = slot-of-filed dx (with_slot dx t.lines f a b e z) w v f hw ∙ slot-of-same dx t.lines f a b e z (omega arith)

      pub slot-old : (j : ℕ) → (j ≡ f → ⊥) → slot_at dx (set (with_slot dx t.lines f a b e z) w v) j ≡ slot_at dx t.lines j
      slot-old j ne = slot-of-filed dx (with_slot dx t.lines f a b e z) w v j hw ∙ slot-of-other dx t.lines f a b e z j ne

    -- the link table with the new link behind the line's last
    module _ (s v : ℕ) where
      unfoldable pub behind : List ℕ
      behind = with_next (with_link t.links next s v) last next

      last_fits : 2 * last + 1 < length t.links
      last_fits = omega (arith, last-below, bound-room)

      last_apart : last ≡ next → ⊥
      last_apart e = not_new last (chain-used f last hf last-used) e

      pub length-behind : length behind ≡ length t.links
      unfolding behind extended
      length-behind = length-extended t.links next s v last links-room last_fits last_apart

      behind-start : link_point behind next ≡ s
      unfolding behind extended
      behind-start = new-point t.links next s v last links-room last_fits last_apart

      behind-told : link_next behind last ≡ next
      unfolding behind extended
      behind-told = told-next t.links next s v last links-room last_fits last_apart

      pub behind-next : link_next behind next ≡ v
      unfolding behind extended
      behind-next = new-next t.links next s v last links-room last_fits last_apart

      pub behind-still : (k : ℕ) → (k ≡ next → ⊥) → (k ≡ last → ⊥) → Still t.links behind k
      unfolding behind extended
      behind-still k ne ne' = record {
        point = old-point t.links next s v last links-room last_fits last_apart k ne;
        next = old-next t.links next s v last links-room last_fits last_apart k ne ne';
      }

      pub behind-point : (k : ℕ) → 1 ≤ used chains loops k → link_point behind k ≡ link_point t.links k
      unfolding behind extended
      behind-point k u = old-point t.links next s v last links-room last_fits last_apart k (not_new k u)

      single : uses last chain ≤ 1
      single = omega (arith, held.once last, chain-uses chains f last (in-chains f hf))

      points : (k : ℕ) → 1 ≤ uses k chain → link_point behind k ≡ link_point t.links k
      points k u = behind-point k (chain-used f k hf u)

      nexts : (k : ℕ) → 1 ≤ uses k chain → (k ≡ last → ⊥) → link_next behind k ≡ link_next t.links k
      nexts k u ne = (behind-still k (not_new k (chain-used f k hf u)) ne).next

      pub behind-linked : (rest : List ℕ) (z : ℕ) → Linked (link_next behind) next (next ∷ rest) z → Linked (link_next behind) first (chain ++ (next ∷ rest)) z
      behind-linked = chain-longer dx t.links behind chain first last next s held-f.linked single behind-start points nexts behind-told

      pub behind-spelled : (rest : List ℕ) → spelled dx behind (chain ++ (next ∷ rest)) ≡ (spelled dx t.links chain ++ (indexed_point dx s ∷ [])) ++ spelled dx behind rest
      behind-spelled = spelled-longer dx t.links behind chain first last next s held-f.linked single behind-start points nexts behind-told

      pub behind-spelled-end : spelled dx behind (chain ++ (next ∷ [])) ≡ spelled dx t.links chain ++ (indexed_point dx s ∷ [])
      behind-spelled-end = behind-spelled [] ∙ unfold spelled in append-nil (spelled dx t.links chain ++ (indexed_point dx s ∷ []))

    -- the line's points, with its end named by the new segment's start
    pub line-spells : (s : ℕ) → indexed_point dx s ≡ indexed_point dx end → get_or d.lines f [] ≡ spelled dx t.links chain ++ (indexed_point dx s ∷ [])
    line-spells s at-end = held-f.spells ∙ ap (λ (p : Point). spelled dx t.links chain ++ (p ∷ [])) (sym at-end)

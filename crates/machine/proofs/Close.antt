-- A line closes by the new link: its chain becomes a ring's, the last ring before learns of it, and its slot goes. Where the tables hold a drawing, they hold
-- the drawing after the close, the lines that are left in their new slots. Assumes nothing.
use mathlib.Core.Path.{◌≡◌, refl, sym, ◌∙◌, ap, ap₂, subst}
use mathlib.Core.Bool.{true, false}
use mathlib.Core.List.{List, [], ◌∷◌, ◌++◌}
use Prim.Native.Nat.{ℕ, ◌+◌, ◌*◌, ◌%◌, ◌^◌, ◌≤◌, ◌<◌}
use native.Mathlib.Nat.{mod-eq_of_lt}
use native.Mathlib.Decide.{ℕ_discrete}
use native.Mathlib.Omega.{arith}
use lib.Dec.{eqb}
use lib.ListN.{length, get_or, length-append}
use borrow.Author.Tests.{eq-eqb, ne_eqb}
use Rattle.scope.specs.Cells.{Point, indexed_point, when}
use Rattle.scope.specs.Stitching as rules
use Rattle.scope.specs.Stitching.{Line, Drawing}
use Rattle.laws.proofs.Total.{total, total-append}
use Rattle.machine.specs.Machine.{mark, word_of, link_point, with_next, Tables, closed_links, closed}
use Rattle.machine.proofs.Views.{slot_at, point-of-with_next, next-of-same, next-of-other}
use Rattle.machine.proofs.Chains.{uses, uses-append}
use Rattle.machine.proofs.Held.{HeldLine, HeldRing, HeldRings, Held, Still, line-still, ring-still, uses-tail, rings-more, chain-uses}
use Rattle.machine.proofs.Removal.{drop_at, chains-left, total_left, count_left, held-left}
use Rattle.machine.proofs.Ready.{Ready, uses-one, used, below-bound, not_new, in-chains, chain-used, grown-once, grown-unused, first-used, other-chain, in-rings, behind, length-behind, behind-next, behind-point, behind-still, behind-linked, behind-spelled-end, line-spells}

module _ {dx bound next h : ℕ} {t : Tables} {d : Drawing} {chains loops : List (List ℕ)} (now : Ready dx bound next h t d chains loops) where
  open now use {held}
  open t.progress use {head, tail}

  -- the last link of the last ring
  module _ (q : List ℕ) (qs : List (List ℕ)) (some : loops ≡ q ∷ qs) where
    held-rings : HeldRings dx t.links head (q ∷ qs) d.rings tail
    held-rings = subst (λ (l : List (List ℕ)). HeldRings dx t.links head l d.rings tail) some held.rings-held

    tail-used : 1 ≤ total (uses tail) loops
    tail-used = subst (λ (l : List (List ℕ)). 1 ≤ total (uses tail) l) (sym some) (uses-tail dx t.links t.links head q qs d.rings tail held-rings)

    pub tail-below : t.progress.tail < bound
    tail-below = below-bound now tail (omega (arith, tail-used))

    tail-not-new : tail ≡ next → ⊥
    tail-not-new = not_new now tail (omega (arith, tail-used))

    not-tail : (i k : ℕ) → i < length d.lines → 1 ≤ uses k (get_or chains i []) → k ≡ tail → ⊥
    not-tail i k hi u e = omega (arith, held.once k, chain-uses chains i k (in-chains now i hi), tail-used, ap (λ (n : ℕ). total (uses n) loops) e)

  module _ (f : ℕ) (hf : f < length d.lines) where
    open slot_at dx t.lines f use {first, last, end}

    abbrev loop : List ℕ
    loop = get_or chains f [] ++ (next ∷ [])

    module _ (s e : ℕ) (at-end : indexed_point dx s ≡ indexed_point dx end) (at-start : indexed_point dx (link_point t.links first) ≡ indexed_point dx e) where
      abbrev ring : Line
      ring = get_or d.lines f [] ++ (indexed_point dx e ∷ [])

      abbrev base : List ℕ
      base = behind now f hf s mark

      base-still : (k : ℕ) → 1 ≤ used chains loops k → (k ≡ last → ⊥) → Still t.links base k
      base-still k u = behind-still now f hf s mark k (not_new now k u)

      base-ring : HeldRing dx base first next loop ring
      base-ring = record {
        linked = behind-linked now f hf s mark [] next (refl, refl);
        spells =
            ap₂ (λ (l : Line) (p : Point). l ++ (p ∷ []))
            (line-spells now f hf s at-end ∙ sym (behind-spelled-end now f hf s mark))
            (sym at-start ∙ ap (indexed_point dx) (sym (behind-point now f hf s mark first (first-used now f hf))));
      }

      no-rings : (rings : List Line) → HeldRings dx t.links head [] rings tail → rings ≡ []
      no-rings [] h = refl
      no-rings (r ∷ rings) h = absurd h

      -- a ring before learns where this one begins
      abbrev told : List ℕ
      told = with_next base tail (word_of (mark + first))

      told-still : (k : ℕ) → 1 ≤ used chains loops k → (k ≡ last → ⊥) → (k ≡ tail → ⊥) → Still t.links told k
      told-still k u l z = record {
        point = point-of-with_next base tail (word_of (mark + first)) k ∙ (base-still k u l).point;
        next = next-of-other base tail (word_of (mark + first)) k z ∙ (base-still k u l).next;
      }

      told-rings : (q : List ℕ) (qs : List (List ℕ)) → loops ≡ q ∷ qs → bound ≤ mark → HeldRings dx told head (loops ++ (loop ∷ [])) (d.rings ++ (ring ∷ [])) next
      told-rings q qs some small =
          subst (λ (l : List (List ℕ)). HeldRings dx told head (l ++ (loop ∷ [])) (d.rings ++ (ring ∷ [])) next) (sym some)
          (rings-more dx t.links told head q qs d.rings tail first next loop ring
          (omega (arith, held.once tail, counted tail))
          (λ k u. point-of-with_next base tail (word_of (mark + first)) k ∙ behind-point now f hf s mark k (in_use k u))
          (λ k u ne. (told-still k (in_use k u) (in-rings now f hf k (omega (arith, counted k))) ne).next)
          (next-of-same base tail (word_of (mark + first)) (omega (arith, tail-below q qs some, now.bound-room, length-behind now f hf s mark)) ∙ whole)
          (ring-still dx base told first next loop ring
          (λ k u. record { point = point-of-with_next base tail (word_of (mark + first)) k; next = next-of-other base tail (word_of (mark + first)) k (loop-not-tail k u (ℕ_discrete k next)) }) base-ring)
          (next-of-other base tail (word_of (mark + first)) next (λ e. tail-not-new q qs some (sym e)) ∙ behind-next now f hf s mark)
          (held-rings q qs some))
        where
          counted : (k : ℕ) → total (uses k) loops ≡ total (uses k) (q ∷ qs)
          counted k = ap (total (uses k)) some

          in_use : (k : ℕ) → 1 ≤ total (uses k) (q ∷ qs) → 1 ≤ used chains loops k
          in_use k u = omega (arith, counted k)

          loop-not-tail : (k : ℕ) → 1 ≤ uses k loop → Dec (k ≡ next) → k ≡ tail → ⊥
          loop-not-tail k u (yes n) e = tail-not-new q qs some (sym e ∙ n)
          loop-not-tail k u (no n) e = not-tail q qs some f k hf (omega (arith, uses-append k (get_or chains f []) (next ∷ []), uses-one k next, ap (when 1) (ne_eqb k next n))) e

          whole : word_of (mark + first) ≡ mark + first
          whole = unfold word_of mark in mod-eq_of_lt (omega (arith, below-bound now first (first-used now f hf)))

      -- whether there is a ring before, as the tables say it
      none_yet : loops ≡ [] → eqb t.progress.rings 0 ≡ true
      none_yet none = eq-eqb t.progress.rings 0 (held.rings-are ∙ ap length none)

      some-yet : (q : List ℕ) (qs : List (List ℕ)) → loops ≡ q ∷ qs → eqb t.progress.rings 0 ≡ false
      some-yet q qs some = ne_eqb t.progress.rings 0 (λ z. omega (arith, held.rings-are, ap length some))

      others-still : (i k : ℕ) → i < length d.lines → (i ≡ f → ⊥) → 1 ≤ uses k (get_or chains i []) → Still t.links (closed_links dx t next s f) k
      unfolding closed_links behind
      others-still i k hi ne u = by loops refl
        where
          by : (l : List (List ℕ)) → loops ≡ l → Still t.links (closed_links dx t next s f) k
          by [] none = rw (none_yet none) (base-still k (chain-used now i k hi u) (other-chain now f hf i k hi ne u))
          by (q ∷ qs) some = rw (some-yet q qs some) (told-still k (chain-used now i k hi u) (other-chain now f hf i k hi ne u) (not-tail q qs some i k hi u))

      closed-rings : bound ≤ mark → HeldRings dx (closed_links dx t next s f) (closed dx t next s f).progress.head (loops ++ (loop ∷ [])) (d.rings ++ (ring ∷ [])) next
      unfolding closed closed_links behind
      closed-rings small = by loops refl
        where
          by : (l : List (List ℕ)) → loops ≡ l → HeldRings dx (closed_links dx t next s f) (closed dx t next s f).progress.head (loops ++ (loop ∷ [])) (d.rings ++ (ring ∷ [])) next
          by [] none =
              rw (none_yet none)
              (subst (λ (l : List (List ℕ)). HeldRings dx base first (l ++ (loop ∷ [])) (d.rings ++ (ring ∷ [])) next) (sym none)
              (subst (λ (l : List Line). HeldRings dx base first (loop ∷ []) (l ++ (ring ∷ [])) next)
              (sym (no-rings d.rings (subst (λ (l : List (List ℕ)). HeldRings dx t.links head l d.rings tail) none held.rings-held)))
              (base-ring, behind-next now f hf s mark)))
          by (q ∷ qs) some = rw (some-yet q qs some) (told-rings q qs some small)

      -- the lines that stay are held over the links as they then are
      pub closed-others : (i : ℕ) → i < length d.lines → (i ≡ f → ⊥) → HeldLine dx (closed_links dx t next s f) (slot_at dx t.lines i) (get_or chains i []) (get_or d.lines i [])
      closed-others i hi ne = line-still dx t.links (closed_links dx t next s f) (slot_at dx t.lines i) (get_or chains i []) (get_or d.lines i []) (λ k u. others-still i k hi ne u) (held.lines-held i hi)

      close-uses : (k : ℕ) → used (drop_at [] chains f) (loops ++ (loop ∷ [])) k ≡ used chains loops k + when 1 (eqb k next)
      unfolding total
      close-uses k = omega (arith, total_left chains d.lines f held.chains-are hf (uses k), total-append (uses k) loops (loop ∷ []), uses-append k (get_or chains f []) (next ∷ []), uses-one k next)

      pub close-held : length d.lines ≤ h → length loops + 1 < 2 ^ 32 → bound ≤ mark → (bound' : ℕ) → bound ≤ bound' → next < bound'
          → Held dx bound' (closed dx t next s f) (rules.close d f (indexed_point dx e)) (drop_at [] chains f) (loops ++ ((get_or chains f [] ++ (next ∷ [])) ∷ []))
      unfolding closed rules.close word_of
      close-held fits small numbers bound' wide inside = record {
        count-is = count_left chains d.lines f held.chains-are hf dx t.lines (closed_links dx t next s f) t.progress.count held.count-is room closed-others;
        chains-are = chains-left chains d.lines f held.chains-are hf;
        lines-held = held-left chains d.lines f held.chains-are hf dx t.lines (closed_links dx t next s f) t.progress.count held.count-is room closed-others;
        once = grown-once now (drop_at [] chains f) (loops ++ (loop ∷ [])) close-uses;
        unused = grown-unused now (drop_at [] chains f) (loops ++ (loop ∷ [])) close-uses bound' wide inside;
        rings-are = ap (λ (n : ℕ). (n + 1) % 2 ^ 32) held.rings-are ∙ mod-eq_of_lt small ∙ sym (length-append loops (loop ∷ []));
        rings-held = closed-rings numbers;
      }
        where
          room : dx + 2 + 4 * length d.lines ≤ length t.lines
          room = omega (arith, now.room)

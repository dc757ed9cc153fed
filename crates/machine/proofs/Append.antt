-- A line grows by one link, behind its last or in front of its first: where the tables hold a drawing, they hold the drawing after the append or the
-- prepend. The new link is in use then, and links that are not in use are as they were. Assumes nothing.
use mathlib.Core.Path.{◌≡◌, refl, sym, ◌∙◌, ap, ap₂}
use mathlib.Core.List.{List, [], ◌∷◌, ◌++◌}
use Prim.Native.Nat.{ℕ, ◌+◌, ◌≤◌, ◌<◌}
use native.Mathlib.Decide.{ℕ_discrete}
use native.Mathlib.Omega.{arith}
use lib.Dec.{eqb}
use lib.ListN.{length, get_or, set, length-set}
use lib.Seq.{get_or-set_same, get_or-set_other}
use Rattle.scope.specs.Cells.{indexed_point, when}
use Rattle.scope.specs.Stitching as rules
use Rattle.scope.specs.Stitching.{Line, Drawing}
use Rattle.laws.proofs.Total.{total-set}
use Rattle.machine.specs.Machine.{word_of, link_count, link_next, with_link, Tables, appended, prepended}
use Rattle.machine.proofs.Views.{slot_at, point-of-new, point-of-old, next-of-new, next-of-old}
use Rattle.machine.proofs.Chains.{uses, uses-cons, uses-append, linked-still, linked-join}
use Rattle.machine.proofs.Held.{spelled, spelled-still, HeldLine, Held, Still}
use Rattle.machine.proofs.Ready.{Ready, uses-one, used, in-chains, chain-used, not_new, grown-once, grown-unused, held-f, stays, rings-stay, slot-new, slot-old, unused-not-last, behind, behind-still, behind-linked, behind-spelled-end, line-spells}

module _ {dx bound next h : ℕ} {t : Tables} {d : Drawing} {chains loops : List (List ℕ)} (now : Ready dx bound next h t d chains loops) (f : ℕ) (hf : f < length d.lines) where
  open now use {held, links-room}
  open slot_at dx t.lines f use {first, last, end}

  abbrev chain : List ℕ
  chain = get_or chains f []

  abbrev line : Line
  line = get_or d.lines f []

  abbrev size : ℕ
  size = word_of (link_count dx t.lines f + 1)

  -- the uses of all links, by those in the chain that grew
  grown : (chain' : List ℕ) → ((k : ℕ) → uses k chain' ≡ uses k chain + when 1 (eqb k next)) → (k : ℕ) → used (set chains f chain') loops k ≡ used chains loops k + when 1 (eqb k next)
  grown chain' more k = omega (arith, total-set (uses k) chains f chain' [] (in-chains now f hf), more k)

  -- line f with one link more in its chain, and the others as they were
  replaced : (lines' links' chain' : List ℕ) (line' : Line) → HeldLine dx links' (slot_at dx lines' f) chain' line'
      → ((j : ℕ) → (j ≡ f → ⊥) → slot_at dx lines' j ≡ slot_at dx t.lines j)
      → ((k : ℕ) → (k ≡ next → ⊥) → (k ≡ last → ⊥) → Still t.links links' k)
      → ((k : ℕ) → uses k chain' ≡ uses k chain + when 1 (eqb k next))
      → (bound' : ℕ) → bound ≤ bound' → next < bound'
      → Held dx bound' (record { lines = lines'; links = links'; progress = t.progress }) (record { lines = set d.lines f line'; rings = d.rings }) (set chains f chain') loops
  replaced lines' links' chain' line' new slots still more bound' wide inside = record {
    count-is = held.count-is ∙ sym (length-set d.lines f line');
    chains-are = length-set chains f chain' ∙ held.chains-are ∙ sym (length-set d.lines f line');
    lines-held = λ i hi. by i (omega (arith, length-set d.lines f line')) (ℕ_discrete i f);
    once = grown-once now (set chains f chain') loops (grown chain' more);
    unused = grown-unused now (set chains f chain') loops (grown chain' more) bound' wide inside;
    rings-are = held.rings-are;
    rings-held = rings-stay now f hf links' still;
  }
    where
      by : (i : ℕ) → i < length d.lines → Dec (i ≡ f) → HeldLine dx links' (slot_at dx lines' i) (get_or (set chains f chain') i []) (get_or (set d.lines f line') i [])
      by i hi (yes e) = rw (e, get_or-set_same chains f chain' [] (in-chains now f hf), get_or-set_same d.lines f line' [] hf) new
      by i hi (no ne) =
          rw (slots i ne, get_or-set_other chains f i chain' [] ne, get_or-set_other d.lines f i line' [] ne)
          (stays now f hf links' still i hi ne)

  -- ---- append
  more-behind : (k : ℕ) → uses k (chain ++ (next ∷ [])) ≡ uses k chain + when 1 (eqb k next)
  more-behind k = omega (arith, uses-append k chain (next ∷ []), uses-one k next)

  pub append-uses : (k : ℕ) → used (set chains f (chain ++ (next ∷ []))) loops k ≡ used chains loops k + when 1 (eqb k next)
  append-uses = grown (chain ++ (next ∷ [])) more-behind

  pub append-still : (s e we : ℕ) (k : ℕ) → (k ≡ next → ⊥) → used chains loops k ≡ 0 → Still t.links (appended dx t next s f e we).links k
  unfolding appended behind
  append-still s e we k ne none = behind-still now f hf s 0 k ne (unused-not-last now f hf k none)

  pub append-held : (s e we : ℕ) → we < dx + 2 → f < h → indexed_point dx s ≡ indexed_point dx end → (bound' : ℕ) → bound ≤ bound' → next < bound'
      → Held dx bound' (appended dx t next s f e we) (rules.append d f (indexed_point dx e)) (set chains f (chain ++ (next ∷ []))) loops
  unfolding appended rules.append behind
  append-held s e we hw fits at-end =
      replaced (appended dx t next s f e we).lines (behind now f hf s 0) (chain ++ (next ∷ [])) (line ++ (indexed_point dx e ∷ []))
      (rw (slot-new now f hf first next e size we f hw fits) new)
      (slot-old now f hf first next e size we f hw fits)
      (behind-still now f hf s 0)
      more-behind
    where
      new : HeldLine dx (behind now f hf s 0) (record { first = first; last = next; end = e }) (chain ++ (next ∷ [])) (line ++ (indexed_point dx e ∷ []))
      new = record {
        linked = behind-linked now f hf s 0 [] next (refl, refl);
        spells = ap (λ (l : Line). l ++ (indexed_point dx e ∷ [])) (line-spells now f hf s at-end ∙ sym (behind-spelled-end now f hf s 0));
      }

  -- ---- prepend
  more-before : (k : ℕ) → uses k (next ∷ chain) ≡ uses k chain + when 1 (eqb k next)
  more-before k = omega (arith, uses-cons k next chain)

  pub prepend-uses : (k : ℕ) → used (set chains f (next ∷ chain)) loops k ≡ used chains loops k + when 1 (eqb k next)
  prepend-uses = grown (next ∷ chain) more-before

  pub prepend-still : (s ws : ℕ) (k : ℕ) → (k ≡ next → ⊥) → Still t.links (prepended dx t next s f ws).links k
  unfolding prepended
  prepend-still s ws k ne = record { point = point-of-old t.links next s first k ne; next = next-of-old t.links next s first k ne }

  pub prepend-held : (s ws : ℕ) → ws < dx + 2 → f < h → (bound' : ℕ) → bound ≤ bound' → next < bound'
      → Held dx bound' (prepended dx t next s f ws) (rules.prepend d f (indexed_point dx s)) (set chains f (next ∷ chain)) loops
  unfolding prepended rules.prepend
  prepend-held s ws hw fits =
      replaced (prepended dx t next s f ws).lines links' (next ∷ chain) (indexed_point dx s ∷ line)
      (rw (slot-new now f hf next last end size ws f hw fits) new)
      (slot-old now f hf next last end size ws f hw fits)
      (λ k ne ne'. still k ne)
      more-before
    where
      links' : List ℕ
      links' = with_link t.links next s first

      still : (k : ℕ) → (k ≡ next → ⊥) → Still t.links links' k
      still = prepend-still s ws

      kept : (k : ℕ) → 1 ≤ uses k chain → Still t.links links' k
      kept k u = still k (not_new now k (chain-used now f k hf u))

      new : HeldLine dx links' (record { first = next; last = last; end = end }) (next ∷ chain) (indexed_point dx s ∷ line)
      new = record {
        linked =
            linked-join (link_next links') next (next ∷ []) next first chain last (refl, refl) (next-of-new t.links next s first links-room)
            (linked-still (link_next t.links) (link_next links') first chain last (held-f now f hf).linked (λ k u. (kept k u).next));
        spells =
            unfold spelled in
            ap₂ (λ (n : ℕ) (l : Line). indexed_point dx n ∷ l) (sym (point-of-new t.links next s first links-room))
            ((held-f now f hf).spells ∙ ap (λ (l : Line). l ++ (indexed_point dx end ∷ [])) (sym (spelled-still dx t.links links' chain (λ k u. (kept k u).point))));
      }

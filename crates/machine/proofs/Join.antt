-- Two lines become one by the new link, and the slot of the second goes: where the tables hold a drawing, they hold the drawing after the join, the lines that
-- are left in their new slots. The new link is in use then, and links that are not in use are as they were. Assumes nothing.
use mathlib.Core.Path.{◌≡◌, refl, sym, ◌∙◌, ap, ap₂}
use mathlib.Core.List.{List, [], ◌∷◌, ◌++◌, append_assoc}
use Prim.Native.Nat.{ℕ, ◌+◌, ◌*◌, ◌≤◌, ◌<◌}
use native.Mathlib.Decide.{ℕ_discrete}
use native.Mathlib.Omega.{arith}
use lib.Dec.{eqb}
use lib.ListN.{length, get_or, set, length-set}
use lib.Seq.{get_or-set_same, get_or-set_other}
use Rattle.scope.specs.Cells.{indexed_point, when}
use Rattle.scope.specs.Stitching as rules
use Rattle.scope.specs.Stitching.{Line, Drawing}
use Rattle.laws.proofs.Total.{total-set}
use Rattle.machine.specs.Machine.{word_of, link_count, link_next, column_word, Tables, joined_links, joined_lines, joined}
use Rattle.machine.proofs.Views.{slot_at, length-with_slot}
use Rattle.machine.proofs.Chains.{uses, uses-cons, uses-append, linked-still, linked-join}
use Rattle.machine.proofs.Held.{spelled, spelled-still, HeldLine, Held, Still}
use Rattle.machine.proofs.Removal.{drop_at, column-in-frontier, chains-left, total_left, count_left, held-left}
use Rattle.machine.proofs.Ready.{Ready, used, in-chains, chain-used, not_new, grown-once, grown-unused, held-f, other-chain, stays, rings-stay, slot-new, slot-old, unused-not-last, behind, behind-next, behind-still, behind-linked, behind-spelled, line-spells}

module _ {dx bound next h : ℕ} {t : Tables} {d : Drawing} {chains loops : List (List ℕ)} (now : Ready dx bound next h t d chains loops)
    (f g : ℕ) (hf : f < length d.lines) (hg : g < length d.lines) (ne : f ≡ g → ⊥)
    (s : ℕ) (fits : length d.lines ≤ h) (at-end : indexed_point dx s ≡ indexed_point dx (slot_at dx t.lines f).end) where
  open now use {held}
  open slot_at dx t.lines g use {first, last, end}

  abbrev chain : ℕ → List ℕ
  chain i = get_or chains i []

  abbrev line : ℕ → Line
  line i = get_or d.lines i []

  -- chain and line f with those of g behind them, and the tables
  abbrev chains-joined : List (List ℕ)
  chains-joined = set chains f (chain f ++ (next ∷ chain g))

  abbrev lines-joined : List Line
  lines-joined = set d.lines f (line f ++ line g)

  abbrev links : List ℕ
  links = behind now f hf s first

  abbrev table : List ℕ
  table = joined_lines dx t next s f g

  g-still : (k : ℕ) → 1 ≤ uses k (chain g) → Still t.links links k
  g-still k u = behind-still now f hf s first k (not_new now k (chain-used now g k hg u)) (other-chain now f hf g k hg (λ e. ne (sym e)) u)

  both-held : HeldLine dx links (record { first = (slot_at dx t.lines f).first; last = last; end = end }) (chain f ++ (next ∷ chain g)) (line f ++ line g)
  both-held = record {
    linked =
        behind-linked now f hf s first (chain g) last
        (linked-join (link_next links) next (next ∷ []) next first (chain g) last (refl, refl) (behind-next now f hf s first)
        (linked-still (link_next t.links) (link_next links) first (chain g) last (held-f now g hg).linked (λ k u. (g-still k u).next)));
    spells =
        ap₂ (λ (l m : Line). l ++ m) (line-spells now f hf s at-end) ((held-f now g hg).spells ∙ ap (λ (l : Line). l ++ (indexed_point dx end ∷ [])) (sym (spelled-still dx t.links links (chain g) (λ k u. (g-still k u).point))))
        ∙ sym (append_assoc (spelled dx t.links (chain f) ++ (indexed_point dx s ∷ [])) (spelled dx links (chain g)) (indexed_point dx end ∷ []))
        ∙ ap (λ (l : Line). l ++ (indexed_point dx end ∷ [])) (sym (behind-spelled now f hf s first (chain g)));
  }

  abbrev size : ℕ
  size = word_of (link_count dx t.lines f + link_count dx t.lines g + 1)

  slot-joined : slot_at dx table f ≡ record { first = (slot_at dx t.lines f).first; last = last; end = end }
  unfolding joined_lines
  slot-joined = slot-new now f hf (slot_at dx t.lines f).first last end size (column_word dx end) f (omega (arith, column-in-frontier dx end)) (omega arith)

  slot-else : (j : ℕ) → (j ≡ f → ⊥) → slot_at dx table j ≡ slot_at dx t.lines j
  unfolding joined_lines
  slot-else = slot-old now f hf (slot_at dx t.lines f).first last end size (column_word dx end) f (omega (arith, column-in-frontier dx end)) (omega arith)

  length-table : length table ≡ length t.lines
  length-table = unfold joined_lines in simp (length-set, length-with_slot)

  before : (i : ℕ) → i < length d.lines → Dec (i ≡ f) → HeldLine dx links (slot_at dx table i) (get_or chains-joined i []) (get_or lines-joined i [])
  before i hi (yes q) = rw (q, slot-joined, get_or-set_same chains f (chain f ++ (next ∷ chain g)) [] (in-chains now f hf), get_or-set_same d.lines f (line f ++ line g) [] hf) both-held
  before i hi (no q) =
      rw (slot-else i q, get_or-set_other chains f i (chain f ++ (next ∷ chain g)) [] q, get_or-set_other d.lines f i (line f ++ line g) [] q)
      (stays now f hf links (behind-still now f hf s first) i hi q)

  pub joined-others : (i : ℕ) → i < length d.lines → (i ≡ g → ⊥) → HeldLine dx (joined_links dx t next s f g) (slot_at dx (joined_lines dx t next s f g) i) (get_or (set chains f (chain f ++ (next ∷ chain g))) i []) (get_or (set d.lines f (line f ++ line g)) i [])
  unfolding joined_links behind
  joined-others i hi away = before i hi (ℕ_discrete i f)

  chains-long : length chains-joined ≡ length lines-joined
  chains-long = length-set chains f (chain f ++ (next ∷ chain g)) ∙ held.chains-are ∙ sym (length-set d.lines f (line f ++ line g))

  lines_long : length lines-joined ≡ length d.lines
  lines_long = length-set d.lines f (line f ++ line g)

  inside : g < length lines-joined
  inside = omega (arith, lines_long)

  pub join-uses : (k : ℕ) → used (drop_at [] (set chains f (chain f ++ (next ∷ chain g))) g) loops k ≡ used chains loops k + when 1 (eqb k next)
  join-uses k =
      omega (
        arith,
        total_left chains-joined lines-joined g chains-long inside (uses k),
        ap (uses k) (get_or-set_other chains f g (chain f ++ (next ∷ chain g)) [] (λ q. ne (sym q))),
        total-set (uses k) chains f (chain f ++ (next ∷ chain g)) [] (in-chains now f hf),
        uses-append k (chain f) (next ∷ chain g),
        uses-cons k next (chain g),
      )

  pub join-still : (k : ℕ) → (k ≡ next → ⊥) → used chains loops k ≡ 0 → Still t.links (joined dx t next s f g).links k
  unfolding joined joined_links behind
  join-still k away none = behind-still now f hf s first k away (unused-not-last now f hf k none)

  pub join-held : (bound' : ℕ) → bound ≤ bound' → next < bound' → Held dx bound' (joined dx t next s f g) (rules.join d f g) (drop_at [] (set chains f (chain f ++ (next ∷ chain g))) g) loops
  unfolding joined rules.join joined_links behind
  join-held bound' wide below = record {
    count-is = count_left chains-joined lines-joined g chains-long inside dx table links t.progress.count counted room others;
    chains-are = chains-left chains-joined lines-joined g chains-long inside;
    lines-held = held-left chains-joined lines-joined g chains-long inside dx table links t.progress.count counted room others;
    once = grown-once now (drop_at [] chains-joined g) loops join-uses;
    unused = grown-unused now (drop_at [] chains-joined g) loops join-uses bound' wide below;
    rings-are = held.rings-are;
    rings-held = rings-stay now f hf links (behind-still now f hf s first);
  }
    where
      counted : t.progress.count ≡ length lines-joined
      counted = held.count-is ∙ sym lines_long

      room : dx + 2 + 4 * length lines-joined ≤ length table
      room = omega (arith, length-table, lines_long, now.room)

      others : (i : ℕ) → i < length lines-joined → (i ≡ g → ⊥) → HeldLine dx links (slot_at dx table i) (get_or chains-joined i []) (get_or lines-joined i [])
      others i hi away = before i (omega (arith, lines_long)) (ℕ_discrete i f)

-- A new line of one link: where the tables hold a drawing, they hold the drawing after the start. The new link is in use then, and the other links are as
-- they were. Assumes nothing.
use mathlib.Core.Path.{◌≡◌, refl, sym, ◌∙◌, ap}
use mathlib.Core.List.{List, [], ◌∷◌, ◌++◌}
use Prim.Native.Nat.{ℕ, ◌+◌, ◌^◌, ◌≤◌, ◌<◌}
use native.Mathlib.Nat.{mod-eq_of_lt}
use native.Mathlib.Decide.{ℕ_discrete}
use native.Mathlib.Omega.{arith}
use lib.Dec.{eqb}
use lib.ListN.{length, get_or, set, length-append, get_or-append}
use lib.Seq.{get_or-append_seam}
use Rattle.scope.specs.Cells.{indexed_point, when}
use Rattle.scope.specs.Stitching as rules
use Rattle.scope.specs.Stitching.{Line, Drawing}
use Rattle.laws.proofs.Total.{total, total-append}
use Rattle.machine.specs.Machine.{word_of, with_link, with_slot, Tables, started}
use Rattle.machine.proofs.Views.{slot_at, slot-of-filed, slot-of-other, slot-of-same, point-of-new, point-of-old, next-of-old}
use Rattle.machine.proofs.Chains.{uses}
use Rattle.machine.proofs.Held.{spelled, HeldLine, Held, Still, line-still, rings-still}
use Rattle.machine.proofs.Ready.{Ready, uses-one, used, in-chains, chain-used, not_new, grown-once, grown-unused}

module _ {dx bound next h : ℕ} {t : Tables} {d : Drawing} {chains loops : List (List ℕ)} (now : Ready dx bound next h t d chains loops) where
  open now use {held, links-room}

  pub start-uses : (k : ℕ) → used (chains ++ ((next ∷ []) ∷ [])) loops k ≡ used chains loops k + when 1 (eqb k next)
  start-uses k = unfold total in omega (arith, total-append (uses k) chains ((next ∷ []) ∷ []), uses-one k next)

  pub start-still : (s e ws we : ℕ) (k : ℕ) → (k ≡ next → ⊥) → Still t.links (started dx t next s e ws we).links k
  unfolding started
  start-still s e ws we k ne = record { point = point-of-old t.links next s 0 k ne; next = next-of-old t.links next s 0 k ne }

  pub start-held : (s e ws we : ℕ) → ws < dx + 2 → we < dx + 2 → length d.lines < h → length d.lines + 1 < 2 ^ 32 → (bound' : ℕ) → bound ≤ bound' → next < bound'
      → Held dx bound' (started dx t next s e ws we) (rules.start d (indexed_point dx s) (indexed_point dx e)) (chains ++ ((next ∷ []) ∷ [])) loops
  unfolding started rules.start word_of
  start-held s e ws we hws hwe fits small bound' wide inside = record {
    count-is = rw held.count-is (mod-eq_of_lt small ∙ sym (length-append d.lines (line ∷ [])));
    chains-are = length-append chains ((next ∷ []) ∷ []) ∙ ap (λ (n : ℕ). n + 1) held.chains-are ∙ sym (length-append d.lines (line ∷ []));
    lines-held = λ i hi. by i (ℕ_discrete i (length d.lines)) hi;
    once = grown-once now (chains ++ ((next ∷ []) ∷ [])) loops start-uses;
    unused = grown-unused now (chains ++ ((next ∷ []) ∷ [])) loops start-uses bound' wide inside;
    rings-are = held.rings-are;
    rings-held = rings-still dx t.links links' t.progress.head loops d.rings t.progress.tail (λ k u. still k (not_new now k (omega arith))) held.rings-held;
  }
    where
      count : ℕ
      count = t.progress.count

      line : Line
      line = indexed_point dx s ∷ indexed_point dx e ∷ []

      links' : List ℕ
      links' = with_link t.links next s 0

      stored : List ℕ
      stored = with_slot dx t.lines count next next e 1

      lines' : List ℕ
      lines' = set (set stored ws count) we count

      still : (k : ℕ) → (k ≡ next → ⊥) → Still t.links links' k
      still = start-still s e ws we

      slots : (j : ℕ) → slot_at dx lines' j ≡ slot_at dx stored j
      slots j = slot-of-filed dx (set stored ws count) we count j hwe ∙ slot-of-filed dx stored ws count j hws

      new : HeldLine dx links' (record { first = next; last = next; end = e }) (next ∷ []) line
      new = record {
        linked = (refl, refl);
        spells = unfold spelled in ap (λ (n : ℕ). indexed_point dx n ∷ indexed_point dx e ∷ []) (sym (point-of-new t.links next s 0 links-room));
      }

      by : (i : ℕ) → Dec (i ≡ length d.lines) → i < length (d.lines ++ (line ∷ []))
          → HeldLine dx links' (slot_at dx lines' i) (get_or (chains ++ ((next ∷ []) ∷ [])) i []) (get_or (d.lines ++ (line ∷ [])) i [])
      by i (yes q) hi =
          rw (
            q,
            get_or-append_seam d.lines line [] [],
            ap (λ (n : ℕ). get_or (chains ++ ((next ∷ []) ∷ [])) n []) (sym held.chains-are) ∙ get_or-append_seam chains (next ∷ []) [] [],
            slots (length d.lines),
            ap (slot_at dx stored) (sym held.count-is) ∙ slot-of-same dx t.lines count next next e 1 (omega (arith, held.count-is)),
          )
          new
      by i (no ne) hi =
          rw (
            get_or-append d.lines (line ∷ []) [] i below,
            get_or-append chains ((next ∷ []) ∷ []) [] i (in-chains now i below),
            slots i,
            slot-of-other dx t.lines count next next e 1 i (λ q. ne (q ∙ held.count-is)),
          )
          (line-still dx t.links links' (slot_at dx t.lines i) (get_or chains i []) (get_or d.lines i []) (λ k u. still k (not_new now k (chain-used now i k below u))) (held.lines-held i below))
        where
          below : i < length d.lines
          below = omega (arith, length-append d.lines (line ∷ []))

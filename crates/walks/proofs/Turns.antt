-- A loop that counts up to n, and a call of a function whose contract is a fact, in a walk of MIR by hand.
--     Upto n P, Nearer, nearer-wf      the numbers up to n, each with what is known after as many turns, and that one is nearer to n than another: what `Types/Run.antt`'s `loops` takes for such a loop.        next-upto, nearer      of the next number
--     tests            the test of a `while`, with both outcomes: the turn goes on, or the loop is left
--     calls-to         a call. The head of the context has the tokens and what the arguments own. After it there are the result r, what is said of the last values, and the tokens; r's machine value is written out, and the fact that the callee ensures is in hand
-- Assumes `Logic`.
use mathlib.Core.Path.{◌≡◌, refl, sym, ap, subst}
use mathlib.Core.Bool.{Bool, not}
use Prim.Native.Nat.{ℕ, ◌+◌, ◌-◌, ◌<◌, ◌≤◌}
use native.Mathlib.Omega.{arith}
use mathlib.Core.List.{List, [], ◌∷◌}
use mathlib.Core.WellFounded.InvImage
use mathlib.Core.WellFounded.{WellFounded}
use lib.Dec.{T}
use lib.WfN.{lt-wf_rel}
use seplogic.Ra.Ura.{Ura}
use mir.Syntax.{Callee, Place, Opd as Operand, Body, seq, cond, skip, exit, call}
use mir.Val.{Val, vbool}
use base.Logic.{SProp, ent, sep, emp, id⊢, via, emp∗, comm∗, mono_l}
use prog.Wp.{exits, Env, Calls, Loops}
use types.Logic.{Logic, sem}
use contract.Monad.{fact}
use sound.WpLaws.{FmC}
use types.Kit.{Item, ‵, raw, ◌⊛◌, some, later, mean, Post, post, prop, runs, lands, Seq, ◌$◌, move, split, use1, use2, pick, await, rewrite, regoal, recast}
use types.Run.{Opd, Opds, first, branches, skips, jumps}
use denote.RattleType.{RattleType, owns}
use denote.Laws.{Is, shows}
use denote.Signature.{type_at, types_at}
use denote.Steps.{only, peeks, heard}
use denote.Triple.Statement.{Contract, Triple}
use denote.Triple.Call.{calls_at}
use denote.Triple.Entry.{Res, alive}
use denote.Triple.Spec.{triple_of}
use denote.Triple.Clauses.{Ended, Clauses, Lasts, at_exit, lasts, closing}
use Rattle.walks.proofs.Rows.{Kind}

-- ---- a loop that counts up to n. P i is what a turn changes beside the number, and what is known of it, after i turns
module _ (n : ℕ) (P : ℕ → Type 0) where
  abbrev pub Upto : Type 0
  Upto = (i : ℕ) × (i ≤ n) × P i

  abbrev pub Nearer : Upto → Upto → Type 0
  Nearer j i = n - j.0 < n - i.0

  pub nearer-wf : WellFounded Nearer
  nearer-wf = InvImage.wf (λ (i : Upto). n - i.0) lt-wf_rel.wf

pub next-upto : {n i : ℕ} → i < n → i + 1 ≤ n
next-upto less = omega arith

pub nearer : {n i : ℕ} → i < n → n - (i + 1) < n - i
nearer less = omega arith

module _ {M : Type 1} {𝓤 : Ura M} {𝓛 : Logic 𝓤} {K : Type 0} {Γ : List (Item 𝓤)} {E : Env 𝓤 𝓛.H} {C : Calls 𝓤 𝓛.H} {Λ : Loops 𝓤 𝓛.H} {q : Post 𝓤 𝓛.H} where
  open 𝓛 use {H}

  pub tests : K → {c : Operand} {n : ℕ} {b : Body} {y : Bool} → Opd K 𝓛 Γ E c (vbool y) → (T y → Seq K 𝓛 Γ (runs C Λ E b q)) → (T (not y) → Seq K 𝓛 Γ (prop (post 𝓤 H q (exits n))))
      → Seq K 𝓛 Γ (runs C Λ E (seq (cond c skip (exit n)) b) q)
  tests t o on off = first t $ branches t o (λ z. skips t $ record { prf = (on z).prf }) (λ z. jumps t $ record { prf = (off z).prf })

  module _ {f : Callee} {xs : List Operand} {d : Place} {rest : Body} where
    pub calls-to : K → FmC 𝓤 H 𝓛.laws C → (S : Ended) (c : Clauses 𝓤 S) → Triple 𝓤 (C f) (triple_of 𝓛 S.signature (closing 𝓛 S c)) → (x : (triple_of 𝓛 S.signature (closing 𝓛 S c)).Ghost)
        → (tok : Item 𝓤) → mean 𝓛 tok ≡ alive 𝓛 S.signature x.0.0 x.0.1 → ent 𝓤 (emp 𝓤) ((c x.0.0 x.0.3).requires x.1)
        → (k : Kind (type_at S.signature.result x.0.0))
        → (φ : Res S.signature x.0.0 → Lasts S x.0.0 x.0.3 → Type 0) → ((r : Res S.signature x.0.0) (ws : Lasts S x.0.0 x.0.3) → (c x.0.0 x.0.3).ensures x.1 r (at_exit S x.0.0 x.0.3 ws) ≡ fact 𝓤 (φ r ws))
        → Opds K 𝓛 (raw ((triple_of 𝓛 S.signature (closing 𝓛 S c)).pre x) ∷ Γ) E xs ((triple_of 𝓛 S.signature (closing 𝓛 S c)).args x)
        → ((r : Res S.signature x.0.0) (ws : Lasts S x.0.0 x.0.3) → φ r ws → Is (type_at S.signature.result x.0.0) r (k.vals r)
        → Seq K 𝓛 (‵ ((type_at S.signature.result x.0.0).own_val r (k.vals r)) ∷ ‵ (lasts S x.0.0 x.0.3 ws) ∷ tok ∷ Γ) (lands C Λ E d (only (k.vals r)) rest q))
        → Seq K 𝓛 (tok ∷ ‵ (owns (types_at S.signature.params x.0.0) x.0.3 x.0.4) ∷ Γ) (runs C Λ E (seq (call f xs d) rest) q)
    calls-to t fm S c met x tok is-tok req k φ is-φ os go =
        recast 𝓛 (raw Tok) is-tok $ use2 𝓛 (raw (Spec.pre x)) (via 𝓤 (sep 𝓤 (emp 𝓤) (sep 𝓤 Tok Own)) (emp∗ 𝓤 (sep 𝓤 Tok Own)) (via 𝓤 (sep 𝓤 Asks (sep 𝓤 Tok Own)) (mono_l 𝓤 (sep 𝓤 Tok Own) req) (comm∗ 𝓤 Asks (sep 𝓤 Tok Own)))) $
        calls_at t fm Spec met x os (λ v.
        use1 𝓛 (later (some (λ (r : Res S.signature x.0.0). (raw Tok ⊛ ‵ (R.own_val r (v ∷ []))) ⊛ some (λ (ws : Lasts S x.0.0 x.0.3). ‵ (lasts S x.0.0 x.0.3 ws) ⊛ raw ((c x.0.0 x.0.3).ensures x.1 r (at_exit S x.0.0 x.0.3 ws)))))) (id⊢ 𝓤 _) $
        await t tt $ pick t (λ r. split t $ move t (1 ∷ []) $ pick t (λ ws. split t $ move t (1 ∷ []) $ recast 𝓛 (raw (fact 𝓤 (φ r ws))) (is-φ r ws) $ heard t (φ r ws) (λ e.
        -- [what is said of the last values; the tokens and the result]
        move t (1 ∷ []) $ split t $ recast 𝓛 tok (sym is-tok) $ move t (1 ∷ []) $ peeks t R (Is R) (shows 𝓛 R) r (v ∷ []) (λ is.
        rewrite t 0 (λ (us : List Val). ‵ (R.own_val r us)) (k.tells r (v ∷ []) is) refl $ regoal t (λ (u : Val). lands C Λ E d u rest q) (ap only (k.tells r (v ∷ []) is)) refl $ move t (0 ∷ 2 ∷ 1 ∷ []) $
        go r ws e (subst (Is R r) (k.tells r (v ∷ []) is) is))))))
      where
        R : RattleType
        R = type_at S.signature.result x.0.0

        Spec : Contract 𝓤
        Spec = triple_of 𝓛 S.signature (closing 𝓛 S c)

        Tok : SProp 𝓤
        Tok = alive 𝓛 S.signature x.0.0 x.0.1

        Own : SProp 𝓤
        Own = sem 𝓛 (owns (types_at S.signature.params x.0.0) x.0.3 x.0.4)

        Asks : SProp 𝓤
        Asks = (c x.0.0 x.0.3).requires x.1

-- A function's parameters, as a walk of its MIR by hand has them, and the theorem that such a walk gives.
--     Param s k        of a parameter: what is had of it at exit, the law for that, and how its machine values are spelled.        value, lent, lent_mut, gave-mut      plain data; a `&[T]`; a `&mut [T]` that the function still owns at exit; one that it has given up for good
--     Params ss ks     one for each parameter, as a tuple.        stays, vals       what they say of the parameters: what is had of them at exit, and their machine values
--     Out              what a walk ends in
--     shown            a walk from what the parameters own to `Out` shows that the function meets its contract
-- Assumes `Logic`.
use mathlib.Core.Path.{◌≡◌, refl, sym, subst}
use Prim.Native.Nat.{ℕ}
use mathlib.Core.List.{List, [], ◌∷◌}
use seplogic.Ra.Ura.{Ura}
use mir.Syntax.{Fn}
use mir.Val.{Val}
use base.Logic.{SProp, ent, sep}
use base.Fml.{ftrue}
use prog.Wp.{WpFn, Tables}
use types.Logic.{Logic}
use contract.Lifetimes.{Lfts, Shares, AllOutlive}
use sound.WpLaws.{WpFn-mono}
use denote.Exit.{Kept, yes, Exit, unchanged, Last, left}
use denote.RattleType.{RattleType, flat}
use denote.Laws.{Is, Ises, Are, Tells, Tellss, Spells, valss}
use denote.Signature.{Slot, AllWithin, plain, shr_slice_of, mut_slice_of, meet_at, name_of, types_at}
use denote.Slice.{shr_slice_vals, mut_slice_vals, mut_slice_Tells, shr_slice_Tells}
use denote.Triple.Entry.{Args, Vals, on_entry}
use denote.Triple.End.{Kepts}
use denote.Triple.Spec.{Meets}
use denote.Triple.Clauses.{Ended, Clauses, closing}
use denote.Triple.Walked.{Stay, Stays, stay_none, stay_none_slice, stay_slice, gave_slice, Goes, AllGo, Goes-none, Goes-none_slice, Goes-slice, Goes-gave_slice, walk_of, walked, walk_Meets}
use Rattle.walks.proofs.Rows.{Kind}

pub record Param {n : ℕ} (s : Slot n) (k : Kept) : Type 2 where
  pub stay : Stay s k
  pub goes : {M : Type 1} {𝓤 : Ura M} (𝓛 : Logic 𝓤) → Goes 𝓛 n s k stay
  pub spelled : (κs : Lfts n) → (s.row κs).Denot → List Val
  pub tells : (κs : Lfts n) → Tells (s.row κs) (Is (s.row κs)) (spelled κs)

-- nothing is said of what is seen as it was passed
pub silent : {D : Type 0} (e : Exit D) → e ≡ unchanged → (x : D) (f : Last e x) → left e x f ≡ ftrue
silent e is = subst (λ (e' : Exit _). (x : _) (f : Last e' x) → left e' x f ≡ ftrue) (sym is) (λ x f. refl)

module _ {n : ℕ} where
  abbrev pub value : {R : RattleType} (k : Kind R) {e : Kept} → Param {n = n} (plain (λ _. R)) e
  value {R} k {e} = record {
    stay = stay_none (λ _. R) e;
    goes = λ 𝓛. Goes-none 𝓛 n (λ _. R) e (λ κs. silent (R.exit e) (k.still e));
    spelled = λ _. k.vals;
    tells = λ _. k.tells;
  }

  abbrev pub lent : (j : ℕ) (ok : AllWithin n (j ∷ [])) (s : Slot n) {e : Kept} → Param (shr_slice_of (j ∷ []) ok s) e
  lent j ok s {e} = record {
    stay = stay_none_slice (j ∷ []) ok s e;
    goes = λ 𝓛. Goes-none_slice 𝓛 n (j ∷ []) ok s e;
    spelled = λ _. shr_slice_vals;
    tells = λ κs. shr_slice_Tells (name_of (j ∷ [])) (meet_at n (j ∷ []) ok κs) (s.row κs);
  }

  abbrev pub lent_mut : (j : ℕ) (ok : AllWithin n (j ∷ [])) (s : Slot n) → Param (mut_slice_of (j ∷ []) ok s) yes
  lent_mut j ok s = record {
    stay = stay_slice (j ∷ []) ok s;
    goes = λ 𝓛. Goes-slice 𝓛 n j ok s;
    spelled = λ _. mut_slice_vals;
    tells = λ κs. mut_slice_Tells (name_of (j ∷ [])) (meet_at n (j ∷ []) ok κs) (s.row κs);
  }

  abbrev pub gave-mut : (j : ℕ) (ok : AllWithin n (j ∷ [])) (s : Slot n) → Param (mut_slice_of (j ∷ []) ok s) yes
  gave-mut j ok s = record {
    stay = gave_slice (j ∷ []) ok s;
    goes = λ 𝓛. Goes-gave_slice 𝓛 n j ok s;
    spelled = λ _. mut_slice_vals;
    tells = λ κs. mut_slice_Tells (name_of (j ∷ [])) (meet_at n (j ∷ []) ok κs) (s.row κs);
  }

  -- ---- of all of them
  abbrev pub Params : (ss : List (Slot n)) → Kepts ss → Type 2
  Params [] ks = Unit {2}
  Params (s ∷ ss) ks = Param s ks.0 × Params ss ks.1

  abbrev pub stays : (ss : List (Slot n)) (ks : Kepts ss) → Params ss ks → Stays ss ks
  stays [] ks ps = tt
  stays (s ∷ ss) ks ps = (ps.0.stay, stays ss ks.1 ps.1)

  abbrev pub spells : (ss : List (Slot n)) (ks : Kepts ss) → Params ss ks → (κs : Lfts n) → Spells (types_at ss κs)
  spells [] ks ps κs = tt
  spells (s ∷ ss) ks ps κs = (ps.0.spelled κs, spells ss ks.1 ps.1 κs)

  all_tell : (ss : List (Slot n)) (ks : Kepts ss) (ps : Params ss ks) (κs : Lfts n) → Tellss (types_at ss κs) (Ises (types_at ss κs)) (spells ss ks ps κs)
  all_tell [] ks ps κs = tt
  all_tell (s ∷ ss) ks ps κs = (ps.0.tells κs, all_tell ss ks.1 ps.1 κs)

  all_go : (ss : List (Slot n)) (ks : Kepts ss) (ps : Params ss ks) {M : Type 1} {𝓤 : Ura M} (𝓛 : Logic 𝓤) → AllGo 𝓛 n ss ks (stays ss ks ps)
  all_go [] ks ps 𝓛 = tt
  all_go (s ∷ ss) ks ps 𝓛 = (ps.0.goes 𝓛, all_go ss ks.1 ps.1 𝓛)

-- ---- of a function
module _ (T : Ended) (ps : Params T.signature.params T.kept) where
  abbrev pub kept : Stays T.signature.params T.kept
  kept = stays T.signature.params T.kept ps

  module _ (κs : Lfts T.signature.lifetimes) (a : Args T.signature κs) where
    abbrev pub passed : Vals T.signature κs
    passed = valss (types_at T.signature.params κs) (spells T.signature.params T.kept ps κs) a

    abbrev pub words : List Val
    words = flat (types_at T.signature.params κs) passed

    -- what the arguments' relations say
    abbrev pub Known : Type 0
    Known = Are (types_at T.signature.params κs) (Ises (types_at T.signature.params κs)) a passed

  module _ {M : Type 1} {𝓤 : Ura M} (𝓛 : Logic 𝓤) (c : Clauses 𝓤 T) where
    open 𝓛 use {H}

    abbrev pub Out : (κs : Lfts T.signature.lifetimes) (qs : Shares T.signature.lifetimes) (bounds : AllOutlive T.signature.lifetimes T.signature.outlives κs) (a : Args T.signature κs) → (c κs a).ghost → Val → SProp 𝓤
    Out κs qs bounds a g = (walk_of 𝓛 T kept c).post ((κs, qs, bounds, a, passed κs a), g)

    pub shown : (𝓣 : Tables 𝓤 H) (f : Fn)
        → ((κs : Lfts T.signature.lifetimes) (qs : Shares T.signature.lifetimes) (bounds : AllOutlive T.signature.lifetimes T.signature.outlives κs) (a : Args T.signature κs) (g : (c κs a).ghost) → Known κs a
        → ent 𝓤 (sep 𝓤 (on_entry 𝓛 T.signature κs qs a (passed κs a)) ((c κs a).requires g)) (WpFn 𝓤 H 𝓣.C 𝓣.Λ f (words κs a) (Out κs qs bounds a g)))
        → Meets 𝓛 T.signature (WpFn 𝓤 H 𝓣.C 𝓣.Λ f) (closing 𝓛 T c)
    shown 𝓣 f walk =
        walk_Meets 𝓛 T kept (all_go T.signature.params T.kept ps 𝓛) c (WpFn 𝓤 H 𝓣.C 𝓣.Λ f) (WpFn-mono 𝓤 H 𝓛.laws 𝓣 f)
        (walked 𝓛 T kept c (WpFn 𝓤 H 𝓣.C 𝓣.Λ f) (spells T.signature.params T.kept ps) (all_tell T.signature.params T.kept ps) walk)

-- A `&κ mut [T]` that is lent again for a lifetime κ' of a call, and comes back: `Denote/Lend.antt`'s `lends_again` and `comes_back`, of a slice. It says nothing of the crate.
--     LentAgain        what the holder keeps while the slice is lent again under the name γ₁: the lender's part at κ', and its own borrow at κ, open, with both halves of its ghost variable
--     lends_again      own (the `&κ mut [T]` ((b, o), γ, ys)) ∗ [κ]_q  ⊢ ⇛ ∃ γ₁. own (the `&κ' mut [T]` ((b, o), γ₁, ys)) ∗ LentAgain γ₁
--     comes_back       given `Room` and that zs is as long as ys:  [†κ'] ∗ LentAgain γ₁ ∗ finally γ₁ zs  ⊢ ⇛ (own (the `&κ mut [T]` ((b, o), γ, zs)) ∗ [κ]_q)
--     lends, gets_back     the two as steps of a walk, for a lifetime ν that is made for the call: x is the slice reference, ys its elements, and zs those that the callee left
--     LentShared, lends_shared, shared_back    the same where it is lent as a `&[T]`, and comes back as it was
-- Assumes `Logic`.
use mathlib.Core.Path.{◌≡◌, refl, sym, ap, subst}
use Prim.Native.Nat.{ℕ}
use mathlib.Core.List.{List, [], ◌∷◌}
use lib.ListN.{length}
use seplogic.Ra.Ura.{Ura}
use base.Fraction.{full_share}
use mir.Syntax.{Lifetime}
use mir.Val.{Val}
use base.Logic.{ent, sep, ex, snd∗}
use base.Fml.{Lft, GName, Share, Fml, fsep, flft, fdead, fobs, fauth, flent, fobor, fhide, feq}
use types.Logic.{Logic, sem}
use types.Kit.{Goal, Soaks, Item, ‵, ◌⊛◌, some, later, Seq, Step, step, ◌$◌, ◌∵◌, !, qed, move, use1, use2, use3, drop, split, pick, rewrite, fsplit, fjoin, feq_i, frame, await, updating, now as at_once, show, done}
use types.Tokens.{lft_new, lft_end, lent_back}
use types.SemTy.{cells, Arr}
use types.Share.{arr_parts}
use denote.RattleType.{RattleType}
use denote.Shadow.{shadow, pure_l, pure_i}
use denote.Memory.{mem, shares}
use denote.Laws.{Is, shows}
use denote.Ref.{Bor, MutBor, at_last}
use denote.Steps.{peeks}
use denote.Slice.{slice_val, mut_slice_vals, MutSlice, ShrSlice, heres, Room, finally, shr_slice_at, mut_slice_at, elements_shared, coded_holeys}
use denote.Lend.{Held, lends_slice, slice_back}
use denote.Lends.{Lent-map}
use denote.Copied.{Copied, each_lends}
use denote.Index.{row, whole_out, whole_in, opens_slice, closes_slice}
use Rattle.walks.proofs.Rows.{Kind}

module _ (R : RattleType) (κ κ' : Lft) (q : Share) (γ : GName) (b o : ℕ) where
  abbrev at-list : GName → List R.Denot → MutBor (List R.Denot)
  at-list δ ys = record { ref_ptr = (b, o); ghost_name = δ; now = ys }

  abbrev pub LentAgain : GName → List R.Denot → Fml
  LentAgain γ₁ ys = fsep (flent κ' (Held R (length ys) b o γ₁)) (fsep (fobor κ q (Held R (length ys) b o γ)) (fsep (fobs γ ((coded_holeys R).code (heres R ys))) (fauth γ ((coded_holeys R).code (heres R ys)))))

  module _ {M : Type 1} {𝓤 : Ura M} (𝓛 : Logic 𝓤) (ℓ ℓ' : Lifetime) (ys : List R.Denot) where
    open 𝓛 use {H, A}

    abbrev vals : List Val
    vals = slice_val (b, o) (length ys) ∷ []

    pub lends_again : ent 𝓤 (sep 𝓤 (sem 𝓛 ((MutSlice ℓ κ R).own_val (at-list γ ys) vals)) (A.lft κ q))
        (H.⇛ (ex 𝓤 (λ (γ₁ : GName). sep 𝓤 (sem 𝓛 ((MutSlice ℓ' κ' R).own_val (at-list γ₁ ys) vals)) (sem 𝓛 (LentAgain γ₁ ys)))))
    lends_again =
        qed 𝓛 (‵ ((MutSlice ℓ κ R).own_val (at-list γ ys) vals) ∷ ‵ (flft κ q) ∷ []) ∵ updating ! $ fsplit ! $ pure_l ! (mut_slice_at R (at-list γ ys) vals) (λ p. fsplit ! $ opens_slice ! tt R ys b o $
        use1 𝓛 (‵ (cells (mem R) ys b o)) (whole_in 𝓛 R ys b o) $
        use1 𝓛 (later (some (λ (γ₁ : GName). ‵ ((MutSlice ℓ' κ' R).own_val (at-list γ₁ ys) vals) ⊛ ‵ (flent κ' (Held R (length ys) b o γ₁))))) (lends_slice 𝓛 R ℓ' κ' ys b o p.1) $ await ! tt $ pick ! (λ γ₁. split ! $
        -- [the new slice; the lender's part at κ'; the open borrow at κ; obs γ; auth γ]
        at_once ! $ show ! (λ (γ' : GName). sep 𝓤 (sem 𝓛 ((MutSlice ℓ' κ' R).own_val (at-list γ' ys) vals)) (sem 𝓛 (LentAgain γ' ys))) γ₁ $ frame ! $
        move ! (2 ∷ 3 ∷ []) $ fjoin ! $ move ! (2 ∷ 0 ∷ []) $ fjoin ! $ move ! (1 ∷ 0 ∷ []) $ fjoin ! $ done !))

    pub comes_back : (γ₁ : GName) (zs : List R.Denot) → Room R (length ys) → length zs ≡ length ys
        → ent 𝓤 (sep 𝓤 (A.dead κ') (sep 𝓤 (sem 𝓛 (LentAgain γ₁ ys)) (sem 𝓛 (finally R γ₁ zs)))) (H.⇛ (sep 𝓤 (sem 𝓛 ((MutSlice ℓ κ R).own_val (at-list γ zs) vals)) (A.lft κ q)))
    comes_back γ₁ zs room e =
        qed 𝓛 (‵ (fdead κ') ∷ ‵ (LentAgain γ₁ ys) ∷ ‵ (finally R γ₁ zs) ∷ []) ∵ updating ! $ move ! (1 ∷ []) $ fsplit ! $ move ! (2 ∷ 0 ∷ 3 ∷ []) $
        use3 𝓛 (later (‵ ((Arr (mem R) (length ys)).own_at zs b o))) (slice_back 𝓛 R κ' γ₁ zs (length ys) b o) $ await ! tt $ fsplit ! $ drop ! $ use1 𝓛 (‵ (row R full_share zs b o)) (whole_out 𝓛 R zs b o) $
        move ! (1 ∷ []) $ fsplit ! $ move ! (1 ∷ []) $ fsplit ! $ move ! (3 ∷ 2 ∷ 0 ∷ 1 ∷ []) $ closes_slice ! tt R ys zs e b o $ at_once ! $
        fjoin ! $ pure_i ! (mut_slice_at R (at-list γ zs) vals) (tt, (tt, tt)) (ap (λ (m : ℕ). slice_val (b, o) m ∷ []) (sym e), subst (Room R) (sym e) room) $ fjoin ! $ done !

-- ---- the two as steps of a walk
-- the slice as the callee has it, under the name δ
abbrev pub under-name : {X : Type 0} → MutBor (List X) → GName → List X → MutBor (List X)
under-name x δ ys = record { ref_ptr = x.ref_ptr; ghost_name = δ; now = ys }

module _ {M : Type 1} {𝓤 : Ura M} {𝓛 : Logic 𝓤} {K : Type 0} {Γ : List (Item 𝓤)} {G : Goal 𝓤 𝓛.H} {R : RattleType} where
  pub lends : K → Soaks G → Kind R → (ℓ ℓ' : Lifetime) {κ : Lft} {q : Share} (x : MutBor (List R.Denot)) (ys : List R.Denot) (vs : List Val)
      → ((ν : ℕ) (δ : GName) → Is (MutSlice ℓ κ R) (at_last x ys) vs → Seq K 𝓛 (‵ (flft (ν ∷ []) full_share) ∷ ‵ ((MutSlice ℓ' (ν ∷ []) R).own_val (under-name x δ ys) vs) ∷ ‵ (LentAgain R κ (ν ∷ []) q x.ghost_name x.ref_ptr.0 x.ref_ptr.1 δ ys) ∷ Γ) G)
      → Seq K 𝓛 (‵ ((MutSlice ℓ κ R).own_val (at_last x ys) vs) ∷ ‵ (flft κ q) ∷ Γ) G
  lends t z k ℓ ℓ' {κ} {q} x ys vs go =
      peeks t (MutSlice ℓ κ R) (Is (MutSlice ℓ κ R)) (shows 𝓛 (MutSlice ℓ κ R)) (at_last x ys) vs (λ p. rewrite t 0 (λ (us : List Val). ‵ ((MutSlice ℓ κ R).own_val (at_last x ys) us)) p.0.0 refl $ lft_new t z (λ ν. move t (1 ∷ 2 ∷ []) $
      use2 𝓛 (later (some (λ (δ : GName). ‵ ((MutSlice ℓ' (ν ∷ []) R).own_val (under-name x δ ys) (mut_slice_vals (at_last x ys))) ⊛ ‵ (LentAgain R κ (ν ∷ []) q x.ghost_name x.ref_ptr.0 x.ref_ptr.1 δ ys)))) (lends_again R κ (ν ∷ []) q x.ghost_name x.ref_ptr.0 x.ref_ptr.1 𝓛 ℓ ℓ' ys) $
      await t z $ pick t (λ δ. split t $ rewrite t 0 (λ (us : List Val). ‵ ((MutSlice ℓ' (ν ∷ []) R).own_val (under-name x δ ys) us)) (sym p.0.0) refl $ move t (2 ∷ 0 ∷ []) $ go ν δ p)))

  pub gets_back : K → Soaks G → Kind R → (ℓ : Lifetime) {κ : Lft} {q : Share} (x : MutBor (List R.Denot)) (ys zs : List R.Denot) (vs : List Val) (ν : ℕ) (δ : GName) → Is (MutSlice ℓ κ R) (at_last x ys) vs → length zs ≡ length ys
      → Step K 𝓛 (‵ ((MutSlice ℓ κ R).own_val (at_last x zs) vs) ∷ ‵ (flft κ q) ∷ Γ) G (‵ (flft (ν ∷ []) full_share) ∷ ‵ (LentAgain R κ (ν ∷ []) q x.ghost_name x.ref_ptr.0 x.ref_ptr.1 δ ys) ∷ ‵ (finally R δ zs) ∷ Γ) G
  gets_back t z k ℓ {κ} {q} x ys zs vs ν δ p e = step (λ s. lft_end t z $
      use3 𝓛 (later (‵ ((MutSlice ℓ κ R).own_val (at_last x zs) (mut_slice_vals (at_last x ys))) ⊛ ‵ (flft κ q))) (comes_back R κ (ν ∷ []) q x.ghost_name x.ref_ptr.0 x.ref_ptr.1 𝓛 ℓ ℓ ys δ zs p.0.1 e) $ await t z $ split t $
      rewrite t 0 (λ (us : List Val). ‵ ((MutSlice ℓ κ R).own_val (at_last x zs) us)) (sym p.0.0) refl $ s)

-- ---- lent as a `&[T]`: the slice as the callee has it, and what the holder keeps
abbrev pub as-shared : {X : Type 0} → MutBor (List X) → List X → Bor (List X)
as-shared x ys = record { ref_ptr = x.ref_ptr; now = ys }

abbrev pub LentShared : (R : RattleType) → Lft → Lft → Share → MutBor (List R.Denot) → List R.Denot → Fml
LentShared R κ κ' q x ys = fsep (flent κ' ((arr_parts (shares R) (length ys)).part full_share ys x.ref_ptr.0 x.ref_ptr.1))
    (fsep (fobor κ q (Held R (length ys) x.ref_ptr.0 x.ref_ptr.1 x.ghost_name)) (fsep (fobs x.ghost_name ((coded_holeys R).code (heres R ys))) (fauth x.ghost_name ((coded_holeys R).code (heres R ys)))))

module _ {M : Type 1} {𝓤 : Ura M} {𝓛 : Logic 𝓤} {K : Type 0} {Γ : List (Item 𝓤)} {G : Goal 𝓤 𝓛.H} {R : RattleType} where
  pub lends_shared : K → Soaks G → Kind R → Copied 𝓛 R → (ℓ ℓ' : Lifetime) {κ : Lft} {q : Share} (x : MutBor (List R.Denot)) (ys : List R.Denot) (vs : List Val)
      → ((ν : ℕ) → shadow (mut_slice_at R (at_last x ys) vs) → Seq K 𝓛 (‵ (flft (ν ∷ []) full_share) ∷ ‵ ((ShrSlice ℓ' (ν ∷ []) R).own_val (as-shared x ys) vs) ∷ ‵ (LentShared R κ (ν ∷ []) q x ys) ∷ Γ) G)
      → Seq K 𝓛 (‵ ((MutSlice ℓ κ R).own_val (at_last x ys) vs) ∷ ‵ (flft κ q) ∷ Γ) G
  lends_shared t z k c ℓ ℓ' {κ} {q} x ys vs go =
      fsplit t $ pure_l t (mut_slice_at R (at_last x ys) vs) (λ p. fsplit t $ opens_slice t z R ys x.ref_ptr.0 x.ref_ptr.1 $ feq_i t ℕ (length ys) (length ys) refl $ fjoin t $ lft_new t z (λ ν. move t (1 ∷ []) $
      use1 𝓛 (later (‵ (fhide (elements_shared R ys x.ref_ptr.0 x.ref_ptr.1 (ν ∷ []))) ⊛ ‵ (flent (ν ∷ []) ((arr_parts (shares R) (length ys)).part full_share ys x.ref_ptr.0 x.ref_ptr.1))))
      (Lent-map 𝓛 ((arr_parts (shares R) (length ys)).part full_share ys x.ref_ptr.0 x.ref_ptr.1) (row R full_share ys x.ref_ptr.0 x.ref_ptr.1) (elements_shared R ys x.ref_ptr.0 x.ref_ptr.1)
      (snd∗ 𝓤 (sem 𝓛 (feq ℕ (length ys) (length ys))) (sem 𝓛 (row R full_share ys x.ref_ptr.0 x.ref_ptr.1)))
      (qed 𝓛 (‵ (row R full_share ys x.ref_ptr.0 x.ref_ptr.1) ∷ []) {P = sem 𝓛 ((arr_parts (shares R) (length ys)).part full_share ys x.ref_ptr.0 x.ref_ptr.1)} (feq_i ! ℕ (length ys) (length ys) refl $ done !))
      (each_lends 𝓛 R c full_share ys x.ref_ptr.0 x.ref_ptr.1) (ν ∷ [])) $ await t z $ split t $
      pure_i t (shr_slice_at R (as-shared x ys) vs) (tt, (tt, tt)) p $ fjoin t $
      -- [the shared slice; the lender's part; the token of ν; the open borrow; obs; auth]
      move t (4 ∷ 5 ∷ []) $ fjoin t $ move t (4 ∷ 0 ∷ []) $ fjoin t $ move t (2 ∷ 0 ∷ []) $ fjoin t $ move t (2 ∷ 1 ∷ 0 ∷ []) $ go ν p))

  pub shared_back : K → Soaks G → Kind R → (ℓ : Lifetime) {κ : Lft} {q : Share} (x : MutBor (List R.Denot)) (ys : List R.Denot) (vs : List Val) (ν : ℕ) → shadow (mut_slice_at R (at_last x ys) vs)
      → Step K 𝓛 (‵ ((MutSlice ℓ κ R).own_val (at_last x ys) vs) ∷ ‵ (flft κ q) ∷ Γ) G (‵ (flft (ν ∷ []) full_share) ∷ ‵ (LentShared R κ (ν ∷ []) q x ys) ∷ Γ) G
  shared_back t z k ℓ x ys vs ν p = step (λ s. lft_end t z $ move t (1 ∷ []) $ fsplit t $ move t (2 ∷ 0 ∷ []) $ lent_back t z $ fsplit t $ drop t $
      -- [the elements; the open borrow, obs and auth]
      move t (1 ∷ []) $ fsplit t $ move t (1 ∷ []) $ fsplit t $ move t (3 ∷ 2 ∷ 0 ∷ 1 ∷ []) $ closes_slice t z R ys ys refl x.ref_ptr.0 x.ref_ptr.1 $ fjoin t $ pure_i t (mut_slice_at R (at_last x ys) vs) (tt, (tt, tt)) p $ fjoin t $ s)

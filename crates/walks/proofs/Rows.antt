-- A slice whose elements are plain data that is `Copy`, as a record with an enum in it: what a walk of the code by hand needs of the elements' type, and the steps by which it reads or writes one element.
--     Kind R           what is known of the elements' type R: its machine values as a function of the value, and that it is Copy, had for nothing, typed, and seen at a function's exit as it was passed.        of_struct, of-enum, of-uint, of-bool, of-unit      of a declared struct or enum, from what Rattle writes of it, of an unsigned integer, of a bool and of ()
--     fits             the byte offset of an element that is there is a usize
--     had              what a value of the type owns is had for nothing.        doubles      what a `&[R]` owns is had twice
--     opens_at         a `&mut [R]` is opened at element i: its cell, what it owns, and what closes the slice.        closes_at      it is closed, with y at i
--     looks-at         a `&[R]` is looked into at element i: a share of its cell, what it owns, and what shuts the slice.        shuts-at      it is shut
-- Around the opened part the slice is one entry, what it owns, beside the lifetime's token.
-- Assumes `Logic`.
use mathlib.Core.Path.{◌≡◌, refl, sym, ◌∙◌, ap, subst}
use Prim.Native.Nat.{ℕ, ◌*◌, ◌^◌, ◌<◌}
use native.Mathlib.Nat.{le_of_lt, lt_trans, lt_of_le_of_lt, mul-le-mul_right}
use mathlib.Core.List.{List, [], ◌∷◌}
use lib.Dec.{lit<}
use lib.ListN.{length, get_or, set, length-set}
use seplogic.Ra.Ura.{Ura}
use base.Fraction.{full_share}
use mir.Syntax.{Lifetime, Width}
use mir.Val.{Val}
use base.Fml.{Lft, Share, flft, fobs, fauth, fobor, fhide}
use types.Logic.{Logic}
use types.Kit.{Goal, Soaks, Item, ‵, ◌⊛◌, Seq, Step, step, ◌$◌, move, drop, split, use1, fsplit, fjoin}
use denote.Exit.{Kept, unchanged}
use denote.RattleType.{RattleType, RowLaws}
use denote.Shadow.{shadow, pure_l, pure_i}
use denote.Laws.{Is, Tells, Makes, Copy, Lawful, shows}
use denote.Memory.{cell_at, mem, shares}
use denote.Plain.{UInt, uint_vals, uint_Tells, uint_copy, uint_Makes, uint_Lawful, Boolean, bool_vals, bool_Tells, bool-copy, bool_Makes, bool_Lawful, Nothing, nothing_vals, Nothing-Tells, Nothing-copy, Nothing-Makes, Nothing-Lawful}
use denote.Ref.{Bor, MutBor, at_last}
use denote.Slice.{slice_val, MutSlice, ShrSlice, Room, heres, coded_holeys, mut_slice_at, shr_slice_at, elements_shared, shr_slice_copy}
use denote.Copied.{Copied}
use denote.Opens.{Shut}
use denote.Lend.{Held}
use denote.Index.{place, others, row, elem_out, elem_put, elem_back, opens_slice, closes_slice, looks_slice, shuts_slice}
use denote.Steps.{owned}
use denote.Enum.Declared as enum
use denote.Enum.Enum.{Few, Plainss}
use denote.Enum.Laws as EL
use denote.Struct.Declared as declared
use denote.Struct.Declared.{Declared}
use denote.Struct.Struct.{Plains}
use denote.Struct.Laws as LL

-- ---- the elements' type
pub record Kind (R : RattleType) : Type 2 where
  pub vals : R.Denot → List Val
  pub tells : Tells R (Is R) vals
  pub copy : {M : Type 1} {𝓤 : Ura M} (𝓛 : Logic 𝓤) → Copy 𝓛 R
  pub makes : {M : Type 1} {𝓤 : Ura M} (𝓛 : Logic 𝓤) → Makes 𝓛 R (Is R)
  pub lawful : {M : Type 1} {𝓤 : Ura M} (𝓛 : Logic 𝓤) → Lawful 𝓛 R
  pub still : (e : Kept) → R.exit e ≡ unchanged

abbrev pub of_struct : (D : Declared) (L : LL.Laws D) → LL.Copyables D.parts → Plains (declared.fields D) → Kind (declared.row D)
of_struct D L cs pl = record {
  vals = LL.vals D L;
  tells = LL.tells D L;
  copy = λ 𝓛. LL.copy D cs 𝓛;
  makes = λ 𝓛. LL.makes D pl 𝓛;
  lawful = λ 𝓛. LL.lawful D L 𝓛;
  still = LL.still D cs;
}

abbrev pub of-enum : (D : enum.Declared) (L : EL.Laws D) → Few (enum.shape D) → EL.Copyabless D.parts → Plainss (enum.variants D) → Kind (enum.row D)
of-enum D L few cs pl = record {
  vals = EL.vals D L;
  tells = EL.tells D L;
  copy = λ 𝓛. EL.copy D cs 𝓛;
  makes = λ 𝓛. EL.makes D pl 𝓛;
  lawful = λ 𝓛. EL.lawful D L 𝓛 few;
  still = EL.still D cs;
}

abbrev pub of-uint : (w : Width) → Kind (UInt w)
of-uint w = record {
  vals = uint_vals w;
  tells = uint_Tells w;
  copy = λ 𝓛. uint_copy 𝓛 w;
  makes = λ 𝓛. uint_Makes 𝓛 w;
  lawful = λ 𝓛. uint_Lawful 𝓛 w;
  still = λ e. refl;
}

abbrev pub of-bool : Kind Boolean
of-bool = record {
  vals = bool_vals;
  tells = bool_Tells;
  copy = λ 𝓛. bool-copy 𝓛;
  makes = λ 𝓛. bool_Makes 𝓛;
  lawful = λ 𝓛. bool_Lawful 𝓛;
  still = λ e. refl;
}

abbrev pub of-unit : Kind Nothing
of-unit = record {
  vals = nothing_vals;
  tells = Nothing-Tells;
  copy = λ 𝓛. Nothing-copy 𝓛;
  makes = λ 𝓛. Nothing-Makes 𝓛;
  lawful = λ 𝓛. Nothing-Lawful 𝓛;
  still = λ e. refl;
}

pub fits : {R : RattleType} → Kind R → {n i : ℕ} → Room R n → i < n → i * (mem R).size < 2 ^ 64
fits {R} k room within = lt_of_le_of_lt (mul-le-mul_right (mem R).size (le_of_lt within)) (lt_trans room.1 (lit< tt))

module _ {M : Type 1} {𝓤 : Ura M} {𝓛 : Logic 𝓤} {K : Type 0} {Γ : List (Item 𝓤)} {G : Goal 𝓤 𝓛.H} {R : RattleType} where
  pub had : K → (k : Kind R) (y : R.Denot) → Is R y (k.vals y) → Step K 𝓛 (‵ (R.own_val y (k.vals y)) ∷ Γ) G Γ G
  had t k y is = owned t R (Is R) (k.makes 𝓛) y (k.vals y) is

  pub doubles : K → Kind R → RowLaws R → (ℓ : Lifetime) (κ : Lft) (x : Bor (List R.Denot)) (vs : List Val) → Step K 𝓛 (‵ ((ShrSlice ℓ κ R).own_val x vs) ∷ ‵ ((ShrSlice ℓ κ R).own_val x vs) ∷ Γ) G (‵ ((ShrSlice ℓ κ R).own_val x vs) ∷ Γ) G
  doubles t k L ℓ κ x vs = step (λ s. use1 𝓛 (‵ ((ShrSlice ℓ κ R).own_val x vs) ⊛ ‵ ((ShrSlice ℓ κ R).own_val x vs)) ((shr_slice_copy 𝓛 ℓ κ R L).twice x vs) $ split t $ s)

-- x is the slice reference, and ys the elements that it has now
module _ {M : Type 1} {𝓤 : Ura M} {𝓛 : Logic 𝓤} {K : Type 0} {Γ : List (Item 𝓤)} {G : Goal 𝓤 𝓛.H} {R : RattleType} where
  -- ---- a `&mut [R]`
  pub opens_at : K → Soaks G → (k : Kind R) (ℓ : Lifetime) {κ : Lft} {q : Share} (x : MutBor (List R.Denot)) (ys : List R.Denot) (vs : List Val) (i : ℕ) (d : R.Denot) → i < length ys
      → (shadow (mut_slice_at R (at_last x ys) vs) → Is R (get_or ys i d) (k.vals (get_or ys i d)) → Seq K 𝓛 (‵ (cell_at full_share R.mir (k.vals (get_or ys i d)) x.ref_ptr.0 (place (mem R).size x.ref_ptr.1 i)) ∷ ‵ (R.own_val (get_or ys i d) (k.vals (get_or ys i d))) ∷ ‵ (others (shares R) full_share ys i x.ref_ptr.0 x.ref_ptr.1)
      ∷ ‵ (fobor κ q (Held R (length ys) x.ref_ptr.0 x.ref_ptr.1 x.ghost_name)) ∷ ‵ (fobs x.ghost_name ((coded_holeys R).code (heres R ys))) ∷ ‵ (fauth x.ghost_name ((coded_holeys R).code (heres R ys))) ∷ Γ) G)
      → Seq K 𝓛 (‵ ((MutSlice ℓ κ R).own_val (at_last x ys) vs) ∷ ‵ (flft κ q) ∷ Γ) G
  opens_at t z k ℓ x ys vs i d l s =
      fsplit t $ pure_l t (mut_slice_at R (at_last x ys) vs) (λ p. fsplit t $ opens_slice t z R ys x.ref_ptr.0 x.ref_ptr.1 $ elem_out t R (Is R) (shows 𝓛 R) k.vals k.tells full_share ys i d x.ref_ptr.0 x.ref_ptr.1 l (λ is. s p is))

  pub closes_at : K → Soaks G → (k : Kind R) (ℓ : Lifetime) {κ : Lft} {q : Share} (x : MutBor (List R.Denot)) (ys : List R.Denot) (vs : List Val) (i : ℕ) (d y : R.Denot) → i < length ys → shadow (mut_slice_at R (at_last x ys) vs) → Is R y (k.vals y)
      → Step K 𝓛 (‵ ((MutSlice ℓ κ R).own_val (at_last x (set ys i y)) vs) ∷ ‵ (flft κ q) ∷ Γ) G
      (‵ (cell_at full_share R.mir (k.vals y) x.ref_ptr.0 (place (mem R).size x.ref_ptr.1 i)) ∷ ‵ (R.own_val (get_or ys i d) (k.vals (get_or ys i d))) ∷ ‵ (others (shares R) full_share ys i x.ref_ptr.0 x.ref_ptr.1)
      ∷ ‵ (fobor κ q (Held R (length ys) x.ref_ptr.0 x.ref_ptr.1 x.ghost_name)) ∷ ‵ (fobs x.ghost_name ((coded_holeys R).code (heres R ys))) ∷ ‵ (fauth x.ghost_name ((coded_holeys R).code (heres R ys))) ∷ Γ) G
  closes_at t z k ℓ x ys vs i d y l p is = step (λ s. move t (1 ∷ []) $ drop t $ had t k y is $ move t (1 ∷ 0 ∷ []) $ elem_put t R full_share ys i y (k.vals y) x.ref_ptr.0 x.ref_ptr.1 l $
      closes_slice t z R ys (set ys i y) (length-set ys i y) x.ref_ptr.0 x.ref_ptr.1 $ fjoin t $
      pure_i t (mut_slice_at R (at_last x (set ys i y)) vs) (tt, (tt, tt)) (p.0 ∙ ap (λ (m : ℕ). slice_val x.ref_ptr m ∷ []) (sym (length-set ys i y)), subst (Room R) (sym (length-set ys i y)) p.1) $ fjoin t $ s)

  -- ---- a `&[R]`
  pub looks-at : K → Soaks G → (k : Kind R) → Copied 𝓛 R → (ℓ : Lifetime) {κ : Lft} {q : Share} (x : Bor (List R.Denot)) (vs : List Val) (i : ℕ) (d : R.Denot) → i < length x.now
      → ((q' : Share) → shadow (shr_slice_at R x vs) → Is R (get_or x.now i d) (k.vals (get_or x.now i d)) → Seq K 𝓛 (‵ (cell_at q' R.mir (k.vals (get_or x.now i d)) x.ref_ptr.0 (place (mem R).size x.ref_ptr.1 i)) ∷ ‵ (R.own_val (get_or x.now i d) (k.vals (get_or x.now i d)))
      ∷ ‵ (others (shares R) q' x.now i x.ref_ptr.0 x.ref_ptr.1) ∷ Shut 𝓛 κ q (row R q' x.now x.ref_ptr.0 x.ref_ptr.1) ∷ ‵ (fhide (elements_shared R x.now x.ref_ptr.0 x.ref_ptr.1 κ)) ∷ Γ) G)
      → Seq K 𝓛 (‵ ((ShrSlice ℓ κ R).own_val x vs) ∷ ‵ (flft κ q) ∷ Γ) G
  looks-at t z k c ℓ x vs i d l s =
      fsplit t $ pure_l t (shr_slice_at R x vs) (λ p. looks_slice t z R c x.now x.ref_ptr.0 x.ref_ptr.1 (λ q'.
      elem_out t R (Is R) (shows 𝓛 R) k.vals k.tells q' x.now i d x.ref_ptr.0 x.ref_ptr.1 l (λ is. s q' p is)))

  pub shuts-at : K → Soaks G → (k : Kind R) (ℓ : Lifetime) {κ : Lft} {q : Share} (x : Bor (List R.Denot)) (vs : List Val) (i : ℕ) (d : R.Denot) → i < length x.now → (q' : Share) → shadow (shr_slice_at R x vs)
      → Step K 𝓛 (‵ ((ShrSlice ℓ κ R).own_val x vs) ∷ ‵ (flft κ q) ∷ Γ) G
      (‵ (cell_at q' R.mir (k.vals (get_or x.now i d)) x.ref_ptr.0 (place (mem R).size x.ref_ptr.1 i)) ∷ ‵ (R.own_val (get_or x.now i d) (k.vals (get_or x.now i d)))
      ∷ ‵ (others (shares R) q' x.now i x.ref_ptr.0 x.ref_ptr.1) ∷ Shut 𝓛 κ q (row R q' x.now x.ref_ptr.0 x.ref_ptr.1) ∷ ‵ (fhide (elements_shared R x.now x.ref_ptr.0 x.ref_ptr.1 κ)) ∷ Γ) G
  shuts-at t z k ℓ x vs i d l q' p = step (λ s. elem_back t R q' x.now i d (k.vals (get_or x.now i d)) x.ref_ptr.0 x.ref_ptr.1 l $ shuts_slice t z R q' x.now x.ref_ptr.0 x.ref_ptr.1 $ move t (1 ∷ []) $
      pure_i t (shr_slice_at R x vs) (tt, (tt, tt)) p $ fjoin t $ s)

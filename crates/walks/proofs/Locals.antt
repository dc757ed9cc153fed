-- All of a function's locals at once, in a walk of its MIR by hand. With n locals, local j stands at the position 2 · (n − 1 − j) of the context, after whatever is in front, and that it dies stands after it.
--     enters           the locals are allocated: there is room for each. `bs` has their blocks
--     leaves           at the end they are freed, whatever each holds: p entries stand in front of them. `refl` shows that the locals stand there
--     at               the position of local j of n, with p entries in front
--     var              a local as an operand: entry n is its cell.        re-points      entry n is a pointer's cell, and its offset is written another way
--     held             the context's part for the locals, from what each holds: `none` for room, `some v` for the value v. It is how a loop's invariant is written
-- Assumes `Logic`.
use mathlib.Core.Path.{◌≡◌, refl, subst}
use Prim.Native.Nat.{ℕ, ◌+◌, ◌-◌, ◌*◌}
use mathlib.Core.Option.{Option, none, some}
use mathlib.Core.List.{List, [], ◌∷◌, ◌++◌, map}
use lib.ListN.{length, take, drop as drop_n, take-append-drop}
use seplogic.Ra.Ura.{Ura}
use base.Fraction.{full_share}
use mir.Syntax.{Fn, Local, local, Ty, ty_ptr, place, copy}
use mir.Val.{Val, vptr}
use base.Logic.{SProp, ent, sep, emp, id⊢, via, comm∗, fst∗, mono_l, mono_r, mono∗, apply∗}
use base.Fml.{Share, Fml, ftrue, ffalse, feq, flt, fsep, fand, for, fwand, fex, fall, fupd, fat, froom, fdies, flft, fdead, fobs, fauth, fres, fbor, fobor, flent, fshr_bor, fhide, fleft, fown, finv, fnamed, ftok, fkid, fme, fsent}
use prog.Wp.{Heap, Env, Calls, Loops, WpFn, release, spot_of}
use types.Logic.{Logic, sem}
use types.Kit.{Item, ‵, raw, ◌⊛◌, some as someᴵ, given, later, mean, ⋆, nth, put, pop, ++⊢, ⊢++, Goal, prop, runs, at_ret, allocs, params', frees, aim, Seq, Step, step, ◌$◌, ◌∵◌, !, qed, move, split, join, use2, use1, feq_l, feq_i, rewrite, assume, frame, done}
use types.Run.{Opd, look, forget, load, from, stop, enter, alloc1, alloc0}

-- ---- they are allocated
abbrev pub Blocks : List Local → Type 0
Blocks [] = Unit {0}
Blocks (l ∷ ls) = ℕ × Blocks ls

module _ {M : Type 1} (𝓤 : Ura M) (H : Heap 𝓤) where
  abbrev pub env_of : (ls : List Local) → Blocks ls → Env 𝓤 H
  env_of [] bs = []
  env_of (local τ h ∷ ls) bs = (τ, bs.0) ∷ env_of ls bs.1

  abbrev pub rooms : (ls : List Local) → Blocks ls → List (Item 𝓤) → List (Item 𝓤)
  rooms [] bs Γ = Γ
  rooms (local τ h ∷ ls) bs Γ = rooms ls bs.1 (‵ (froom τ bs.0 0) ∷ ‵ (fdies τ bs.0) ∷ Γ)

  abbrev cell_of : Ty → ℕ → Option Val → Item 𝓤
  cell_of τ b none = ‵ (froom τ b 0)
  cell_of τ b (some v) = ‵ (fat full_share τ b 0 v)

  abbrev filled : (ls : List Local) → Blocks ls → List (Option Val) → List (Item 𝓤) → List (Item 𝓤)
  filled [] bs vs Γ = Γ
  filled (l ∷ ls) bs [] Γ = Γ
  filled (local τ h ∷ ls) bs (v ∷ vs) Γ = filled ls bs.1 vs (cell_of τ bs.0 v ∷ ‵ (fdies τ bs.0) ∷ Γ)

  abbrev pub held : (ls : List Local) → Blocks ls → List (Option Val) → List (Item 𝓤)
  held ls bs vs = filled ls bs vs []

module _ {M : Type 1} {𝓤 : Ura M} {𝓛 : Logic 𝓤} {K : Type 0} where
  open 𝓛 use {H}

  all-alloc : {Γ : List (Item 𝓤)} → K → (ls : List Local) (Kt : Env 𝓤 H → Goal 𝓤 H) → ((bs : Blocks ls) → Seq K 𝓛 (rooms 𝓤 H ls bs Γ) (Kt (env_of 𝓤 H ls bs))) → Seq K 𝓛 Γ (allocs ls Kt)
  all-alloc {Γ = Γ} t [] Kt k = alloc0 t $ k tt
  all-alloc {Γ = Γ} t (local τ h ∷ ls) Kt k = alloc1 t (λ b. all-alloc {Γ = ‵ (froom τ b 0) ∷ ‵ (fdies τ b) ∷ Γ} t ls (λ E. Kt ((τ, b) ∷ E)) (λ bs. k (b, bs)))

  pub enters : {Γ : List (Item 𝓤)} → K → (C : Calls 𝓤 H) (Λ : Loops 𝓤 H) (f : Fn) (vs : List Val) (Kf : Val → SProp 𝓤)
      → ((bs : Blocks f.locals) → Seq K 𝓛 (rooms 𝓤 H f.locals bs Γ) (params' (env_of 𝓤 H f.locals bs) vs (runs C Λ (env_of 𝓤 H f.locals bs) f.body (at_ret (env_of 𝓤 H f.locals bs) Kf))))
      → Seq K 𝓛 Γ (prop (WpFn 𝓤 H C Λ f vs Kf))
  enters t C Λ f vs Kf k = enter t C Λ f vs Kf $ all-alloc t f.locals (λ E. params' E vs (runs C Λ E f.body (at_ret E Kf))) k

-- ---- they are freed. A cell and a room are both seen as: room, where the share is the whole one
abbrev seen : Fml → Fml
seen ftrue = ftrue
seen ffalse = ffalse
seen (feq d x y) = feq d x y
seen (flt m n) = flt m n
seen (fsep P Q) = fsep P Q
seen (fand P Q) = fand P Q
seen (for P Q) = for P Q
seen (fwand P Q) = fwand P Q
seen (fex d F) = fex d F
seen (fall d F) = fall d F
seen (fupd P) = fupd P
seen (fat q τ b o v) = fwand (feq Share q full_share) (froom τ b o)
seen (froom τ b o) = fwand (feq Share full_share full_share) (froom τ b o)
seen (fdies τ b) = fdies τ b
seen (flft κ q) = flft κ q
seen (fdead κ) = fdead κ
seen (fobs γ x) = fobs γ x
seen (fauth γ x) = fauth γ x
seen (fres γ x) = fres γ x
seen (fbor κ P) = fbor κ P
seen (fobor κ q P) = fobor κ q P
seen (flent κ P) = flent κ P
seen (fshr_bor κ Φ) = fshr_bor κ Φ
seen (fhide P) = fhide P
seen (fleft q τ τs b o) = fleft q τ τs b o
seen (fown R x y) = fown R x y
seen (finv n) = finv n
seen (fnamed x y) = fnamed x y
seen (ftok x) = ftok x
seen (fkid x y) = fkid x y
seen (fme x) = fme x
seen (fsent x) = fsent x

module _ {M : Type 1} (𝓤 : Ura M) where
  abbrev pub seen_as : Item 𝓤 → Item 𝓤
  seen_as (‵ F) = ‵ (seen F)
  seen_as (raw P) = raw P
  seen_as (i ⊛ j) = i ⊛ j
  seen_as (someᴵ F) = someᴵ F
  seen_as (given φ i) = given φ i
  seen_as (later i) = later i

module _ {M : Type 1} (𝓤 : Ura M) (H : Heap 𝓤) where
  -- the locals of E, the last one first
  abbrev pub all_seen : Env 𝓤 H → List (Item 𝓤) → List (Item 𝓤)
  all_seen [] Γ = Γ
  all_seen (e ∷ E) Γ = all_seen E (‵ (fwand (feq Share full_share full_share) (froom e.0 e.1 0)) ∷ ‵ (fdies e.0 e.1) ∷ Γ)

module _ {M : Type 1} {𝓤 : Ura M} (𝓛 : Logic 𝓤) where
  open 𝓛 use {H}

  abbrev ◌⊢◌ : SProp 𝓤 → SProp 𝓤 → Type 1
  P ⊢ Q = ent 𝓤 P Q

  abbrev ◌∗◌ : SProp 𝓤 → SProp 𝓤 → SProp 𝓤
  P ∗ Q = sep 𝓤 P Q

  infix 26 ◌⊢◌
  infixr 35 ◌∗◌
  see : (F : Fml) → sem 𝓛 F ⊢ sem 𝓛 (seen F)
  see (fat q τ b o v) = qed 𝓛 (‵ (fat q τ b o v) ∷ []) ∵ assume ! (‵ (feq Share q full_share)) $ feq_l ! (λ e. rewrite ! 0 (λ (s : Share). ‵ (fat s τ b o v)) e refl $ forget ! 0 refl $ done !)
  see (froom τ b o) = qed 𝓛 (‵ (froom τ b o) ∷ []) ∵ assume ! (‵ (feq Share full_share full_share)) $ feq_l ! (λ e. done !)
  see ftrue = id⊢ 𝓤 _
  see ffalse = id⊢ 𝓤 _
  see (feq d x y) = id⊢ 𝓤 _
  see (flt m n) = id⊢ 𝓤 _
  see (fsep P Q) = id⊢ 𝓤 _
  see (fand P Q) = id⊢ 𝓤 _
  see (for P Q) = id⊢ 𝓤 _
  see (fwand P Q) = id⊢ 𝓤 _
  see (fex d F) = id⊢ 𝓤 _
  see (fall d F) = id⊢ 𝓤 _
  see (fupd P) = id⊢ 𝓤 _
  see (fdies τ b) = id⊢ 𝓤 _
  see (flft κ q) = id⊢ 𝓤 _
  see (fdead κ) = id⊢ 𝓤 _
  see (fobs γ x) = id⊢ 𝓤 _
  see (fauth γ x) = id⊢ 𝓤 _
  see (fres γ x) = id⊢ 𝓤 _
  see (fbor κ P) = id⊢ 𝓤 _
  see (fobor κ q P) = id⊢ 𝓤 _
  see (flent κ P) = id⊢ 𝓤 _
  see (fshr_bor κ Φ) = id⊢ 𝓤 _
  see (fhide P) = id⊢ 𝓤 _
  see (fleft q τ τs b o) = id⊢ 𝓤 _
  see (fown R x y) = id⊢ 𝓤 _
  see (finv n) = id⊢ 𝓤 _
  see (fnamed x y) = id⊢ 𝓤 _
  see (ftok x) = id⊢ 𝓤 _
  see (fkid x y) = id⊢ 𝓤 _
  see (fme x) = id⊢ 𝓤 _
  see (fsent x) = id⊢ 𝓤 _

  see-as : (i : Item 𝓤) → mean 𝓛 i ⊢ mean 𝓛 (seen_as 𝓤 i)
  see-as (‵ F) = see F
  see-as (raw P) = id⊢ 𝓤 _
  see-as (i ⊛ j) = id⊢ 𝓤 _
  see-as (someᴵ F) = id⊢ 𝓤 _
  see-as (given φ i) = id⊢ 𝓤 _
  see-as (later i) = id⊢ 𝓤 _

  see-all : (Γ : List (Item 𝓤)) → ⋆ 𝓛 Γ ⊢ ⋆ 𝓛 (map (seen_as 𝓤) Γ)
  see-all [] = id⊢ 𝓤 (emp 𝓤)
  see-all (i ∷ []) = see-as i
  see-all (i ∷ j ∷ Γ) = mono∗ 𝓤 (see-as i) (see-all (j ∷ Γ))

  -- what comes after the release can be had before it
  pull-out : (E : Env 𝓤 H) (Q P : SProp 𝓤) → release 𝓤 H E (Q ∗ P) ⊢ Q ∗ release 𝓤 H E P
  pull-out [] Q P = id⊢ 𝓤 (Q ∗ P)
  pull-out (e ∷ E) Q P =
      qed 𝓛 (raw (H.room e.0 e.1 0 ∗ H.dies e.0 e.1) ∷ raw (release 𝓤 H E (Q ∗ P)) ∷ []) ∵ move ! (1 ∷ []) $ use1 𝓛 (raw Q ⊛ raw (release 𝓤 H E P)) (pull-out E Q P) $ split ! $ frame ! $ move ! (1 ∷ 0 ∷ []) $ done !

  freed : (E : Env 𝓤 H) (Γ : List (Item 𝓤)) (P Q : SProp 𝓤) → ⋆ 𝓛 Γ ∗ P ⊢ Q → ⋆ 𝓛 (all_seen 𝓤 H E Γ) ∗ P ⊢ release 𝓤 H E Q
  freed [] Γ P Q h = h
  freed (e ∷ E) Γ P Q h =
      via 𝓤 (release 𝓤 H E ((H.room e.0 e.1 0 ∗ H.dies e.0 e.1) ∗ Q))
      (freed E (w ∷ d ∷ Γ) P ((H.room e.0 e.1 0 ∗ H.dies e.0 e.1) ∗ Q)
      (via 𝓤 ((mean 𝓛 w ∗ (mean 𝓛 d ∗ ⋆ 𝓛 Γ)) ∗ P) (mono_l 𝓤 P (mono_r 𝓤 (mean 𝓛 w) (pop 𝓛 d Γ)))
      (qed 𝓛 ((w ⊛ (d ⊛ raw (⋆ 𝓛 Γ))) ∷ raw P ∷ []) ∵ split ! $ feq_i ! Share full_share full_share refl $
      use2 𝓛 (‵ (froom e.0 e.1 0)) (apply∗ 𝓤 (sem 𝓛 (feq Share full_share full_share)) (H.room e.0 e.1 0)) $ move ! (1 ∷ []) $ split ! $ move ! (2 ∷ 0 ∷ []) $ join ! $ frame ! $ use2 𝓛 (raw Q) h $ done !)))
      (pull-out E (H.room e.0 e.1 0 ∗ H.dies e.0 e.1) Q)
    where
      w : Item 𝓤
      w = ‵ (fwand (feq Share full_share full_share) (froom e.0 e.1 0))

      d : Item 𝓤
      d = ‵ (fdies e.0 e.1)

  -- the entries Δ are the locals of E
  all-free : (E : Env 𝓤 H) (Γ₁ Δ Γ₂ : List (Item 𝓤)) (P : SProp 𝓤) → map (seen_as 𝓤) Δ ≡ all_seen 𝓤 H E [] → ⋆ 𝓛 (Γ₁ ++ Γ₂) ⊢ P → ⋆ 𝓛 (Γ₁ ++ (Δ ++ Γ₂)) ⊢ release 𝓤 H E P
  all-free E Γ₁ Δ Γ₂ P e h =
      via 𝓤 (⋆ 𝓛 Γ₁ ∗ (⋆ 𝓛 Δ ∗ ⋆ 𝓛 Γ₂)) (via 𝓤 (⋆ 𝓛 Γ₁ ∗ ⋆ 𝓛 (Δ ++ Γ₂)) (⊢++ 𝓛 Γ₁ (Δ ++ Γ₂)) (mono_r 𝓤 (⋆ 𝓛 Γ₁) (⊢++ 𝓛 Δ Γ₂)))
      (qed 𝓛 (raw (⋆ 𝓛 Γ₁) ∷ (raw (⋆ 𝓛 Δ) ⊛ raw (⋆ 𝓛 Γ₂)) ∷ []) ∵ move ! (1 ∷ []) $ split ! $ move ! (2 ∷ 1 ∷ []) $ use2 𝓛 (raw P) (via 𝓤 (⋆ 𝓛 (Γ₁ ++ Γ₂)) (++⊢ 𝓛 Γ₁ Γ₂) h) $ move ! (1 ∷ []) $
      use1 𝓛 (raw (⋆ 𝓛 (all_seen 𝓤 H E []))) (subst (λ (Δ' : List (Item 𝓤)). ⋆ 𝓛 Δ ⊢ ⋆ 𝓛 Δ') e (see-all Δ)) $ use2 𝓛 (raw (release 𝓤 H E P)) (freed E [] P P (via 𝓤 (P ∗ emp 𝓤) (comm∗ 𝓤 (emp 𝓤) P) (fst∗ 𝓤 P (emp 𝓤)))) $ done !)

module _ {M : Type 1} {𝓤 : Ura M} {𝓛 : Logic 𝓤} {K : Type 0} {Γ : List (Item 𝓤)} where
  open 𝓛 use {H}

  pub leaves : K → (p : ℕ) {E : Env 𝓤 H} {g : Goal 𝓤 H} → map (seen_as 𝓤) (take (2 * length E) (drop_n p Γ)) ≡ all_seen 𝓤 H E []
      → Step K 𝓛 (take p Γ ++ drop_n (2 * length E) (drop_n p Γ)) g Γ (frees E g)
  leaves t p {E} {g} e = step (λ s. record {
    prf = subst (λ (Δ : List (Item 𝓤)). ent 𝓤 (⋆ 𝓛 Δ) (release 𝓤 H E (aim 𝓤 H g))) (take-append-drop p Γ)
        (subst (λ (Δ : List (Item 𝓤)). ent 𝓤 (⋆ 𝓛 (take p Γ ++ Δ)) (release 𝓤 H E (aim 𝓤 H g))) (take-append-drop (2 * length E) (drop_n p Γ))
        (all-free 𝓛 E (take p Γ) (take (2 * length E) (drop_n p Γ)) (drop_n (2 * length E) (drop_n p Γ)) (aim 𝓤 H g) e s.prf));
  })

  -- ---- single locals
  pub var : K → (n : ℕ) {E : Env 𝓤 H} {i : ℕ} {q : Share} {v : Val} → nth 𝓛 n Γ ≡ ‵ (fat q (spot_of 𝓤 H E i).0 (spot_of 𝓤 H E i).1 (spot_of 𝓤 H E i).2 v) → Opd K 𝓛 Γ E (copy (place i [])) v
  var t n e = load t (from t (stop t)) (look t n e)

  pub re-points : K → (n : ℕ) {G : Goal 𝓤 H} {l b p p' : ℕ} → p ≡ p' → nth 𝓛 n Γ ≡ ‵ (fat full_share ty_ptr l 0 (vptr b p)) → Step K 𝓛 (put 𝓛 n (‵ (fat full_share ty_ptr l 0 (vptr b p'))) Γ) G Γ G
  re-points t n {l = l} {b = b} e at_n = rewrite t n (λ (o : ℕ). ‵ (fat full_share ty_ptr l 0 (vptr b o))) e at_n

abbrev pub at : (n p j : ℕ) → ℕ
at n p j = p + 2 * (n - 1 - j)

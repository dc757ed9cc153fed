-- Saddle 5 in the trial: the line at Left grows back to Bottom and the line at Top grows to Right, in one step, since Bottom's word is Top's and Right's is Left's.
-- Both lines are read before either is noted, and the two may be one. Assumes nothing.
use mathlib.Core.Path.{◌≡◌, refl, sym, ◌∙◌, ap, ap₂, subst}
use mathlib.Core.Bool.{Bool, true, false, cond}
use mathlib.Core.List.{List, [], ◌∷◌, ◌++◌}
use Prim.Native.Nat.{ℕ, ◌+◌, ◌^◌, ◌≤◌, ◌<◌}
use native.Mathlib.Decide.{ℕ_discrete}
use native.Mathlib.Omega.{arith}
use lib.Dec.{eqb}
use lib.ListN.{length, get_or, set, length-set}
use lib.Seq.{get_or-set_same, get_or-set_other, set-set}
use borrow.Author.Tests.{eq-eqb, ne_eqb}
use Rattle.scope.specs.Cells.{Point, Segment}
use Rattle.scope.specs.Stitching as rules
use Rattle.scope.specs.Stitching.{Line, Drawing, starts_at, ends_at, nothing, stitch_all}
use Rattle.laws.proofs.Ends.{end-of-prepended}
use Rattle.laws.proofs.Strokes.{begin}
use Rattle.laws.proofs.Counting.{Fresh}
use Rattle.laws.proofs.Cellwise.{Sound}
use Rattle.laws.proofs.Tips.{edge_word}
use Rattle.laws.proofs.Sizes.{size, size-appended, size-prepended}
use Rattle.laws.proofs.Drawn.{ending, starting, ending-inside, ending_there, starting-inside, starting-there, appends, prepends}
use Rattle.laws.proofs.LineWords.{word_by, word_at, begin-of-joined, finish-of-appended, Spread}
use Rattle.trying.specs.Notes.{place_in, size_between, noted}
use Rattle.trying.specs.Trying.{Tried, cross_tried}
use Rattle.trying.proofs.Notes.{length-noted, with_line, Readable, start_of, size-to, start-noted, ring-read}
use Rattle.trying.proofs.Listed.{Noted, noted-set, noted-two}
use Rattle.trying.proofs.Strokes.{Known, readable}

-- over lines: n is the line at Left with Bottom before it, and Right goes behind the line at Top
module _ (dx : ℕ) (t : Tried) (B L T R : Point) (v c : ℕ) (at-B : edge_word dx B ≡ c) (at-T : edge_word dx T ≡ c) (at-L : edge_word dx L ≡ v) (at-R : edge_word dx R ≡ v)
    (ls : List Line) (long : dx + 2 ≤ length t.words) (now : Noted dx t.words ls) (spread : Spread dx ls) (read : (i : ℕ) → i < length ls → Readable dx t.words (get_or ls i []))
    (g : ℕ) (hg : g < length ls) (starts : starts_at L (get_or ls g []) ≡ true) where
  abbrev old : List ℕ
  old = t.words

  abbrev lg : Line
  lg = get_or ls g []

  abbrev n : Line
  n = B ∷ lg

  abbrev both : List ℕ
  both = noted old c v (size_between old v c + 2)

  abbrev twice : List ℕ
  twice =
      noted (noted old c (place_in (get_or old v 0)) (size_between old v (place_in (get_or old v 0)) + 1)) (place_in (get_or old c 0)) v
      (size_between old (place_in (get_or old c 0)) c + 1)

  -- one line
  one_line : ends_at T lg ≡ true → Spread dx (set ls g (n ++ (R ∷ []))) → Noted dx (cross_tried t v c).words (set ls g (n ++ (R ∷ [])))
  one_line ends spread' =
      subst (λ (w : List ℕ). Noted dx w (set ls g (n ++ (R ∷ [])))) (sym (picked ∙ as_line))
      (noted-set dx old ls long g (n ++ (R ∷ [])) hg spread' now)
    where
      first : place_in (get_or old c 0) ≡ v
      first = ap (λ (w : ℕ). place_in (get_or old w 0)) (sym at-T) ∙ start_of dx old T R lg ends (read g hg) ∙ word_at dx begin L lg starts ∙ at-L

      picked : (cross_tried t v c).words ≡ both
      picked = ap (λ (x : Bool). cond x both twice) (eq-eqb (place_in (get_or old c 0)) v first)

      size_is : size_between old v c ≡ size lg
      size_is = ap₂ (size_between old) (sym at-L) (sym at-T) ∙ ring-read dx old T L lg ends starts (read g hg)

      begins : word_by dx begin (n ++ (R ∷ [])) ≡ c
      begins = unfold word_by in at-B

      grows : size (n ++ (R ∷ [])) ≡ size lg + 2
      grows = size-appended T R n [] (end-of-prepended T B L lg starts ∙ ends) ∙ omega (arith, size-prepended B L [] lg starts)

      as_line : both ≡ with_line dx old (n ++ (R ∷ []))
      as_line = unfold with_line in rw (begins, finish-of-appended dx T R n (R ∷ []), at-R, grows, size_is) refl

  -- two lines
  module _ (f : ℕ) (hf : f < length ls) (ends : ends_at T (get_or ls f []) ≡ true) (ne : f ≡ g → ⊥) where
    abbrev lf : Line
    lf = get_or ls f []

    first : place_in (get_or old c 0) ≡ word_by dx begin lf
    first = ap (λ (w : ℕ). place_in (get_or old w 0)) (sym at-T) ∙ start_of dx old T R lf ends (read f hf)

    picked : (cross_tried t v c).words ≡ twice
    picked =
        ap (λ (x : Bool). cond x both twice)
        (ne_eqb (place_in (get_or old c 0)) v (λ q. spread.apart f g hf hg ne begin begin (sym first ∙ q ∙ sym at-L ∙ sym (word_at dx begin L lg starts))))

    size_is : size_between old (word_by dx begin lf) c ≡ size lf
    size_is = ap (size_between old (word_by dx begin lf)) (sym at-T) ∙ size-to dx old T R lf ends (read f hf)

    inner : noted old c (place_in (get_or old v 0)) (size_between old v (place_in (get_or old v 0)) + 1) ≡ with_line dx old n
    inner =
        ap₂ (λ (x y : ℕ). noted old x (place_in (get_or old y 0)) (size_between old y (place_in (get_or old y 0)) + 1)) (sym at-B) (sym at-L)
        ∙ start-noted dx old B L lg starts (read g hg)

    outer : (words : List ℕ) → noted words (place_in (get_or old c 0)) v (size_between old (place_in (get_or old c 0)) c + 1) ≡ with_line dx words (lf ++ (R ∷ []))
    outer words =
        unfold with_line in
        rw (first, size_is, begin-of-joined dx T R lf (R ∷ []) ends, finish-of-appended dx T R lf (R ∷ []), at-R, size-appended T R lf [] ends) refl

    two-lines : Spread dx (set (set ls g n) f (lf ++ (R ∷ []))) → Noted dx (cross_tried t v c).words (set (set ls g n) f (lf ++ (R ∷ [])))
    two-lines spread' =
        subst (λ (w : List ℕ). Noted dx w (set (set ls g n) f (lf ++ (R ∷ []))))
        (sym (picked ∙ outer (noted old c (place_in (get_or old v 0)) (size_between old v (place_in (get_or old v 0)) + 1)) ∙ ap (λ (w : List ℕ). with_line dx w (lf ++ (R ∷ []))) inner))
        (noted-two dx old ls long f g (lf ++ (R ∷ [])) n hf hg ne spread' now)

  crossed : (f : ℕ) → f < length (set ls g n) → ends_at T (get_or (set ls g n) f []) ≡ true → Spread dx (set (set ls g n) f (get_or (set ls g n) f [] ++ (R ∷ [])))
      → Noted dx (cross_tried t v c).words (set (set ls g n) f (get_or (set ls g n) f [] ++ (R ∷ [])))
  crossed f hf ends spread' = by (ℕ_discrete f g)
    where
      by : Dec (f ≡ g) → Noted dx (cross_tried t v c).words (set (set ls g n) f (get_or (set ls g n) f [] ++ (R ∷ [])))
      by (yes q) =
          subst (Noted dx (cross_tried t v c).words) (sym same)
          (one_line (sym (end-of-prepended T B L lg starts) ∙ ap (ends_at T) (sym line) ∙ ends) (subst (Spread dx) same spread'))
        where
          line : get_or (set ls g n) f [] ≡ n
          line = ap (λ (k : ℕ). get_or (set ls g n) k []) q ∙ get_or-set_same ls g n [] hg

          same : set (set ls g n) f (get_or (set ls g n) f [] ++ (R ∷ [])) ≡ set ls g (n ++ (R ∷ []))
          same = ap₂ (λ (k : ℕ) (l : Line). set (set ls g n) k (l ++ (R ∷ []))) q line ∙ set-set ls g n (n ++ (R ∷ []))
      by (no ne) =
          subst (Noted dx (cross_tried t v c).words) (sym same)
          (two-lines f (omega (arith, length-set ls g n)) (ap (ends_at T) (sym line) ∙ ends) ne (subst (Spread dx) same spread'))
        where
          line : get_or (set ls g n) f [] ≡ get_or ls f []
          line = get_or-set_other ls g f n [] ne

          same : set (set ls g n) f (get_or (set ls g n) f [] ++ (R ∷ [])) ≡ set (set ls g n) f (get_or ls f [] ++ (R ∷ []))
          same = ap (λ (l : Line). set (set ls g n) f (l ++ (R ∷ []))) line

  pub crossed-by : (ls₁ ls₂ : List Line) (f : ℕ) → ls₁ ≡ set ls g n → f < length ls₁ → ends_at T (get_or ls₁ f []) ≡ true → ls₂ ≡ set ls₁ f (get_or ls₁ f [] ++ (R ∷ []))
      → Spread dx ls₂ → Noted dx (cross_tried t v c).words ls₂
  crossed-by ls₁ ls₂ f e₁ hf ends e₂ spread' =
      subst (Noted dx (cross_tried t v c).words) (sym both-are)
      (crossed f (subst (λ (l : List Line). f < length l) e₁ hf) (subst (λ (l : List Line). ends_at T (get_or l f []) ≡ true) e₁ ends) (subst (Spread dx) both-are spread'))
    where
      both-are : ls₂ ≡ set (set ls g n) f (get_or (set ls g n) f [] ++ (R ∷ []))
      both-are = e₂ ∙ ap (λ (l : List Line). set l f (get_or l f [] ++ (R ∷ []))) e₁

-- over the drawing: first the stroke from Bottom to Left, then the one from Top to Right
module _ (dx : ℕ) (t : Tried) (σs : List Segment) (σ τ : Segment) (sound : Sound σs) (fresh : Fresh σs σ 0 1) (sound₁ : Sound (σs ++ (σ ∷ []))) (fresh₁ : Fresh (σs ++ (σ ∷ [])) τ 1 0) where
  pub cross-known : (v c : ℕ) → edge_word dx σ.from ≡ c → edge_word dx τ.from ≡ c → edge_word dx σ.to ≡ v → edge_word dx τ.to ≡ v
      → dx + 2 ≤ 2 ^ 17 → length σs < 2 ^ 30 → Known dx σs t.words → Spread dx (stitch_all nothing σs).lines → Spread dx (stitch_all nothing ((σs ++ (σ ∷ [])) ++ (τ ∷ []))).lines
      → Known dx ((σs ++ (σ ∷ [])) ++ (τ ∷ [])) (cross_tried t v c).words
  cross-known v c at-B at-T at-L at-R narrow small known spread spread' = record {
    long = by (eqb (place_in (get_or t.words c 0)) v);
    noted =
        crossed-by dx t σ.from σ.to τ.from τ.to v c at-B at-T at-L at-R (stitch_all nothing σs).lines known.long known.noted spread (readable narrow small known spread)
        (starting σs σ 0 1 sound fresh) (starting-inside σs σ 0 1 sound fresh refl) (starting-there σs σ 0 1 sound fresh refl)
        (stitch_all nothing (σs ++ (σ ∷ []))).lines (stitch_all nothing ((σs ++ (σ ∷ [])) ++ (τ ∷ []))).lines (ending (σs ++ (σ ∷ [])) τ 1 0 sound₁ fresh₁)
        (ap (λ (d : Drawing). d.lines) (prepends σs σ 0 1 sound fresh refl refl) ∙ unfold rules.prepend in refl)
        (ending-inside (σs ++ (σ ∷ [])) τ 1 0 sound₁ fresh₁ refl) (ending_there (σs ++ (σ ∷ [])) τ 1 0 sound₁ fresh₁ refl)
        (ap (λ (d : Drawing). d.lines) (appends (σs ++ (σ ∷ [])) τ 1 0 sound₁ fresh₁ refl refl) ∙ unfold rules.append in refl)
        spread';
  }
    where
      by : (x : Bool) → dx + 2 ≤ length (cond x (noted t.words c v (size_between t.words v c + 2))
          (noted (noted t.words c (place_in (get_or t.words v 0)) (size_between t.words v (place_in (get_or t.words v 0)) + 1)) (place_in (get_or t.words c 0)) v (size_between t.words (place_in (get_or t.words c 0)) c + 1)))
      by true = omega (arith, known.long, length-noted t.words c v (size_between t.words v c + 2))
      by false =
          omega (
            arith,
            known.long,
            length-noted (noted t.words c (place_in (get_or t.words v 0)) (size_between t.words v (place_in (get_or t.words v 0)) + 1)) (place_in (get_or t.words c 0)) v (size_between t.words (place_in (get_or t.words c 0)) c + 1),
            length-noted t.words c (place_in (get_or t.words v 0)) (size_between t.words v (place_in (get_or t.words v 0)) + 1),
          )

-- What one stitch does, by its five rules: which line or lines it takes, which line it leaves, and so how the sum of any measure over the open
-- lines changes. The laws of counting, of conservation and of rings are read off these five cases. Assumes nothing.
use mathlib.Core.Path.{◌≡◌, refl, sym, ap, subst}
use mathlib.Core.Bool.{Bool, true, false, cond}
use mathlib.Core.List.{[], ◌∷◌, ◌++◌}
use Prim.Native.Nat.{ℕ, ◌+◌, ◌≤◌, ◌<◌}
use native.Mathlib.Omega.{arith}
use lib.Dec.{ltb, eqb}
use lib.ListN.{length, get_or, set, length-set}
use lib.Seq.{get_or-set_other}
use borrow.Author.Tests.{ltb-true, ltb-false, eqb-true, eqb-false}
use Rattle.scope.specs.Cells.{Point, Segment}
use Rattle.scope.specs.Stitching.{Line, Drawing, starts_at, ends_at, find, close, join, append, prepend, start, stitch_at, stitch}
use Rattle.laws.proofs.Total.{total, total-append, total-set, total-without, tally, found, found-counts, not_found}

-- an open line ends at s, and one starts at e
abbrev pub SomeEnds : Drawing → Point → Type 0
SomeEnds d s = 1 ≤ total (tally (ends_at s)) d.lines

abbrev pub SomeStarts : Drawing → Point → Type 0
SomeStarts d e = 1 ≤ total (tally (starts_at e)) d.lines

-- no open line ends at s, and none starts at e
abbrev pub NoneEnds : Drawing → Point → Type 0
NoneEnds d s = total (tally (ends_at s)) d.lines ≡ 0

abbrev pub NoneStarts : Drawing → Point → Type 0
NoneStarts d e = total (tally (starts_at e)) d.lines ≡ 0

pub data Outcome (d d' : Drawing) (s e : Point) : Type 0 where
  closed-ring : (f : Line) → SomeEnds d s → SomeStarts d e → ends_at s f ≡ true → starts_at e f ≡ true
      → ((w : Line → ℕ) → total w d'.lines + w f ≡ total w d.lines)
      → d'.rings ≡ d.rings ++ ((f ++ (e ∷ [])) ∷ []) → Outcome d d' s e
  joined : (f g : Line) → SomeEnds d s → SomeStarts d e → ends_at s f ≡ true → starts_at e g ≡ true
      → ((w : Line → ℕ) → total w d'.lines + w f + w g ≡ total w d.lines + w (f ++ g))
      → d'.rings ≡ d.rings → Outcome d d' s e
  appended : (f : Line) → SomeEnds d s → NoneStarts d e → ends_at s f ≡ true
      → ((w : Line → ℕ) → total w d'.lines + w f ≡ total w d.lines + w (f ++ (e ∷ [])))
      → d'.rings ≡ d.rings → Outcome d d' s e
  prepended : (g : Line) → NoneEnds d s → SomeStarts d e → starts_at e g ≡ true
      → ((w : Line → ℕ) → total w d'.lines + w g ≡ total w d.lines + w (s ∷ g))
      → d'.rings ≡ d.rings → Outcome d d' s e
  started : NoneEnds d s → NoneStarts d e
      → ((w : Line → ℕ) → total w d'.lines ≡ total w d.lines + w (s ∷ e ∷ []))
      → d'.rings ≡ d.rings → Outcome d d' s e

module _ (d : Drawing) (s e : Point) where
  f-at : ℕ
  f-at = find (ends_at s) d.lines

  g-at : ℕ
  g-at = find (starts_at e) d.lines

  count : ℕ
  count = length d.lines

  line-at : ℕ → Line
  line-at i = get_or d.lines i []

  -- the rule that the three tests pick
  picked : (a b c : Bool) → ltb f-at count ≡ a → ltb g-at count ≡ b → eqb f-at g-at ≡ c
      → Outcome d (cond a (cond b (cond c (close d f-at e) (join d f-at g-at)) (append d f-at e)) (cond b (prepend d g-at s) (start d s e))) s e
  unfolding f-at g-at count line-at close join append prepend start
  picked true true true ef eg efg =
      closed-ring (line-at f-at) (found-counts (ends_at s) d.lines (ltb-true f-at count ef)) (found-counts (starts_at e) d.lines (ltb-true g-at count eg)) (found (ends_at s) d.lines (ltb-true f-at count ef))
      (subst (λ (i : ℕ). starts_at e (line-at i) ≡ true) (sym (eqb-true f-at g-at efg)) (found (starts_at e) d.lines (ltb-true g-at count eg)))
      (λ w. total-without w d.lines f-at (ltb-true f-at count ef))
      refl
  picked true true false ef eg efg =
      joined (line-at f-at) (line-at g-at) (found-counts (ends_at s) d.lines (ltb-true f-at count ef)) (found-counts (starts_at e) d.lines (ltb-true g-at count eg)) (found (ends_at s) d.lines (ltb-true f-at count ef)) (found (starts_at e) d.lines (ltb-true g-at count eg))
      (λ w. omega (
        arith,
        total-without w (set d.lines f-at (line-at f-at ++ line-at g-at)) g-at (subst (λ (n : ℕ). g-at < n) (sym (length-set d.lines f-at (line-at f-at ++ line-at g-at))) (ltb-true g-at count eg)),
        ap w (get_or-set_other d.lines f-at g-at (line-at f-at ++ line-at g-at) [] (λ q. eqb-false f-at g-at efg (sym q))),
        total-set w d.lines f-at (line-at f-at ++ line-at g-at) [] (ltb-true f-at count ef),
      ))
      refl
  picked true false c ef eg efg =
      appended (line-at f-at) (found-counts (ends_at s) d.lines (ltb-true f-at count ef)) (not_found (starts_at e) d.lines (ltb-false g-at count eg)) (found (ends_at s) d.lines (ltb-true f-at count ef))
      (λ w. total-set w d.lines f-at (line-at f-at ++ (e ∷ [])) [] (ltb-true f-at count ef))
      refl
  picked false true c ef eg efg =
      prepended (line-at g-at) (not_found (ends_at s) d.lines (ltb-false f-at count ef)) (found-counts (starts_at e) d.lines (ltb-true g-at count eg)) (found (starts_at e) d.lines (ltb-true g-at count eg))
      (λ w. total-set w d.lines g-at (s ∷ line-at g-at) [] (ltb-true g-at count eg))
      refl
  picked false false c ef eg efg =
      started (not_found (ends_at s) d.lines (ltb-false f-at count ef)) (not_found (starts_at e) d.lines (ltb-false g-at count eg))
      (λ w. unfold total in omega (arith, total-append w d.lines ((s ∷ e ∷ []) ∷ [])))
      refl

pub outcome : (d : Drawing) (σ : Segment) → Outcome d (stitch d σ) σ.from σ.to
unfolding stitch stitch_at f-at g-at count
outcome d σ = picked d σ.from σ.to (ltb (f-at d σ.from σ.to) (count d σ.from σ.to)) (ltb (g-at d σ.from σ.to) (count d σ.from σ.to)) (eqb (f-at d σ.from σ.to) (g-at d σ.from σ.to)) refl refl refl

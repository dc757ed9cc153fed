-- Which of the five rules a segment follows, where the line that ends at its start and the line that starts at its end are known. Assumes nothing.
use mathlib.Core.Path.{◌≡◌, refl, ◌∙◌, ap, ap₂}
use mathlib.Core.Bool.{Bool, true, false, cond}
use mathlib.Core.List.{List, [], ◌∷◌}
use Prim.Native.Nat.{ℕ, zero, suc, ◌≤◌, ◌<◌}
use native.Mathlib.Nat.{le_of_suc-le-suc, not-suc-le-zero}
use native.Mathlib.Omega.{arith}
use lib.ListN.{length, get_or}
use borrow.Author.Tests.{lt-ltb, le-ltb, eq-eqb, ne_eqb}
use Rattle.scope.specs.Cells.{Segment, when}
use Rattle.scope.specs.Stitching.{Line, Drawing, starts_at, ends_at, find, close, join, append, prepend, start, stitch_at, stitch}
use Rattle.laws.proofs.Total.{total, total-at, tally}
use Rattle.laws.proofs.Counting.{ends, starts}

-- the only line that passes is the one found
pub find-unique : (test : Line → Bool) (ls : List Line) (i : ℕ) → total (tally test) ls ≤ 1 → i < length ls → test (get_or ls i []) ≡ true → find test ls ≡ i
unfolding find total
find-unique test [] i once h t = absurd (not-suc-le-zero h)
find-unique test (l ∷ ls) zero once h t = ap (λ (b : Bool). cond b 0 (suc (find test ls))) t
find-unique test (l ∷ ls) (suc i) once h t = by (test l) refl (find-unique test ls i)
  where
    by : (b : Bool) → test l ≡ b → (total (tally test) ls ≤ 1 → i < length ls → test (get_or ls i []) ≡ true → find test ls ≡ i) → cond b 0 (suc (find test ls)) ≡ suc i
    by true e ih = absurd (omega (arith, total-at (tally test) ls i [] (le_of_suc-le-suc h), ap (when 1) t, ap (when 1) e))
    by false e ih = ap suc (ih (omega arith) (le_of_suc-le-suc h) t)

pub find_none : (test : Line → Bool) (ls : List Line) → total (tally test) ls ≡ 0 → find test ls ≡ length ls
unfolding find total
find_none test [] none = refl
find_none test (l ∷ ls) none = by (test l) refl (find_none test ls)
  where
    by : (b : Bool) → test l ≡ b → (total (tally test) ls ≡ 0 → find test ls ≡ length ls) → cond b 0 (suc (find test ls)) ≡ suc (length ls)
    by true e ih = absurd (omega (arith, ap (when 1) e))
    by false e ih = ap suc (ih (omega arith))

module _ (d : Drawing) (σ : Segment) where
  -- by the numbers of the two lines, as the rules see them
  at-numbers : (f g : ℕ) → find (ends_at σ.from) d.lines ≡ f → find (starts_at σ.to) d.lines ≡ g → stitch d σ ≡ stitch_at d σ.from σ.to f g (length d.lines)
  unfolding stitch
  at-numbers f g ef eg = ap₂ (λ (m n : ℕ). stitch_at d σ.from σ.to m n (length d.lines)) ef eg

  module _ (f : ℕ) (hf : f < length d.lines) (there : ends_at σ.from (get_or d.lines f []) ≡ true) (one : ends d σ.from ≤ 1) where
    ends-at-f : find (ends_at σ.from) d.lines ≡ f
    ends-at-f = find-unique (ends_at σ.from) d.lines f (unfold ends in one) hf there

    pub stitch-append : starts d σ.to ≡ 0 → stitch d σ ≡ append d f σ.to
    stitch-append none =
        at-numbers f (length d.lines) ends-at-f (find_none (starts_at σ.to) d.lines (unfold starts in none))
        ∙ unfold stitch_at in simp (lt-ltb f (length d.lines) hf, le-ltb (length d.lines) (length d.lines) (omega arith))

    pub stitch-close : starts_at σ.to (get_or d.lines f []) ≡ true → starts d σ.to ≤ 1 → stitch d σ ≡ close d f σ.to
    stitch-close again one' =
        at-numbers f f ends-at-f (find-unique (starts_at σ.to) d.lines f (unfold starts in one') hf again)
        ∙ unfold stitch_at in simp (lt-ltb f (length d.lines) hf, eq-eqb f f refl)

    pub stitch-join : (g : ℕ) → g < length d.lines → starts_at σ.to (get_or d.lines g []) ≡ true → starts d σ.to ≤ 1 → (f ≡ g → ⊥) → stitch d σ ≡ join d f g
    stitch-join g hg again one' ne =
        at-numbers f g ends-at-f (find-unique (starts_at σ.to) d.lines g (unfold starts in one') hg again)
        ∙ unfold stitch_at in simp (lt-ltb f (length d.lines) hf, lt-ltb g (length d.lines) hg, ne_eqb f g ne)

  module _ (none : ends d σ.from ≡ 0) where
    ends_nowhere : find (ends_at σ.from) d.lines ≡ length d.lines
    ends_nowhere = find_none (ends_at σ.from) d.lines (unfold ends in none)

    pub stitch-prepend : (g : ℕ) → g < length d.lines → starts_at σ.to (get_or d.lines g []) ≡ true → starts d σ.to ≤ 1 → stitch d σ ≡ prepend d g σ.from
    stitch-prepend g hg again one =
        at-numbers (length d.lines) g ends_nowhere (find-unique (starts_at σ.to) d.lines g (unfold starts in one) hg again)
        ∙ unfold stitch_at in simp (le-ltb (length d.lines) (length d.lines) (omega arith), lt-ltb g (length d.lines) hg)

    pub stitch-start : starts d σ.to ≡ 0 → stitch d σ ≡ start d σ.from σ.to
    stitch-start none' =
        at-numbers (length d.lines) (length d.lines) ends_nowhere (find_none (starts_at σ.to) d.lines (unfold starts in none'))
        ∙ unfold stitch_at in simp (le-ltb (length d.lines) (length d.lines) (omega arith))

-- One segment more over a drawing: by the marks at its two points it is known which lines are there and which of the five rules applies. The line that ends at
-- its start is the one found, and so is the line that starts at its end. Assumes nothing.
use mathlib.Core.Path.{◌≡◌, ◌∙◌, ap}
use mathlib.Core.Bool.{Bool, true}
use mathlib.Core.List.{List, [], ◌∷◌, ◌++◌}
use Prim.Native.Nat.{ℕ, ◌+◌, ◌≤◌, ◌<◌}
use native.Mathlib.Decide.{dec_lt}
use native.Mathlib.Omega.{arith}
use lib.ListN.{length, get_or}
use borrow.Author.Tests.{lt-ltb, le-ltb, eq-eqb, ne_eqb}
use Rattle.scope.specs.Cells.{Segment}
use Rattle.scope.specs.Stitching.{Line, Drawing, starts_at, ends_at, find, nothing, close, join, append, prepend, start, stitch_at, stitch, stitch_all}
use Rattle.laws.proofs.Total.{total, tally, found, found-counts, not_found}
use Rattle.laws.proofs.Outcome.{Outcome, closed-ring, joined, appended, prepended, started, outcome}
use Rattle.laws.proofs.Counting.{ends, starts, Fresh, fewer-or-more}
use Rattle.laws.proofs.Cellwise.{Sound, one_more}

-- a line that passes a test is found where one does, and none is where none does
some-found : (test : Line → Bool) (ls : List Line) → 1 ≤ total (tally test) ls → find test ls < length ls
some-found test ls h = by (dec_lt (find test ls) (length ls))
  where
    by : Dec (find test ls < length ls) → find test ls < length ls
    by (yes k) = k
    by (no k) = absurd (omega (arith, not_found test ls (omega arith)))

none_found : (test : Line → Bool) (ls : List Line) → total (tally test) ls ≡ 0 → length ls ≤ find test ls
none_found test ls h = by (dec_lt (find test ls) (length ls))
  where
    by : Dec (find test ls < length ls) → length ls ≤ find test ls
    by (yes k) = absurd (omega (arith, found-counts test ls k))
    by (no k) = omega arith

module _ (σs : List Segment) (σ : Segment) (a b : ℕ) (sound : Sound σs) (fresh : Fresh σs σ a b) where
  abbrev d : Drawing
  d = stitch_all nothing σs

  abbrev d' : Drawing
  d' = stitch_all nothing (σs ++ (σ ∷ []))

  ends-are : ends d σ.from ≡ a
  ends-are = omega (arith, sound.balanced.at-ends σ.from, fresh.ended-at-start, fresh.not-begun)

  starts-are : starts d σ.to ≡ b
  starts-are = omega (arith, sound.balanced.at-starts σ.to, fresh.begun-at-end, fresh.not-ended)

  -- the line that ends at the segment's start, and the one that starts at its end
  abbrev pub ending : ℕ
  ending = find (ends_at σ.from) d.lines

  abbrev pub starting : ℕ
  starting = find (starts_at σ.to) d.lines

  pub ending-inside : a ≡ 1 → ending < length d.lines
  ending-inside h = some-found (ends_at σ.from) d.lines (unfold ends in omega (arith, ends-are))

  pub ending_there : a ≡ 1 → ends_at σ.from (get_or d.lines ending []) ≡ true
  ending_there h = found (ends_at σ.from) d.lines (ending-inside h)

  pub starting-inside : b ≡ 1 → starting < length d.lines
  starting-inside h = some-found (starts_at σ.to) d.lines (unfold starts in omega (arith, starts-are))

  pub starting-there : b ≡ 1 → starts_at σ.to (get_or d.lines starting []) ≡ true
  starting-there h = found (starts_at σ.to) d.lines (starting-inside h)

  no-ending : a ≡ 0 → length d.lines ≤ ending
  no-ending h = none_found (ends_at σ.from) d.lines (unfold ends in omega (arith, ends-are))

  no-starting : b ≡ 0 → length d.lines ≤ starting
  no-starting h = none_found (starts_at σ.to) d.lines (unfold starts in omega (arith, starts-are))

  by-rule : d' ≡ stitch_at d σ.from σ.to ending starting (length d.lines)
  unfolding stitch
  by-rule = one_more σs σ a b sound fresh

  pub appends : a ≡ 1 → b ≡ 0 → d' ≡ append d ending σ.to
  appends ha hb = by-rule ∙ unfold stitch_at in simp (lt-ltb ending (length d.lines) (ending-inside ha), le-ltb starting (length d.lines) (no-starting hb))

  pub prepends : a ≡ 0 → b ≡ 1 → d' ≡ prepend d starting σ.from
  prepends ha hb = by-rule ∙ unfold stitch_at in simp (le-ltb ending (length d.lines) (no-ending ha), lt-ltb starting (length d.lines) (starting-inside hb))

  pub begins : a ≡ 0 → b ≡ 0 → d' ≡ start d σ.from σ.to
  begins ha hb = by-rule ∙ unfold stitch_at in simp (le-ltb ending (length d.lines) (no-ending ha), le-ltb starting (length d.lines) (no-starting hb))

  pub closes : a ≡ 1 → b ≡ 1 → ending ≡ starting → d' ≡ close d ending σ.to
  closes ha hb q =
      by-rule
      ∙ unfold stitch_at in
      simp (lt-ltb ending (length d.lines) (ending-inside ha), lt-ltb starting (length d.lines) (starting-inside hb), eq-eqb ending starting q)

  pub joins : a ≡ 1 → b ≡ 1 → (ending ≡ starting → ⊥) → d' ≡ join d ending starting
  joins ha hb ne =
      by-rule
      ∙ unfold stitch_at in
      simp (lt-ltb ending (length d.lines) (ending-inside ha), lt-ltb starting (length d.lines) (starting-inside hb), ne_eqb ending starting ne)

  -- where not both lines are there no ring closes
  pub rings-stay : a + b ≤ 1 → d'.rings ≡ d.rings
  rings-stay few = ap (λ (x : Drawing). x.rings) (one_more σs σ a b sound fresh) ∙ by (outcome d σ)
    where
      by : Outcome d (stitch d σ) σ.from σ.to → (stitch d σ).rings ≡ d.rings
      by (closed-ring f some-f some-g hs he sum rings) = absurd (unfold ends starts in omega (arith, ends-are, starts-are))
      by (joined f g some-f some-g hs he sum rings) = rings
      by (appended f some-f none hs sum rings) = rings
      by (prepended g none some-g he sum rings) = rings
      by (started none none' sum rings) = rings

  pub lines-change : length d'.lines + a + b ≡ length d.lines + 1
  lines-change = omega (arith, ap (λ (x : Drawing). length x.lines) (one_more σs σ a b sound fresh), fewer-or-more d σs σ a b sound.balanced fresh)

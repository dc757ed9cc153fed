-- The counts of a trial: open lines, the segments in them, and the rings and their points that came since the row began. Each stroke's change of the counts is the
-- drawing's, where it lengthens a line, begins one, joins two or closes one. Assumes nothing.
use mathlib.Core.Path.{◌≡◌, refl, sym, ◌∙◌, ap}
use mathlib.Core.Bool.{true}
use mathlib.Core.List.{List, [], ◌∷◌, ◌++◌}
use Prim.Native.Nat.{ℕ, ◌+◌, ◌^◌, ◌<◌}
use native.Mathlib.Omega.{arith}
use lib.ListN.{length, get_or, length-append}
use Rattle.scope.specs.Cells.{Segment}
use Rattle.scope.specs.Stitching as rules
use Rattle.scope.specs.Stitching.{Line, Drawing, ends_at, nothing, stitch_all}
use Rattle.laws.proofs.Total.{total, total-append}
use Rattle.laws.proofs.Counting.{Fresh}
use Rattle.laws.proofs.Cellwise.{Sound}
use Rattle.laws.proofs.Sizes.{size, held_in, held-or-closed, lines-at-most, rings-at-most, points-at-most, size-appended, length-closed}
use Rattle.laws.proofs.Drawn.{ending, starting, ending_there, rings-stay, lines-change, closes, joins}
use Rattle.machine.specs.Machine.{word_of}
use Rattle.trying.specs.declared.Trial.{Trial}
use Rattle.trying.specs.Trying.{grown, begun, merged, ringed}

-- with the rings and the points of rings that were there before the row
pub record Counts (rings₀ points₀ : ℕ) (σs : List Segment) (t : Trial) : Type 0 where
  pub lines_are : t.lines ≡ length (stitch_all nothing σs).lines
  pub held-are : t.held ≡ held_in (stitch_all nothing σs).lines
  pub rings-are : t.rings + rings₀ ≡ length (stitch_all nothing σs).rings
  pub points-are : t.points + points₀ ≡ total length (stitch_all nothing σs).rings

fits : (n : ℕ) → n < 2 ^ 32 → word_of n ≡ n
unfolding word_of
fits n h = omega arith

module _ {rings₀ points₀ : ℕ} (σs : List Segment) (σ : Segment) (a b : ℕ) (sound : Sound σs) (fresh : Fresh σs σ a b) (small : length σs < 2 ^ 30) (t : Trial) (now : Counts rings₀ points₀ σs t) where
  abbrev after : List Segment
  after = σs ++ (σ ∷ [])

  more : length after ≡ length σs + 1
  more = length-append σs (σ ∷ [])

  -- where no ring closes, the line or lines hold a segment more
  held_more : (stitch_all nothing after).rings ≡ (stitch_all nothing σs).rings → word_of (t.held + 1) ≡ held_in (stitch_all nothing after).lines
  held_more stay =
      fits (t.held + 1) (omega (arith, now.held-are, held-or-closed σs))
      ∙ omega (arith, now.held-are, held-or-closed σs, held-or-closed after, more, ap (total size) stay)

  pub grown-counts : a + b ≡ 1 → Counts rings₀ points₀ after (grown t)
  grown-counts one =
      let stay = rings-stay σs σ a b sound fresh (omega arith) in
      record {
        lines_are = omega (arith, now.lines_are, lines-change σs σ a b sound fresh);
        held-are = held_more stay;
        rings-are = now.rings-are ∙ ap length (sym stay);
        points-are = now.points-are ∙ ap (total length) (sym stay);
      }

  pub begun-counts : a + b ≡ 0 → Counts rings₀ points₀ after (begun t)
  begun-counts none =
      let stay = rings-stay σs σ a b sound fresh (omega arith) in
      record {
        lines_are = fits (t.lines + 1) (omega (arith, now.lines_are, lines-at-most σs)) ∙ omega (arith, now.lines_are, lines-change σs σ a b sound fresh);
        held-are = held_more stay;
        rings-are = now.rings-are ∙ ap length (sym stay);
        points-are = now.points-are ∙ ap (total length) (sym stay);
      }

  module _ (ha : a ≡ 1) (hb : b ≡ 1) where
    pub merged-counts : (ending σs σ a b sound fresh ≡ starting σs σ a b sound fresh → ⊥) → Counts rings₀ points₀ after (merged t)
    merged-counts ne =
        let stay : (stitch_all nothing after).rings ≡ (stitch_all nothing σs).rings = ap (λ (d : Drawing). d.rings) (joins σs σ a b sound fresh ha hb ne) ∙ unfold rules.join in refl in
        record {
          lines_are = omega (arith, now.lines_are, lines-change σs σ a b sound fresh);
          held-are = held_more stay;
          rings-are = now.rings-are ∙ ap length (sym stay);
          points-are = now.points-are ∙ ap (total length) (sym stay);
        }

    -- the line that closes
    abbrev line : Line
    line = get_or (stitch_all nothing σs).lines (ending σs σ a b sound fresh) []

    pub ringed-counts : ending σs σ a b sound fresh ≡ starting σs σ a b sound fresh → Counts rings₀ points₀ after (ringed t (size line))
    ringed-counts q = record {
      lines_are = omega (arith, now.lines_are, lines-change σs σ a b sound fresh);
      held-are = omega (arith, now.held-are, held-or-closed σs, held-or-closed after, more, ap (total size) rings-after, total-append size rings (ring ∷ []), one size, size-appended σ.from σ.to line [] there);
      rings-are =
          ap (λ (n : ℕ). n + rings₀) (fits (t.rings + 1) (omega (arith, now.rings-are, rings-at-most σs)))
          ∙ omega (arith, now.rings-are, ap length rings-after, length-append rings (ring ∷ []));
      points-are =
          ap (λ (n : ℕ). n + points₀)
          (fits (t.points + size line + 2)
          (omega (arith, now.points-are, points-at-most after, more, ap (total length) rings-after, total-append length rings (ring ∷ []), one length, length-closed σ.from σ.to line [] there)))
          ∙ omega (arith, now.points-are, ap (total length) rings-after, total-append length rings (ring ∷ []), one length, length-closed σ.from σ.to line [] there);
    }
      where
        ring : Line
        ring = line ++ (σ.to ∷ [])

        rings : List Line
        rings = (stitch_all nothing σs).rings

        there : ends_at σ.from line ≡ true
        there = ending_there σs σ a b sound fresh ha

        rings-after : (stitch_all nothing after).rings ≡ rings ++ (ring ∷ [])
        rings-after = ap (λ (d : Drawing). d.rings) (closes σs σ a b sound fresh ha hb q) ∙ unfold rules.close in refl

        one : (w : Line → ℕ) → total w (ring ∷ []) ≡ w ring
        one w = unfold total in omega arith

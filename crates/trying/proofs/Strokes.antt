-- One stroke of the trial: where the words note the open lines and the counts stand before it, they do so after it. Saddle 5 is one step of two strokes.
-- Assumes nothing.
use mathlib.Core.Path.{◌≡◌, sym, ◌∙◌, ap, subst}
use mathlib.Core.Bool.{Bool, true, cond}
use mathlib.Core.List.{List, [], ◌∷◌, ◌++◌}
use Prim.Native.Nat.{ℕ, ◌+◌, ◌^◌, ◌≤◌, ◌<◌}
use native.Mathlib.Decide.{ℕ_discrete}
use native.Mathlib.Omega.{arith}
use lib.ListN.{length, get_or, set}
use borrow.Author.Tests.{eq-eqb, ne_eqb}
use Rattle.scope.specs.Cells.{Point, Segment}
use Rattle.scope.specs.Stitching as rules
use Rattle.scope.specs.Stitching.{Line, Drawing, starts_at, ends_at, nothing, stitch_all}
use Rattle.laws.proofs.Strokes.{begin}
use Rattle.laws.proofs.Counting.{Fresh}
use Rattle.laws.proofs.Cellwise.{Sound}
use Rattle.laws.proofs.Tips.{edge_word}
use Rattle.laws.proofs.Sizes.{size-at-most}
use Rattle.laws.proofs.Drawn.{ending, starting, ending-inside, ending_there, starting-inside, starting-there, appends, prepends, begins, closes, joins}
use Rattle.laws.proofs.LineWords.{word_by, word_at, Spread}
use Rattle.trying.specs.Notes.{place_in, size_between}
use Rattle.trying.specs.Trying.{Tried, open_tried, end_tried, start_tried, close_tried, join_tried, meet_tried, ringed}
use Rattle.trying.proofs.Notes.{length-noted, Readable, start_of, end-noted, start-noted, open-noted, join-noted, ring-read}
use Rattle.trying.proofs.Listed.{Noted, noted-set, noted-start, noted-without, noted-join}
use Rattle.trying.proofs.Counted.{Counts, merged-counts, ringed-counts}

-- the words are long enough and note the open lines
pub record Known (dx : ℕ) (σs : List Segment) (words : List ℕ) : Type 0 where
  pub long : dx + 2 ≤ length words
  pub noted : Noted dx words (stitch_all nothing σs).lines

-- what is known of a line that is noted
pub readable : {dx : ℕ} {σs : List Segment} {words : List ℕ} → dx + 2 ≤ 2 ^ 17 → length σs < 2 ^ 30 → Known dx σs words → Spread dx (stitch_all nothing σs).lines
    → (i : ℕ) → i < length (stitch_all nothing σs).lines → Readable dx words (get_or (stitch_all nothing σs).lines i [])
readable {dx} {σs} {words} narrow small known spread i hi = record {
  right = known.noted i hi;
  low = λ role. omega (arith, (spread.apt i hi).low role);
  small = omega (arith, size-at-most σs i hi);
}

module _ (dx : ℕ) (σs : List Segment) (σ : Segment) (a b : ℕ) (sound : Sound σs) (fresh : Fresh σs σ a b) (t : Tried) where
  abbrev after : List Segment
  after = σs ++ (σ ∷ [])

  abbrev lines : List Line
  lines = (stitch_all nothing σs).lines

  abbrev lines' : List Line
  lines' = (stitch_all nothing after).lines

  abbrev s : Point
  s = σ.from

  abbrev e : Point
  e = σ.to

  abbrev f : ℕ
  f = ending σs σ a b sound fresh

  abbrev g : ℕ
  g = starting σs σ a b sound fresh

  -- a new line
  pub open-known : a ≡ 0 → b ≡ 0 → Known dx σs t.words → Spread dx lines' → Known dx after (open_tried t (edge_word dx s) (edge_word dx e)).words
  open-known ha hb known spread' = record {
    long = omega (arith, known.long, length-noted t.words (edge_word dx s) (edge_word dx e) 1);
    noted =
        subst (λ (d : Drawing). Spread dx d.lines → Noted dx (open_tried t (edge_word dx s) (edge_word dx e)).words d.lines) (sym (begins σs σ a b sound fresh ha hb))
        (unfold rules.start in λ k.
        subst (λ (w : List ℕ). Noted dx w (lines ++ ((s ∷ e ∷ []) ∷ []))) (sym (open-noted dx t.words s e))
        (noted-start dx t.words lines known.long (s ∷ e ∷ []) k known.noted))
        spread';
  }

  module _ (narrow : dx + 2 ≤ 2 ^ 17) (small : length σs < 2 ^ 30) (known : Known dx σs t.words) (spread : Spread dx lines) where
    read : (i : ℕ) → i < length lines → Readable dx t.words (get_or lines i [])
    read = readable narrow small known spread

    -- a line that ends elsewhere, and one that starts elsewhere
    pub end_known : a ≡ 1 → b ≡ 0 → Spread dx lines' → Known dx after (end_tried t (edge_word dx s) (edge_word dx e)).words
    end_known ha hb spread' = record {
      long = omega (arith, known.long, length-noted t.words (place_in (get_or t.words (edge_word dx s) 0)) (edge_word dx e) (size_between t.words (place_in (get_or t.words (edge_word dx s) 0)) (edge_word dx s) + 1));
      noted =
          subst (λ (d : Drawing). Spread dx d.lines → Noted dx (end_tried t (edge_word dx s) (edge_word dx e)).words d.lines) (sym (appends σs σ a b sound fresh ha hb))
          (unfold rules.append in λ k.
          subst (λ (w : List ℕ). Noted dx w (set lines f (get_or lines f [] ++ (e ∷ [])))) (sym (end-noted dx t.words s e (get_or lines f []) there (read f inside)))
          (noted-set dx t.words lines known.long f (get_or lines f [] ++ (e ∷ [])) inside k known.noted))
          spread';
    }
      where
        inside : f < length lines
        inside = ending-inside σs σ a b sound fresh ha

        there : ends_at s (get_or lines f []) ≡ true
        there = ending_there σs σ a b sound fresh ha

    pub start-known : a ≡ 0 → b ≡ 1 → Spread dx lines' → Known dx after (start_tried t (edge_word dx s) (edge_word dx e)).words
    start-known ha hb spread' = record {
      long = omega (arith, known.long, length-noted t.words (edge_word dx s) (place_in (get_or t.words (edge_word dx e) 0)) (size_between t.words (edge_word dx e) (place_in (get_or t.words (edge_word dx e) 0)) + 1));
      noted =
          subst (λ (d : Drawing). Spread dx d.lines → Noted dx (start_tried t (edge_word dx s) (edge_word dx e)).words d.lines) (sym (prepends σs σ a b sound fresh ha hb))
          (unfold rules.prepend in λ k.
          subst (λ (w : List ℕ). Noted dx w (set lines g (s ∷ get_or lines g []))) (sym (start-noted dx t.words s e (get_or lines g []) there (read g inside)))
          (noted-set dx t.words lines known.long g (s ∷ get_or lines g []) inside k known.noted))
          spread';
    }
      where
        inside : g < length lines
        inside = starting-inside σs σ a b sound fresh hb

        there : starts_at e (get_or lines g []) ≡ true
        there = starting-there σs σ a b sound fresh hb

    -- two lines that meet, or one
    module _ (ha : a ≡ 1) (hb : b ≡ 1) where
      f-inside : f < length lines
      f-inside = ending-inside σs σ a b sound fresh ha

      f-there : ends_at s (get_or lines f []) ≡ true
      f-there = ending_there σs σ a b sound fresh ha

      g_inside : g < length lines
      g_inside = starting-inside σs σ a b sound fresh hb

      g-there : starts_at e (get_or lines g []) ≡ true
      g-there = starting-there σs σ a b sound fresh hb

      f-word : place_in (get_or t.words (edge_word dx s) 0) ≡ word_by dx begin (get_or lines f [])
      f-word = start_of dx t.words s e (get_or lines f []) f-there (read f f-inside)

      g-word : word_by dx begin (get_or lines g []) ≡ edge_word dx e
      g-word = word_at dx begin e (get_or lines g []) g-there

      met-one : f ≡ g → meet_tried t (edge_word dx s) (edge_word dx e) ≡ close_tried t (edge_word dx s) (edge_word dx e)
      met-one q =
          ap (λ (x : Bool). cond x (close_tried t (edge_word dx s) (edge_word dx e)) (join_tried t (edge_word dx s) (edge_word dx e)))
          (eq-eqb (place_in (get_or t.words (edge_word dx s) 0)) (edge_word dx e) (f-word ∙ ap (λ (n : ℕ). word_by dx begin (get_or lines n [])) q ∙ g-word))

      met-two : (f ≡ g → ⊥) → meet_tried t (edge_word dx s) (edge_word dx e) ≡ join_tried t (edge_word dx s) (edge_word dx e)
      met-two ne =
          ap (λ (x : Bool). cond x (close_tried t (edge_word dx s) (edge_word dx e)) (join_tried t (edge_word dx s) (edge_word dx e)))
          (ne_eqb (place_in (get_or t.words (edge_word dx s) 0)) (edge_word dx e) (λ q. spread.apart f g f-inside g_inside ne begin begin (sym f-word ∙ q ∙ sym g-word)))

      close-known : f ≡ g → Known dx after (close_tried t (edge_word dx s) (edge_word dx e)).words
      close-known q = record {
        long = known.long;
        noted =
            subst (λ (d : Drawing). Noted dx t.words d.lines) (sym (closes σs σ a b sound fresh ha hb q))
            (unfold rules.close in noted-without dx t.words lines known.long f f-inside known.noted);
      }

      join-known : (f ≡ g → ⊥) → Known dx after (join_tried t (edge_word dx s) (edge_word dx e)).words
      join-known ne = record {
        long =
            omega (
              arith,
              known.long,
              length-noted t.words (place_in (get_or t.words (edge_word dx s) 0)) (place_in (get_or t.words (edge_word dx e) 0))
                  (size_between t.words (place_in (get_or t.words (edge_word dx s) 0)) (edge_word dx s) + size_between t.words (edge_word dx e) (place_in (get_or t.words (edge_word dx e) 0)) + 1),
            );
        noted =
            subst (λ (d : Drawing). Noted dx (join_tried t (edge_word dx s) (edge_word dx e)).words d.lines) (sym (joins σs σ a b sound fresh ha hb ne))
            (unfold rules.join in
            subst (λ (w : List ℕ). Noted dx w (rules.without (set lines f (get_or lines f [] ++ get_or lines g [])) g))
            (sym (join-noted dx t.words s e (get_or lines f []) (get_or lines g []) f-there g-there (read f f-inside) (read g g_inside)))
            (noted-join dx t.words lines known.long s e f g f-inside g_inside ne f-there g-there spread known.noted));
      }

      pub meet-known : Known dx after (meet_tried t (edge_word dx s) (edge_word dx e)).words
      meet-known = by (ℕ_discrete f g)
        where
          by : Dec (f ≡ g) → Known dx after (meet_tried t (edge_word dx s) (edge_word dx e)).words
          by (yes q) = subst (λ (x : Tried). Known dx after x.words) (sym (met-one q)) (close-known q)
          by (no ne) = subst (λ (x : Tried). Known dx after x.words) (sym (met-two ne)) (join-known ne)

      pub meet-counts : {rings₀ points₀ : ℕ} → Counts rings₀ points₀ σs t.trial → Counts rings₀ points₀ after (meet_tried t (edge_word dx s) (edge_word dx e)).trial
      meet-counts {rings₀} {points₀} now = by (ℕ_discrete f g)
        where
          by : Dec (f ≡ g) → Counts rings₀ points₀ after (meet_tried t (edge_word dx s) (edge_word dx e)).trial
          by (yes q) =
              subst (λ (x : Tried). Counts rings₀ points₀ after x.trial) (sym (met-one q))
              (subst (λ (n : ℕ). Counts rings₀ points₀ after (ringed t.trial n))
              (sym (ring-read dx t.words s e (get_or lines f []) f-there (subst (λ (n : ℕ). starts_at e (get_or lines n []) ≡ true) (sym q) g-there) (read f f-inside)))
              (ringed-counts σs σ a b sound fresh small t.trial now ha hb q))
          by (no ne) = subst (λ (x : Tried). Counts rings₀ points₀ after x.trial) (sym (met-two ne)) (merged-counts σs σ a b sound fresh small t.trial now ha hb ne)

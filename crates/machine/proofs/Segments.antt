-- One segment drawn, for any drawing so far and over any machine that draws by the five rules: by the marks at its two points the rule is known, and the
-- machine's rule carries it. Assumes nothing.
use mathlib.Core.Path.{◌≡◌, sym, ◌∙◌, subst}
use mathlib.Core.List.{List, [], ◌∷◌, ◌++◌}
use Prim.Native.Nat.{ℕ, suc, ◌<◌}
use native.Mathlib.Omega.{arith}
use lib.ListN.{length, get_or, length-set, length-append, get_or-append}
use lib.Seq.{get_or-set_same, get_or-append_seam}
use mathlib.Core.Bool.{true}
use Rattle.scope.specs.Cells.{Point, Segment, indexed_point}
use Rattle.scope.specs.Stitching as rules
use Rattle.scope.specs.Stitching.{Drawing, starts_at, ends_at, nothing, stitch, stitch_all}
use Rattle.laws.proofs.Ends.{same_refl, end-of-appended}
use Rattle.laws.proofs.Strokes.{begin, finish}
use Rattle.laws.proofs.Counting.{ends, starts, Fresh}
use Rattle.laws.proofs.Cellwise.{Sound, one_more}
use Rattle.laws.proofs.Rules.{stitch-append, stitch-close, stitch-join, stitch-prepend, stitch-start}
use Rattle.laws.proofs.Tips.{Tip, edge_word, WordsApart}
use Rattle.machine.proofs.Leaving.{all, Columns}
use Rattle.machine.proofs.Carrier.{Carrier}

-- the segment between the points of two indices
abbrev pub segment : ℕ → ℕ → ℕ → Segment
segment dx s e = record { from = indexed_point dx s; to = indexed_point dx e }

module _ (dx : ℕ) (σs : List Segment) (s e a b : ℕ) (sound : Sound σs) (fresh : Fresh σs (segment dx s e) a b) where
  abbrev before : Drawing
  before = stitch_all nothing σs

  abbrev after : Drawing
  after = stitch_all nothing (σs ++ (segment dx s e ∷ []))

  ends-are : ends before (indexed_point dx s) ≡ a
  ends-are = omega (arith, sound.balanced.at-ends (indexed_point dx s), fresh.ended-at-start, fresh.not-begun)

  starts-are : starts before (indexed_point dx e) ≡ b
  starts-are = omega (arith, sound.balanced.at-starts (indexed_point dx e), fresh.begun-at-end, fresh.not-ended)

  stitched : after ≡ stitch before (segment dx s e)
  stitched = one_more σs (segment dx s e) a b sound fresh

  -- ---- the rule that the marks pick
  pub append-rule : b ≡ 0 → (f : ℕ) → f < length before.lines → ends_at (indexed_point dx s) (get_or before.lines f []) ≡ true → after ≡ rules.append before f (indexed_point dx e)
  append-rule none f hf there = stitched ∙ stitch-append before (segment dx s e) f hf there (omega (arith, ends-are, fresh.once-ended)) (starts-are ∙ none)

  pub prepend-rule : a ≡ 0 → (g : ℕ) → g < length before.lines → starts_at (indexed_point dx e) (get_or before.lines g []) ≡ true → after ≡ rules.prepend before g (indexed_point dx s)
  prepend-rule none g hg there = stitched ∙ stitch-prepend before (segment dx s e) (ends-are ∙ none) g hg there (omega (arith, starts-are, fresh.once-begun))

  pub start-rule : a ≡ 0 → b ≡ 0 → after ≡ rules.start before (indexed_point dx s) (indexed_point dx e)
  start-rule none none' = stitched ∙ stitch-start before (segment dx s e) (ends-are ∙ none) (starts-are ∙ none')

  -- the new point is a tip of the line that grew
  pub appended-tip : b ≡ 0 → (f : ℕ) → f < length before.lines → ends_at (indexed_point dx s) (get_or before.lines f []) ≡ true → (f < length after.lines) × Tip (indexed_point dx e) (get_or after.lines f [])
  appended-tip none f hf there =
      subst (λ (d : Drawing). (f < length d.lines) × Tip (indexed_point dx e) (get_or d.lines f [])) (sym (append-rule none f hf there))
      (unfold rules.append in (
        rw (length-set before.lines f (get_or before.lines f [] ++ (indexed_point dx e ∷ []))) hf,
        rw (get_or-set_same before.lines f (get_or before.lines f [] ++ (indexed_point dx e ∷ [])) [] hf)
            (record { role = finish; there = end-of-appended (indexed_point dx e) (indexed_point dx e) (get_or before.lines f []) ∙ same_refl (indexed_point dx e) }),
      ))

  pub prepended-tip : a ≡ 0 → (g : ℕ) → g < length before.lines → starts_at (indexed_point dx e) (get_or before.lines g []) ≡ true → (g < length after.lines) × Tip (indexed_point dx s) (get_or after.lines g [])
  prepended-tip none g hg there =
      subst (λ (d : Drawing). (g < length d.lines) × Tip (indexed_point dx s) (get_or d.lines g [])) (sym (prepend-rule none g hg there))
      (unfold rules.prepend in (
        rw (length-set before.lines g (indexed_point dx s ∷ get_or before.lines g [])) hg,
        rw (get_or-set_same before.lines g (indexed_point dx s ∷ get_or before.lines g []) [] hg)
            (record { role = begin; there = unfold starts_at in same_refl (indexed_point dx s) }),
      ))

  -- the rule of close and of join
  close-rule : (f : ℕ) → f < length before.lines → ends_at (indexed_point dx s) (get_or before.lines f []) ≡ true → starts_at (indexed_point dx e) (get_or before.lines f []) ≡ true
      → after ≡ rules.close before f (indexed_point dx e)
  close-rule f hf there there' = stitched ∙ stitch-close before (segment dx s e) f hf there (omega (arith, ends-are, fresh.once-ended)) there' (omega (arith, starts-are, fresh.once-begun))

  join_rule : (f g : ℕ) → f < length before.lines → g < length before.lines → (f ≡ g → ⊥) → ends_at (indexed_point dx s) (get_or before.lines f []) ≡ true
      → starts_at (indexed_point dx e) (get_or before.lines g []) ≡ true → after ≡ rules.join before f g
  join_rule f g hf hg ne there there' = stitched ∙ stitch-join before (segment dx s e) f hf there (omega (arith, ends-are, fresh.once-ended)) g hg there' (omega (arith, starts-are, fresh.once-begun)) ne

  module _ (C : Carrier dx) (live live' : Point → Type 0) (t : C.State) (now : C.Carries (length σs) live before t) (room : C.Fits (suc (length σs)) after) where
    pub append-drawn : b ≡ 0 → (f : ℕ) → f < length before.lines → ends_at (indexed_point dx s) (get_or before.lines f []) ≡ true
        → ((i : ℕ) → i < length after.lines → (p : Point) → Tip p (get_or after.lines i []) → live' p → edge_word dx p ≡ edge_word dx (indexed_point dx e) → i ≡ f)
        → ((i : ℕ) → i < length after.lines → (p : Point) → Tip p (get_or after.lines i []) → live' p → (p ≡ indexed_point dx e → ⊥) → live p)
        → C.Carries (suc (length σs)) live' after (C.appended t s f e (edge_word dx (indexed_point dx e)))
    append-drawn none f hf there =
        subst (λ (d : Drawing).
        C.Fits (suc (length σs)) d
        → ((i : ℕ) → i < length d.lines → (p : Point) → Tip p (get_or d.lines i []) → live' p → edge_word dx p ≡ edge_word dx (indexed_point dx e) → i ≡ f)
        → ((i : ℕ) → i < length d.lines → (p : Point) → Tip p (get_or d.lines i []) → live' p → (p ≡ indexed_point dx e → ⊥) → live p)
        → C.Carries (suc (length σs)) live' d (C.appended t s f e (edge_word dx (indexed_point dx e)))) (sym (append-rule none f hf there))
        (λ fits alone keeps. C.append-carried (length σs) live live' before t now s e f hf there fits (λ i hi. alone i (long i hi)) (λ i hi. keeps i (long i hi)))
        room
      where
        long : (i : ℕ) → i < length before.lines → i < length (rules.append before f (indexed_point dx e)).lines
        long i hi = unfold rules.append in rw (length-set before.lines f (get_or before.lines f [] ++ (indexed_point dx e ∷ []))) hi

    pub prepend-drawn : a ≡ 0 → (g : ℕ) → g < length before.lines → starts_at (indexed_point dx e) (get_or before.lines g []) ≡ true
        → ((i : ℕ) → i < length after.lines → (p : Point) → Tip p (get_or after.lines i []) → live' p → edge_word dx p ≡ edge_word dx (indexed_point dx s) → i ≡ g)
        → ((i : ℕ) → i < length after.lines → (p : Point) → Tip p (get_or after.lines i []) → live' p → (p ≡ indexed_point dx s → ⊥) → live p)
        → C.Carries (suc (length σs)) live' after (C.prepended t s g (edge_word dx (indexed_point dx s)))
    prepend-drawn none g hg there =
        subst (λ (d : Drawing).
        C.Fits (suc (length σs)) d
        → ((i : ℕ) → i < length d.lines → (p : Point) → Tip p (get_or d.lines i []) → live' p → edge_word dx p ≡ edge_word dx (indexed_point dx s) → i ≡ g)
        → ((i : ℕ) → i < length d.lines → (p : Point) → Tip p (get_or d.lines i []) → live' p → (p ≡ indexed_point dx s → ⊥) → live p)
        → C.Carries (suc (length σs)) live' d (C.prepended t s g (edge_word dx (indexed_point dx s)))) (sym (prepend-rule none g hg there))
        (λ fits alone keeps. C.prepend-carried (length σs) live live' before t now s e g hg there fits (λ i hi. alone i (long i hi)) (λ i hi. keeps i (long i hi)))
        room
      where
        long : (i : ℕ) → i < length before.lines → i < length (rules.prepend before g (indexed_point dx s)).lines
        long i hi = unfold rules.prepend in rw (length-set before.lines g (indexed_point dx s ∷ get_or before.lines g [])) hi

    pub start-drawn : a ≡ 0 → b ≡ 0 → WordsApart dx after.lines
        → ((i : ℕ) → i < length before.lines → (p : Point) → Tip p (get_or before.lines i []) → live' p → live p)
        → C.Carries (suc (length σs)) live' after (C.started t s e (edge_word dx (indexed_point dx s)) (edge_word dx (indexed_point dx e)))
    start-drawn none none' apart keeps =
        subst (λ (d : Drawing).
        C.Fits (suc (length σs)) d → WordsApart dx d.lines
        → C.Carries (suc (length σs)) live' d (C.started t s e (edge_word dx (indexed_point dx s)) (edge_word dx (indexed_point dx e)))) (sym (start-rule none none'))
        (λ fits words. C.start-carried (length σs) live live' before t now s e fits
        (λ i hi p tip. (alone (unfold rules.start in words) i hi p tip (indexed_point dx s) new-start, alone (unfold rules.start in words) i hi p tip (indexed_point dx e) new-end)) keeps)
        room apart
      where
        new-start : Tip (indexed_point dx s) (indexed_point dx s ∷ indexed_point dx e ∷ [])
        new-start = record { role = begin; there = unfold starts_at in same_refl (indexed_point dx s) }

        new-end : Tip (indexed_point dx e) (indexed_point dx s ∷ indexed_point dx e ∷ [])
        new-end = record { role = finish; there = unfold ends_at in same_refl (indexed_point dx e) }

        alone : WordsApart dx (before.lines ++ ((indexed_point dx s ∷ indexed_point dx e ∷ []) ∷ [])) → (i : ℕ) → i < length before.lines → (p : Point) → Tip p (get_or before.lines i [])
            → (q : Point) → Tip q (indexed_point dx s ∷ indexed_point dx e ∷ []) → edge_word dx p ≡ edge_word dx q → ⊥
        alone words i hi p tip q new w =
            omega (
              arith,
              words i (length before.lines)
                  (omega (arith, length-append before.lines ((indexed_point dx s ∷ indexed_point dx e ∷ []) ∷ [])))
                  (omega (arith, length-append before.lines ((indexed_point dx s ∷ indexed_point dx e ∷ []) ∷ []))) p q
                  (subst (Tip p) (sym (get_or-append before.lines ((indexed_point dx s ∷ indexed_point dx e ∷ []) ∷ []) [] i hi)) tip)
                  (subst (Tip q) (sym (get_or-append_seam before.lines (indexed_point dx s ∷ indexed_point dx e ∷ []) [] [])) new) w,
            )

  module _ (C : Carrier dx) (t : C.State) (now : C.Carries (length σs) all before t) (room : C.Fits (length σs) before) (room' : C.Fits (suc (length σs)) after)
      (apart : WordsApart dx before.lines) (columns : Columns after.lines) where
    pub close-drawn : (f : ℕ) → f < length before.lines → ends_at (indexed_point dx s) (get_or before.lines f []) ≡ true → starts_at (indexed_point dx e) (get_or before.lines f []) ≡ true
        → C.Carries (suc (length σs)) all after (C.closed t s f)
    close-drawn f hf there there' =
        subst (λ (d : Drawing). C.Fits (suc (length σs)) d → Columns d.lines → C.Carries (suc (length σs)) all d (C.closed t s f)) (sym (close-rule f hf there there'))
        (C.close-carried (length σs) before t now room apart s e f hf there there') room' columns

    pub join-drawn : (f g : ℕ) → f < length before.lines → g < length before.lines → (f ≡ g → ⊥) → ends_at (indexed_point dx s) (get_or before.lines f []) ≡ true
        → starts_at (indexed_point dx e) (get_or before.lines g []) ≡ true → C.Carries (suc (length σs)) all after (C.joined t s f g)
    join-drawn f g hf hg ne there there' =
        subst (λ (d : Drawing). C.Fits (suc (length σs)) d → Columns d.lines → C.Carries (suc (length σs)) all d (C.joined t s f g)) (sym (join_rule f g hf hg ne there there'))
        (C.join-carried (length σs) before t now room apart s e f g hf hg ne there there') room' columns

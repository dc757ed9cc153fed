-- One stroke of a cell in the trial, by the kinds of its two sides: the words note the lines after it, and the counts are the drawing's. Only a stroke between two
-- near sides needs the notes for the counts. Assumes nothing.
use mathlib.Core.Path.{◌≡◌, refl, sym, ◌∙◌, ap₂, subst}
use mathlib.Core.Bool.{Bool, true}
use mathlib.Core.List.{List, [], ◌∷◌, ◌++◌}
use Prim.Native.Nat.{ℕ, ◌+◌, ◌^◌, ◌≤◌, ◌<◌}
use native.Mathlib.Omega.{arith}
use lib.ListN.{length}
use Rattle.scope.specs.Terrain.{Sheet}
use Rattle.scope.specs.declared.Side.{Side}
use Rattle.scope.specs.Cells.{◌⟶◌, Segment, point_of, placed, on_finished}
use Rattle.scope.specs.Stitching.{nothing, stitch_all}
use Rattle.laws.proofs.Counting.{Fresh}
use Rattle.laws.proofs.Edges.{Outside}
use Rattle.laws.proofs.Strokes.{Role, begin, finish}
use Rattle.laws.proofs.Marks.{on_side, drawable}
use Rattle.laws.proofs.Cellwise.{Sound, Ready, fresh}
use Rattle.laws.proofs.Tips.{edge_word}
use Rattle.laws.proofs.LineWords.{Spread}
use Rattle.machine.specs.Machine.{side_word}
use Rattle.machine.proofs.CellStep.{side-word}
use Rattle.machine.proofs.Shapes.{Near, at_left, at_top, Far, at_right, at-bottom, near, far, opposite}
use Rattle.trying.specs.Trying.{Tried, open_tried, end_tried, start_tried, meet_tried, stroke_tried}
use Rattle.trying.proofs.Counted.{Counts, grown-counts, begun-counts}
use Rattle.trying.proofs.Strokes.{Known, open-known, end_known, start-known, meet-known, meet-counts}

pub near-one : (d : Near) → on_finished (near d) ≡ 1
unfolding on_finished
near-one at_left = refl
near-one at_top = refl

pub far_none : (d : Far) → on_finished (far d) ≡ 0
unfolding on_finished
far_none at_right = refl
far_none at-bottom = refl

-- which step a stroke is
onward-is : (dx c : ℕ) (t : Tried) (s : Near) (e : Far) → stroke_tried dx c t (near s ⟶ far e) ≡ end_tried t (side_word dx c (near s)) (side_word dx c (far e))
unfolding stroke_tried
onward-is dx c t at_left at_right = refl
onward-is dx c t at_left at-bottom = refl
onward-is dx c t at_top at_right = refl
onward-is dx c t at_top at-bottom = refl

backward-is : (dx c : ℕ) (t : Tried) (s : Far) (e : Near) → stroke_tried dx c t (far s ⟶ near e) ≡ start_tried t (side_word dx c (far s)) (side_word dx c (near e))
unfolding stroke_tried
backward-is dx c t at_right at_left = refl
backward-is dx c t at_right at_top = refl
backward-is dx c t at-bottom at_left = refl
backward-is dx c t at-bottom at_top = refl

opening-is : (dx c : ℕ) (t : Tried) (s e : Far) → stroke_tried dx c t (far s ⟶ far e) ≡ open_tried t (side_word dx c (far s)) (side_word dx c (far e))
unfolding stroke_tried
opening-is dx c t at_right at_right = refl
opening-is dx c t at_right at-bottom = refl
opening-is dx c t at-bottom at_right = refl
opening-is dx c t at-bottom at-bottom = refl

meeting-is : (dx c : ℕ) (t : Tried) (s : Near) → stroke_tried dx c t (near s ⟶ near (opposite s)) ≡ meet_tried t (side_word dx c (near s)) (side_word dx c (near (opposite s)))
unfolding stroke_tried
meeting-is dx c t at_left = refl
meeting-is dx c t at_top = refl

-- the segment of a stroke
abbrev pub segment : ℕ → ℕ → Side → Side → Segment
segment c r s e = record { from = point_of c r s; to = point_of c r e }

module _ (A : Sheet) {dx dy : ℕ} (out : Outside A dx dy) (narrow : dx + 2 ≤ 2 ^ 17) (c r : ℕ) where
  pub side-is : (role : Role) (d : Side) → on_side role A c r d ≡ true → edge_word dx (point_of c r d) ≡ side_word dx c d
  side-is role d h = side-word dx c r d (drawable A out role c r d h)

  -- ---- one stroke over what is drawn so far
  module _ (σs : List Segment) (free : Role → Side → Bool) (sound : Sound σs) (ready : Ready A out c r σs free) (small : length σs < 2 ^ 30) (t : Tried) where
    pub fresh_at : (s e : Side) → free begin s ≡ true → free finish e ≡ true → Fresh σs (segment c r s e) (on_finished s) (on_finished e)
    fresh_at s e hs he =
        let f : Fresh σs (placed c r (s ⟶ e)) (on_finished s) (on_finished e) = fresh A out c r σs free ready s e hs he in
        unfold placed in f

    words_are : (step : ℕ → ℕ → Tried) (s e : Side) → free begin s ≡ true → free finish e ≡ true → step (side_word dx c s) (side_word dx c e) ≡ step (edge_word dx (point_of c r s)) (edge_word dx (point_of c r e))
    words_are step s e hs he = ap₂ step (sym (side-is begin s (ready.as-sampled begin s hs))) (sym (side-is finish e (ready.as-sampled finish e he)))

    module _ (s : Near) (e : Far) (hs : free begin (near s) ≡ true) (he : free finish (far e) ≡ true) where
      as-end : stroke_tried dx c t (near s ⟶ far e) ≡ end_tried t (edge_word dx (point_of c r (near s))) (edge_word dx (point_of c r (far e)))
      as-end = onward-is dx c t s e ∙ words_are (end_tried t) (near s) (far e) hs he

      pub onward-counts : {rings₀ points₀ : ℕ} → Counts rings₀ points₀ σs t.trial → Counts rings₀ points₀ (σs ++ (segment c r (near s) (far e) ∷ [])) (stroke_tried dx c t (near s ⟶ far e)).trial
      onward-counts {rings₀} {points₀} now =
          subst (λ (x : Tried). Counts rings₀ points₀ (σs ++ (segment c r (near s) (far e) ∷ [])) x.trial) (sym as-end)
          (grown-counts σs (segment c r (near s) (far e)) (on_finished (near s)) (on_finished (far e)) sound (fresh_at (near s) (far e) hs he) small t.trial now (omega (arith, near-one s, far_none e)))

      pub onward-known : Known dx σs t.words → Spread dx (stitch_all nothing σs).lines → Spread dx (stitch_all nothing (σs ++ (segment c r (near s) (far e) ∷ []))).lines
          → Known dx (σs ++ (segment c r (near s) (far e) ∷ [])) (stroke_tried dx c t (near s ⟶ far e)).words
      onward-known known spread spread' =
          subst (λ (x : Tried). Known dx (σs ++ (segment c r (near s) (far e) ∷ [])) x.words) (sym as-end)
          (end_known dx σs (segment c r (near s) (far e)) (on_finished (near s)) (on_finished (far e)) sound (fresh_at (near s) (far e) hs he) t narrow small known spread (near-one s) (far_none e) spread')

    module _ (s : Far) (e : Near) (hs : free begin (far s) ≡ true) (he : free finish (near e) ≡ true) where
      as-start : stroke_tried dx c t (far s ⟶ near e) ≡ start_tried t (edge_word dx (point_of c r (far s))) (edge_word dx (point_of c r (near e)))
      as-start = backward-is dx c t s e ∙ words_are (start_tried t) (far s) (near e) hs he

      pub backward-counts : {rings₀ points₀ : ℕ} → Counts rings₀ points₀ σs t.trial → Counts rings₀ points₀ (σs ++ (segment c r (far s) (near e) ∷ [])) (stroke_tried dx c t (far s ⟶ near e)).trial
      backward-counts {rings₀} {points₀} now =
          subst (λ (x : Tried). Counts rings₀ points₀ (σs ++ (segment c r (far s) (near e) ∷ [])) x.trial) (sym as-start)
          (grown-counts σs (segment c r (far s) (near e)) (on_finished (far s)) (on_finished (near e)) sound (fresh_at (far s) (near e) hs he) small t.trial now (omega (arith, near-one e, far_none s)))

      pub backward-known : Known dx σs t.words → Spread dx (stitch_all nothing σs).lines → Spread dx (stitch_all nothing (σs ++ (segment c r (far s) (near e) ∷ []))).lines
          → Known dx (σs ++ (segment c r (far s) (near e) ∷ [])) (stroke_tried dx c t (far s ⟶ near e)).words
      backward-known known spread spread' =
          subst (λ (x : Tried). Known dx (σs ++ (segment c r (far s) (near e) ∷ [])) x.words) (sym as-start)
          (start-known dx σs (segment c r (far s) (near e)) (on_finished (far s)) (on_finished (near e)) sound (fresh_at (far s) (near e) hs he) t narrow small known spread (far_none s) (near-one e) spread')

    module _ (s e : Far) (hs : free begin (far s) ≡ true) (he : free finish (far e) ≡ true) where
      as-open : stroke_tried dx c t (far s ⟶ far e) ≡ open_tried t (edge_word dx (point_of c r (far s))) (edge_word dx (point_of c r (far e)))
      as-open = opening-is dx c t s e ∙ words_are (open_tried t) (far s) (far e) hs he

      pub opening-counts : {rings₀ points₀ : ℕ} → Counts rings₀ points₀ σs t.trial → Counts rings₀ points₀ (σs ++ (segment c r (far s) (far e) ∷ [])) (stroke_tried dx c t (far s ⟶ far e)).trial
      opening-counts {rings₀} {points₀} now =
          subst (λ (x : Tried). Counts rings₀ points₀ (σs ++ (segment c r (far s) (far e) ∷ [])) x.trial) (sym as-open)
          (begun-counts σs (segment c r (far s) (far e)) (on_finished (far s)) (on_finished (far e)) sound (fresh_at (far s) (far e) hs he) small t.trial now (omega (arith, far_none e, far_none s)))

      pub opening-known : Known dx σs t.words → Spread dx (stitch_all nothing (σs ++ (segment c r (far s) (far e) ∷ []))).lines
          → Known dx (σs ++ (segment c r (far s) (far e) ∷ [])) (stroke_tried dx c t (far s ⟶ far e)).words
      opening-known known spread' =
          subst (λ (x : Tried). Known dx (σs ++ (segment c r (far s) (far e) ∷ [])) x.words) (sym as-open)
          (open-known dx σs (segment c r (far s) (far e)) (on_finished (far s)) (on_finished (far e)) sound (fresh_at (far s) (far e) hs he) t (far_none s) (far_none e) known spread')

    module _ (s : Near) (hs : free begin (near s) ≡ true) (he : free finish (near (opposite s)) ≡ true) (known : Known dx σs t.words) (spread : Spread dx (stitch_all nothing σs).lines) where
      as-meet : stroke_tried dx c t (near s ⟶ near (opposite s)) ≡ meet_tried t (edge_word dx (point_of c r (near s))) (edge_word dx (point_of c r (near (opposite s))))
      as-meet = meeting-is dx c t s ∙ words_are (meet_tried t) (near s) (near (opposite s)) hs he

      pub meeting-counts : {rings₀ points₀ : ℕ} → Counts rings₀ points₀ σs t.trial
          → Counts rings₀ points₀ (σs ++ (segment c r (near s) (near (opposite s)) ∷ [])) (stroke_tried dx c t (near s ⟶ near (opposite s))).trial
      meeting-counts {rings₀} {points₀} now =
          subst (λ (x : Tried). Counts rings₀ points₀ (σs ++ (segment c r (near s) (near (opposite s)) ∷ [])) x.trial) (sym as-meet)
          (meet-counts dx σs (segment c r (near s) (near (opposite s))) (on_finished (near s)) (on_finished (near (opposite s))) sound (fresh_at (near s) (near (opposite s)) hs he) t narrow small known spread
          (near-one s) (near-one (opposite s)) now)

      pub meeting-known : Known dx (σs ++ (segment c r (near s) (near (opposite s)) ∷ [])) (stroke_tried dx c t (near s ⟶ near (opposite s))).words
      meeting-known =
          subst (λ (x : Tried). Known dx (σs ++ (segment c r (near s) (near (opposite s)) ∷ [])) x.words) (sym as-meet)
          (meet-known dx σs (segment c r (near s) (near (opposite s))) (on_finished (near s)) (on_finished (near (opposite s))) sound (fresh_at (near s) (near (opposite s)) hs he) t narrow small known spread
          (near-one s) (near-one (opposite s)))

-- A cell of the trial, by the shape of its strokes: the words note the lines after it, and the counts are the drawing's. In the first row no line is met, so there the
-- counts stand whatever the words hold. Assumes nothing.
use mathlib.Core.Path.{◌≡◌, refl, sym, ◌∙◌, ap, subst}
use mathlib.Core.Bool.{Bool, true}
use mathlib.Core.List.{List, [], ◌∷◌, ◌++◌, map, append_assoc, append-nil}
use Prim.Native.Nat.{ℕ, ◌+◌, ◌^◌, ◌≤◌, ◌<◌}
use native.Mathlib.Omega.{arith}
use lib.ListN.{length, length-append}
use Rattle.scope.specs.Terrain.{Sheet}
use Rattle.scope.specs.declared.Side.{Side}
use Rattle.scope.specs.declared.Side.TheVariants.{Left, Right, Top, Bottom}
use Rattle.scope.specs.Cells.{Stroke, ◌⟶◌, Segment, point_of, placed, on_finished}
use Rattle.scope.specs.Stitching.{nothing, stitch_all}
use Rattle.laws.proofs.Counting.{Fresh}
use Rattle.laws.proofs.Edges.{Outside}
use Rattle.laws.proofs.Strokes.{Role, begin, finish, leaving, fitting, head-fits, rest-fits}
use Rattle.laws.proofs.Marks.{on_side, drawable}
use Rattle.laws.proofs.Cellwise.{Sound, sound-after, Ready, ready-after}
use Rattle.laws.proofs.Tips.{edge_word}
use Rattle.laws.proofs.LineWords.{Spread}
use Rattle.machine.specs.Machine.{side_word}
use Rattle.machine.proofs.Shapes.{Near, at_left, at_top, at_right, at-bottom, near, far, opposite, Shape, quiet, onward, backward, opening-down, opening-up, meeting-up, meeting-down, saddle-five, saddle-ten}
use Rattle.trying.specs.Trying.{Tried, grown, cross_tried, stroke_tried, strokes_tried}
use Rattle.trying.proofs.Counted.{Counts, grown-counts}
use Rattle.trying.proofs.Strokes.{Known}
use Rattle.trying.proofs.Crossing.{cross-known}
use Rattle.trying.proofs.Sides.{segment, side-is, fresh_at, onward-counts, onward-known, backward-counts, backward-known, opening-counts, opening-known, meeting-counts, meeting-known}

module _ (A : Sheet) {dx dy : ℕ} (out : Outside A dx dy) (narrow : dx + 2 ≤ 2 ^ 17) (c r : ℕ) (σs : List Segment) (sound : Sound σs) (ready : Ready A out c r σs (λ role. on_side role A c r)) (t : Tried) where
  abbrev free : Role → Side → Bool
  free role = on_side role A c r

  -- the drawing with strokes of the cell
  abbrev pub with-strokes : List Stroke → List Segment
  with-strokes strokes = σs ++ map (placed c r) strokes

  starts-on : (s e : Side) (rest : List Stroke) → fitting free (s ⟶ e ∷ rest) ≡ true → free begin s ≡ true
  starts-on s e rest fits = head-fits free (s ⟶ e) rest fits begin

  ends_on : (s e : Side) (rest : List Stroke) → fitting free (s ⟶ e ∷ rest) ≡ true → free finish e ≡ true
  ends_on s e rest fits = head-fits free (s ⟶ e) rest fits finish

  -- ---- two strokes
  module _ (s₁ e₁ s₂ e₂ : Side) (fits : fitting free (s₁ ⟶ e₁ ∷ s₂ ⟶ e₂ ∷ []) ≡ true) where
    abbrev free₁ : Role → Side → Bool
    free₁ = leaving free (s₁ ⟶ e₁)

    abbrev σs₁ : List Segment
    σs₁ = σs ++ (segment c r s₁ e₁ ∷ [])

    rest : fitting free₁ (s₂ ⟶ e₂ ∷ []) ≡ true
    rest = rest-fits free (s₁ ⟶ e₁) (s₂ ⟶ e₂ ∷ []) fits

    hs₁ : free begin s₁ ≡ true
    hs₁ = starts-on s₁ e₁ (s₂ ⟶ e₂ ∷ []) fits

    he₁ : free finish e₁ ≡ true
    he₁ = ends_on s₁ e₁ (s₂ ⟶ e₂ ∷ []) fits

    hs₂ : free₁ begin s₂ ≡ true
    hs₂ = head-fits free₁ (s₂ ⟶ e₂) [] rest begin

    he₂ : free₁ finish e₂ ≡ true
    he₂ = head-fits free₁ (s₂ ⟶ e₂) [] rest finish

    sound₁ : length σs < 2 ^ 30 → Sound σs₁
    sound₁ small = sound-after σs (segment c r s₁ e₁) (on_finished s₁) (on_finished e₁) sound (fresh_at A out narrow c r σs free sound ready small t s₁ e₁ hs₁ he₁)

    ready₁ : Ready A out c r σs₁ free₁
    unfolding placed
    ready₁ = ready-after A out c r σs free ready s₁ e₁ hs₁ he₁

    both-are : σs₁ ++ (segment c r s₂ e₂ ∷ []) ≡ with-strokes (s₁ ⟶ e₁ ∷ s₂ ⟶ e₂ ∷ [])
    unfolding placed
    both-are = append_assoc σs (segment c r s₁ e₁ ∷ []) (segment c r s₂ e₂ ∷ [])

    one-small : length (with-strokes (s₁ ⟶ e₁ ∷ s₂ ⟶ e₂ ∷ [])) < 2 ^ 30 → (length σs < 2 ^ 30) × (length σs₁ < 2 ^ 30)
    one-small small = (
      omega (arith, ap length both-are, length-append σs₁ (segment c r s₂ e₂ ∷ []), length-append σs (segment c r s₁ e₁ ∷ [])),
      omega (arith, ap length both-are, length-append σs₁ (segment c r s₂ e₂ ∷ [])),
    )

  one-is : (s e : Side) → σs ++ (segment c r s e ∷ []) ≡ with-strokes (s ⟶ e ∷ [])
  unfolding placed
  one-is s e = refl

  was-small : (s e : Side) → length (with-strokes (s ⟶ e ∷ [])) < 2 ^ 30 → length σs < 2 ^ 30
  was-small s e small = omega (arith, ap length (one-is s e), length-append σs (segment c r s e ∷ []))

  -- ---- the counts
  module _ {rings₀ points₀ : ℕ} (now : Counts rings₀ points₀ σs t.trial) (known : 0 < r → Known dx σs t.words) (spread : Spread dx (stitch_all nothing σs).lines) where
    abbrev After : List Stroke → Type 0
    After strokes = Counts rings₀ points₀ (with-strokes strokes) (strokes_tried dx c t strokes).trial

    one-counts : (s e : Side) → Counts rings₀ points₀ (σs ++ (segment c r s e ∷ [])) (stroke_tried dx c t (s ⟶ e)).trial → After (s ⟶ e ∷ [])
    unfolding strokes_tried
    one-counts s e k = subst (λ (τs : List Segment). Counts rings₀ points₀ τs (stroke_tried dx c t (s ⟶ e)).trial) (one-is s e) k

    meet-cell : (s : Near) → fitting free (near s ⟶ near (opposite s) ∷ []) ≡ true → 0 < r → length (with-strokes (near s ⟶ near (opposite s) ∷ [])) < 2 ^ 30 → After (near s ⟶ near (opposite s) ∷ [])
    meet-cell s fits row small =
        one-counts (near s) (near (opposite s))
        (meeting-counts A out narrow c r σs free sound ready (was-small (near s) (near (opposite s)) small) t s (starts-on (near s) (near (opposite s)) [] fits) (ends_on (near s) (near (opposite s)) [] fits) (known row) spread now)

    five-counts : fitting free (Bottom ⟶ Left ∷ Top ⟶ Right ∷ []) ≡ true → length (with-strokes (Bottom ⟶ Left ∷ Top ⟶ Right ∷ [])) < 2 ^ 30 → After (Bottom ⟶ Left ∷ Top ⟶ Right ∷ [])
    unfolding strokes_tried
    five-counts fits small =
        let few = one-small Bottom Left Top Right fits small in
        subst (λ (τs : List Segment). Counts rings₀ points₀ τs (grown (grown t.trial))) (both-are Bottom Left Top Right fits)
        (grown-counts (σs₁ Bottom Left Top Right fits) (segment c r Top Right) (on_finished Top) (on_finished Right) (sound₁ Bottom Left Top Right fits few.0)
        (fresh_at A out narrow c r (σs₁ Bottom Left Top Right fits) (free₁ Bottom Left Top Right fits) (sound₁ Bottom Left Top Right fits few.0) (ready₁ Bottom Left Top Right fits) few.1 t Top Right (hs₂ Bottom Left Top Right fits) (he₂ Bottom Left Top Right fits))
        few.1 (grown t.trial)
        (grown-counts σs (segment c r Bottom Left) (on_finished Bottom) (on_finished Left) sound
        (fresh_at A out narrow c r σs free sound ready few.0 t Bottom Left (hs₁ Bottom Left Top Right fits) (he₁ Bottom Left Top Right fits)) few.0 t.trial now (unfold on_finished in refl))
        (unfold on_finished in refl))

    ten-counts : fitting free (Left ⟶ Top ∷ Right ⟶ Bottom ∷ []) ≡ true → 0 < r → length (with-strokes (Left ⟶ Top ∷ Right ⟶ Bottom ∷ [])) < 2 ^ 30 → After (Left ⟶ Top ∷ Right ⟶ Bottom ∷ [])
    unfolding strokes_tried
    ten-counts fits row small =
        let few = one-small Left Top Right Bottom fits small in
        subst (λ (τs : List Segment). Counts rings₀ points₀ τs (stroke_tried dx c (stroke_tried dx c t (Left ⟶ Top)) (Right ⟶ Bottom)).trial) (both-are Left Top Right Bottom fits)
        (opening-counts A out narrow c r (σs₁ Left Top Right Bottom fits) (free₁ Left Top Right Bottom fits) (sound₁ Left Top Right Bottom fits few.0) (ready₁ Left Top Right Bottom fits) few.1 (stroke_tried dx c t (Left ⟶ Top))
        at_right at-bottom (hs₂ Left Top Right Bottom fits) (he₂ Left Top Right Bottom fits)
        (meeting-counts A out narrow c r σs free sound ready few.0 t at_left (hs₁ Left Top Right Bottom fits) (he₁ Left Top Right Bottom fits) (known row) spread now))

    pub cell-counts : (strokes : List Stroke) → Shape strokes → fitting free strokes ≡ true → length (with-strokes strokes) < 2 ^ 30 → After strokes
    cell-counts _ quiet fits small = unfold strokes_tried in subst (λ (τs : List Segment). Counts rings₀ points₀ τs t.trial) (sym (append-nil σs)) now
    cell-counts _ (onward s e) fits small =
        one-counts (near s) (far e)
        (onward-counts A out narrow c r σs free sound ready (was-small (near s) (far e) small) t s e (starts-on (near s) (far e) [] fits) (ends_on (near s) (far e) [] fits) now)
    cell-counts _ (backward s e) fits small =
        one-counts (far s) (near e)
        (backward-counts A out narrow c r σs free sound ready (was-small (far s) (near e) small) t s e (starts-on (far s) (near e) [] fits) (ends_on (far s) (near e) [] fits) now)
    cell-counts _ opening-down fits small =
        one-counts Right Bottom
        (opening-counts A out narrow c r σs free sound ready (was-small Right Bottom small) t at_right at-bottom (starts-on Right Bottom [] fits) (ends_on Right Bottom [] fits) now)
    cell-counts _ opening-up fits small =
        one-counts Bottom Right
        (opening-counts A out narrow c r σs free sound ready (was-small Bottom Right small) t at-bottom at_right (starts-on Bottom Right [] fits) (ends_on Bottom Right [] fits) now)
    cell-counts _ meeting-up fits small = meet-cell at_left fits (drawable A out finish c r Top (ends_on Left Top [] fits)) small
    cell-counts _ meeting-down fits small = meet-cell at_top fits (drawable A out begin c r Top (starts-on Top Left [] fits)) small
    cell-counts _ saddle-five fits small = five-counts fits small
    cell-counts _ saddle-ten fits small = ten-counts fits (drawable A out finish c r Top (ends_on Left Top (Right ⟶ Bottom ∷ []) fits)) small

  -- ---- the notes
  module _ (known : Known dx σs t.words) (spread : Spread dx (stitch_all nothing σs).lines) where
    abbrev Then : List Stroke → Type 0
    Then strokes = Known dx (with-strokes strokes) (strokes_tried dx c t strokes).words

    one_known : (s e : Side) → Known dx (σs ++ (segment c r s e ∷ [])) (stroke_tried dx c t (s ⟶ e)).words → Then (s ⟶ e ∷ [])
    unfolding strokes_tried
    one_known s e k = subst (λ (τs : List Segment). Known dx τs (stroke_tried dx c t (s ⟶ e)).words) (one-is s e) k

    spread-one : (s e : Side) → Spread dx (stitch_all nothing (with-strokes (s ⟶ e ∷ []))).lines → Spread dx (stitch_all nothing (σs ++ (segment c r s e ∷ []))).lines
    spread-one s e k = subst (λ (τs : List Segment). Spread dx (stitch_all nothing τs).lines) (sym (one-is s e)) k

    meet-noted : (s : Near) → fitting free (near s ⟶ near (opposite s) ∷ []) ≡ true → length (with-strokes (near s ⟶ near (opposite s) ∷ [])) < 2 ^ 30 → Then (near s ⟶ near (opposite s) ∷ [])
    meet-noted s fits small =
        one_known (near s) (near (opposite s))
        (meeting-known A out narrow c r σs free sound ready (was-small (near s) (near (opposite s)) small) t s (starts-on (near s) (near (opposite s)) [] fits) (ends_on (near s) (near (opposite s)) [] fits) known spread)

    side-at : (role : Role) (d : Side) → free role d ≡ true → edge_word dx (point_of c r d) ≡ side_word dx c d
    side-at = side-is A out narrow c r

    five-known : fitting free (Bottom ⟶ Left ∷ Top ⟶ Right ∷ []) ≡ true → length (with-strokes (Bottom ⟶ Left ∷ Top ⟶ Right ∷ [])) < 2 ^ 30
        → Spread dx (stitch_all nothing (with-strokes (Bottom ⟶ Left ∷ Top ⟶ Right ∷ []))).lines → Then (Bottom ⟶ Left ∷ Top ⟶ Right ∷ [])
    unfolding strokes_tried
    five-known fits small spread' =
        subst (λ (τs : List Segment). Known dx τs (cross_tried t (dx + 1) c).words) (both-are Bottom Left Top Right fits)
        (cross-known dx t σs (segment c r Bottom Left) (segment c r Top Right) sound fresh-one (sound₁ Bottom Left Top Right fits few.0) fresh-two (dx + 1) c
        (side-at begin Bottom (hs₁ Bottom Left Top Right fits) ∙ unfold side_word in refl)
        (side-at begin Top ((ready₁ Bottom Left Top Right fits).as-sampled begin Top (hs₂ Bottom Left Top Right fits)) ∙ unfold side_word in refl)
        (side-at finish Left (he₁ Bottom Left Top Right fits) ∙ unfold side_word in refl)
        (side-at finish Right ((ready₁ Bottom Left Top Right fits).as-sampled finish Right (he₂ Bottom Left Top Right fits)) ∙ unfold side_word in refl)
        narrow few.0 known spread (subst (λ (τs : List Segment). Spread dx (stitch_all nothing τs).lines) (sym (both-are Bottom Left Top Right fits)) spread'))
      where
        few : (length σs < 2 ^ 30) × (length (σs₁ Bottom Left Top Right fits) < 2 ^ 30)
        few = one-small Bottom Left Top Right fits small

        fresh-one : Fresh σs (segment c r Bottom Left) 0 1
        fresh-one =
            let k : Fresh σs (segment c r Bottom Left) (on_finished Bottom) (on_finished Left) = fresh_at A out narrow c r σs free sound ready few.0 t Bottom Left (hs₁ Bottom Left Top Right fits) (he₁ Bottom Left Top Right fits) in
            unfold on_finished in k

        fresh-two : Fresh (σs₁ Bottom Left Top Right fits) (segment c r Top Right) 1 0
        fresh-two =
            let k : Fresh (σs₁ Bottom Left Top Right fits) (segment c r Top Right) (on_finished Top) (on_finished Right) = fresh_at A out narrow c r (σs₁ Bottom Left Top Right fits) (free₁ Bottom Left Top Right fits) (sound₁ Bottom Left Top Right fits few.0) (ready₁ Bottom Left Top Right fits) few.1 t Top Right (hs₂ Bottom Left Top Right fits) (he₂ Bottom Left Top Right fits) in
            unfold on_finished in k

    ten-known : fitting free (Left ⟶ Top ∷ Right ⟶ Bottom ∷ []) ≡ true → length (with-strokes (Left ⟶ Top ∷ Right ⟶ Bottom ∷ [])) < 2 ^ 30
        → Spread dx (stitch_all nothing (with-strokes (Left ⟶ Top ∷ Right ⟶ Bottom ∷ []))).lines → Then (Left ⟶ Top ∷ Right ⟶ Bottom ∷ [])
    unfolding strokes_tried
    ten-known fits small spread' =
        let few = one-small Left Top Right Bottom fits small in
        subst (λ (τs : List Segment). Known dx τs (stroke_tried dx c (stroke_tried dx c t (Left ⟶ Top)) (Right ⟶ Bottom)).words) (both-are Left Top Right Bottom fits)
        (opening-known A out narrow c r (σs₁ Left Top Right Bottom fits) (free₁ Left Top Right Bottom fits) (sound₁ Left Top Right Bottom fits few.0) (ready₁ Left Top Right Bottom fits) few.1 (stroke_tried dx c t (Left ⟶ Top))
        at_right at-bottom (hs₂ Left Top Right Bottom fits) (he₂ Left Top Right Bottom fits)
        (meeting-known A out narrow c r σs free sound ready few.0 t at_left (hs₁ Left Top Right Bottom fits) (he₁ Left Top Right Bottom fits) known spread)
        (subst (λ (τs : List Segment). Spread dx (stitch_all nothing τs).lines) (sym (both-are Left Top Right Bottom fits)) spread'))

    pub cell-known : (strokes : List Stroke) → Shape strokes → fitting free strokes ≡ true → length (with-strokes strokes) < 2 ^ 30 → Spread dx (stitch_all nothing (with-strokes strokes)).lines → Then strokes
    cell-known _ quiet fits small spread' = unfold strokes_tried in subst (λ (τs : List Segment). Known dx τs t.words) (sym (append-nil σs)) known
    cell-known _ (onward s e) fits small spread' =
        one_known (near s) (far e)
        (onward-known A out narrow c r σs free sound ready (was-small (near s) (far e) small) t s e (starts-on (near s) (far e) [] fits) (ends_on (near s) (far e) [] fits) known spread (spread-one (near s) (far e) spread'))
    cell-known _ (backward s e) fits small spread' =
        one_known (far s) (near e)
        (backward-known A out narrow c r σs free sound ready (was-small (far s) (near e) small) t s e (starts-on (far s) (near e) [] fits) (ends_on (far s) (near e) [] fits) known spread (spread-one (far s) (near e) spread'))
    cell-known _ opening-down fits small spread' =
        one_known Right Bottom
        (opening-known A out narrow c r σs free sound ready (was-small Right Bottom small) t at_right at-bottom (starts-on Right Bottom [] fits) (ends_on Right Bottom [] fits) known (spread-one Right Bottom spread'))
    cell-known _ opening-up fits small spread' =
        one_known Bottom Right
        (opening-known A out narrow c r σs free sound ready (was-small Bottom Right small) t at-bottom at_right (starts-on Bottom Right [] fits) (ends_on Bottom Right [] fits) known (spread-one Bottom Right spread'))
    cell-known _ meeting-up fits small spread' = meet-noted at_left fits small
    cell-known _ meeting-down fits small spread' = meet-noted at_top fits small
    cell-known _ saddle-five fits small spread' = five-known fits small spread'
    cell-known _ saddle-ten fits small spread' = ten-known fits small spread'

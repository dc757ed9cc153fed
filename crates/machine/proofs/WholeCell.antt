-- A whole cell, over any machine that draws by the five rules, by the shape of its strokes. Assumes nothing.
use mathlib.Core.Path.{◌≡◌, refl, sym, ◌∙◌, ap, ap₂, subst}
use mathlib.Core.Bool.{Bool, true, not}
use mathlib.Core.List.{List, [], ◌∷◌, ◌++◌, map, append_assoc, append-nil}
use Prim.Native.Nat.{ℕ, suc, ◌+◌, ◌≤◌, ◌<◌}
use native.Mathlib.Decide.{ℕ_discrete}
use native.Mathlib.Omega.{arith}
use lib.ListN.{length, get_or, set, length-append, length-set}
use lib.Seq.{get_or-set_same, get_or-set_other}
use Rattle.scope.specs.Terrain.{Sheet}
use Rattle.scope.specs.declared.Side.{Side}
use Rattle.scope.specs.declared.Side.TheVariants.{Left, Right, Top, Bottom}
use Rattle.scope.specs.Cells.{same_side, Point, Stroke, ◌⟶◌, Segment, when, same_point, point_of, placed, on_finished, indexed_point}
use Rattle.scope.specs.Stitching as rules
use Rattle.scope.specs.Stitching.{Line, Drawing, ends_at, nothing, stitch_all}
use Rattle.scope.specs.Drawing.{segments_after}
use Rattle.laws.proofs.Total.{total}
use Rattle.laws.proofs.Ends.{and_left, same-eq, same_refl, end_is, end-of-prepended, start-of-joined}
use Rattle.laws.proofs.Counting.{same, Fresh}
use Rattle.laws.proofs.Edges.{Outside}
use Rattle.laws.proofs.Strokes.{Role, begin, finish, side_by, leaving, fitting, head-fits, rest-fits}
use Rattle.laws.proofs.Marks.{point_by, marked, on_side}
use Rattle.laws.proofs.Cellwise.{Sound, sound-after, marked_append, Ready, fresh, ready-after}
use Rattle.laws.proofs.Tips.{Tip, tip_by, edge_word, WordsApart, spent-is-no-tip}
use Rattle.machine.specs.Machine.{Entry, entry_of, side_word}
use Rattle.machine.proofs.Leaving.{all}
use Rattle.machine.proofs.Carrier.{Carrier, stroke_drawn, strokes_drawn}
use Rattle.machine.proofs.Segments.{segment, append-rule, prepend-rule, start-rule, appended-tip, prepended-tip, append-drawn, start-drawn}
use Rattle.machine.proofs.Shapes.{Near, at_left, at_top, Far, at_right, at-bottom, near, far, Shape, quiet, onward, backward, opening-down, opening-up, meeting-up, meeting-down, saddle-five, saddle-ten, slot_of, opposite, draw-onward}
use Rattle.machine.proofs.CellStep.{index, back, placed-is, sound, ready₀, near-finished, far-finished, slot-inside, tip-at, words, fresh_at, sound-with, onward-first, backward-first, meeting-first}

module _ (A : Sheet) {dx dy : ℕ} (out : Outside A dx dy) (r c : ℕ) (hc : c ≤ dx) (C : Carrier dx) (t : C.State)
    (now : C.Carries (length (segments_after A dx r c)) all (stitch_all nothing (segments_after A dx r c)) t) where
  abbrev before : List Segment
  before = segments_after A dx r c

  abbrev at : Side → ℕ
  at d = index A out r c hc d

  abbrev slots : Entry
  slots = entry_of dx (C.frontier t) c

  abbrev free : Role → Side → Bool
  free role = on_side role A c r

  abbrev one-stroke : Side → Side → List Segment
  one-stroke s e = before ++ (segment dx (at s) (at e) ∷ [])

  long-one : (s e : Side) → length (one-stroke s e) ≡ suc (length before)
  long-one s e = omega (arith, length-append before (segment dx (at s) (at e) ∷ []))

  -- the tables carry the drawing of these strokes
  abbrev Goal : List Stroke → Type 0
  Goal strokes = C.Carries (length (before ++ map (placed c r) strokes)) all (stitch_all nothing (before ++ map (placed c r) strokes)) (strokes_drawn C c slots r t strokes)

  same-one : (s e : Side) → before ++ (placed c r (s ⟶ e) ∷ []) ≡ one-stroke s e
  same-one s e = ap (λ (σ : Segment). before ++ (σ ∷ [])) (placed-is A out r c hc s e)

  carried-one : (s e : Side) → C.Carries (suc (length before)) all (stitch_all nothing (one-stroke s e)) (stroke_drawn C c slots t (s ⟶ e) (at s) (at e)) → Goal (s ⟶ e ∷ [])
  unfolding strokes_drawn
  carried-one s e k =
      subst (λ (σs : List Segment). C.Carries (length σs) all (stitch_all nothing σs) (stroke_drawn C c slots t (s ⟶ e) (at s) (at e))) (sym (same-one s e))
      (subst (λ (n : ℕ). C.Carries n all (stitch_all nothing (one-stroke s e)) (stroke_drawn C c slots t (s ⟶ e) (at s) (at e))) (sym (long-one s e)) k)

  fit-one : (s e : Side) → C.Fits (length (before ++ (placed c r (s ⟶ e) ∷ []))) (stitch_all nothing (before ++ (placed c r (s ⟶ e) ∷ []))) → C.Fits (suc (length before)) (stitch_all nothing (one-stroke s e))
  fit-one s e k =
      subst (λ (n : ℕ). C.Fits n (stitch_all nothing (one-stroke s e))) (long-one s e)
      (subst (λ (σs : List Segment). C.Fits (length σs) (stitch_all nothing σs)) (same-one s e) k)

  apart-one : (s e : Side) → WordsApart dx (stitch_all nothing (before ++ (placed c r (s ⟶ e) ∷ []))).lines → WordsApart dx (stitch_all nothing (one-stroke s e)).lines
  apart-one s e k = subst (λ (σs : List Segment). WordsApart dx (stitch_all nothing σs).lines) (same-one s e) k

  module _ (apart₀ : WordsApart dx (stitch_all nothing before).lines) (room₀ : C.Fits (length before) (stitch_all nothing before)) where
    sampled : (s e : Side) (rest : List Stroke) → fitting free (s ⟶ e ∷ rest) ≡ true → (free begin s ≡ true) × (free finish e ≡ true)
    sampled s e rest fits = (head-fits free (s ⟶ e) rest fits begin, head-fits free (s ⟶ e) rest fits finish)

    fresh-one : (s e : Side) → free begin s ≡ true → free finish e ≡ true → Fresh before (segment dx (at s) (at e)) (on_finished s) (on_finished e)
    fresh-one s e hs he = fresh_at A out r c hc s e hs he

    onward-cell : (s : Near) (e : Far) → fitting free (near s ⟶ far e ∷ []) ≡ true → WordsApart dx (stitch_all nothing (one-stroke (near s) (far e))).lines
        → C.Fits (suc (length before)) (stitch_all nothing (one-stroke (near s) (far e))) → Goal (near s ⟶ far e ∷ [])
    onward-cell s e fits final room =
        carried-one (near s) (far e)
        (onward-first A out r c hc C t now all s e hs he room (λ i hi p tip live w. final i (slot_of slots s) hi new.0 p (indexed_point dx (at (far e))) tip new.1 w))
      where
        hs : free begin (near s) ≡ true
        hs = (sampled (near s) (far e) [] fits).0

        he : free finish (far e) ≡ true
        he = (sampled (near s) (far e) [] fits).1

        new : (slot_of slots s < length (stitch_all nothing (one-stroke (near s) (far e))).lines) × Tip (indexed_point dx (at (far e))) (get_or (stitch_all nothing (one-stroke (near s) (far e))).lines (slot_of slots s) [])
        new =
            appended-tip dx before (at (near s)) (at (far e)) (on_finished (near s)) (on_finished (far e)) (sound A out r c hc) (fresh-one (near s) (far e) hs he)
            (far-finished A out r c hc e) (slot_of slots s) (slot-inside A out r c hc C t now begin s hs) (tip-at A out r c hc C t now begin s hs)

    backward-tip : (s : Far) (e : Near) → free begin (far s) ≡ true → free finish (near e) ≡ true
        → (slot_of slots e < length (stitch_all nothing (one-stroke (far s) (near e))).lines) × Tip (indexed_point dx (at (far s))) (get_or (stitch_all nothing (one-stroke (far s) (near e))).lines (slot_of slots e) [])
    backward-tip s e hs he =
        prepended-tip dx before (at (far s)) (at (near e)) (on_finished (far s)) (on_finished (near e)) (sound A out r c hc) (fresh-one (far s) (near e) hs he)
        (far-finished A out r c hc s) (slot_of slots e) (slot-inside A out r c hc C t now finish e he) (tip-at A out r c hc C t now finish e he)

    backward-cell : (s : Far) (e : Near) → fitting free (far s ⟶ near e ∷ []) ≡ true → WordsApart dx (stitch_all nothing (one-stroke (far s) (near e))).lines
        → C.Fits (suc (length before)) (stitch_all nothing (one-stroke (far s) (near e))) → Goal (far s ⟶ near e ∷ [])
    backward-cell s e fits final room =
        carried-one (far s) (near e)
        (backward-first A out r c hc C t now all s e hs he room (λ i hi p tip live w. final i (slot_of slots e) hi (backward-tip s e hs he).0 p (indexed_point dx (at (far s))) tip (backward-tip s e hs he).1 w))
      where
        hs : free begin (far s) ≡ true
        hs = (sampled (far s) (near e) [] fits).0

        he : free finish (near e) ≡ true
        he = (sampled (far s) (near e) [] fits).1

    opening-cell : (s e : Far) → fitting free (far s ⟶ far e ∷ []) ≡ true → WordsApart dx (stitch_all nothing (one-stroke (far s) (far e))).lines → C.Fits (suc (length before)) (stitch_all nothing (one-stroke (far s) (far e)))
        → C.Carries (suc (length before)) all (stitch_all nothing (one-stroke (far s) (far e))) (C.started t (at (far s)) (at (far e)) (side_word dx c (far s)) (side_word dx c (far e)))
    opening-cell s e fits final room =
        rw (← words A out r c hc begin (far s) hs, ← words A out r c hc finish (far e) he)
        (start-drawn dx before (at (far s)) (at (far e)) (on_finished (far s)) (on_finished (far e)) (sound A out r c hc) (fresh-one (far s) (far e) hs he) C all all t now room
        (far-finished A out r c hc s) (far-finished A out r c hc e) final (λ i hi p tip live. tt))
      where
        hs : free begin (far s) ≡ true
        hs = (sampled (far s) (far e) [] fits).0

        he : free finish (far e) ≡ true
        he = (sampled (far s) (far e) [] fits).1

    meeting-cell : (s : Near) → free begin (near s) ≡ true → free finish (near (opposite s)) ≡ true → C.Fits (suc (length before)) (stitch_all nothing (one-stroke (near s) (near (opposite s))))
        → C.Carries (suc (length before)) all (stitch_all nothing (one-stroke (near s) (near (opposite s)))) (stroke_drawn C c slots t (near s ⟶ near (opposite s)) (at (near s)) (at (near (opposite s))))
    unfolding stroke_drawn
    meeting-cell at_left hs he room = meeting-first A out r c hc C t now at_left hs he apart₀ room₀ room
    meeting-cell at_top hs he room = meeting-first A out r c hc C t now at_top hs he apart₀ room₀ room

    -- ---- two strokes
    module _ (s₁ e₁ s₂ e₂ : Side) (fits : fitting free (s₁ ⟶ e₁ ∷ s₂ ⟶ e₂ ∷ []) ≡ true) where
      hs₁ : free begin s₁ ≡ true
      hs₁ = head-fits free (s₁ ⟶ e₁) (s₂ ⟶ e₂ ∷ []) fits begin

      he₁ : free finish e₁ ≡ true
      he₁ = head-fits free (s₁ ⟶ e₁) (s₂ ⟶ e₂ ∷ []) fits finish

      rest : fitting (leaving free (s₁ ⟶ e₁)) (s₂ ⟶ e₂ ∷ []) ≡ true
      rest = rest-fits free (s₁ ⟶ e₁) (s₂ ⟶ e₂ ∷ []) fits

      hs₂ : free begin s₂ ≡ true
      hs₂ = still-free begin s₂ (head-fits (leaving free (s₁ ⟶ e₁)) (s₂ ⟶ e₂) [] rest begin)
        where
          still-free : (role : Role) (d : Side) → leaving free (s₁ ⟶ e₁) role d ≡ true → free role d ≡ true
          still-free role d k = and_left (free role d) (not (same_side d (side_by role (s₁ ⟶ e₁)))) k

      he₂ : free finish e₂ ≡ true
      he₂ = and_left (free finish e₂) (not (same_side e₂ e₁)) (head-fits (leaving free (s₁ ⟶ e₁)) (s₂ ⟶ e₂) [] rest finish)

      abbrev two-strokes : List Segment
      two-strokes = one-stroke s₁ e₁ ++ (segment dx (at s₂) (at e₂) ∷ [])

      sound₁ : Sound (one-stroke s₁ e₁)
      sound₁ = sound-with A out r c hc s₁ e₁ hs₁ he₁

      ready₁ : Ready A out c r (one-stroke s₁ e₁) (leaving free (s₁ ⟶ e₁))
      ready₁ = subst (λ (σs : List Segment). Ready A out c r σs (leaving free (s₁ ⟶ e₁))) (same-one s₁ e₁) (ready-after A out c r before free (ready₀ A out r c hc) s₁ e₁ hs₁ he₁)

      fresh₂ : Fresh (one-stroke s₁ e₁) (segment dx (at s₂) (at e₂)) (on_finished s₂) (on_finished e₂)
      fresh₂ =
          subst (λ (σ : Segment). Fresh (one-stroke s₁ e₁) σ (on_finished s₂) (on_finished e₂)) (placed-is A out r c hc s₂ e₂)
          (fresh A out c r (one-stroke s₁ e₁) (leaving free (s₁ ⟶ e₁)) ready₁ s₂ e₂ (head-fits (leaving free (s₁ ⟶ e₁)) (s₂ ⟶ e₂) [] rest begin) (head-fits (leaving free (s₁ ⟶ e₁)) (s₂ ⟶ e₂) [] rest finish))

      sound₂ : Sound two-strokes
      sound₂ = sound-after (one-stroke s₁ e₁) (segment dx (at s₂) (at e₂)) (on_finished s₂) (on_finished e₂) sound₁ fresh₂

      same-two : before ++ map (placed c r) (s₁ ⟶ e₁ ∷ s₂ ⟶ e₂ ∷ []) ≡ two-strokes
      same-two =
          sym (append_assoc before (placed c r (s₁ ⟶ e₁) ∷ []) (placed c r (s₂ ⟶ e₂) ∷ []))
          ∙ ap₂ (λ (σs : List Segment) (σ : Segment). σs ++ (σ ∷ [])) (same-one s₁ e₁) (placed-is A out r c hc s₂ e₂)

      long-two : length two-strokes ≡ suc (length (one-stroke s₁ e₁))
      long-two = omega (arith, length-append (one-stroke s₁ e₁) (segment dx (at s₂) (at e₂) ∷ []))

      fit-two : C.Fits (length (before ++ map (placed c r) (s₁ ⟶ e₁ ∷ s₂ ⟶ e₂ ∷ []))) (stitch_all nothing (before ++ map (placed c r) (s₁ ⟶ e₁ ∷ s₂ ⟶ e₂ ∷ [])))
          → C.Fits (suc (length (one-stroke s₁ e₁))) (stitch_all nothing two-strokes)
      fit-two k =
          subst (λ (n : ℕ). C.Fits n (stitch_all nothing two-strokes)) long-two
          (subst (λ (σs : List Segment). C.Fits (length σs) (stitch_all nothing σs)) same-two k)

      abbrev t₁ : C.State
      t₁ = stroke_drawn C c slots t (s₁ ⟶ e₁) (at s₁) (at e₁)

      carried-two : C.Carries (suc (length (one-stroke s₁ e₁))) all (stitch_all nothing two-strokes) (stroke_drawn C c slots t₁ (s₂ ⟶ e₂) (at s₂) (at e₂)) → Goal (s₁ ⟶ e₁ ∷ s₂ ⟶ e₂ ∷ [])
      unfolding strokes_drawn
      carried-two k =
          subst (λ (σs : List Segment). C.Carries (length σs) all (stitch_all nothing σs) (stroke_drawn C c slots t₁ (s₂ ⟶ e₂) (at s₂) (at e₂))) (sym same-two)
          (subst (λ (n : ℕ). C.Carries n all (stitch_all nothing two-strokes) (stroke_drawn C c slots t₁ (s₂ ⟶ e₂) (at s₂) (at e₂))) (sym long-two) k)

      -- the tables after the first stroke, by the number of segments
      after_first : (live : Point → Type 0) → C.Carries (suc (length before)) live (stitch_all nothing (one-stroke s₁ e₁)) t₁ → C.Carries (length (one-stroke s₁ e₁)) live (stitch_all nothing (one-stroke s₁ e₁)) t₁
      after_first live k = subst (λ (n : ℕ). C.Carries n live (stitch_all nothing (one-stroke s₁ e₁)) t₁) (sym (long-one s₁ e₁)) k

    -- ---- saddle 10: a line closes or two join at Left and Top, then one opens at Right and Bottom
    ten-cell : (fits : fitting free (Left ⟶ Top ∷ Right ⟶ Bottom ∷ []) ≡ true)
        → WordsApart dx (stitch_all nothing (before ++ map (placed c r) (Left ⟶ Top ∷ Right ⟶ Bottom ∷ []))).lines
        → C.Fits (suc (length (one-stroke Left Top))) (stitch_all nothing (two-strokes Left Top Right Bottom fits)) → Goal (Left ⟶ Top ∷ Right ⟶ Bottom ∷ [])
    ten-cell fits final room =
        carried-two Left Top Right Bottom fits
        (unfold stroke_drawn in
        subst (λ (w : ℕ). C.Carries (suc (length (one-stroke Left Top))) all (stitch_all nothing (two-strokes Left Top Right Bottom fits)) (C.started (t₁ Left Top Right Bottom fits) (at Right) (at Bottom) w c))
        (words A out r c hc begin Right (hs₂ Left Top Right Bottom fits) ∙ unfold side_word in refl)
        (subst (λ (w : ℕ). C.Carries (suc (length (one-stroke Left Top))) all (stitch_all nothing (two-strokes Left Top Right Bottom fits)) (C.started (t₁ Left Top Right Bottom fits) (at Right) (at Bottom) (edge_word dx (indexed_point dx (at Right))) w))
        (words A out r c hc finish Bottom (he₂ Left Top Right Bottom fits) ∙ unfold side_word in refl)
        (start-drawn dx (one-stroke Left Top) (at Right) (at Bottom) (on_finished Right) (on_finished Bottom) (sound₁ Left Top Right Bottom fits) (fresh₂ Left Top Right Bottom fits) C all all
        (t₁ Left Top Right Bottom fits) (after_first Left Top Right Bottom fits all (meeting-cell at_left (hs₁ Left Top Right Bottom fits) (he₁ Left Top Right Bottom fits) room₁)) room
        (far-finished A out r c hc at_right) (far-finished A out r c hc at-bottom)
        (subst (λ (σs : List Segment). WordsApart dx (stitch_all nothing σs).lines) (same-two Left Top Right Bottom fits) final) (λ i hi p tip live. tt))))
      where
        opens : stitch_all nothing (two-strokes Left Top Right Bottom fits) ≡ rules.start (stitch_all nothing (one-stroke Left Top)) (indexed_point dx (at Right)) (indexed_point dx (at Bottom))
        opens =
            start-rule dx (one-stroke Left Top) (at Right) (at Bottom) (on_finished Right) (on_finished Bottom) (sound₁ Left Top Right Bottom fits) (fresh₂ Left Top Right Bottom fits)
            (far-finished A out r c hc at_right) (far-finished A out r c hc at-bottom)

        room₁ : C.Fits (suc (length before)) (stitch_all nothing (one-stroke Left Top))
        room₁ =
            subst (λ (n : ℕ). C.Fits n (stitch_all nothing (one-stroke Left Top))) (long-one Left Top)
            (C.fits-start (length (one-stroke Left Top)) (stitch_all nothing (one-stroke Left Top)) (indexed_point dx (at Right)) (indexed_point dx (at Bottom)) (subst (C.Fits (suc (length (one-stroke Left Top)))) opens room))

    -- ---- saddle 5: the line at Left grows back to Bottom, whose word Top still has; then the line at Top, by the slot read before, grows to Right
    module _ (fits : fitting free (Bottom ⟶ Left ∷ Top ⟶ Right ∷ []) ≡ true) (room : C.Fits (suc (length (one-stroke Bottom Left))) (stitch_all nothing (two-strokes Bottom Left Top Right fits)))
        (final : WordsApart dx (stitch_all nothing (before ++ map (placed c r) (Bottom ⟶ Left ∷ Top ⟶ Right ∷ []))).lines) where
      abbrev T : Point
      T = indexed_point dx (at Top)

      abbrev lines₁ : List Line
      lines₁ = (stitch_all nothing (one-stroke Bottom Left)).lines

      abbrev lines₂ : List Line
      lines₂ = (stitch_all nothing (two-strokes Bottom Left Top Right fits)).lines

      abbrev left : ℕ
      left = slot_of slots at_left

      abbrev top : ℕ
      top = slot_of slots at_top

      hs : free begin Bottom ≡ true
      hs = hs₁ Bottom Left Top Right fits

      he : free finish Left ≡ true
      he = he₁ Bottom Left Top Right fits

      -- the line at Top still ends there after the first stroke
      ends-at-top : (top < length lines₁) × (ends_at T (get_or lines₁ top []) ≡ true)
      ends-at-top =
          subst (λ (d : Drawing). (top < length d.lines) × (ends_at T (get_or d.lines top []) ≡ true))
          (sym (prepend-rule dx before (at Bottom) (at Left) (on_finished Bottom) (on_finished Left) (sound A out r c hc) (fresh-one Bottom Left hs he)
          (far-finished A out r c hc at-bottom) left (slot-inside A out r c hc C t now finish at_left he) (tip-at A out r c hc C t now finish at_left he)))
          (unfold rules.prepend in (rw (length-set (stitch_all nothing before).lines left new) inside, by (ℕ_discrete top left)))
        where
          new : Line
          new = indexed_point dx (at Bottom) ∷ get_or (stitch_all nothing before).lines left []

          hs₂' : free begin Top ≡ true
          hs₂' = hs₂ Bottom Left Top Right fits

          inside : top < length (stitch_all nothing before).lines
          inside = slot-inside A out r c hc C t now begin at_top hs₂'

          there : ends_at T (get_or (stitch_all nothing before).lines top []) ≡ true
          there = tip-at A out r c hc C t now begin at_top hs₂'

          by : Dec (top ≡ left) → ends_at T (get_or (set (stitch_all nothing before).lines left new) top []) ≡ true
          by (yes q) =
              ap (λ (n : ℕ). ends_at T (get_or (set (stitch_all nothing before).lines left new) n [])) q
              ∙ ap (ends_at T) (get_or-set_same (stitch_all nothing before).lines left new [] (slot-inside A out r c hc C t now finish at_left he))
              ∙ end-of-prepended T (indexed_point dx (at Bottom)) (indexed_point dx (at Left)) (get_or (stitch_all nothing before).lines left []) (tip-at A out r c hc C t now finish at_left he)
              ∙ ap (λ (n : ℕ). ends_at T (get_or (stitch_all nothing before).lines n [])) (sym q) ∙ there
          by (no q) = ap (ends_at T) (get_or-set_other (stitch_all nothing before).lines left top new [] q) ∙ there

      append-rule₂ : stitch_all nothing (two-strokes Bottom Left Top Right fits) ≡ rules.append (stitch_all nothing (one-stroke Bottom Left)) top (indexed_point dx (at Right))
      append-rule₂ =
          append-rule dx (one-stroke Bottom Left) (at Top) (at Right) (on_finished Top) (on_finished Right) (sound₁ Bottom Left Top Right fits) (fresh₂ Bottom Left Top Right fits)
          (far-finished A out r c hc at_right) top ends-at-top.0 ends-at-top.1

      new-right : (top < length lines₂) × Tip (indexed_point dx (at Right)) (get_or lines₂ top [])
      new-right =
          appended-tip dx (one-stroke Bottom Left) (at Top) (at Right) (on_finished Top) (on_finished Right) (sound₁ Bottom Left Top Right fits) (fresh₂ Bottom Left Top Right fits)
          (far-finished A out r c hc at_right) top ends-at-top.0 ends-at-top.1

      -- but for Top, a tip stays a tip of the same line
      tip-later : (i : ℕ) → i < length lines₁ → (p : Point) → Tip p (get_or lines₁ i []) → (p ≡ T → ⊥) → (i < length lines₂) × Tip p (get_or lines₂ i [])
      tip-later i hi p tip ne =
          subst (λ (d : Drawing). (i < length d.lines) × Tip p (get_or d.lines i [])) (sym append-rule₂)
          (unfold rules.append in (rw (length-set lines₁ top grown) hi, by (ℕ_discrete i top)))
        where
          grown : Line
          grown = get_or lines₁ top [] ++ (indexed_point dx (at Right) ∷ [])

          at-tip : (role : Role) → tip_by role p (get_or lines₁ top []) ≡ true → Tip p grown
          at-tip begin k = record { role = begin; there = start-of-joined p T (get_or lines₁ top []) (indexed_point dx (at Right) ∷ []) ends-at-top.1 ∙ k }
          at-tip finish k = absurd (ne (same-eq p T (sym (end_is p T (get_or lines₁ top []) ends-at-top.1) ∙ k)))

          by : Dec (i ≡ top) → Tip p (get_or (set lines₁ top grown) i [])
          by (yes q) =
              subst (λ (n : ℕ). Tip p (get_or (set lines₁ top grown) n [])) (sym q)
              (subst (Tip p) (sym (get_or-set_same lines₁ top grown [] ends-at-top.0)) (at-tip moved.role moved.there))
            where
              moved : Tip p (get_or lines₁ top [])
              moved = subst (λ (n : ℕ). Tip p (get_or lines₁ n [])) q tip
          by (no q) = subst (Tip p) (sym (get_or-set_other lines₁ top i grown [] q)) tip

      final₂ : WordsApart dx lines₂
      final₂ = subst (λ (σs : List Segment). WordsApart dx (stitch_all nothing σs).lines) (same-two Bottom Left Top Right fits) final

      bottom-not-top : indexed_point dx (at Bottom) ≡ T → ⊥
      bottom-not-top q =
          unfold point_of in omega (arith, ap (λ (p : Point). p.y) (sym (back A out r c hc Bottom) ∙ q ∙ back A out r c hc Top))

      room₁ : C.Fits (suc (length before)) (stitch_all nothing (one-stroke Bottom Left))
      room₁ =
          subst (λ (n : ℕ). C.Fits n (stitch_all nothing (one-stroke Bottom Left))) (long-one Bottom Left)
          (C.fits-append (length (one-stroke Bottom Left)) (stitch_all nothing (one-stroke Bottom Left)) top (indexed_point dx (at Right)) ends-at-top.0 (subst (C.Fits (suc (length (one-stroke Bottom Left)))) append-rule₂ room))

      first-carried : C.Carries (suc (length before)) (λ p. p ≡ T → ⊥) (stitch_all nothing (one-stroke Bottom Left)) (t₁ Bottom Left Top Right fits)
      first-carried =
          backward-first A out r c hc C t now (λ p. p ≡ T → ⊥) at-bottom at_left hs he room₁
          (λ i hi p tip live w.
          let later = tip-later i hi p tip live in
          let new = backward-tip at-bottom at_left hs he in
          let there = tip-later left new.0 (indexed_point dx (at Bottom)) new.1 bottom-not-top in
          final₂ i left later.0 there.0 p (indexed_point dx (at Bottom)) later.1 there.1 w)

      -- Top is reached by both roles then
      top-spent : (i : ℕ) → i < length lines₂ → (p : Point) → Tip p (get_or lines₂ i []) → p ≡ T → ⊥
      top-spent i hi p tip q =
          spent-is-no-tip (stitch_all nothing (two-strokes Bottom Left Top Right fits)) (two-strokes Bottom Left Top Right fits) (sound₂ Bottom Left Top Right fits).balanced (sound₂ Bottom Left Top Right fits).once i hi p
          (omega (arith, more begin, ap (when 1) (ap (same_point p) (sym q) ∙ same_refl p)))
          (omega (arith, more finish, ap (marked finish (one-stroke Bottom Left)) (q ∙ back A out r c hc Top), (ready₁ Bottom Left Top Right fits).shared-side begin Top (head-fits (leaving free (Bottom ⟶ Left)) (Top ⟶ Right) [] (rest Bottom Left Top Right fits) begin), near-finished A out r c hc at_top)) tip
        where
          more : (role : Role) → marked role (two-strokes Bottom Left Top Right fits) p ≡ marked role (one-stroke Bottom Left) p + same p (point_by role (segment dx (at Top) (at Right)))
          more role = unfold marked total in marked_append role (one-stroke Bottom Left) (segment dx (at Top) (at Right) ∷ []) p ∙ omega arith

      five-cell : Goal (Bottom ⟶ Left ∷ Top ⟶ Right ∷ [])
      five-cell =
          carried-two Bottom Left Top Right fits
          (rw (draw-onward C c slots (t₁ Bottom Left Top Right fits) at_top at_right (at Top) (at Right), ← words A out r c hc finish Right (he₂ Bottom Left Top Right fits))
          (append-drawn dx (one-stroke Bottom Left) (at Top) (at Right) (on_finished Top) (on_finished Right) (sound₁ Bottom Left Top Right fits) (fresh₂ Bottom Left Top Right fits)
          C (λ p. p ≡ T → ⊥) all (t₁ Bottom Left Top Right fits) (after_first Bottom Left Top Right fits (λ p. p ≡ T → ⊥) first-carried) room (far-finished A out r c hc at_right) top ends-at-top.0 ends-at-top.1
          (λ i hi p tip live w. final₂ i top hi new-right.0 p (indexed_point dx (at Right)) tip new-right.1 w)
          (λ i hi p tip live ne q. top-spent i hi p tip q)))

  -- ---- any cell: there is room for the drawing before it and after it
  pub whole-cell : (strokes : List Stroke) → Shape strokes → fitting free strokes ≡ true → WordsApart dx (stitch_all nothing before).lines
      → WordsApart dx (stitch_all nothing (before ++ map (placed c r) strokes)).lines → C.Fits (length before) (stitch_all nothing before)
      → C.Fits (length (before ++ map (placed c r) strokes)) (stitch_all nothing (before ++ map (placed c r) strokes)) → Goal strokes
  whole-cell [] quiet fits apart₀ final room₀ room =
      unfold strokes_drawn in subst (λ (σs : List Segment). C.Carries (length σs) all (stitch_all nothing σs) t) (sym (append-nil before)) now
  whole-cell _ (onward s e) fits apart₀ final room₀ room = onward-cell apart₀ room₀ s e fits (apart-one (near s) (far e) final) (fit-one (near s) (far e) room)
  whole-cell _ (backward s e) fits apart₀ final room₀ room = backward-cell apart₀ room₀ s e fits (apart-one (far s) (near e) final) (fit-one (far s) (near e) room)
  whole-cell _ opening-down fits apart₀ final room₀ room =
      carried-one Right Bottom (unfold stroke_drawn side_word in opening-cell apart₀ room₀ at_right at-bottom fits (apart-one Right Bottom final) (fit-one Right Bottom room))
  whole-cell _ opening-up fits apart₀ final room₀ room =
      carried-one Bottom Right (unfold stroke_drawn side_word in opening-cell apart₀ room₀ at-bottom at_right fits (apart-one Bottom Right final) (fit-one Bottom Right room))
  whole-cell _ meeting-up fits apart₀ final room₀ room =
      carried-one Left Top (meeting-cell apart₀ room₀ at_left (head-fits free (Left ⟶ Top) [] fits begin) (head-fits free (Left ⟶ Top) [] fits finish) (fit-one Left Top room))
  whole-cell _ meeting-down fits apart₀ final room₀ room =
      carried-one Top Left (meeting-cell apart₀ room₀ at_top (head-fits free (Top ⟶ Left) [] fits begin) (head-fits free (Top ⟶ Left) [] fits finish) (fit-one Top Left room))
  whole-cell _ saddle-five fits apart₀ final room₀ room = five-cell apart₀ room₀ fits (fit-two apart₀ room₀ Bottom Left Top Right fits room) final
  whole-cell _ saddle-ten fits apart₀ final room₀ room = ten-cell apart₀ room₀ fits final (fit-two apart₀ room₀ Left Top Right Bottom fits room)

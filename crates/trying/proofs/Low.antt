-- The trial stores to the frontier alone: where every note of the frontier names a word of it, so do the notes after any stroke, and the words past it stay.
-- Nothing is asked of the lines. Assumes nothing.
use mathlib.Core.Path.{◌≡◌, refl, ◌∙◌, ap}
use mathlib.Core.Bool.{Bool, true, false, cond}
use mathlib.Core.List.{List, [], ◌∷◌}
use Prim.Native.Nat.{ℕ, zero, suc, ◌+◌, ◌/◌, ◌^◌, ◌≤◌, ◌<◌}
use native.Mathlib.Decide.{ℕ_discrete, dec_lt}
use native.Mathlib.Omega.{arith}
use lib.Dec.{eqb}
use lib.ListN.{length, get_or, set, drop, length-set}
use lib.Seq.{get_or-set_same, get_or-set_other, drop-set-lt}
use Rattle.scope.specs.declared.Side.{Side}
use Rattle.scope.specs.declared.Side.TheVariants.{Left, Right, Top, Bottom}
use Rattle.scope.specs.Cells.{Stroke, ◌⟶◌, drawn}
use Rattle.machine.specs.Machine.{side_word}
use Rattle.drawing.specs.Values.{is_met}
use Rattle.sweep.specs.Sweep.{swept}
use Rattle.trying.specs.Notes.{note_of, place_in, size_between, noted}
use Rattle.trying.specs.Trying.{Tried, open_tried, end_tried, start_tried, close_tried, join_tried, meet_tried, cross_tried, stroke_tried, strokes_tried, strokes_reached, number_tried}

-- every note of the frontier names a word of it
abbrev pub Low : ℕ → List ℕ → Type 0
Low dx words = (w : ℕ) → w < dx + 2 → place_in (get_or words w 0) < dx + 2

-- words that stand for others: low again, and the same past the frontier
pub record Same (dx : ℕ) (words words' : List ℕ) : Type 0 where
  pub low : Low dx words'
  pub long : length words' ≡ length words
  pub past : drop (dx + 2) words' ≡ drop (dx + 2) words

same-still : (dx : ℕ) (words : List ℕ) → Low dx words → Same dx words words
same-still dx words low = record { low = low; long = refl; past = refl }

same-both : {dx : ℕ} {words words' words'' : List ℕ} → Same dx words words' → Same dx words' words'' → Same dx words words''
same-both s t = record { low = t.low; long = t.long ∙ s.long; past = t.past ∙ s.past }

module _ (dx : ℕ) (narrow : dx + 2 ≤ 2 ^ 17) where
  pub low-note : (place half : ℕ) → place < dx + 2 → place_in (note_of place half) < dx + 2
  unfolding place_in note_of
  low-note place half h = omega arith

  pub low-set : (words : List ℕ) (w v : ℕ) → Low dx words → place_in v < dx + 2 → Low dx (set words w v)
  low-set words w v low h x hx = by (ℕ_discrete x w) (dec_lt w (length words))
    where
      by : Dec (x ≡ w) → Dec (w < length words) → place_in (get_or (set words w v) x 0) < dx + 2
      by (yes e) (yes inside) = rw (e, get_or-set_same words w v 0 inside) h
      by (yes e) (no outside) = rw (set-outside words w v (omega arith)) (low x hx)
        where
          set-outside : (l : List ℕ) (i v : ℕ) → length l ≤ i → set l i v ≡ l
          set-outside [] i v h = refl
          set-outside (y ∷ l) zero v h = absurd (omega arith)
          set-outside (y ∷ l) (suc i) v h = ap (λ (k : List ℕ). y ∷ k) (set-outside l i v (omega arith))
      by (no ne) k = rw (get_or-set_other words w x v 0 ne) (low x hx)

  same_noted : (words : List ℕ) (s e n : ℕ) → Low dx words → s < dx + 2 → e < dx + 2 → Same dx words (noted words s e n)
  unfolding noted
  same_noted words s e n low hs he = record {
    low = low-set (set words s (note_of e n)) e (note_of s (n / 2 ^ 15)) (low-set words s (note_of e n) low (low-note e n he)) (low-note s (n / 2 ^ 15) hs);
    long = length-set (set words s (note_of e n)) e (note_of s (n / 2 ^ 15)) ∙ length-set words s (note_of e n);
    past = drop-set-lt (dx + 2) (set words s (note_of e n)) e (note_of s (n / 2 ^ 15)) he ∙ drop-set-lt (dx + 2) words s (note_of e n) hs;
  }

  -- ---- the strokes
  module _ (t : Tried) (low : Low dx t.words) (s e : ℕ) (hs : s < dx + 2) (he : e < dx + 2) where
    same-meet : Same dx t.words (meet_tried t s e).words
    same-meet = by (eqb (place_in (get_or t.words s 0)) e)
      where
        by : (b : Bool) → Same dx t.words (cond b (close_tried t s e) (join_tried t s e)).words
        by true = same-still dx t.words low
        by false = same_noted t.words (place_in (get_or t.words s 0)) (place_in (get_or t.words e 0)) _ low (low s hs) (low e he)

    same-cross : Same dx t.words (cross_tried t e s).words
    same-cross = by (eqb (place_in (get_or t.words s 0)) e)
      where
        by : (b : Bool) → Same dx t.words (cond b (noted t.words s e (size_between t.words e s + 2))
            (noted (noted t.words s (place_in (get_or t.words e 0)) (size_between t.words e (place_in (get_or t.words e 0)) + 1)) (place_in (get_or t.words s 0)) e (size_between t.words (place_in (get_or t.words s 0)) s + 1)))
        by true = same_noted t.words s e (size_between t.words e s + 2) low hs he
        by false =
            let one = same_noted t.words s (place_in (get_or t.words e 0)) (size_between t.words e (place_in (get_or t.words e 0)) + 1) low hs (low e he) in
            same-both one (same_noted _ (place_in (get_or t.words s 0)) e (size_between t.words (place_in (get_or t.words s 0)) s + 1) one.low (low s hs) he)

    same_by : (a b : Bool) → Same dx t.words (cond a (cond b (meet_tried t s e) (end_tried t s e)) (cond b (start_tried t s e) (open_tried t s e))).words
    same_by true true = same-meet
    same_by true false = same_noted t.words (place_in (get_or t.words s 0)) e _ low (low s hs) he
    same_by false true = same_noted t.words s (place_in (get_or t.words e 0)) _ low hs (low e he)
    same_by false false = same_noted t.words s e 1 low hs he

  module _ (c : ℕ) (hc : c ≤ dx) where
    side-low : (d : Side) → side_word dx c d < dx + 2
    unfolding side_word
    side-low Left = omega arith
    side-low Right = omega arith
    side-low Top = omega arith
    side-low Bottom = omega arith

    same-stroke : (t : Tried) → Low dx t.words → (σ : Stroke) → Same dx t.words (stroke_tried dx c t σ).words
    unfolding stroke_tried
    same-stroke t low (s ⟶ e) = same_by t low (side_word dx c s) (side_word dx c e) (side-low s) (side-low e) (is_met s) (is_met e)

    same-strokes : (t : Tried) → Low dx t.words → (σs : List Stroke) → Same dx t.words (strokes_tried dx c t σs).words
    unfolding strokes_tried
    same-strokes t low [] = same-still dx t.words low
    same-strokes t low (σ ∷ []) = same-stroke t low σ
    same-strokes t low ((Left ⟶ e) ∷ τ ∷ rest) =
        let one = same-stroke t low (Left ⟶ e) in
        same-both one (same-stroke (stroke_tried dx c t (Left ⟶ e)) one.low τ)
    same-strokes t low ((Right ⟶ e) ∷ τ ∷ rest) = same-cross t low c (dx + 1) (omega arith) (omega arith)
    same-strokes t low ((Top ⟶ e) ∷ τ ∷ rest) = same-cross t low c (dx + 1) (omega arith) (omega arith)
    same-strokes t low ((Bottom ⟶ e) ∷ τ ∷ rest) = same-cross t low c (dx + 1) (omega arith) (omega arith)

    same_number : (t : Tried) → Low dx t.words → (n : ℕ) → Same dx t.words (number_tried dx t n c).words
    unfolding number_tried
    same_number t low n = by (drawn n)
      where
        by : (σs : List Stroke) → Same dx t.words (strokes_reached dx c t σs).words
        by [] = unfold strokes_reached in same-still dx t.words low
        by (σ ∷ σs) = unfold strokes_reached in same-strokes t low (σ ∷ σs)

  -- the first cells of a row, whatever their numbers
  pub same_row : (numbers : ℕ → ℕ) (t : Tried) → Low dx t.words → (n : ℕ) → n ≤ suc dx → Same dx t.words (swept (λ x c. number_tried dx x (numbers c) c) t 0 n).words
  unfolding swept
  same_row numbers t low zero hn = same-still dx t.words low
  same_row numbers t low (suc n) hn =
      let so_far = same_row numbers t low n (omega arith) in
      same-both so_far (same_number (0 + n) (omega arith) (swept (λ x c. number_tried dx x (numbers c) c) t 0 n) so_far.low (numbers (0 + n)))

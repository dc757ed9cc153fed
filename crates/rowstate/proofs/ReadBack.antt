-- A state that is stored in words and read again is that state: the numbers word by word, the threshold by the laws of its bits, the rule by its
-- number, and the samples by their halves. Assumes nothing.
use mathlib.Core.Path.{◌≡◌, refl, sym, ap, ◌∙◌}
use mathlib.Core.List.{List, ◌∷◌, ◌++◌}
use Prim.Native.Nat.{ℕ, zero, suc, ◌+◌, ◌-◌, ◌*◌, ◌≤◌, ◌<◌}
use native.Mathlib.Nat.{add-zero, zero-add}
use native.Mathlib.Omega.{arith}
use mathlib.Core.Bool.{Bool, true, false}
use lib.Dec.{T, leb}
use lib.Ieee.{Float, binary64, fits, of_bits, to_bits}
use lib.Ieee.Bits.{of_bits-to_bits}
use lib.ListN.{length, get_or, take, drop, replicate, length-drop, take-append-drop, get_or-replicate, get_or-eq_default}
use lib.Seq.{sets, sets-eq, drop-cons, get_or-drop, get_or-append-add, length-take-le, ext_get_or}
use borrow.Author.Tests.{leb-true, leb-false}
use Rattle.scope.specs.declared.Level.{Level}
use Rattle.cells.specs.Rules.{level_of, rule_number}
use Rattle.cells.proofs.Rules.{a-level-comes-back}
use Rattle.rows.specs.declared.Rows.{Rows}
use Rattle.rowstate.specs.Words.{sample_words, paired, low_half, high_half, samples_from, samples_in, state_in, halves_from, samples_out, head_words, state_out}
use Rattle.rowstate.proofs.Walks.{samples-in-a-row}

pub halves-make-one : (n : ℕ) → paired (low_half n) (high_half n) ≡ n
unfolding paired low_half high_half
halves-make-one n = omega arith

-- ---- samples by their halves

halves-count : (above : List ℕ) (w n : ℕ) → length (halves_from above w n) ≡ 2 * n
unfolding halves_from
halves-count above w zero = refl
halves-count above w (suc n) = ap (λ (k : ℕ). suc (suc k)) (halves-count above (suc w) n) ∙ omega arith

two-more : (v : ℕ) → 2 * suc v ≡ suc (suc (2 * v))
two-more v = omega arith

moved : (w v : ℕ) → suc w + v ≡ w + suc v
moved w v = omega arith

-- word v of the samples, from number w on, has its halves at 2v and 2v + 1
halves-there : (above rest : List ℕ) (w n v : ℕ) → v < n
    → (get_or (halves_from above w n ++ rest) (2 * v) 0 ≡ low_half (get_or above (w + v) 0)) × (get_or (halves_from above w n ++ rest) (suc (2 * v)) 0 ≡ high_half (get_or above (w + v) 0))
unfolding halves_from
halves-there above rest w zero v l = absurd (omega arith)
halves-there above rest w (suc n) zero l =
    (ap (λ (k : ℕ). low_half (get_or above k 0)) (sym (add-zero w)), ap (λ (k : ℕ). high_half (get_or above k 0)) (sym (add-zero w)))
halves-there above rest w (suc n) (suc v) l =
    let later = halves-there above rest (suc w) n v (omega arith) in (
      ap (λ (k : ℕ). get_or (halves_from above w (suc n) ++ rest) k 0) (two-more v) ∙ later.0 ∙ ap (λ (k : ℕ). low_half (get_or above k 0)) (moved w v),
      ap (λ (k : ℕ). get_or (halves_from above w (suc n) ++ rest) (suc k) 0) (two-more v) ∙ later.1 ∙ ap (λ (k : ℕ). high_half (get_or above k 0)) (moved w v),
    )

-- samples that are read word by word are a part of those that the words hold
part-read : (words above : List ℕ) (w n : ℕ) → w + n ≤ length above → ((v : ℕ) → v < w + n → paired (get_or words (11 + 2 * v) 0) (get_or words (11 + 2 * v + 1) 0) ≡ get_or above v 0)
    → samples_from words w n ≡ take n (drop w above)
unfolding samples_from
part-read words above w zero l each = refl
part-read words above w (suc n) l each =
    ap (λ (x : ℕ). x ∷ samples_from words (suc w) n) (each w (omega arith))
    ∙ ap (λ (xs : List ℕ). get_or above w 0 ∷ xs) (part-read words above (suc w) n (omega arith) (λ v k. each v (omega arith)))
    ∙ ap (take (suc n)) (sym (drop-cons above w 0 (omega arith)))

-- over zeros they are the whole where it is 0 past them
over_zeros : (above : List ℕ) (n : ℕ) → length above ≡ 65 → n ≤ 65 → ((w : ℕ) → n ≤ w → get_or above w 0 ≡ 0) → sets (replicate 65 0) 0 (take n above) ≡ above
over_zeros above n size l none =
    let count = length-take-le n above (omega (arith, size)) in
    sets-eq (take n above) (replicate 65 0) 0 (omega (arith, count))
    ∙ ap (λ (k : ℕ). take n above ++ drop k (replicate 65 0)) (zero-add (length (take n above)) ∙ count)
    ∙ ap (λ (xs : List ℕ). take n above ++ xs) (sym zeros)
    ∙ take-append-drop n above
  where
    zeros : drop n above ≡ drop n (replicate 65 0)
    zeros =
        ext_get_or 0 (drop n above) (drop n (replicate 65 0)) (length-drop n above ∙ ap (λ (k : ℕ). k - n) size ∙ sym (length-drop n (replicate 65 0)))
        (λ i k. get_or-drop n above i 0 ∙ none (n + i) (omega arith) ∙ sym (get_or-drop n (replicate 65 0) i 0 ∙ get_or-replicate 65 (n + i) 0 0 (omega (arith, length-drop n above, size))))

-- ---- the whole state

module _ (s : Rows) (words : List ℕ) (room : length words ≡ 141) where
  abbrev bits : ℕ
  bits = to_bits binary64 s.level.threshold

  abbrev halves : List ℕ
  halves = halves_from s.above 0 (sample_words s.dx)

  abbrev rest : List ℕ
  rest = drop (11 + length halves) (head_words s bits ++ drop 11 words)

  -- the words before the samples, those of the samples, and the rest
  laid : state_out s words ≡ head_words s bits ++ (halves ++ rest)
  unfolding state_out samples_out head_words
  laid =
      ap (λ (ws : List ℕ). sets ws 11 halves) (sets-eq (head_words s bits) words 0 (omega (arith, room)))
      ∙ sets-eq halves (head_words s bits ++ drop 11 words) 11 (omega (arith, length-drop 11 words, room, halves-count s.above 0 (sample_words s.dx), samples-in-a-row s.dx))

  -- word v of the samples is read as it was
  sample-there : (v : ℕ) → v < sample_words s.dx → paired (get_or (head_words s bits ++ (halves ++ rest)) (11 + 2 * v) 0) (get_or (head_words s bits ++ (halves ++ rest)) (11 + 2 * v + 1) 0) ≡ get_or s.above v 0
  unfolding head_words
  sample-there v l =
      let front = head_words s bits in
      let there = halves-there s.above rest 0 (sample_words s.dx) v l in
      ap (λ (x : ℕ). paired x (get_or (front ++ (halves ++ rest)) (11 + 2 * v + 1) 0)) (get_or-append-add front (halves ++ rest) (2 * v) 0 ∙ there.0)
      ∙ ap (λ (k : ℕ). paired (low_half (get_or s.above (0 + v) 0)) (get_or (front ++ (halves ++ rest)) k 0)) (behind v)
      ∙ ap (paired (low_half (get_or s.above (0 + v) 0))) (get_or-append-add front (halves ++ rest) (suc (2 * v)) 0 ∙ there.1)
      ∙ halves-make-one (get_or s.above (0 + v) 0)
      ∙ ap (λ (k : ℕ). get_or s.above k 0) (zero-add v)
    where
      behind : (v : ℕ) → 11 + 2 * v + 1 ≡ 11 + suc (2 * v)
      behind v = omega arith

  -- the state at this level and with these samples
  abbrev made : Level → List ℕ → Rows
  made level above = record {
    level = level;
    dx = s.dx;
    dy = s.dy;
    drawn = s.drawn;
    count = s.count;
    peak = s.peak;
    spare = s.spare;
    fresh = s.fresh;
    held = s.held;
    above = above;
  }

  -- an `f64` holds the threshold
  level-back : T (fits binary64 s.level.threshold) → level_of (of_bits binary64 (paired (low_half bits) (high_half bits))) (rule_number s.level.rule) ≡ s.level
  level-back held =
      ap (λ (x : Float). level_of x (rule_number s.level.rule)) (ap (of_bits binary64) (halves-make-one bits) ∙ of_bits-to_bits binary64 s.level.threshold held)
      ∙ a-level-comes-back s.level

  -- where there are 65 words of samples, and none past the columns
  module _ (size : length s.above ≡ 65) (none : (w : ℕ) → s.dx ≤ 64 * w → get_or s.above w 0 ≡ 0) where
    none-past : (w : ℕ) → sample_words s.dx ≤ w → get_or s.above w 0 ≡ 0
    unfolding sample_words
    none-past w l = by (leb 65 w) refl
      where
        by : (b : Bool) → leb 65 w ≡ b → get_or s.above w 0 ≡ 0
        by true e = get_or-eq_default s.above 0 (omega (arith, size, leb-true 65 w e))
        by false e = none w (omega (arith, l, leb-false 65 w e))

    samples-back : samples_in (head_words s bits ++ (halves ++ rest)) s.dx ≡ s.above
    unfolding samples_in
    samples-back =
        ap (sets (replicate 65 0) 0)
        (part-read (head_words s bits ++ (halves ++ rest)) s.above 0 (sample_words s.dx) (omega (arith, size, samples-in-a-row s.dx)) (λ v l. sample-there v (omega (arith, zero-add (sample_words s.dx)))))
        ∙ over_zeros s.above (sample_words s.dx) size (samples-in-a-row s.dx) none-past

    pub read_back : T (fits binary64 s.level.threshold) → state_in (state_out s words) ≡ s
    unfolding state_in head_words
    read_back held =
        ap state_in laid
        ∙ ap (λ (l : Level). made l (samples_in (head_words s bits ++ (halves ++ rest)) s.dx)) (level-back held)
        ∙ ap (made s.level) samples-back

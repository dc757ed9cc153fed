-- The loops over the words of the samples, by what is left of them: what is left, stored over the words so far, is what is asked. Assumes nothing.
use mathlib.Core.Path.{◌≡◌, sym, ap, ◌∙◌}
use mathlib.Core.List.{List}
use Prim.Native.Nat.{ℕ, suc, ◌+◌, ◌-◌, ◌*◌, ◌≤◌, ◌<◌}
use native.Mathlib.Omega.{arith}
use native.Mathlib.Nat.{sub-zero}
use lib.ListN.{get_or, set, replicate}
use lib.Seq.{sets}
use Rattle.rowstate.specs.Words.{sample_words, paired, low_half, high_half, samples_from, samples_in, halves_from, samples_out}

-- a row has 65 words of samples
pub samples-in-a-row : (dx : ℕ) → sample_words dx ≤ 65
unfolding sample_words
samples-in-a-row dx = omega arith

one_fewer : (w n : ℕ) → w < n → n - w ≡ suc (n - (w + 1))
one_fewer w n l = omega arith

none_left : (w n : ℕ) → n ≤ w → n - w ≡ 0
none_left w n l = omega arith

next : (k : ℕ) → suc k ≡ k + 1
next k = omega arith

two-on : (w : ℕ) → suc (11 + 2 * w + 1) ≡ 11 + 2 * (w + 1)
two-on w = omega arith

-- the loops begin: all is left
module _ (dx : ℕ) {count : ℕ} (all : count ≡ sample_words dx) where
  pub none_read : (words : List ℕ) → samples_in words dx ≡ sets (replicate 65 0) 0 (samples_from words 0 (count - 0))
  unfolding samples_in
  none_read words = ap (λ (k : ℕ). sets (replicate 65 0) 0 (samples_from words 0 k)) (sym all ∙ sym (sub-zero count))

  pub none-stored : (above words : List ℕ) → samples_out above dx words ≡ sets words (11 + 2 * 0) (halves_from above 0 (count - 0))
  unfolding samples_out
  none-stored above words = ap (λ (k : ℕ). sets words 11 (halves_from above 0 k)) (sym all ∙ sym (sub-zero count))

-- one word more, and the end
module _ (words : List ℕ) (w n : ℕ) where
  pub sample-read : (above : List ℕ) (word : ℕ) → w < n → word ≡ paired (get_or words (11 + 2 * w) 0) (get_or words (11 + 2 * w + 1) 0)
      → sets above w (samples_from words w (n - w)) ≡ sets (set above w word) (w + 1) (samples_from words (w + 1) (n - (w + 1)))
  unfolding samples_from
  sample-read above word l is =
      ap (λ (k : ℕ). sets above w (samples_from words w k)) (one_fewer w n l)
      ∙ ap (λ (x : ℕ). sets (set above w x) (suc w) (samples_from words (suc w) (n - (w + 1)))) (sym is)
      ∙ ap (λ (k : ℕ). sets (set above w word) k (samples_from words k (n - (w + 1)))) (next w)

  pub all_read : (above : List ℕ) → n ≤ w → sets above w (samples_from words w (n - w)) ≡ above
  unfolding samples_from
  all_read above l = ap (λ (k : ℕ). sets above w (samples_from words w k)) (none_left w n l)

module _ (above : List ℕ) (w n : ℕ) where
  pub sample-stored : (words : List ℕ) (low high : ℕ) → w < n → low ≡ low_half (get_or above w 0) → high ≡ high_half (get_or above w 0)
      → sets words (11 + 2 * w) (halves_from above w (n - w)) ≡ sets (set (set words (11 + 2 * w) low) (11 + 2 * w + 1) high) (11 + 2 * (w + 1)) (halves_from above (w + 1) (n - (w + 1)))
  unfolding halves_from
  sample-stored words low high l is is' =
      let at = 11 + 2 * w in
      let rest = halves_from above (suc w) (n - (w + 1)) in
      ap (λ (k : ℕ). sets words at (halves_from above w k)) (one_fewer w n l)
      ∙ ap (λ (x : ℕ). sets (set (set words at x) (suc at) (high_half (get_or above w 0))) (suc (suc at)) rest) (sym is)
      ∙ ap (λ (x : ℕ). sets (set (set words at low) (suc at) x) (suc (suc at)) rest) (sym is')
      ∙ ap (λ (k : ℕ). sets (set (set words at low) k high) (suc k) rest) (next at)
      ∙ ap (λ (k : ℕ). sets (set (set words at low) (at + 1) high) k rest) (two-on w)
      ∙ ap (λ (k : ℕ). sets (set (set words at low) (at + 1) high) (11 + 2 * (w + 1)) (halves_from above k (n - (w + 1)))) (next w)

  pub all-stored : (words : List ℕ) → n ≤ w → sets words (11 + 2 * w) (halves_from above w (n - w)) ≡ words
  unfolding halves_from
  all-stored words l = ap (λ (k : ℕ). sets words (11 + 2 * w) (halves_from above w k)) (none_left w n l)

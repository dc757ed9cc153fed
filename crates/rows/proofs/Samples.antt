-- A row of samples as words: the loop over them is the walk of `scan` along its first row, above which is the outside. Assumes nothing.
use mathlib.Core.Path.{◌≡◌, refl, sym, ◌∙◌, ap, subst}
use mathlib.Core.List.{List}
use Prim.Native.Nat.{ℕ, zero, suc, ◌+◌, ◌*◌, ◌<◌}
use native.Mathlib.Nat.{zero-add}
use native.Mathlib.Omega.{arith}
use lib.ListN.{length, get_or, set, replicate}
use lib.Seq.{ext_get_or}
use Rattle.scope.specs.Terrain.{Sheet}
use Rattle.words.specs.Bits.{packed}
use Rattle.laws.proofs.Edges.{Outside}
use Rattle.scan.specs.Rows.{word_from, Kept}
use Rattle.scan.proofs.Rows.{Walked, walk_begins, walk-goes-on, walk_ends, no-words-above}
use Rattle.rows.specs.Called.{no_words, words_from}

-- the outside has 65 words that are 0
pub no-words : replicate 65 0 ≡ no_words
unfolding no_words words_from word_from packed
no-words = refl

module _ (A : Sheet) (s : ℕ) where
  pub words_count : (w n : ℕ) → length (words_from A s w n) ≡ n
  unfolding words_from
  words_count w zero = refl
  words_count w (suc n) = ap suc (words_count (suc w) n)

  pub word-there : (w n i : ℕ) → i < n → get_or (words_from A s w n) i 0 ≡ word_from A s (64 * (w + i))
  unfolding words_from
  word-there w zero i l = absurd (omega arith)
  word-there w (suc n) zero l = ap (λ (k : ℕ). word_from A s (64 * k)) (omega arith)
  word-there w (suc n) (suc i) l = word-there (suc w) n i (omega arith) ∙ ap (λ (k : ℕ). word_from A s (64 * k)) (omega arith)

  -- the words that are kept of a row are all that it has
  pub kept-words : {row : List ℕ} → Kept A s row → row ≡ words_from A s 0 65
  kept-words {row} k =
      ext_get_or 0 row (words_from A s 0 65) (k.row-size ∙ sym (words_count 0 65))
      (λ i l. k.kept i ∙ ap (λ (j : ℕ). word_from A s (64 * j)) (sym (zero-add i)) ∙ sym (word-there 0 65 i (omega (arith, k.row-size))))

-- the words so far are those of the first row
abbrev pub Sampled : Sheet → ℕ → List ℕ → Type 0
Sampled A w row = Walked A 0 w row (A (64 * w) 0) (A (64 * w) 1)

module _ (A : Sheet) {dx dy : ℕ} (out : Outside A dx dy) where
  pub samples-begin : {row : List ℕ} → row ≡ no_words → Sampled A 0 row
  samples-begin are =
      let k = walk_begins A 0 out (subst (Kept A 0) (no-words ∙ sym are) (no-words-above A out)) in
      record { left-upper = refl; left-lower = refl; below = k.below; still-above = k.still-above; row-size = k.row-size }

  pub samples-go-on : {w word : ℕ} {row : List ℕ} → Sampled A w row → word ≡ word_from A 1 (64 * w) → w < 65 → Sampled A (w + 1) (set row w word)
  samples-go-on so_far is l =
      let k = walk-goes-on A 0 so_far refl is l refl refl in
      record { left-upper = refl; left-lower = refl; below = k.below; still-above = k.still-above; row-size = k.row-size }

  pub samples-end : {w : ℕ} {row : List ℕ} → Sampled A w row → dx < 64 * w → row ≡ words_from A 1 0 65
  samples-end so_far far = kept-words A 1 (walk_ends A 0 out so_far far)

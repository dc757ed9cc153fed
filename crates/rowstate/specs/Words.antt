-- The state of a terrain that comes row by row as 141 words: eight numbers, the bits of the threshold in two words, the low one first, the number of the rule,
-- and the samples of the last row, two words for sixty-four of them, the low one first. Assumes nothing.
use Rattle.std.specs.Prelude.{ℕ, zero, suc, ◌+◌, ◌*◌, ◌/◌, ◌%◌, min, List, [], ◌∷◌, get_or, replicate}
use Rattle.std.specs.Float.{binary64}
use Rattle.std.specs.Float.Ieee.{of_bits, to_bits}
use Rattle.std.proofs.lemmas.List.Edits.{sets}
use Rattle.cells.specs.Rules.{level_of, rule_number}
use Rattle.rows.specs.declared.Rows.{Rows}

-- how many words of samples that many columns have, at most the 65 of a row
unfoldable pub sample_words : ℕ → ℕ
sample_words dx = min ((dx + 63) / 64) 65

-- two words as one, and the two words of one
unfoldable pub paired : ℕ → ℕ → ℕ
paired low high = low + 4294967296 * high

unfoldable pub low_half : ℕ → ℕ
low_half n = n % 4294967296

unfoldable pub high_half : ℕ → ℕ
high_half n = n / 4294967296

-- ---- the state that words hold

-- n words of samples, from number w on
unfoldable pub samples_from : List ℕ → ℕ → ℕ → List ℕ
samples_from words w zero = []
samples_from words w (suc n) = paired (get_or words (11 + 2 * w) 0) (get_or words (11 + 2 * w + 1) 0) ∷ samples_from words (suc w) n

-- the samples of the columns, and 0 past them
unfoldable pub samples_in : List ℕ → ℕ → List ℕ
samples_in words dx = sets (replicate 65 0) 0 (samples_from words 0 (sample_words dx))

unfoldable pub state_in : List ℕ → Rows
state_in words = record {
  level = level_of (of_bits binary64 (paired (get_or words 8 0) (get_or words 9 0))) (get_or words 10 0);
  dx = get_or words 0 0;
  dy = get_or words 1 0;
  drawn = get_or words 2 0;
  count = get_or words 3 0;
  peak = get_or words 4 0;
  spare = get_or words 5 0;
  fresh = get_or words 6 0;
  held = get_or words 7 0;
  above = samples_in words (get_or words 0 0);
}

-- ---- the words that a state leaves

-- the halves of n words of samples, from number w on
unfoldable pub halves_from : List ℕ → ℕ → ℕ → List ℕ
halves_from above w zero = []
halves_from above w (suc n) = low_half (get_or above w 0) ∷ high_half (get_or above w 0) ∷ halves_from above (suc w) n

-- the samples of the columns over words, which are as they were past them
unfoldable pub samples_out : List ℕ → ℕ → List ℕ → List ℕ
samples_out above dx words = sets words 11 (halves_from above 0 (sample_words dx))

-- the words before the samples, by the bits of the threshold
unfoldable pub head_words : Rows → ℕ → List ℕ
head_words s bits =
    s.dx ∷ s.dy ∷ s.drawn ∷ s.count ∷ s.peak ∷ s.spare ∷ s.fresh ∷ s.held ∷ low_half bits ∷ high_half bits ∷ rule_number s.level.rule ∷ []

unfoldable pub state_out : Rows → List ℕ → List ℕ
state_out s words = samples_out s.above s.dx (sets words 0 (head_words s (to_bits binary64 s.level.threshold)))

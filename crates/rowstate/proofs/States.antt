-- A state as words, whole: what is read is the state that words hold, and what is stored are the words that a state leaves. Assumes nothing.
use mathlib.Core.Path.{◌≡◌, ap, ◌∙◌}
use mathlib.Core.List.{List}
use Prim.Native.Nat.{ℕ}
use lib.Ieee.{Float, binary64, of_bits, to_bits}
use lib.ListN.{get_or, set}
use Rattle.scope.specs.declared.Level.{Level}
use Rattle.cells.specs.Rules.{level_of, rule_number}
use Rattle.rows.specs.declared.Rows.{Rows}
use Rattle.rowstate.specs.Words.{paired, low_half, high_half, samples_in, state_in, samples_out, head_words, state_out}

-- a state whose numbers, level and samples are read one by one
module _ (words : List ℕ) where
  abbrev read : Level → List ℕ → Rows
  read level above = record {
    level = level;
    dx = get_or words 0 0;
    dy = get_or words 1 0;
    drawn = get_or words 2 0;
    count = get_or words 3 0;
    peak = get_or words 4 0;
    spare = get_or words 5 0;
    fresh = get_or words 6 0;
    held = get_or words 7 0;
    above = above;
  }

  pub state-read : (bits : ℕ) (threshold : Float) (level : Level) (above : List ℕ) → bits ≡ paired (get_or words 8 0) (get_or words 9 0) → threshold ≡ of_bits binary64 bits
      → level ≡ level_of threshold (get_or words 10 0) → above ≡ samples_in words (get_or words 0 0) → read level above ≡ state_in words
  unfolding state_in
  state-read bits threshold level above are is at samples =
      ap (λ (l : Level). read l above) (at ∙ ap (λ (x : Float). level_of x (get_or words 10 0)) (is ∙ ap (of_bits binary64) are))
      ∙ ap (read (level_of (of_bits binary64 (paired (get_or words 8 0) (get_or words 9 0))) (get_or words 10 0))) samples

-- words in which a state's numbers, the halves of its threshold's bits, its rule's number and its samples are stored one by one
module _ (s : Rows) (words : List ℕ) where
  abbrev headed : ℕ → ℕ → ℕ → List ℕ
  headed low high number =
      set (set (set (set (set (set (set (set (set (set (set words 0 s.dx) 1 s.dy) 2 s.drawn) 3 s.count) 4 s.peak) 5 s.spare) 6 s.fresh) 7 s.held) 8 low) 9 high) 10 number

  pub state-stored : (bits low high number : ℕ) {words' : List ℕ} → bits ≡ to_bits binary64 s.level.threshold → low ≡ low_half bits → high ≡ high_half bits → number ≡ rule_number s.level.rule
      → words' ≡ samples_out s.above s.dx (headed low high number) → words' ≡ state_out s words
  unfolding state_out head_words
  state-stored bits low high number are is is' ruled stored =
      stored
      ∙ ap (λ (x : ℕ). samples_out s.above s.dx (headed x high number)) (is ∙ ap low_half are)
      ∙ ap (λ (x : ℕ). samples_out s.above s.dx (headed (low_half (to_bits binary64 s.level.threshold)) x number)) (is' ∙ ap high_half are)
      ∙ ap (λ (x : ℕ). samples_out s.above s.dx (headed (low_half (to_bits binary64 s.level.threshold)) (high_half (to_bits binary64 s.level.threshold)) x)) ruled

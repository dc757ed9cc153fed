-- Directories whose records are given word by word: where record r holds the four words of entry r, the first words of the directory are the words of the
-- entries, and the directory is those words written over another that it equals behind them. By induction, an entry at a time. Assumes nothing.
use mathlib.Core.Path.{◌≡◌, refl, sym, ◌∙◌, ap, ap₂}
use mathlib.Core.List.{List, [], ◌∷◌, ◌++◌}
use Prim.Native.Nat.{ℕ, zero, suc, ◌+◌, ◌-◌, ◌*◌, ◌≤◌, ◌<◌, suc-le-suc}
use native.Mathlib.Nat.{le_of_suc-le-suc, not-suc-le-zero}
use native.Mathlib.Omega.{arith}
use lib.ListN.{length, get_or, take, drop, take-append-drop, length-drop}
use lib.Seq.{ext_get_or, length-take-le, get_or-take, get_or-drop}
use Rattle.scope.specs.Tables.{written}
use Rattle.sorting.specs.Entries.{Entry, entry_words}
use Rattle.sorting.proofs.Words.{words-length}
use Rattle.extents.specs.Records.{record_first, record_count, record_class, record_number}

-- record r holds an entry's four words
pub record Holds (directory : List ℕ) (r : ℕ) (e : Entry) : Type 0 where
  pub first_word : record_first directory r ≡ e.first
  pub count_word : record_count directory r ≡ e.count
  pub class-word : record_class directory r ≡ e.key
  pub number_word : record_number directory r ≡ e.number

-- two directories whose records r and s are word for word the same
module _ (directory directory' : List ℕ) (r s : ℕ) (e : Entry) where
  holds-too : record_first directory' s ≡ record_first directory r → record_count directory' s ≡ record_count directory r
      → record_class directory' s ≡ record_class directory r → record_number directory' s ≡ record_number directory r → Holds directory r e → Holds directory' s e
  holds-too f c k m h = record {
    first_word = f ∙ h.first_word;
    count_word = c ∙ h.count_word;
    class-word = k ∙ h.class-word;
    number_word = m ∙ h.number_word;
  }

-- four words in front make it one record further on
module _ (a b c d : ℕ) (ws : List ℕ) (r : ℕ) where
  further : (i j : ℕ) → i ≡ suc (suc (suc (suc j))) → get_or (a ∷ b ∷ c ∷ d ∷ ws) i 0 ≡ get_or ws j 0
  further i j e = ap (λ (k : ℕ). get_or (a ∷ b ∷ c ∷ d ∷ ws) k 0) e

  first-further : record_first (a ∷ b ∷ c ∷ d ∷ ws) (suc r) ≡ record_first ws r
  unfolding record_first
  first-further = further (4 * suc r) (4 * r) (omega arith)

  count-further : record_count (a ∷ b ∷ c ∷ d ∷ ws) (suc r) ≡ record_count ws r
  unfolding record_count
  count-further = further (4 * suc r + 1) (4 * r + 1) (omega arith)

  class-further : record_class (a ∷ b ∷ c ∷ d ∷ ws) (suc r) ≡ record_class ws r
  unfolding record_class
  class-further = further (4 * suc r + 2) (4 * r + 2) (omega arith)

  number-further : record_number (a ∷ b ∷ c ∷ d ∷ ws) (suc r) ≡ record_number ws r
  unfolding record_number
  number-further = further (4 * suc r + 3) (4 * r + 3) (omega arith)

  holds-further : (e : Entry) → Holds ws r e → Holds (a ∷ b ∷ c ∷ d ∷ ws) (suc r) e
  holds-further e h = holds-too ws (a ∷ b ∷ c ∷ d ∷ ws) r (suc r) e first-further count-further class-further number-further h

  holds-behind : (e : Entry) → Holds (a ∷ b ∷ c ∷ d ∷ ws) (suc r) e → Holds ws r e
  holds-behind e h =
      holds-too (a ∷ b ∷ c ∷ d ∷ ws) ws (suc r) r e (sym first-further) (sym count-further) (sym class-further) (sym number-further) h

-- the words of entries hold them
pub words-hold : (es : List Entry) (d : Entry) (rest : List ℕ) (r : ℕ) → r < length es → Holds (entry_words es ++ rest) r (get_or es r d)
unfolding entry_words record_first record_count record_class record_number
words-hold [] d rest r h = absurd (not-suc-le-zero h)
words-hold (e ∷ es) d rest zero h = record { first_word = refl; count_word = refl; class-word = refl; number_word = refl }
words-hold (e ∷ es) d rest (suc r) h =
    holds-further e.first e.count e.key e.number (entry_words es ++ rest) r (get_or es r d) (words-hold es d rest r (le_of_suc-le-suc h))

-- words that hold entries, and no more, are theirs
words_are : (es : List Entry) (d : Entry) (ws : List ℕ) → length ws ≡ 4 * length es → ((r : ℕ) → r < length es → Holds ws r (get_or es r d)) → ws ≡ entry_words es
unfolding entry_words record_first record_count record_class record_number
words_are [] z [] long held = refl
words_are [] z (a ∷ ws) long held = absurd (omega arith)
words_are (e ∷ es) z [] long held = absurd (omega arith)
words_are (e ∷ es) z (a ∷ []) long held = absurd (omega arith)
words_are (e ∷ es) z (a ∷ b ∷ []) long held = absurd (omega arith)
words_are (e ∷ es) z (a ∷ b ∷ c ∷ []) long held = absurd (omega arith)
words_are (e ∷ es) z (a ∷ b ∷ c ∷ d ∷ ws) long held =
    let one : Holds (a ∷ b ∷ c ∷ d ∷ ws) 0 e = held 0 (omega arith) in
    λ i.
    one.first_word i
    ∷ one.count_word i
    ∷ one.class-word i
    ∷ one.number_word i
    ∷ words_are es z ws (omega arith) (λ r h. holds-behind a b c d ws r (get_or es r z) (held (suc r) (suc-le-suc h))) i

module _ (es : List Entry) (d : Entry) (directory : List ℕ) (there : 4 * length es ≤ length directory)
    (held : (r : ℕ) → r < length es → Holds directory r (get_or es r d)) where
  taken-hold : (r : ℕ) → r < length es → Holds (take (4 * length es) directory) r (get_or es r d)
  unfolding record_first record_count record_class record_number
  taken-hold r h =
      holds-too directory (take (4 * length es) directory) r r (get_or es r d)
      (get_or-take (4 * length es) directory (4 * r) 0 (omega arith))
      (get_or-take (4 * length es) directory (4 * r + 1) 0 (omega arith))
      (get_or-take (4 * length es) directory (4 * r + 2) 0 (omega arith))
      (get_or-take (4 * length es) directory (4 * r + 3) 0 (omega arith))
      (held r h)

  -- the first words of the directory
  pub words-taken : take (4 * length es) directory ≡ entry_words es
  words-taken = words_are es d (take (4 * length es) directory) (length-take-le (4 * length es) directory there) taken-hold

  -- the whole directory
  pub words-written : (start : List ℕ) → length directory ≡ length start → ((i : ℕ) → 4 * length es ≤ i → get_or directory i 0 ≡ get_or start i 0)
      → directory ≡ written (entry_words es) start
  unfolding written
  words-written start long rest =
      sym (take-append-drop (4 * length es) directory)
      ∙ ap₂ (λ (front back : List ℕ). front ++ back) words-taken behind
    where
      dropped : drop (4 * length es) directory ≡ drop (4 * length es) start
      dropped =
          ext_get_or 0 (drop (4 * length es) directory) (drop (4 * length es) start)
          (length-drop (4 * length es) directory ∙ ap (λ (k : ℕ). k - 4 * length es) long ∙ sym (length-drop (4 * length es) start))
          (λ i h. get_or-drop (4 * length es) directory i 0 ∙ rest (4 * length es + i) (omega arith) ∙ sym (get_or-drop (4 * length es) start i 0))

      behind : drop (4 * length es) directory ≡ drop (length (entry_words es)) start
      behind = dropped ∙ ap (λ (k : ℕ). drop k start) (sym (words-length es))

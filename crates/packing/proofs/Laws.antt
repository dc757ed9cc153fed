-- What callers cite of stores one after the other and of a cleared table: the lengths, what stands where, and that clearing twice is clearing once.
-- By induction on the lists. Assumes nothing.
use mathlib.Core.Path.{◌≡◌, refl, ap, ap₂, ◌∙◌}
use mathlib.Core.List.{List, [], ◌∷◌, ◌++◌}
use Prim.Native.Nat.{ℕ, zero, suc, min, ◌+◌, ◌≤◌, ◌<◌}
use native.Mathlib.Nat.{add-zero, zero-add, zero-min, min-zero, suc-min-suc}
use native.Mathlib.Numerals.{add-one}
use native.Mathlib.Omega.{arith}
use lib.ListN.{length, get_or, set, take, drop, replicate}
use lib.Seq.{sets, sets-eq, length-sets, set_out, drop-nil, take-append_seam, drop-append_seam}
use Rattle.scope.specs.Tables.{zeroed}
use Rattle.packing.specs.Cleared.{cleared}

-- ---- stores one after the other

module _ {Word : Type 0} where
  -- stores keep the length
  pub stores-keep-the-length : (l : List Word) (i : ℕ) (vs : List Word) → length (sets l i vs) ≡ length l
  stores-keep-the-length l i vs = length-sets l i vs

  -- where there is room, stores from word 0 on put their values in front
  pub stores-from-the-start : (l vs : List Word) → length vs ≤ length l → sets l 0 vs ≡ vs ++ drop (length vs) l
  stores-from-the-start l vs h = sets-eq vs l 0 (rw zero-add h) ∙ rw zero-add

  pub stored-words-stand-first : (l vs : List Word) → length vs ≤ length l → take (length vs) (sets l 0 vs) ≡ vs
  stored-words-stand-first l vs h = rw stores-from-the-start (take-append_seam vs (drop (length vs) l))

  -- and the words past them stay
  pub words-past-the-stores-stay : (l vs : List Word) → length vs ≤ length l → drop (length vs) (sets l 0 vs) ≡ drop (length vs) l
  words-past-the-stores-stay l vs h = rw stores-from-the-start (drop-append_seam vs (drop (length vs) l))

  -- two runs of stores are one
  pub stores-follow : (l : List Word) (i : ℕ) (vs ws : List Word) → sets l i (vs ++ ws) ≡ sets (sets l i vs) (i + length vs) ws
  stores-follow l i [] ws = rw add-zero
  stores-follow l i (v ∷ vs) ws =
      let e : i + suc (length vs) ≡ suc i + length vs = omega arith in
      rw e (stores-follow (set l i v) (suc i) vs ws)

  -- past the end nothing is stored
  pub stores-past-the-end : (l : List Word) (i : ℕ) (vs : List Word) → length l ≤ i → sets l i vs ≡ l
  stores-past-the-end l i [] h = refl
  stores-past-the-end l i (v ∷ vs) h = rw (set_out l i v) (stores-past-the-end l (suc i) vs (omega arith))

-- ---- a cleared table

cleared-empty : (words : ℕ) → cleared [] words ≡ []
unfolding cleared
cleared-empty words = rw (min-zero, drop-nil)

-- with no words asked the table stays
pub cleared-none : (table : List ℕ) → cleared table 0 ≡ table
unfolding cleared
cleared-none table = rw zero-min

cleared-word : (w : ℕ) (table : List ℕ) (words : ℕ) → cleared (w ∷ table) (suc words) ≡ 0 ∷ cleared table words
unfolding cleared
cleared-word w table words = rw suc-min-suc

-- clearing keeps the length
pub clearing-keeps-the-length : (table : List ℕ) (words : ℕ) → length (cleared table words) ≡ length table
clearing-keeps-the-length [] words = rw cleared-empty
clearing-keeps-the-length (w ∷ table) zero = rw cleared-none
clearing-keeps-the-length (w ∷ table) (suc words) = rw cleared-word (ap suc (clearing-keeps-the-length table words))

-- a word that was cleared is 0
pub a-cleared-word-is-0 : (table : List ℕ) (words i : ℕ) → i < words → get_or (cleared table words) i 0 ≡ 0
a-cleared-word-is-0 [] words i h = rw cleared-empty
a-cleared-word-is-0 (w ∷ table) zero i h = absurd (omega arith)
a-cleared-word-is-0 (w ∷ table) (suc words) zero h = rw cleared-word
a-cleared-word-is-0 (w ∷ table) (suc words) (suc i) h = rw cleared-word (a-cleared-word-is-0 table words i (omega arith))

-- the words past those that were cleared stay
pub the-rest-stays : (table : List ℕ) (words : ℕ) → drop words (cleared table words) ≡ drop words table
the-rest-stays [] words = rw cleared-empty
the-rest-stays (w ∷ table) zero = cleared-none (w ∷ table)
the-rest-stays (w ∷ table) (suc words) = rw cleared-word (the-rest-stays table words)

-- a table with no more words than asked is all 0
pub a-table-is-cleared-whole : (table : List ℕ) (words : ℕ) → length table ≤ words → cleared table words ≡ replicate (length table) 0
a-table-is-cleared-whole [] words h = cleared-empty words
a-table-is-cleared-whole (w ∷ table) zero h = absurd (omega arith)
a-table-is-cleared-whole (w ∷ table) (suc words) h = cleared-word w table words ∙ rw (a-table-is-cleared-whole table words (omega arith))

-- clearing twice is clearing once
pub clearing-twice-is-once : (table : List ℕ) (words : ℕ) → cleared (cleared table words) words ≡ cleared table words
clearing-twice-is-once [] words = rw (cleared-empty words, cleared-empty words)
clearing-twice-is-once (w ∷ table) zero = cleared-none (cleared (w ∷ table) 0)
clearing-twice-is-once (w ∷ table) (suc words) = rw (cleared-word w, cleared-word 0, clearing-twice-is-once table words)

-- one word more is one more store of 0
pub one_word_more : (table : List ℕ) (i : ℕ) → set (cleared table i) i 0 ≡ cleared table (i + 1)
one_word_more table i = rw add-one (one_more table i)
  where
    one_more : (table : List ℕ) (i : ℕ) → set (cleared table i) i 0 ≡ cleared table (suc i)
    one_more [] i = rw (cleared-empty i, cleared-empty (suc i))
    one_more (w ∷ table) zero = rw (cleared-none (w ∷ table), cleared-word w table 0, cleared-none table)
    one_more (w ∷ table) (suc i) = rw (cleared-word w table i, cleared-word w table (suc i), one_more table i)

-- a cleared table is zeroed, where its words past the need are as they were
pub cleared-is-zeroed : (need : ℕ) (table table' : List ℕ) → need ≤ length table' → drop need table' ≡ drop need table → cleared table' need ≡ zeroed need table
unfolding cleared zeroed
cleared-is-zeroed need table table' long past = ap₂ (λ (n : ℕ) (l : List ℕ). replicate n 0 ++ l) less past
  where
    less : min need (length table') ≡ need
    less = omega arith

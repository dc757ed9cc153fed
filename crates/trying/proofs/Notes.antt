-- Notes of lines: a line is noted where each of its two words has the other word and its half of the digits of the line's size. What the trial reads from such notes,
-- and what it notes for a line that is lengthened, joined or new. Assumes nothing.
use mathlib.Core.Path.{◌≡◌, refl, sym, ◌∙◌, ap, ap₂}
use mathlib.Core.Bool.{true}
use mathlib.Core.List.{List, [], ◌∷◌, ◌++◌}
use Prim.Native.Nat.{ℕ, ◌+◌, ◌*◌, ◌/◌, ◌%◌, ◌^◌, ◌≤◌, ◌<◌}
use native.Mathlib.Omega.{arith}
use lib.ListN.{length, get_or, set, length-set}
use lib.Seq.{get_or-set_same, get_or-set_other}
use Rattle.scope.specs.Cells.{Point}
use Rattle.scope.specs.Stitching.{Line, starts_at, ends_at}
use Rattle.laws.proofs.Strokes.{Role, begin, finish, other}
use Rattle.laws.proofs.Tips.{edge_word}
use Rattle.laws.proofs.Sizes.{size, size-appended, size-prepended, size-joined}
use Rattle.laws.proofs.LineWords.{word_by, word_at, begin-of-joined, finish-of-joined, finish-of-prepended, finish-of-appended, begin-of-prepended, Clear, Apt}
use Rattle.trying.specs.Notes.{note_of, place_in, half_in, size_between, noted}

-- what a note gives back
place-back : (place half : ℕ) → place < 2 ^ 17 → place_in (note_of place half) ≡ place
unfolding place_in note_of
place-back place half h = omega arith

half_back : (place half : ℕ) → half_in (note_of place half) ≡ half % 2 ^ 15
unfolding half_in note_of
half_back place half = omega arith

-- the digits that a role's word has
unfoldable pub digits : Role → ℕ → ℕ
digits begin n = n
digits finish n = n / 2 ^ 15

pub length-noted : (words : List ℕ) (s e n : ℕ) → length (noted words s e n) ≡ length words
unfolding noted
length-noted words s e n = length-set (set words s (note_of e n)) e (note_of s (n / 2 ^ 15)) ∙ length-set words s (note_of e n)

module _ (dx : ℕ) where
  -- the words note the line
  abbrev pub Right : List ℕ → Line → Type 0
  Right words l = (role : Role) → get_or words (word_by dx role l) 0 ≡ note_of (word_by dx (other role) l) (digits role (size l))

  -- the words with the line noted
  unfoldable pub with_line : List ℕ → Line → List ℕ
  with_line words l = noted words (word_by dx begin l) (word_by dx finish l) (size l)

  pub length-with-line : (words : List ℕ) (l : Line) → length (with_line words l) ≡ length words
  unfolding with_line
  length-with-line words l = length-noted words (word_by dx begin l) (word_by dx finish l) (size l)

  pub right_new : (words : List ℕ) (l : Line) → dx + 2 ≤ length words → Apt dx l → Right (with_line words l) l
  unfolding with_line noted digits
  right_new words l long apt begin =
      get_or-set_other (set words (word_by dx begin l) (note_of (word_by dx finish l) (size l))) (word_by dx finish l) (word_by dx begin l) (note_of (word_by dx begin l) (size l / 2 ^ 15)) 0 apt.proper
      ∙ get_or-set_same words (word_by dx begin l) (note_of (word_by dx finish l) (size l)) 0 (omega (arith, apt.low begin))
  right_new words l long apt finish =
      get_or-set_same (set words (word_by dx begin l) (note_of (word_by dx finish l) (size l))) (word_by dx finish l) (note_of (word_by dx begin l) (size l / 2 ^ 15)) 0
      (omega (arith, apt.low finish, length-set words (word_by dx begin l) (note_of (word_by dx finish l) (size l))))

  pub right-stays : (words : List ℕ) (l m : Line) → Right words l → Clear dx l m → Right (with_line words m) l
  unfolding with_line noted
  right-stays words l m right clear role =
      get_or-set_other (set words (word_by dx begin m) (note_of (word_by dx finish m) (size m))) (word_by dx finish m) (word_by dx role l) (note_of (word_by dx begin m) (size m / 2 ^ 15)) 0 (clear role finish)
      ∙ get_or-set_other words (word_by dx begin m) (word_by dx role l) (note_of (word_by dx finish m) (size m)) 0 (clear role begin)
      ∙ right role

  -- ---- what is read

  -- a line that is noted, whose words are low and whose size is small
  pub record Readable (words : List ℕ) (l : Line) : Type 0 where
    pub right : Right words l
    pub low : (role : Role) → word_by dx role l < 2 ^ 17
    pub small : size l < 2 ^ 30

  pub other_word : (words : List ℕ) (l : Line) → Readable words l → (role : Role) → place_in (get_or words (word_by dx role l) 0) ≡ word_by dx (other role) l
  other_word words l k role = ap place_in (k.right role) ∙ place-back (word_by dx (other role) l) (digits role (size l)) (k.low (other role))

  pub size-read : (words : List ℕ) (l : Line) → Readable words l → size_between words (word_by dx begin l) (word_by dx finish l) ≡ size l
  unfolding size_between digits
  size-read words l k =
      ap₂ (λ (m n : ℕ). m + 2 ^ 15 * n)
      (ap half_in (k.right begin) ∙ half_back (word_by dx finish l) (size l))
      (ap half_in (k.right finish) ∙ half_back (word_by dx begin l) (size l / 2 ^ 15))
      ∙ omega (arith, k.small)

  -- ---- what is noted, by the points at which lines end and start
  module _ (words : List ℕ) (s e : Point) where
    -- the line that ends at s, by s
    module _ (f : Line) (hs : ends_at s f ≡ true) (k : Readable words f) where
      pub start_of : place_in (get_or words (edge_word dx s) 0) ≡ word_by dx begin f
      start_of = ap (λ (w : ℕ). place_in (get_or words w 0)) (sym (word_at dx finish s f hs)) ∙ other_word words f k finish

      pub size-to : size_between words (word_by dx begin f) (edge_word dx s) ≡ size f
      size-to = ap (size_between words (word_by dx begin f)) (sym (word_at dx finish s f hs)) ∙ size-read words f k

      pub end-noted : noted words (place_in (get_or words (edge_word dx s) 0)) (edge_word dx e) (size_between words (place_in (get_or words (edge_word dx s) 0)) (edge_word dx s) + 1) ≡ with_line words (f ++ (e ∷ []))
      unfolding with_line
      end-noted =
          rw (start_of, size-to, begin-of-joined dx s e f (e ∷ []) hs, finish-of-appended dx s e f (e ∷ []), size-appended s e f [] hs) refl

    -- the line that starts at e, by e
    module _ (g : Line) (he : starts_at e g ≡ true) (k : Readable words g) where
      pub end_of : place_in (get_or words (edge_word dx e) 0) ≡ word_by dx finish g
      end_of = ap (λ (w : ℕ). place_in (get_or words w 0)) (sym (word_at dx begin e g he)) ∙ other_word words g k begin

      pub size-from : size_between words (edge_word dx e) (word_by dx finish g) ≡ size g
      size-from = ap (λ (w : ℕ). size_between words w (word_by dx finish g)) (sym (word_at dx begin e g he)) ∙ size-read words g k

      pub start-noted : noted words (edge_word dx s) (place_in (get_or words (edge_word dx e) 0)) (size_between words (edge_word dx e) (place_in (get_or words (edge_word dx e) 0)) + 1) ≡ with_line words (s ∷ g)
      unfolding with_line
      start-noted =
          rw (end_of, size-from, begin-of-prepended dx s e [] g, finish-of-prepended dx s e [] g he, size-prepended s e [] g he) refl

    pub open-noted : noted words (edge_word dx s) (edge_word dx e) 1 ≡ with_line words (s ∷ e ∷ [])
    unfolding with_line word_by size
    open-noted = refl

    pub join-noted : (f g : Line) → ends_at s f ≡ true → starts_at e g ≡ true → Readable words f → Readable words g
        → noted words (place_in (get_or words (edge_word dx s) 0)) (place_in (get_or words (edge_word dx e) 0))
        (size_between words (place_in (get_or words (edge_word dx s) 0)) (edge_word dx s) + size_between words (edge_word dx e) (place_in (get_or words (edge_word dx e) 0)) + 1)
        ≡ with_line words (f ++ g)
    unfolding with_line
    join-noted f g hs he kf kg =
        rw (start_of f hs kf, end_of g he kg, size-to f hs kf, size-from g he kg, begin-of-joined dx s e f g hs, finish-of-joined dx s e f g he, size-joined s e f g hs he) refl

    -- the line that starts at e and ends at s: one that closes
    pub ring-read : (f : Line) → ends_at s f ≡ true → starts_at e f ≡ true → Readable words f → size_between words (edge_word dx e) (edge_word dx s) ≡ size f
    ring-read f hs he k = ap₂ (size_between words) (sym (word_at dx begin e f he)) (sym (word_at dx finish s f hs)) ∙ size-read words f k

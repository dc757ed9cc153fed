-- The frontier noted from the slots: each line is noted at the words of its tips, the other words are 0, and words past the frontier stay. Assumes nothing.
use mathlib.Core.Path.{◌≡◌, refl, sym, ◌∙◌, ap, ap₂}
use mathlib.Core.List.{List, [], ◌∷◌, ◌++◌, append_assoc}
use Prim.Native.Nat.{ℕ, zero, suc, ◌+◌, ◌-◌, ◌^◌, ◌≤◌, ◌<◌, min}
use native.Mathlib.Omega.{arith}
use lib.ListN.{length, get_or, set, drop, replicate, length-append}
use lib.Seq.{get_or-drop}
use Rattle.scope.specs.Stitching.{Line}
use Rattle.laws.proofs.Strokes.{Role, begin, finish, other}
use Rattle.laws.proofs.Sizes.{size}
use Rattle.laws.proofs.LineWords.{word_by, Apt, Spread}
use Rattle.laws.proofs.Stored.{stored, stored_past, stored-front, stored_there}
use Rattle.machine.specs.Machine.{column_word, first_link, end_point, link_count, link_point}
use Rattle.machine.proofs.Slotted.{Slotted, slotted-same}
use Rattle.packing.specs.Cleared.{cleared}
use Rattle.packing.proofs.Laws.{clearing-keeps-the-length, a-cleared-word-is-0, the-rest-stays}
use Rattle.trying.specs.Notes.{note_of, place_in, noted, slots_noted, frontier_noted}
use Rattle.trying.proofs.Notes.{digits, Right}
use Rattle.trying.proofs.Low.{Low, low-note, low-set}

-- what a line's words note
abbrev pub note_by : ℕ → List Line → ℕ → Role → ℕ
note_by dx ls i role = note_of (word_by dx (other role) (get_or ls i [])) (digits role (size (get_or ls i [])))

module _ (dx : ℕ) (links : List ℕ) (ls : List Line) (apt : (i : ℕ) → i < length ls → Apt dx (get_or ls i [])) where
  same-past : (lines : List ℕ) (n : ℕ) → n ≤ length ls → (w : ℕ) → dx + 2 ≤ w → get_or (stored dx (note_by dx ls) ls lines n) w 0 ≡ get_or lines w 0
  same-past lines n hn w hw = stored_past dx (note_by dx ls) ls apt lines n w hn hw

  slots-noted : (lines : List ℕ) → Slotted dx lines links ls → (n : ℕ) → n ≤ length ls → slots_noted dx links lines n ≡ stored dx (note_by dx ls) ls lines n
  unfolding slots_noted stored
  slots-noted lines slots zero hn = refl
  slots-noted lines slots (suc n) hn =
      ap (λ (l : List ℕ). noted l (column_word dx (link_point links (first_link dx l n))) (column_word dx (end_point dx l n)) (link_count dx l n)) (slots-noted lines slots n (omega arith))
      ∙ (unfold noted digits in
      rw (there.starts n (omega arith), there.ends n (omega arith), there.sizes n (omega arith)) refl)
    where
      there : Slotted dx (stored dx (note_by dx ls) ls lines n) links ls
      there = slotted-same dx lines (stored dx (note_by dx ls) ls lines n) (same-past lines n (omega arith)) links ls slots

  pub past-cleared : (lines : List ℕ) (w : ℕ) → dx + 2 ≤ w → get_or (cleared lines (dx + 2)) w 0 ≡ get_or lines w 0
  past-cleared lines w hw =
      let place : dx + 2 + (w - (dx + 2)) ≡ w = omega arith in
      ap (λ (k : ℕ). get_or (cleared lines (dx + 2)) k 0) (sym place)
      ∙ sym (get_or-drop (dx + 2) (cleared lines (dx + 2)) (w - (dx + 2)) 0)
      ∙ ap (λ (l : List ℕ). get_or l (w - (dx + 2)) 0) (the-rest-stays lines (dx + 2))
      ∙ get_or-drop (dx + 2) lines (w - (dx + 2)) 0
      ∙ ap (λ (k : ℕ). get_or lines k 0) place

  -- the frontier as the lines give it
  pub frontier-noted : (lines : List ℕ) → Slotted dx lines links ls → frontier_noted dx links lines (length ls) ≡ stored dx (note_by dx ls) ls (cleared lines (dx + 2)) (length ls)
  unfolding frontier_noted
  frontier-noted lines slots =
      slots-noted (cleared lines (dx + 2)) (slotted-same dx lines (cleared lines (dx + 2)) (past-cleared lines) links ls slots) (length ls) (omega arith)

-- every line is noted then
pub all_noted : (dx : ℕ) (ls : List Line) → Spread dx ls → (words : List ℕ) → dx + 2 ≤ length words
    → (i : ℕ) → i < length ls → Right dx (stored dx (note_by dx ls) ls words (length ls)) (get_or ls i [])
all_noted dx ls spread words long i hi role = stored_there dx (note_by dx ls) ls spread words long (length ls) i (omega arith) hi role

-- a frontier that is as the lines give it is found again from any table with the same slots
pub found-again : (dx : ℕ) (ls : List Line) (lines lines' : List ℕ) → length lines' ≡ length lines → drop (dx + 2) lines' ≡ drop (dx + 2) lines
    → stored dx (note_by dx ls) ls (cleared lines' (dx + 2)) (length ls) ≡ stored dx (note_by dx ls) ls (cleared lines (dx + 2)) (length ls)
unfolding cleared
found-again dx ls lines lines' long past =
    ap₂ (λ (n : ℕ) (l : List ℕ). stored dx (note_by dx ls) ls (replicate (min (dx + 2) n) 0 ++ l) (length ls)) long past

-- and in a longer table
pub found-longer : (dx : ℕ) (ls : List Line) → ((i : ℕ) → i < length ls → Apt dx (get_or ls i [])) → (lines more : List ℕ) → dx + 2 ≤ length lines
    → stored dx (note_by dx ls) ls (cleared (lines ++ more) (dx + 2)) (length ls) ≡ stored dx (note_by dx ls) ls (cleared lines (dx + 2)) (length ls) ++ more
found-longer dx ls apt lines more long =
    ap (λ (l : List ℕ). stored dx (note_by dx ls) ls l (length ls)) longer
    ∙ stored-front dx (note_by dx ls) ls apt (cleared lines (dx + 2)) more (length ls) (omega arith) (omega (arith, clearing-keeps-the-length lines (dx + 2)))
  where
    longer : cleared (lines ++ more) (dx + 2) ≡ cleared lines (dx + 2) ++ more
    longer = front (dx + 2) lines long
      where
        front : (n : ℕ) (xs : List ℕ) → n ≤ length xs → cleared (xs ++ more) n ≡ cleared xs n ++ more
        front n xs h =
            unfold cleared in
            ap₂ (λ (k : ℕ) (l : List ℕ). replicate k 0 ++ l) (fewer n xs h) (drop-front n xs h)
            ∙ sym (append_assoc (replicate (min n (length xs)) 0) (drop n xs) more)
          where
            fewer : (n : ℕ) (xs : List ℕ) → n ≤ length xs → min n (length (xs ++ more)) ≡ min n (length xs)
            fewer n xs h = omega (arith, length-append xs more)

            drop-front : (n : ℕ) (xs : List ℕ) → n ≤ length xs → drop n (xs ++ more) ≡ drop n xs ++ more
            drop-front zero xs h = refl
            drop-front (suc n) [] h = absurd (omega arith)
            drop-front (suc n) (x ∷ xs) h = drop-front n xs (omega arith)

-- its notes name words of the frontier
module _ (dx : ℕ) (narrow : dx + 2 ≤ 2 ^ 17) (ls : List Line) (apt : (i : ℕ) → i < length ls → Apt dx (get_or ls i [])) where
  cleared-low : (lines : List ℕ) → Low dx (cleared lines (dx + 2))
  cleared-low lines w hw = rw (a-cleared-word-is-0 lines (dx + 2) w hw) (unfold place_in in omega arith)

  stored_low : (words : List ℕ) → Low dx words → (n : ℕ) → n ≤ length ls → Low dx (stored dx (note_by dx ls) ls words n)
  unfolding stored
  stored_low words low zero hn = low
  stored_low words low (suc n) hn =
      low-set dx narrow (set (stored dx (note_by dx ls) ls words n) (word_by dx begin (get_or ls n [])) (note_by dx ls n begin)) (word_by dx finish (get_or ls n [])) (note_by dx ls n finish)
      (low-set dx narrow (stored dx (note_by dx ls) ls words n) (word_by dx begin (get_or ls n [])) (note_by dx ls n begin) (stored_low words low n (omega arith))
      (low-note dx narrow (word_by dx finish (get_or ls n [])) (digits begin (size (get_or ls n []))) ((apt n (omega arith)).low finish)))
      (low-note dx narrow (word_by dx begin (get_or ls n [])) (digits finish (size (get_or ls n []))) ((apt n (omega arith)).low begin))

  pub frontier-low : (lines : List ℕ) → Low dx (stored dx (note_by dx ls) ls (cleared lines (dx + 2)) (length ls))
  frontier-low lines = stored_low (cleared lines (dx + 2)) (cleared-low lines) (length ls) (omega arith)

-- A row of cells word by word: the words of the samples above and below it, the active cells of a word one after the other, and the marks of the tiles.
-- Callers cite these of every loop over a row. The steps are laws of packed bits. Assumes nothing.
use mathlib.Core.Path.{◌≡◌, refl, sym, ◌∙◌, ap, subst}
use mathlib.Core.Bool.{Bool, true, false, false≢true}
use mathlib.Core.List.{List, [], ◌∷◌}
use Prim.Native.Nat.{ℕ, zero, suc, ◌+◌, ◌-◌, ◌*◌, ◌≤◌, ◌<◌}
use native.Mathlib.Decide.{dec_lt, ℕ_discrete}
use native.Mathlib.Omega.{arith}
use lib.ListN.{length, get_or, set, replicate, length-set, length-replicate}
use lib.Seq.{get_or-set_same, get_or-set_other}
use Rattle.scope.specs.Limits.{side_limit}
use Rattle.scope.specs.Terrain.{Sheet}
use Rattle.words.specs.Bits.{packed, bit_at, holding, set_bits}
use Rattle.words.specs.Panes.{active, Shows, pane_of, changes_in}
use Rattle.words.specs.declared.Pane.{Pane}
use Rattle.words.proofs.Laws.{none-packed, bit-is-test, pane-shows, changes-shown, none_found, rows-go-on, words-agree}
use Rattle.words.proofs.Places.{packed-held, First, first-is, none-is-left}
use Rattle.laws.proofs.Edges.{Outside}
use Rattle.scan.specs.Rows.{word_from, Kept, tile_of, Quiet, Noted, Marked}

-- ---- past the last cell

module _ (A : Sheet) {dx dy : ℕ} (out : Outside A dx dy) where
  pub nothing-active-outside : (r c : ℕ) → dx < c → active A r c ≡ false
  nothing-active-outside r c h =
      rw (out.no-column-after c r h, out.no-column-after c (suc r) h, out.no-column-after (suc c) r (omega arith), out.no-column-after (suc c) (suc r) (omega arith)) refl

  pub an-active-cell-is-inside : (r c : ℕ) → active A r c ≡ true → c ≤ dx
  an-active-cell-is-inside r c h =
      elim (dec_lt dx c) [
        | yes far ↦ absurd (false≢true (sym (nothing-active-outside r c far) ∙ h))
        | no near ↦ omega arith
      ]

  no-word-outside : (s c : ℕ) → dx ≤ c → word_from A s c ≡ 0
  unfolding word_from
  no-word-outside s c h = none-packed (λ j. A (suc (c + j)) s) 64 (λ j. out.no-column-after (suc (c + j)) s (omega arith))

-- ---- above the first row

zeros : (n i : ℕ) → get_or {A = ℕ} (replicate n 0) i 0 ≡ 0
zeros zero i = refl
zeros (suc n) zero = refl
zeros (suc n) (suc i) = zeros n i

pub no-words-above : (A : Sheet) {dx dy : ℕ} → Outside A dx dy → Kept A 0 (replicate 65 0)
no-words-above A out = record {
  row-size = length-replicate {A = ℕ} 65 0;
  kept = λ w. zeros 65 w ∙ sym (unfold word_from in none-packed (λ j. A (suc (64 * w + j)) 0) 64 (λ j. out.no-row-before (suc (64 * w + j))));
}

-- ---- the active cells of a word

-- of the sixty-four cells of row r from cell c on, `at` are seen, and the places of the other active ones are left
pub record Unseen (A : Sheet) (r c at : ℕ) (left : List ℕ) : Type 0 where
  pub seen : at ≤ 64
  pub unseen : left ≡ holding (λ j. active A r (c + j)) at (64 - at)

-- the next active cell is cell j, and then these are left
pub record Next (A : Sheet) (r c at j : ℕ) (left : List ℕ) : Type 0 where
  pub further : at ≤ j
  pub in-word : j < 64
  pub none_between : (k : ℕ) → k < j - at → active A r (c + at + k) ≡ false
  pub active-there : active A r (c + j) ≡ true
  pub unseen-then : Unseen A r c (j + 1) left

module _ (A : Sheet) (r c : ℕ) where
  -- at first the set bits of the changes are left
  pub unseen-begin : {pane : Pane} {changes : ℕ} {left : List ℕ} → Shows A r c pane → changes ≡ changes_in pane → left ≡ set_bits changes → Unseen A r c 0 left
  unseen-begin shows e l = record {
    seen = omega arith;
    unseen = l ∙ ap set_bits (e ∙ changes-shown A r c shows) ∙ packed-held (λ j. active A r (c + j));
  }

  pub unseen-next : {at j : ℕ} {left more : List ℕ} → Unseen A r c at left → left ≡ j ∷ more → Next A r c at j more
  unseen-next {at} {j} {left} {more} u e =
      let first : First (λ j. active A r (c + j)) at (64 - at) j more = first-is (λ j. active A r (c + j)) at (64 - at) (sym u.unseen ∙ e) in
      record {
        further = first.not-before;
        in-word = omega (arith, first.in-range, u.seen);
        none_between = λ k l. ap (active A r) (omega arith) ∙ first.none_between (at + k) (omega arith) (omega arith);
        active-there = first.holds;
        unseen-then = record {
          seen = omega (arith, first.in-range, u.seen);
          unseen = first.then-more ∙ ap (holding (λ j. active A r (c + j)) (j + 1)) (omega (arith, u.seen));
        };
      }

  pub unseen-end : {at : ℕ} {left : List ℕ} → Unseen A r c at left → left ≡ [] → (j : ℕ) → j < 64 - at → active A r (c + at + j) ≡ false
  unseen-end {at} u e j l =
      ap (active A r) (omega arith) ∙ none-is-left (λ j. active A r (c + j)) at (64 - at) (sym u.unseen ∙ e) (at + j) (omega arith) (omega arith)

  -- where a pane has no changes, none of its cells is active
  pub none-changes : {pane : Pane} → Shows A r c pane → changes_in pane ≡ 0 → (j : ℕ) → j < 64 → active A r (c + j) ≡ false
  none-changes shows e = none_found (λ j. active A r (c + j)) 64 (sym (changes-shown A r c shows) ∙ e)

-- ---- the words of a row

-- the words so far are those below the row's cells, the others those above; and the samples on the left of the next cell
pub record Walked (A : Sheet) (r w : ℕ) (row : List ℕ) (upper lower : Bool) : Type 0 where
  pub left-upper : upper ≡ A (64 * w) r
  pub left-lower : lower ≡ A (64 * w) (suc r)
  pub below : (v : ℕ) → v < w → get_or row v 0 ≡ word_from A (suc r) (64 * v)
  pub still-above : (v : ℕ) → w ≤ v → get_or row v 0 ≡ word_from A r (64 * v)
  pub row-size : length row ≡ 65

module _ (A : Sheet) (r : ℕ) where
  pub walk_begins : {dx dy : ℕ} {row : List ℕ} → Outside A dx dy → Kept A r row → Walked A r 0 row false false
  walk_begins out k = record {
    left-upper = sym (out.no-column-before r);
    left-lower = sym (out.no-column-before (suc r));
    below = λ v l. absurd (omega arith);
    still-above = λ v l. k.kept v;
    row-size = k.row-size;
  }

  pub walk_ends : {dx dy w : ℕ} {row : List ℕ} {upper lower : Bool} → Outside A dx dy → Walked A r w row upper lower → dx < 64 * w → Kept A (suc r) row
  walk_ends {w = w} {row} out walked far = record { row-size = walked.row-size; kept = word }
    where
      word : (v : ℕ) → get_or row v 0 ≡ word_from A (suc r) (64 * v)
      word v =
          elim (dec_lt v w) [
            | yes l ↦ walked.below v l
            | no l ↦ walked.still-above v (omega arith) ∙ no-word-outside A out r (64 * v) (omega arith) ∙ sym (no-word-outside A out (suc r) (64 * v) (omega arith))
          ]

  module _ {w upper-word lower_word : ℕ} {row : List ℕ} {upper lower : Bool} (walked : Walked A r w row upper lower)
      (eu : upper-word ≡ get_or row w 0) (el : lower_word ≡ word_from A (suc r) (64 * w)) where
    upper_is : upper-word ≡ packed (λ j. A (suc (64 * w + j)) r) 64
    unfolding word_from
    upper_is = eu ∙ walked.still-above w (omega arith)

    lower-is : lower_word ≡ packed (λ j. A (suc (64 * w + j)) (suc r)) 64
    unfolding word_from
    lower-is = el

    pub pane-there : {pane : Pane} → pane ≡ pane_of upper-word lower_word upper lower → Shows A r (64 * w) pane
    pane-there e = rw e (pane-shows A r (64 * w) upper_is lower-is walked.left-upper walked.left-lower)

    last-sample : (s : ℕ) {word : ℕ} {b : Bool} → word ≡ packed (λ j. A (suc (64 * w + j)) s) 64 → b ≡ bit_at word 63 → b ≡ A (64 * (w + 1)) s
    last-sample s e eb =
        let last : suc (64 * w + 63) ≡ 64 * (w + 1) = omega arith in
        eb ∙ ap (λ (x : ℕ). bit_at x 63) e ∙ bit-is-test (λ j. A (suc (64 * w + j)) s) 64 63 (omega arith) ∙ ap (λ (k : ℕ). A k s) last

    pub walk-goes-on : {next-upper next-lower : Bool} → w < 65 → next-upper ≡ bit_at upper-word 63 → next-lower ≡ bit_at lower_word 63 →
        Walked A r (w + 1) (set row w lower_word) next-upper next-lower
    walk-goes-on inside bu bl = record {
      left-upper = last-sample r upper_is bu;
      left-lower = last-sample (suc r) lower-is bl;
      below = now-below;
      still-above = λ v l. get_or-set_other row w v lower_word 0 (λ e. omega arith) ∙ walked.still-above v (omega arith);
      row-size = length-set row w lower_word ∙ walked.row-size;
    }
      where
        now-below : (v : ℕ) → v < w + 1 → get_or (set row w lower_word) v 0 ≡ word_from A (suc r) (64 * v)
        now-below v l =
            elim (ℕ_discrete v w) [
              | yes e ↦ subst (λ (k : ℕ). get_or (set row w lower_word) k 0 ≡ word_from A (suc r) (64 * k)) (sym e) (get_or-set_same row w lower_word 0 (omega (arith, walked.row-size)) ∙ el)
              | no ne ↦ get_or-set_other row w v lower_word 0 ne ∙ walked.below v (omega arith)
            ]

  -- a word without active cells: it stays, and so do the samples on the left
  pub walk-goes-over : {w : ℕ} {row : List ℕ} {upper lower : Bool} → Walked A r w row upper lower → Quiet A r w → Walked A r (w + 1) row upper lower
  walk-goes-over {w} {row} walked quiet =
      let on = rows-go-on A r (64 * w) 64 quiet in
      record {
        left-upper = walked.left-upper ∙ sym on.0 ∙ ap (λ (k : ℕ). A k r) (omega arith);
        left-lower = walked.left-lower ∙ sym on.1 ∙ ap (λ (k : ℕ). A k (suc r)) (omega arith);
        below = now-below;
        still-above = λ v l. walked.still-above v (omega arith);
        row-size = walked.row-size;
      }
    where
      now-below : (v : ℕ) → v < w + 1 → get_or row v 0 ≡ word_from A (suc r) (64 * v)
      now-below v l =
          elim (ℕ_discrete v w) [
            | yes e ↦ subst (λ (k : ℕ). get_or row k 0 ≡ word_from A (suc r) (64 * k)) (sym e) (walked.still-above w (omega arith) ∙ same_word)
            | no ne ↦ walked.below v (omega arith)
          ]
        where
          same_word : word_from A r (64 * w) ≡ word_from A (suc r) (64 * w)
          same_word = unfold word_from in words-agree A r (64 * w) quiet

-- ---- the marks of the tiles

-- all rows before row r are marked, and of row r the words before word w
pub record MarkedTo (A : Sheet) (r w : ℕ) (marks : List ℕ) : Type 0 where
  pub rows-marked : Marked A r marks
  pub words-marked : (v : ℕ) → v < w → get_or marks (tile_of r v) 0 ≡ 0 → Quiet A r v

pub a-tile-has-a-mark : {r w : ℕ} → r ≤ side_limit → w < 65 → tile_of r w < 4096
unfolding tile_of side_limit
a-tile-has-a-mark h l = omega arith

module _ (A : Sheet) (r : ℕ) where
  pub quiet-word-noted : (w : ℕ) (marks : List ℕ) → Quiet A r w → Noted A r w marks marks
  quiet-word-noted w marks quiet = record { same_size = refl; none-lost = λ t z. z; noted = λ z. quiet }

  pub marked-word-noted : (w : ℕ) (marks : List ℕ) → tile_of r w < length marks → Noted A r w marks (set marks (tile_of r w) 1)
  marked-word-noted w marks inside = record {
    same_size = length-set marks (tile_of r w) 1;
    none-lost = lost;
    noted = λ z. absurd (omega (arith, z, get_or-set_same marks (tile_of r w) 1 0 inside));
  }
    where
      lost : (t : ℕ) → get_or (set marks (tile_of r w) 1) t 0 ≡ 0 → get_or marks t 0 ≡ 0
      lost t z =
          elim (ℕ_discrete t (tile_of r w)) [
            | yes e ↦
                absurd (omega (arith, subst (λ (k : ℕ). get_or (set marks (tile_of r w) 1) k 0 ≡ 0) e z, get_or-set_same marks (tile_of r w) 1 0 inside))
            | no ne ↦ sym (get_or-set_other marks (tile_of r w) t 1 0 ne) ∙ z
          ]

  pub no-row-marked : {marks : List ℕ} → length marks ≡ 4096 → Marked A 0 marks
  no-row-marked all = record { marks-size = all; marked = λ s w h. absurd (omega arith) }

  pub marked-as-far : {rows far : ℕ} {marks : List ℕ} → rows ≡ far → Marked A rows marks → Marked A far marks
  marked-as-far {marks = marks} e m = subst (λ (s : ℕ). Marked A s marks) e m

  pub row-begins : {marks : List ℕ} → Marked A r marks → MarkedTo A r 0 marks
  row-begins m = record { rows-marked = m; words-marked = λ v l. absurd (omega arith) }

  pub word-noted : {w : ℕ} {before after : List ℕ} → MarkedTo A r w before → Noted A r w before after → MarkedTo A r (w + 1) after
  word-noted {w} {before} {after} m n = record {
    rows-marked = record {
      marks-size = n.same_size ∙ m.rows-marked.marks-size;
      marked = λ s v h l z. m.rows-marked.marked s v h l (n.none-lost (tile_of s v) z);
    };
    words-marked = words;
  }
    where
      words : (v : ℕ) → v < w + 1 → get_or after (tile_of r v) 0 ≡ 0 → Quiet A r v
      words v l z =
          elim (ℕ_discrete v w) [
            | yes e ↦ subst (Quiet A r) (sym e) (n.noted (subst (λ (k : ℕ). get_or after (tile_of r k) 0 ≡ 0) e z))
            | no ne ↦ m.words-marked v (omega arith) (n.none-lost (tile_of r v) z)
          ]

  pub row_ends : {dx dy w : ℕ} {marks : List ℕ} → Outside A dx dy → MarkedTo A r w marks → dx < 64 * w → Marked A (suc r) marks
  row_ends {w = w} {marks} out m far = record { marks-size = m.rows-marked.marks-size; marked = rows }
    where
      here : (v : ℕ) → get_or marks (tile_of r v) 0 ≡ 0 → Quiet A r v
      here v z =
          elim (dec_lt v w) [
            | yes k ↦ m.words-marked v k z
            | no k ↦ λ j i. nothing-active-outside A out r (64 * v + j) (omega arith)
          ]

      rows : (s v : ℕ) → s < suc r → v < 65 → get_or marks (tile_of s v) 0 ≡ 0 → Quiet A s v
      rows s v h l z =
          elim (ℕ_discrete s r) [
            | yes e ↦ subst (λ (k : ℕ). Quiet A k v) (sym e) (here v (subst (λ (k : ℕ). get_or marks (tile_of k v) 0 ≡ 0) e z))
            | no ne ↦ m.rows-marked.marked s v (omega arith) l z
          ]

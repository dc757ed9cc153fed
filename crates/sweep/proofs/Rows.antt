-- The cells between two rows of words: a pane of two words and the samples on their left shows them, and where the rows are kept rows of a sheet, they are the
-- sheet's cells. Assumes nothing.
use mathlib.Core.Path.{◌≡◌, refl, sym, ◌∙◌, ap}
use mathlib.Core.Bool.{Bool, false}
use mathlib.Core.List.{List}
use Prim.Native.Nat.{ℕ, zero, suc, ◌+◌, ◌*◌, ◌/◌, ◌%◌, ◌^◌, ◌<◌}
use native.Mathlib.Omega.{arith}
use lib.ListN.{get_or}
use Rattle.scope.specs.Terrain.{Sheet}
use Rattle.scope.specs.Cells.{cell_number}
use Rattle.words.specs.Bits.{packed, bit_at}
use Rattle.words.specs.Panes.{active, Shows, pane_of}
use Rattle.words.specs.declared.Pane.{Pane}
use Rattle.words.proofs.Packing.{packed_alike}
use Rattle.words.proofs.Laws.{bit-is-test, pane-shows}
use Rattle.words.proofs.Places.{own-bits}
use Rattle.laws.proofs.Edges.{Outside}
use Rattle.scan.specs.Rows.{word_from, Kept}
use Rattle.sweep.specs.Sweep.{sample_in, between}

-- ---- the samples of a word

sample-of-word : (row : List ℕ) (w j : ℕ) → j < 64 → sample_in row (64 * w + j) ≡ bit_at (get_or row w 0) j
unfolding sample_in
sample-of-word row w j h =
    let word : (64 * w + j) / 64 ≡ w = omega arith in
    let place : (64 * w + j) % 64 ≡ j = omega arith in
    rw (word, place)

word-packed : (row : List ℕ) (w : ℕ) → get_or row w 0 < 2 ^ 64 → get_or row w 0 ≡ packed (λ j. sample_in row (64 * w + j)) 64
word-packed row w h =
    own-bits (get_or row w 0) 64 h
    ∙ packed_alike (bit_at (get_or row w 0)) (λ j. sample_in row (64 * w + j)) 64 (λ j l. sym (sample-of-word row w j l))

-- the samples on the left of word w's first cell
pub record Beside (upper lower : List ℕ) (w : ℕ) (b b' : Bool) : Type 0 where
  pub left-upper : b ≡ between upper lower (64 * w) 0
  pub left-lower : b' ≡ between upper lower (64 * w) 1

module _ (upper lower : List ℕ) where
  pub beside-begins : Beside upper lower 0 false false
  unfolding between
  beside-begins = record { left-upper = refl; left-lower = refl }

  pub beside-next : (w : ℕ) {u l : ℕ} {b b' : Bool} → u ≡ get_or upper w 0 → l ≡ get_or lower w 0 → b ≡ bit_at u 63 → b' ≡ bit_at l 63 → Beside upper lower (w + 1) b b'
  unfolding between
  beside-next w eu el bu bl =
      let last : 64 * (w + 1) ≡ suc (64 * w + 63) = omega arith in
      record {
        left-upper = bu ∙ rw (eu, last) (sym (sample-of-word upper w 63 (omega arith)));
        left-lower = bl ∙ rw (el, last) (sym (sample-of-word lower w 63 (omega arith)));
      }

  pub pane-between : {w u l : ℕ} {b b' : Bool} {pane : Pane} → Beside upper lower w b b' → u ≡ get_or upper w 0 → l ≡ get_or lower w 0 → u < 2 ^ 64 → l < 2 ^ 64 →
      pane ≡ pane_of u l b b' → Shows (between upper lower) 0 (64 * w) pane
  unfolding between
  pane-between {w} {u} {l} beside eu el hu hl e =
      rw e
      (pane-shows (between upper lower) 0 (64 * w) (eu ∙ word-packed upper w (rw (sym eu) hu)) (el ∙ word-packed lower w (rw (sym el) hl)) beside.left-upper
      beside.left-lower)

-- ---- kept rows

module _ (A : Sheet) {dx dy r : ℕ} {upper lower : List ℕ} (out : Outside A dx dy) (above : Kept A r upper) (below : Kept A (suc r) lower) where
  sample-kept : {s : ℕ} {row : List ℕ} → Kept A s row → (x : ℕ) → sample_in row x ≡ A (suc x) s
  unfolding sample_in word_from
  sample-kept {s} {row} k x =
      let whole : 64 * (x / 64) + x % 64 ≡ x = omega arith in
      rw (k.kept (x / 64)) (bit-is-test (λ j. A (suc (64 * (x / 64) + j)) s) 64 (x % 64) (omega arith) ∙ ap (λ (k : ℕ). A (suc k) s) whole)

  pub upper-kept : (x : ℕ) → between upper lower x 0 ≡ A x r
  unfolding between
  upper-kept zero = sym (out.no-column-before r)
  upper-kept (suc x) = sample-kept above x

  pub lower-kept : (x : ℕ) → between upper lower x 1 ≡ A x (suc r)
  unfolding between
  lower-kept zero = sym (out.no-column-before (suc r))
  lower-kept (suc x) = sample-kept below x

  pub number-kept : (c : ℕ) → cell_number (between upper lower) c 0 ≡ cell_number A c r
  unfolding cell_number
  number-kept c = rw (upper-kept c, upper-kept (suc c), lower-kept c, lower-kept (suc c))

  pub active-kept : (c : ℕ) → active (between upper lower) 0 c ≡ active A r c
  active-kept c = rw (upper-kept c, upper-kept (suc c), lower-kept c, lower-kept (suc c))

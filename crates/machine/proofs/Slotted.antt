-- The slots as a caller reads them who knows the open lines alone: the columns of each line's tips and its size. They follow from held lines whose tips lie on
-- columns, and stay where the tables agree past the frontier. Assumes nothing.
use mathlib.Core.Path.{◌≡◌, sym, ◌∙◌, ap}
use mathlib.Core.List.{List, []}
use Prim.Native.Nat.{ℕ, ◌+◌, ◌*◌, ◌≤◌, ◌<◌}
use native.Mathlib.Omega.{arith}
use lib.ListN.{length, get_or}
use Rattle.scope.specs.Stitching.{Line}
use Rattle.laws.proofs.Strokes.{begin, finish}
use Rattle.laws.proofs.Sizes.{size}
use Rattle.laws.proofs.LineWords.{word_by, word_at}
use Rattle.machine.specs.Machine.{slot_word, column_word, first_link, last_link, end_point, link_count, link_point}
use Rattle.machine.proofs.Views.{slot_at}
use Rattle.machine.proofs.Held.{HeldLine}
use Rattle.machine.proofs.Filing.{starts-at-start, ends-at-end, column-of-even}
use Rattle.machine.proofs.Leaving.{Columns}

pub record Slotted (dx : ℕ) (lines links : List ℕ) (ls : List Line) : Type 0 where
  pub starts : (i : ℕ) → i < length ls → column_word dx (link_point links (first_link dx lines i)) ≡ word_by dx begin (get_or ls i [])
  pub ends : (i : ℕ) → i < length ls → column_word dx (end_point dx lines i) ≡ word_by dx finish (get_or ls i [])
  pub sizes : (i : ℕ) → i < length ls → link_count dx lines i ≡ size (get_or ls i [])

-- from lines that are held, whose tips lie on columns
pub slotted : (dx : ℕ) (lines links : List ℕ) (chains : List (List ℕ)) (ls : List Line) → Columns ls
    → ((i : ℕ) → i < length ls → HeldLine dx links (slot_at dx lines i) (get_or chains i []) (get_or ls i []))
    → ((i : ℕ) → i < length ls → link_count dx lines i ≡ size (get_or ls i []))
    → Slotted dx lines links ls
slotted dx lines links chains ls columns held sizes = record {
  starts = λ i hi.
      let there = starts-at-start dx links (slot_at dx lines i) (get_or chains i []) (get_or ls i []) (held i hi) in
      sym (column-of-even dx (link_point links (first_link dx lines i)) (columns i hi _ (record { role = begin; there = there }))) ∙ sym (word_at dx begin _ (get_or ls i []) there);
  ends = λ i hi.
      let there = ends-at-end dx links (slot_at dx lines i) (get_or chains i []) (get_or ls i []) (held i hi) in
      sym (column-of-even dx (end_point dx lines i) (columns i hi _ (record { role = finish; there = there }))) ∙ sym (word_at dx finish _ (get_or ls i []) there);
  sizes = sizes;
}

-- tables that agree past the frontier
module _ (dx : ℕ) (lines lines' : List ℕ) (same : (w : ℕ) → dx + 2 ≤ w → get_or lines' w 0 ≡ get_or lines w 0) where
  pub same_first : (i : ℕ) → first_link dx lines' i ≡ first_link dx lines i
  unfolding first_link slot_word
  same_first i = same (dx + 2 + 4 * i + 0) (omega arith)

  pub same-last : (i : ℕ) → last_link dx lines' i ≡ last_link dx lines i
  unfolding last_link slot_word
  same-last i = same (dx + 2 + 4 * i + 1) (omega arith)

  pub same_end : (i : ℕ) → end_point dx lines' i ≡ end_point dx lines i
  unfolding end_point slot_word
  same_end i = same (dx + 2 + 4 * i + 2) (omega arith)

  pub same_count : (i : ℕ) → link_count dx lines' i ≡ link_count dx lines i
  unfolding link_count slot_word
  same_count i = same (dx + 2 + 4 * i + 3) (omega arith)

  pub slotted-same : (links : List ℕ) (ls : List Line) → Slotted dx lines links ls → Slotted dx lines' links ls
  slotted-same links ls slots = record {
    starts = λ i hi. ap (λ (k : ℕ). column_word dx (link_point links k)) (same_first i) ∙ slots.starts i hi;
    ends = λ i hi. ap (column_word dx) (same_end i) ∙ slots.ends i hi;
    sizes = λ i hi. same_count i ∙ slots.sizes i hi;
  }

  pub slot_same : (i : ℕ) → slot_at dx lines' i ≡ slot_at dx lines i
  slot_same i = λ j. record { first = same_first i j; last = same-last i j; end = same_end i j }

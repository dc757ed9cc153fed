-- The lines of the slots, noted one after the other. Assumes nothing.
use mathlib.Core.Path.{◌≡◌, refl}
use mathlib.Core.List.{List}
use Prim.Native.Nat.{ℕ, ◌+◌, ◌*◌, ◌%◌, ◌^◌, ◌≤◌, ◌<◌}
use native.Mathlib.Nat.{mod-lt}
use native.Mathlib.Numerals.{add-one}
use native.Mathlib.Omega.{arith}
use Rattle.scope.specs.Limits.{side_limit}
use Rattle.machine.specs.Machine.{column_word, link_point}
use Rattle.lines.specs.Values.{slot_at}
use Rattle.lines.specs.declared.tables.Slot.{Slot}
use Rattle.trying.specs.Notes.{noted, slots_noted}

-- the frontier word of a column is a word's number
pub column-word-small : (dx index : ℕ) {word : ℕ} → dx ≤ side_limit → word ≡ column_word dx index → word < 2 ^ 32
unfolding column_word side_limit
column-word-small dx index h e =
    let small : index % (2 * (dx + 1)) < 2 * (dx + 1) = mod-lt index (omega arith) in
    omega arith

pub none-noted : (dx : ℕ) (links lines : List ℕ) → lines ≡ slots_noted dx links lines 0
unfolding slots_noted
none-noted dx links lines = refl

pub line-noted : (dx : ℕ) (links from : List ℕ) (i : ℕ) {lines after : List ℕ} {line : Slot} {point start end : ℕ} →
    lines ≡ slots_noted dx links from i →
    line ≡ slot_at dx lines i →
    point ≡ link_point links line.first →
    start ≡ column_word dx point →
    end ≡ column_word dx line.end →
    after ≡ noted lines start end line.size →
    after ≡ slots_noted dx links from (i + 1)
unfolding slots_noted
line-noted dx links from i so_far line point start end after = rw (after, start, end, point, line, so_far, add-one i)

-- Notes: what a frontier word holds of the line whose tip is there, so that a row can be tried without slots and links: the word of the line's other tip, and
-- half of the digits of its number of links, the low ones at its start and the others at its end. Assumes nothing.
use Rattle.std.specs.Prelude.{ℕ, zero, suc, ◌+◌, ◌*◌, ◌/◌, ◌%◌, ◌^◌, List, get_or, set}
use Rattle.machine.specs.Machine.{column_word, first_link, end_point, link_count, link_point}
use Rattle.packing.specs.Cleared.{cleared}

-- a place, and fifteen bits
unfoldable pub note_of : ℕ → ℕ → ℕ
note_of place half = place % 2 ^ 17 * 2 ^ 15 + half % 2 ^ 15

unfoldable pub place_in : ℕ → ℕ
place_in note = note / 2 ^ 15

unfoldable pub half_in : ℕ → ℕ
half_in note = note % 2 ^ 15

-- the number of links of the line that starts at one word and ends at another
unfoldable pub size_between : List ℕ → ℕ → ℕ → ℕ
size_between words start end = half_in (get_or words start 0) + 2 ^ 15 * half_in (get_or words end 0)

-- a line of that size noted at both its words
unfoldable pub noted : List ℕ → ℕ → ℕ → ℕ → List ℕ
noted words start end size = set (set words start (note_of end size)) end (note_of start (size / 2 ^ 15))

-- the first n slots' lines noted at the columns of their tips
unfoldable pub slots_noted : ℕ → List ℕ → List ℕ → ℕ → List ℕ
slots_noted dx links lines zero = lines
slots_noted dx links lines (suc n) =
    let before : List ℕ = slots_noted dx links lines n in
    noted before (column_word dx (link_point links (first_link dx before n))) (column_word dx (end_point dx before n)) (link_count dx before n)

-- the frontier as it stands between two rows: the lines' notes, and 0 elsewhere
unfoldable pub frontier_noted : ℕ → List ℕ → List ℕ → ℕ → List ℕ
frontier_noted dx links lines count = slots_noted dx links (cleared lines (dx + 2)) count

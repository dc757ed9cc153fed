-- The code's values as the table machine has them: the two tables with the progress, a slot, the entry of a cell, and a link between two lines.
-- Assumes nothing.
use Rattle.std.specs.Prelude.{ℕ, cond, List, eqb}
use Rattle.machine.specs.Machine.{Tables, first_link, last_link, end_point, link_count, with_slot, joined, closed}
use Rattle.machine.specs.Machine as machine
use Rattle.lines.specs.declared.Progress.{Progress}
use Rattle.lines.specs.declared.tables.Slot.{Slot}
use Rattle.lines.specs.declared.Entry.{Entry}

abbrev pub state_of : Progress → machine.Progress
state_of p = record { count = p.count; rings = p.rings; head = p.head; tail = p.tail }

-- the open table, the link table and the progress
abbrev pub tables_of : List ℕ → List ℕ → Progress → Tables
tables_of lines links p = record { lines = lines; links = links; progress = state_of p }

abbrev pub edges_of : Entry → machine.Entry
edges_of entry = record { left = entry.left; top = entry.top }

-- what slot i of the open table holds, and the open table once a slot is stored there
abbrev pub slot_at : ℕ → List ℕ → ℕ → Slot
slot_at dx lines i = record {
  first = first_link dx lines i;
  last = last_link dx lines i;
  end = end_point dx lines i;
  size = link_count dx lines i;
}

abbrev pub slot_put : ℕ → List ℕ → ℕ → Slot → List ℕ
slot_put dx lines i slot = with_slot dx lines i slot.first slot.last slot.end slot.size

-- link k from the end of line f to the start of line g: a line that meets itself closes, and two lines are joined
abbrev pub connected : ℕ → Tables → ℕ → ℕ → ℕ → ℕ → Tables
connected dx t k s f g = cond (eqb f g) (closed dx t k s f) (joined dx t k s f g)

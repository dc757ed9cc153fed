-- The table machine: the five stitching rules over the open table and the link table, which are lists of words. `get_or` reads 0 past a table's end and
-- `set` stores nothing there, so every step is defined on every table.
-- Open table: words 0 to dx are the frontier's horizontal edges by column, word dx + 1 its vertical edge, each the slot of the line there; then the
-- slots, four words each: first link, last link, index of the end point, number of links. Open lines stand in slots 0 to count - 1.
-- Link table: two words a link: index of the segment's start point, and the next link. The last link of a ring holds the mark, and with it the first
-- link of the next ring. Assumes nothing.
use Rattle.std.specs.Prelude.{ℕ, suc, ◌+◌, ◌-◌, ◌*◌, ◌/◌, ◌%◌, ◌^◌, cond, List, [], ◌∷◌, eqb, length, get_or, set}
use Rattle.scope.specs.Terrain.{Sheet}
use Rattle.scope.specs.declared.Side.{Side}
use Rattle.scope.specs.declared.Side.TheVariants.{Left, Right, Top, Bottom}
use Rattle.scope.specs.Cells.{Stroke, ◌⟶◌, point_of, point_index, drawn, cell_number}
use Rattle.scope.specs.Drawing.{up_to}

-- no link has this number or a larger one
unfoldable pub mark : ℕ
mark = 2 ^ 31

-- a sum as a word holds it
unfoldable pub word_of : ℕ → ℕ
word_of n = n % 2 ^ 32

-- where part q of slot i stands, and where a column's edge stands, by a point's index
unfoldable pub slot_word : ℕ → ℕ → ℕ → ℕ
slot_word dx i q = dx + 2 + 4 * i + q

unfoldable pub column_word : ℕ → ℕ → ℕ
column_word dx index = index % (2 * (dx + 1)) / 2

-- the frontier word of a cell's side: its column's, or the vertical edge's
unfoldable pub side_word : ℕ → ℕ → Side → ℕ
side_word dx c Left = dx + 1
side_word dx c Right = dx + 1
side_word dx c Top = c
side_word dx c Bottom = c

module _ (dx : ℕ) (lines : List ℕ) where
  unfoldable pub first_link : ℕ → ℕ
  first_link i = get_or lines (slot_word dx i 0) 0

  unfoldable pub last_link : ℕ → ℕ
  last_link i = get_or lines (slot_word dx i 1) 0

  unfoldable pub end_point : ℕ → ℕ
  end_point i = get_or lines (slot_word dx i 2) 0

  unfoldable pub link_count : ℕ → ℕ
  link_count i = get_or lines (slot_word dx i 3) 0

-- what link k holds
unfoldable pub link_point : List ℕ → ℕ → ℕ
link_point links k = get_or links (2 * k) 0

unfoldable pub link_next : List ℕ → ℕ → ℕ
link_next links k = get_or links (2 * k + 1) 0

unfoldable pub with_next : List ℕ → ℕ → ℕ → List ℕ
with_next links k next = set links (2 * k + 1) next

unfoldable pub with_link : List ℕ → ℕ → ℕ → ℕ → List ℕ
with_link links k point next = with_next (set links (2 * k) point) k next

unfoldable pub with_slot : ℕ → List ℕ → ℕ → ℕ → ℕ → ℕ → ℕ → List ℕ
with_slot dx lines i first last end size =
    set (set (set (set lines (slot_word dx i 0) first) (slot_word dx i 1) last) (slot_word dx i 2) end) (slot_word dx i 3) size

-- how far stitching has come: open lines, rings, the first ring's first link, and the last ring's last link
pub record Progress : Type 0 where
  pub count : ℕ
  pub rings : ℕ
  pub head : ℕ
  pub tail : ℕ

pub record Tables : Type 0 where
  pub lines : List ℕ
  pub links : List ℕ
  pub progress : Progress

-- line i goes: the last one moves into its slot, and its two ends are filed anew
unfoldable pub moved : ℕ → List ℕ → List ℕ → ℕ → ℕ → List ℕ
moved dx lines links last i =
    set
    (set (with_slot dx lines i (first_link dx lines last) (last_link dx lines last) (end_point dx lines last) (link_count dx lines last))
    (column_word dx (link_point links (first_link dx lines last))) i)
    (column_word dx (end_point dx lines last)) i

unfoldable pub released : ℕ → List ℕ → List ℕ → ℕ → ℕ → List ℕ
released dx lines links last i = cond (eqb i last) lines (moved dx lines links last i)

-- link k from s to e: the five rules. ws and we are the frontier words of s and e
module _ (dx : ℕ) (t : Tables) (k s : ℕ) where
  unfoldable pub started : ℕ → ℕ → ℕ → Tables
  started e ws we = record {
    lines = set (set (with_slot dx t.lines t.progress.count k k e 1) ws t.progress.count) we t.progress.count;
    links = with_link t.links k s 0;
    progress = record { count = word_of (t.progress.count + 1); rings = t.progress.rings; head = t.progress.head; tail = t.progress.tail };
  }

  unfoldable pub appended : ℕ → ℕ → ℕ → Tables
  appended f e we = record {
    lines = set (with_slot dx t.lines f (first_link dx t.lines f) k e (word_of (link_count dx t.lines f + 1))) we f;
    links = with_next (with_link t.links k s 0) (last_link dx t.lines f) k;
    progress = t.progress;
  }

  unfoldable pub prepended : ℕ → ℕ → Tables
  prepended g ws = record {
    lines = set (with_slot dx t.lines g k (last_link dx t.lines g) (end_point dx t.lines g) (word_of (link_count dx t.lines g + 1))) ws g;
    links = with_link t.links k s (first_link dx t.lines g);
    progress = t.progress;
  }

  unfoldable pub joined_links : ℕ → ℕ → List ℕ
  joined_links f g = with_next (with_link t.links k s (first_link dx t.lines g)) (last_link dx t.lines f) k

  unfoldable pub joined_lines : ℕ → ℕ → List ℕ
  joined_lines f g =
      set
      (with_slot dx t.lines f (first_link dx t.lines f) (last_link dx t.lines g) (end_point dx t.lines g) (word_of (link_count dx t.lines f + link_count dx t.lines g + 1)))
      (column_word dx (end_point dx t.lines g)) f

  unfoldable pub joined : ℕ → ℕ → Tables
  joined f g = record {
    lines = released dx (joined_lines f g) (joined_links f g) (t.progress.count - 1) g;
    links = joined_links f g;
    progress = record { count = t.progress.count - 1; rings = t.progress.rings; head = t.progress.head; tail = t.progress.tail };
  }

  -- the ring's last link is k; the ring before it learns where this one begins
  unfoldable pub closed_links : ℕ → List ℕ
  closed_links f =
      cond (eqb t.progress.rings 0)
      (with_next (with_link t.links k s mark) (last_link dx t.lines f) k)
      (with_next (with_next (with_link t.links k s mark) (last_link dx t.lines f) k) t.progress.tail (word_of (mark + first_link dx t.lines f)))

  unfoldable pub closed : ℕ → Tables
  closed f = record {
    lines = released dx t.lines (closed_links f) (t.progress.count - 1) f;
    links = closed_links f;
    progress = record {
      count = t.progress.count - 1;
      rings = word_of (t.progress.rings + 1);
      head = cond (eqb t.progress.rings 0) (first_link dx t.lines f) t.progress.head;
      tail = k;
    };
  }

-- the slots of the lines at a cell's left and top edge, as the frontier has them before the cell is drawn
pub record Entry : Type 0 where
  pub left : ℕ
  pub top : ℕ

unfoldable pub entry_of : ℕ → List ℕ → ℕ → Entry
entry_of dx lines c = record { left = get_or lines (dx + 1) 0; top = get_or lines c 0 }

-- a stroke of cell column c, drawn as link k from the point of index s to that of index e: Left and Top have a line, Right and Bottom have none yet
unfoldable pub draw_stroke : ℕ → ℕ → Entry → Tables → Stroke → ℕ → ℕ → ℕ → Tables
draw_stroke dx c entry t (Left ⟶ Top) k s e = cond (eqb entry.left entry.top) (closed dx t k s entry.left) (joined dx t k s entry.left entry.top)
draw_stroke dx c entry t (Top ⟶ Left) k s e = cond (eqb entry.top entry.left) (closed dx t k s entry.top) (joined dx t k s entry.top entry.left)
draw_stroke dx c entry t (Left ⟶ Right) k s e = appended dx t k s entry.left e (dx + 1)
draw_stroke dx c entry t (Left ⟶ Bottom) k s e = appended dx t k s entry.left e c
draw_stroke dx c entry t (Top ⟶ Right) k s e = appended dx t k s entry.top e (dx + 1)
draw_stroke dx c entry t (Top ⟶ Bottom) k s e = appended dx t k s entry.top e c
draw_stroke dx c entry t (Right ⟶ Left) k s e = prepended dx t k s entry.left (dx + 1)
draw_stroke dx c entry t (Bottom ⟶ Left) k s e = prepended dx t k s entry.left c
draw_stroke dx c entry t (Right ⟶ Top) k s e = prepended dx t k s entry.top (dx + 1)
draw_stroke dx c entry t (Bottom ⟶ Top) k s e = prepended dx t k s entry.top c
draw_stroke dx c entry t (Right ⟶ Bottom) k s e = started dx t k s e (dx + 1) c
draw_stroke dx c entry t (Bottom ⟶ Right) k s e = started dx t k s e c (dx + 1)
draw_stroke dx c entry t (Left ⟶ Left) k s e = t
draw_stroke dx c entry t (Right ⟶ Right) k s e = t
draw_stroke dx c entry t (Top ⟶ Top) k s e = t
draw_stroke dx c entry t (Bottom ⟶ Bottom) k s e = t

-- a cell's strokes one after the other, with the links k, k + 1, and so on; the points of (c, r) by their index
unfoldable pub draw_strokes : ℕ → ℕ → ℕ → Entry → Tables → List Stroke → ℕ → Tables
draw_strokes dx c r entry t [] k = t
draw_strokes dx c r entry t ((s ⟶ e) ∷ strokes) k =
    draw_strokes dx c r entry (draw_stroke dx c entry t (s ⟶ e) k (point_index dx (point_of c r s)) (point_index dx (point_of c r e))) strokes (suc k)

-- the tables and the number of the next link, cell by cell
pub record Run : Type 0 where
  pub tables : Tables
  pub next : ℕ

unfoldable pub draw_cell : Sheet → ℕ → Run → ℕ → ℕ → Run
draw_cell A dx run c r = record {
  tables = draw_strokes dx c r (entry_of dx run.tables.lines c) run.tables (drawn (cell_number A c r)) run.next;
  next = run.next + length (drawn (cell_number A c r));
}

-- after r whole rows and c cells of row r
unfoldable pub run_after : Sheet → ℕ → Run → ℕ → ℕ → Run
run_after A dx run r c = up_to (draw_cell A dx) run dx r c

-- before the first cell
unfoldable pub run_over : List ℕ → List ℕ → Run
run_over lines links = record {
  tables = record { lines = lines; links = links; progress = record { count = 0; rings = 0; head = 0; tail = 0 } };
  next = 0;
}

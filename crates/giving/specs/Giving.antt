-- The row machine: the table machine with a stock of links. A stroke takes a link from the links that were given back, or else the number that was never used;
-- the stroke that closes a ring takes none, and the ring is written to the outputs before its links are given back. Every step is defined on every table.
-- Assumes nothing.
use Rattle.std.specs.Prelude.{ℕ, zero, suc, ◌+◌, ◌-◌, ◌*◌, cond, List, [], ◌∷◌, ◌++◌, eqb, ltb, set}
use Rattle.std.proofs.lemmas.List.Edits.{sets}
use Rattle.scope.specs.Terrain.{Sheet}
use Rattle.scope.specs.Cells.{Stroke, ◌⟶◌, point_of, point_index, drawn, cell_number}
use Rattle.scope.specs.Room.{directory_words}
use Rattle.machine.specs.Machine.{word_of, side_word, column_word, first_link, last_link, end_point, link_count, link_point, link_next, with_next, released, Tables, Entry, entry_of, started, appended, prepended, joined}
use Rattle.machine.specs.Walk.{index_words, point_words, measured_words}
use Rattle.measuring.specs.Ringed.{area_in}
use Rattle.drawing.specs.Values.{is_met, line_at}
use Rattle.sweep.specs.Sweep.{between, swept, row_cells}
use Rattle.giving.specs.declared.Play.{Play}

-- the work tables, the outputs, and the counts
pub record Given : Type 0 where
  pub lines : List ℕ
  pub links : List ℕ
  pub points : List ℕ
  pub directory : List ℕ
  pub play : Play

-- the tables as the table machine has them: no ring stays in the links
abbrev pub tables_in : Given → Tables
tables_in g = record { lines = g.lines; links = g.links; progress = record { count = g.play.count; rings = 0; head = 0; tail = 0 } }

-- ---- the stock: fewer links are held than were ever used exactly where some are free, and spare is the first of these

unfoldable pub link_taken : Play → ℕ
link_taken p = cond (ltb p.held p.fresh) p.spare p.fresh

unfoldable pub stock_after : List ℕ → Play → Play
stock_after links p = record {
  count = p.count;
  spare = cond (ltb p.held p.fresh) (link_next links p.spare) p.spare;
  fresh = cond (ltb p.held p.fresh) p.fresh (word_of (p.fresh + 1));
  held = word_of (p.held + 1);
  rings = p.rings;
  points = p.points;
}

-- a rule of the table machine, done with the link that is taken
unfoldable pub with_taken : Given → (Tables → ℕ → Tables) → Given
with_taken g rule =
    let t : Tables = rule (tables_in g) (link_taken g.play) in
    let p : Play = stock_after g.links g.play in
    record {
      lines = t.lines;
      links = t.links;
      points = g.points;
      directory = g.directory;
      play = record { count = t.progress.count; spare = p.spare; fresh = p.fresh; held = p.held; rings = p.rings; points = p.points };
    }

-- ---- a ring given out

-- the start points of n links from link k on
unfoldable pub chain_words : ℕ → List ℕ → ℕ → ℕ → List ℕ
chain_words dx links k zero = []
chain_words dx links k (suc n) = point_words dx links k ++ chain_words dx links (link_next links k) n

-- a line's points, and its first point again
unfoldable pub ring_out : ℕ → List ℕ → ℕ → ℕ → ℕ → List ℕ
ring_out dx links first size end = chain_words dx links first size ++ (index_words dx end ++ point_words dx links first)

-- the record of a ring of so many links, whose points stand from this one on; its area goes by the point count as the record holds it
unfoldable pub given_record : List ℕ → ℕ → ℕ → List ℕ
given_record points first size = measured_words first (size + 2) (area_in points first (word_of (size + 2)))

-- the line of slot f closes: its ring and its record are written, then its links go in front of the free ones, and its slot is released
unfoldable pub ring_given : ℕ → Given → ℕ → Given
ring_given dx g f =
    let size : ℕ = link_count dx g.lines f in
    let points' : List ℕ = sets g.points (2 * g.play.points) (ring_out dx g.links (first_link dx g.lines f) size (end_point dx g.lines f)) in
    let links' : List ℕ = with_next g.links (last_link dx g.lines f) g.play.spare in
    record {
      lines = released dx g.lines links' (g.play.count - 1) f;
      links = links';
      points = points';
      directory = sets g.directory (directory_words g.play.rings) (given_record points' g.play.points size);
      play = record {
        count = g.play.count - 1;
        spare = first_link dx g.lines f;
        fresh = g.play.fresh;
        held = g.play.held - size;
        rings = word_of (g.play.rings + 1);
        points = word_of (g.play.points + size + 2);
      };
    }

-- ---- cells

-- a stroke of cell (c, r) by its two sides
unfoldable pub stroke_given : ℕ → ℕ → ℕ → Entry → Given → Stroke → Given
stroke_given dx c r entry g (s ⟶ e) =
    let from : ℕ = point_index dx (point_of c r s) in
    let to : ℕ = point_index dx (point_of c r e) in
    cond (is_met s)
    (cond (is_met e)
    (cond (eqb (line_at entry s) (line_at entry e))
    (ring_given dx g (line_at entry s))
    (with_taken g (λ t k. joined dx t k from (line_at entry s) (line_at entry e))))
    (with_taken g (λ t k. appended dx t k from (line_at entry s) to (side_word dx c e))))
    (cond (is_met e)
    (with_taken g (λ t k. prepended dx t k from (line_at entry e) (side_word dx c s)))
    (with_taken g (λ t k. started dx t k from to (side_word dx c s) (side_word dx c e))))

unfoldable pub strokes_given : ℕ → ℕ → ℕ → Entry → Given → List Stroke → Given
strokes_given dx c r entry g [] = g
strokes_given dx c r entry g (σ ∷ σs) = strokes_given dx c r entry (stroke_given dx c r entry g σ) σs

-- the cell (c, r) of a number, whose lines the frontier has before it is drawn
unfoldable pub number_given : ℕ → ℕ → Given → ℕ → ℕ → Given
number_given dx r g number c = strokes_given dx c r (entry_of dx g.lines c) g (drawn number)

-- a cell of a sheet of two rows, in row r of cells; past column dx there is none
unfoldable pub cell_given : Sheet → ℕ → ℕ → Given → ℕ → Given
cell_given A dx r g c = cond (ltb dx c) g (number_given dx r g (cell_number A c 0) c)

-- all cells between two rows of words
unfoldable pub row_given : List ℕ → List ℕ → ℕ → ℕ → Given → Given
row_given upper lower dx r g = swept (cell_given (between upper lower) dx r) g 0 (row_cells dx)

-- ---- the frontier filed from the slots of the first n lines, each at the columns of its tips
unfoldable pub slots_filed : ℕ → List ℕ → List ℕ → ℕ → List ℕ
slots_filed dx links lines zero = lines
slots_filed dx links lines (suc n) =
    let before : List ℕ = slots_filed dx links lines n in
    set (set before (column_word dx (link_point links (first_link dx before n))) n) (column_word dx (end_point dx before n)) n

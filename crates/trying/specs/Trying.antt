-- The trial of a row over the frontier's notes: each stroke moves a tip, joins two lines, closes one or opens one, and the counts follow. Every step is
-- defined on every table. Assumes nothing.
use Rattle.std.specs.Prelude.{ℕ, ◌+◌, ◌-◌, max, cond, List, [], ◌∷◌, eqb, get_or}
use Rattle.scope.specs.Terrain.{Sheet}
use Rattle.scope.specs.declared.Side.TheVariants.{Left, Right, Top, Bottom}
use Rattle.scope.specs.Cells.{Stroke, ◌⟶◌, drawn, cell_number}
use Rattle.machine.specs.Machine.{word_of, side_word}
use Rattle.drawing.specs.Values.{is_met}
use Rattle.sweep.specs.Sweep.{between, swept, row_cells}
use Rattle.trying.specs.Notes.{place_in, size_between, noted}
use Rattle.trying.specs.declared.Trial.{Trial}

-- the frontier's words, and what is counted so far
pub record Tried : Type 0 where
  pub words : List ℕ
  pub trial : Trial

-- a segment more in a line that is open; with a line more; with a line fewer
abbrev pub grown : Trial → Trial
grown t = record { lines = t.lines; peak = t.peak; held = word_of (t.held + 1); most = t.most; rings = t.rings; points = t.points }

abbrev pub begun : Trial → Trial
begun t = record { lines = word_of (t.lines + 1); peak = t.peak; held = word_of (t.held + 1); most = t.most; rings = t.rings; points = t.points }

abbrev pub merged : Trial → Trial
merged t = record { lines = t.lines - 1; peak = t.peak; held = word_of (t.held + 1); most = t.most; rings = t.rings; points = t.points }

-- a line of that many links closes: it has a segment more, which is never held, and its first point stands last again
abbrev pub ringed : Trial → ℕ → Trial
ringed t size = record {
  lines = t.lines - 1;
  peak = t.peak;
  held = t.held - size;
  most = t.most;
  rings = word_of (t.rings + 1);
  points = word_of (t.points + size + 2);
}

-- after a cell
abbrev pub reached : Trial → Trial
reached t = record { lines = t.lines; peak = max t.peak t.lines; held = t.held; most = max t.most t.held; rings = t.rings; points = t.points }

-- neither side has a line: a new one, from word s to word e
abbrev pub open_tried : Tried → ℕ → ℕ → Tried
open_tried t s e = record { words = noted t.words s e 1; trial = begun t.trial }

-- the line that ends at word s ends at word e now
abbrev pub end_tried : Tried → ℕ → ℕ → Tried
end_tried t s e =
    let start : ℕ = place_in (get_or t.words s 0) in
    record { words = noted t.words start e (size_between t.words start s + 1); trial = grown t.trial }

-- the line that starts at word e starts at word s now
abbrev pub start_tried : Tried → ℕ → ℕ → Tried
start_tried t s e =
    let end : ℕ = place_in (get_or t.words e 0) in
    record { words = noted t.words s end (size_between t.words e end + 1); trial = grown t.trial }

-- the line that ends at word s meets the one that starts at word e: one line closes, two are joined
abbrev pub close_tried : Tried → ℕ → ℕ → Tried
close_tried t s e = record { words = t.words; trial = ringed t.trial (size_between t.words e s) }

abbrev pub join_tried : Tried → ℕ → ℕ → Tried
join_tried t s e =
    let start : ℕ = place_in (get_or t.words s 0) in
    let end : ℕ = place_in (get_or t.words e 0) in
    record { words = noted t.words start end (size_between t.words start s + size_between t.words e end + 1); trial = merged t.trial }

abbrev pub meet_tried : Tried → ℕ → ℕ → Tried
meet_tried t s e = cond (eqb (place_in (get_or t.words s 0)) e) (close_tried t s e) (join_tried t s e)

-- saddle 5: the line that starts at word v, on the left, starts at word c now, and the one that ended there ends at word v; both are read before either is noted
abbrev pub cross_tried : Tried → ℕ → ℕ → Tried
cross_tried t v c =
    let start : ℕ = place_in (get_or t.words c 0) in
    let end : ℕ = place_in (get_or t.words v 0) in
    record {
      words =
          cond (eqb start v)
          (noted t.words c v (size_between t.words v c + 2))
          (noted (noted t.words c end (size_between t.words v end + 1)) start v (size_between t.words start c + 1));
      trial = grown (grown t.trial);
    }

-- a stroke of column c by its two sides
unfoldable pub stroke_tried : ℕ → ℕ → Tried → Stroke → Tried
stroke_tried dx c t (s ⟶ e) =
    cond (is_met s)
    (cond (is_met e) (meet_tried t (side_word dx c s) (side_word dx c e)) (end_tried t (side_word dx c s) (side_word dx c e)))
    (cond (is_met e) (start_tried t (side_word dx c s) (side_word dx c e)) (open_tried t (side_word dx c s) (side_word dx c e)))

-- the strokes of a cell: none, one, saddle 5, or saddle 10 one after the other
unfoldable pub strokes_tried : ℕ → ℕ → Tried → List Stroke → Tried
strokes_tried dx c t [] = t
strokes_tried dx c t (σ ∷ []) = stroke_tried dx c t σ
strokes_tried dx c t ((Left ⟶ e) ∷ τ ∷ rest) = stroke_tried dx c (stroke_tried dx c t (Left ⟶ e)) τ
strokes_tried dx c t ((Right ⟶ e) ∷ τ ∷ rest) = cross_tried t (dx + 1) c
strokes_tried dx c t ((Top ⟶ e) ∷ τ ∷ rest) = cross_tried t (dx + 1) c
strokes_tried dx c t ((Bottom ⟶ e) ∷ τ ∷ rest) = cross_tried t (dx + 1) c

-- and the most after the cell, where it draws anything
unfoldable pub strokes_reached : ℕ → ℕ → Tried → List Stroke → Tried
strokes_reached dx c t [] = t
strokes_reached dx c t (σ ∷ σs) = record { words = (strokes_tried dx c t (σ ∷ σs)).words; trial = reached (strokes_tried dx c t (σ ∷ σs)).trial }

-- the cell of a number in column c
unfoldable pub number_tried : ℕ → Tried → ℕ → ℕ → Tried
number_tried dx t number c = strokes_reached dx c t (drawn number)

-- a cell of a sheet of two rows
unfoldable pub cell_tried : Sheet → ℕ → Tried → ℕ → Tried
cell_tried A dx t c = number_tried dx t (cell_number A c 0) c

-- all cells between two rows of words
unfoldable pub row_tried : List ℕ → List ℕ → ℕ → Tried → Tried
row_tried upper lower dx t = swept (cell_tried (between upper lower) dx) t 0 (row_cells dx)

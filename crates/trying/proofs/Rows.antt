-- A row of the trial: after each of its cells the words note the open lines of document 01's drawing, and the counts are the drawing's. Assumes nothing.
use mathlib.Core.Path.{◌≡◌, refl, sym, ◌∙◌, ap, ap₂, subst}
use mathlib.Core.Bool.{true}
use mathlib.Core.List.{List, ◌++◌, map}
use Prim.Native.Nat.{ℕ, zero, suc, ◌+◌, ◌^◌, ◌≤◌, ◌<◌, max}
use native.Mathlib.Nat.{zero-add}
use native.Mathlib.Omega.{arith}
use lib.ListN.{length}
use Rattle.scope.specs.Terrain.{Sheet}
use Rattle.scope.specs.Limits.{side_limit}
use Rattle.scope.specs.Cells.{Stroke, Segment, placed, drawn, cell_number, cell_segments}
use Rattle.scope.specs.Stitching.{nothing, stitch_all}
use Rattle.scope.specs.Drawing.{along, up_to, with_cell, segments_after, drawing_after, open_after, rings_after}
use Rattle.laws.proofs.Total.{total}
use Rattle.laws.proofs.Edges.{Outside}
use Rattle.laws.proofs.Strokes.{fitting, strokes-fit}
use Rattle.laws.proofs.Marks.{on_side}
use Rattle.laws.proofs.Cellwise.{Sound}
use Rattle.laws.proofs.Grid.{after, ready}
use Rattle.laws.proofs.Sizes.{held_in}
use Rattle.laws.proofs.LineWords.{Spread, spread-after}
use Rattle.machine.proofs.Shapes.{Shape, shape_of}
use Rattle.scan.proofs.Steps.{segments-are-few}
use Rattle.sweep.specs.Sweep.{swept}
use Rattle.trying.specs.declared.Trial.{Trial}
use Rattle.trying.specs.Trying.{Tried, strokes_tried, number_tried}
use Rattle.trying.proofs.Counted.{Counts}
use Rattle.trying.proofs.Strokes.{Known}
use Rattle.trying.proofs.Cells.{cell-counts, cell-known}
use Rattle.trying.proofs.Kept.{Reaches, reaches, words-reached, highest, none-higher}

-- cell c of row r of a sheet
abbrev pub sheet_tried : Sheet → ℕ → ℕ → Tried → ℕ → Tried
sheet_tried A dx r t c = number_tried dx t (cell_number A c r) c

-- the words are those of a frontier and note the open lines after c cells of row r
abbrev pub NotedAfter : Sheet → ℕ → ℕ → ℕ → List ℕ → Type 0
NotedAfter A dx r c words = Known dx (segments_after A dx r c) words

-- the counts after c cells of row r: what is open, the largest so far with the row's start, and what closed in the row
pub record CountedAfter (A : Sheet) (dx r c : ℕ) (t : Trial) : Type 0 where
  pub lines_are : t.lines ≡ length (open_after A dx r c)
  pub peak-is : t.peak ≡ highest (λ k. length (open_after A dx r k)) c
  pub held-are : t.held ≡ held_in (open_after A dx r c)
  pub most-is : t.most ≡ highest (λ k. held_in (open_after A dx r k)) c
  pub rings-are : t.rings + length (rings_after A dx r 0) ≡ length (rings_after A dx r c)
  pub points-are : t.points + total length (rings_after A dx r 0) ≡ total length (rings_after A dx r c)

module _ (A : Sheet) {dx dy : ℕ} (out : Outside A dx dy) (columns : dx ≤ side_limit) (r : ℕ) (rows : r ≤ side_limit) where
  abbrev rings₀ : ℕ
  rings₀ = length (rings_after A dx r 0)

  abbrev points₀ : ℕ
  points₀ = total length (rings_after A dx r 0)

  next-segments : (c : ℕ) → segments_after A dx r (suc c) ≡ segments_after A dx r c ++ map (placed c r) (drawn (cell_number A c r))
  unfolding segments_after up_to along with_cell cell_segments
  next-segments c = refl

  small : (c : ℕ) → c ≤ dx → length (segments_after A dx r (suc c)) < 2 ^ 30
  unfolding side_limit
  small c hc = omega (arith, segments-are-few A out side_limit r (suc c) columns rows (omega arith))

  narrow : dx + 2 ≤ 2 ^ 17
  unfolding side_limit
  narrow = omega arith

  spread : (c : ℕ) → c ≤ suc dx → Spread dx (stitch_all nothing (segments_after A dx r c)).lines
  unfolding drawing_after
  spread c hc = spread-after A out r c hc

  as-counts : (c : ℕ) (t : Trial) → CountedAfter A dx r c t → Counts rings₀ points₀ (segments_after A dx r c) t
  unfolding open_after rings_after drawing_after
  as-counts c t k = record { lines_are = k.lines_are; held-are = k.held-are; rings-are = k.rings-are; points-are = k.points-are }

  module _ (c : ℕ) (hc : c ≤ dx) (t : Tried) where
    abbrev strokes : List Stroke
    strokes = drawn (cell_number A c r)

    sound : Sound (segments_after A dx r c)
    sound = (after A out r c (omega arith)).sound

    shape : Shape strokes
    unfolding cell_number
    shape = shape_of (A c (suc r)) (A (suc c) (suc r)) (A (suc c) r) (A c r)

    fits : fitting (λ role. on_side role A c r) strokes ≡ true
    unfolding cell_number
    fits = strokes-fit (A c (suc r)) (A (suc c) (suc r)) (A (suc c) r) (A c r)

    few : length (segments_after A dx r c ++ map (placed c r) strokes) < 2 ^ 30
    few = subst (λ (σs : List Segment). length σs < 2 ^ 30) (next-segments c) (small c hc)

    strokes-counted : CountedAfter A dx r c t.trial → (0 < r → NotedAfter A dx r c t.words) → Counts rings₀ points₀ (segments_after A dx r (suc c)) (strokes_tried dx c t strokes).trial
    strokes-counted now known =
        subst (λ (σs : List Segment). Counts rings₀ points₀ σs (strokes_tried dx c t strokes).trial) (sym (next-segments c))
        (cell-counts A out narrow c r (segments_after A dx r c) sound (ready A out c r hc sound) t (as-counts c t.trial now) known (spread c (omega arith)) strokes shape fits few)

    pub cell-counted : CountedAfter A dx r c t.trial → (0 < r → NotedAfter A dx r c t.words) → CountedAfter A dx r (suc c) (sheet_tried A dx r t c).trial
    unfolding number_tried
    cell-counted now known = by (strokes-counted now known) (reaches dx c t strokes (omega (arith, now.lines_are, now.peak-is, none-higher (λ k. length (open_after A dx r k)) c)) (omega (arith, now.held-are, now.most-is, none-higher (λ k. held_in (open_after A dx r k)) c)))
      where
        by : {u v : Trial} → Counts rings₀ points₀ (segments_after A dx r (suc c)) u → Reaches t.trial u v → CountedAfter A dx r (suc c) v
        by {u} {v} k reached =
            let lines : u.lines ≡ length (open_after A dx r (suc c)) = unfold open_after drawing_after in k.lines_are in
            let held : u.held ≡ held_in (open_after A dx r (suc c)) = unfold open_after drawing_after in k.held-are in
            record {
              lines_are = reached.lines_stay ∙ lines;
              peak-is = reached.peak-raised ∙ ap₂ max now.peak-is lines ∙ unfold highest in refl;
              held-are = reached.held-stay ∙ held;
              most-is = reached.most-raised ∙ ap₂ max now.most-is held ∙ unfold highest in refl;
              rings-are = ap (λ (n : ℕ). n + rings₀) reached.rings-stay ∙ k.rings-are ∙ unfold rings_after drawing_after in refl;
              points-are = ap (λ (n : ℕ). n + points₀) reached.points-stay ∙ k.points-are ∙ unfold rings_after drawing_after in refl;
            }

    pub cell-noted : NotedAfter A dx r c t.words → NotedAfter A dx r (suc c) (sheet_tried A dx r t c).words
    unfolding number_tried
    cell-noted known =
        subst (NotedAfter A dx r (suc c)) (sym (words-reached dx c t strokes))
        (subst (λ (σs : List Segment). Known dx σs (strokes_tried dx c t strokes).words) (sym (next-segments c))
        (cell-known A out narrow c r (segments_after A dx r c) sound (ready A out c r hc sound) t known (spread c (omega arith)) strokes shape fits few
        (subst (λ (σs : List Segment). Spread dx (stitch_all nothing σs).lines) (next-segments c) (spread (suc c) (omega arith)))))

  abbrev swept-to : Tried → ℕ → Tried
  swept-to t c = swept (sheet_tried A dx r) t 0 c

  one_more : (t : Tried) (c : ℕ) → swept-to t (suc c) ≡ sheet_tried A dx r (swept-to t c) c
  unfolding swept
  one_more t c = ap (sheet_tried A dx r (swept (sheet_tried A dx r) t 0 c)) (zero-add c)

  -- after every number of cells of a row the words note the open lines
  pub row-noted : (t : Tried) → NotedAfter A dx r 0 t.words → (c : ℕ) → c ≤ suc dx → NotedAfter A dx r c (swept-to t c).words
  row-noted t known zero hc = unfold swept in known
  row-noted t known (suc c) hc =
      subst (λ (x : Tried). NotedAfter A dx r (suc c) x.words) (sym (one_more t c))
      (cell-noted c (omega arith) (swept-to t c) (row-noted t known c (omega arith)))

  -- and the counts are the drawing's
  pub row-counted : (t : Tried) → CountedAfter A dx r 0 t.trial → (0 < r → NotedAfter A dx r 0 t.words) → (c : ℕ) → c ≤ suc dx → CountedAfter A dx r c (swept-to t c).trial
  row-counted t now known zero hc = unfold swept in now
  row-counted t now known (suc c) hc =
      subst (λ (x : Tried). CountedAfter A dx r (suc c) x.trial) (sym (one_more t c))
      (cell-counted c (omega arith) (swept-to t c) (row-counted t now known c (omega arith)) (λ h. row-noted t (known h) c (omega arith)))

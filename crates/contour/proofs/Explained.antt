-- What the calls that explain say of a build's own tables: a ring's fate is the one by which contours acted, so the record has its class and its owner, and no call
-- is refused; and what is said of a vertex's coordinates is what contour_lines wrote for it. Assumes nothing.
use mathlib.Core.Path.{◌≡◌, refl, sym, ap, subst, ◌∙◌}
use mathlib.Core.Bool.{true}
use mathlib.Core.List.{List, [], ◌∷◌}
use Prim.Native.Nat.{ℕ, zero, suc, ◌+◌, ◌*◌, ◌<◌, ◌≤◌}
use native.Mathlib.Decide.{dec_lt}
use native.Mathlib.Nat.{le_of_suc-le-suc, not-suc-le-zero}
use native.Mathlib.Omega.{arith}
use lib.Ieee.{Float, nan}
use lib.ListN.{length, get_or, length-map}
use borrow.Author.Tests.{lt-ltb}
use Rattle.error.specs.declared.Refusal.TheVariants.{BadSide}
use Rattle.scope.specs.declared.Level.{Level}
use Rattle.scope.specs.Limits.{no_owner}
use Rattle.scope.specs.Cells.{Point}
use Rattle.scope.specs.Stitching.{Line}
use Rattle.scope.specs.Drawing.{ring_count, rings_of}
use Rattle.scope.specs.Area.{area, positive}
use Rattle.scope.specs.Contour.{Fate, polygon, hole, dropped, line, class_word, owner_word, contour_classes, contour_fates}
use Rattle.scope.specs.Smoothing.{Placing, placed_at, line_vertex, line_vertices}
use Rattle.scope.specs.Tables.{written, line_points}
use Rattle.scope.specs.GeoJson.{first_at, count_at, class_at, owner_at}
use Rattle.laws.proofs.Rings.{RingLaw, OddSum, Within}
use Rattle.grid.specs.Grid.{grid_fit}
use Rattle.grid.proofs.Laws.{a-grid-that-fits-is-sized, no-columns-are-refused, no-rows-are-refused}
use Rattle.isoringbuilder.specs.Answers.{above}
use Rattle.contourbuilder.specs.Contours.{ContoursBuilt}
use Rattle.contourbuilder.proofs.Sizes.{laws}
use Rattle.linebuilder.specs.Lines.{LinesBuilt}
use Rattle.readable.proofs.Fates.{OwnedBy, fates-length, fates-owned}
use Rattle.readable.proofs.Orders.{each_at}
use Rattle.readable.proofs.Standing.{ContourRecord, contour-record, VertexAt, vertex-stands}
use Rattle.smoothing.specs.Coordinates.{vertex_moves, vertex_by}
use Rattle.smoothing.proofs.Explained.{vertex-explained}
use Rattle.explaining.specs.Fates.{told, fate_told, fate_answer, FateFound}
use Rattle.explaining.specs.Vertices.{midway, vertex_of_ring, vertex_there, vertex_told, on_grid, vertex_answer}
use Rattle.explaining.specs.declared.RingFate.{RingFate}
use Rattle.explaining.specs.declared.RingFate.TheVariants as fate-is
use Rattle.explaining.proofs.Drawn.{fate-by-rings, drawn-is-midway}
use Rattle.contour.proofs.Results.{Given, given}
use Rattle.contour.proofs.Theorems.{contours_plan, contours-constructed, lines-constructed}
use Rattle.contour.proofs.Checked.{contours-checked}
use Rattle.std.specs.Prelude.{Result, Ok, Err}
use Rattle.error.specs.declared.Refusal.{Refusal}

-- ---- 1. fates

-- the record of ring i has the class and the owner that a fate stands for
abbrev pub Acted : List ℕ → ℕ → Result RingFate Refusal → Type 0
Acted directory i (Ok fate-is.Polygon) = (class_at directory i ≡ 0) × (owner_at directory i ≡ i)
Acted directory i (Ok (fate-is.Hole k d)) = (class_at directory i ≡ 1) × (owner_at directory i ≡ k)
Acted directory i (Ok fate-is.Dropped) = (class_at directory i ≡ 1) × (owner_at directory i ≡ no_owner)
Acted directory i (Err why) = ⊥

acted : (directory : List ℕ) (i : ℕ) (all : List Line) (ring : Line) (P : ℕ → Type 0) (fate : Fate) → class_at directory i ≡ class_word fate → owner_at directory i ≡ owner_word i fate → OwnedBy P fate
    → Acted directory i (Ok (told all ring fate))
unfolding told class_word owner_word
acted directory i all ring P polygon c o w = (c, o)
acted directory i all ring P (hole k) c o w = (c, o)
acted directory i all ring P dropped c o w = (c, o)
acted directory i all ring P line c o w = absurd w

-- what stands within a list does not depend on what is read past its end
within : {X : Type 0} (xs : List X) (i : ℕ) (d e : X) → i < length xs → get_or xs i d ≡ get_or xs i e
within [] i d e h = absurd (not-suc-le-zero h)
within (x ∷ xs) zero d e h = refl
within (x ∷ xs) (suc i) d e h = within xs i d e (le_of_suc-le-suc h)

-- a side of a grid that fits is not 0, where one of 0 is refused
some_of : (count dx dy side : ℕ) → (side ≡ 0 → Err BadSide ≡ grid_fit count dx dy) → grid_fit count dx dy ≡ Ok tt → 1 ≤ side
some_of count dx dy side refused fits = by (dec_lt 0 side)
  where
    by : Dec (0 < side) → 1 ≤ side
    by (yes h) = h
    by (no h) = absurd (let r = refused (omega arith) in let z : ◌≡◌ {A = ℕ} 0 1 = cc in omega arith)

-- a contour that was built
module _ {values : List Float} {level : Level} {dx dy : ℕ} {lines links points directory : List ℕ} {answer : Result ℕ Refusal} {lines' links' points' directory' : List ℕ}
    (b : ContoursBuilt values level dx dy lines links points directory answer lines' links' points' directory') (n : ℕ) (is : answer ≡ Ok n) where
  abbrev rings : List Line
  rings = rings_of (above values level dx dy) dx dy

  stands : Given (contours_plan values level dx dy) points directory n points' directory'
  stands = given n is (contours-constructed values level dx dy lines links points directory b)

  counted : length rings ≡ n
  unfolding ring_count
  counted = stands.rings-are

  record_of : (i : ℕ) → i < length rings → ContourRecord rings points' directory' i
  unfolding written
  record_of i h = rw (stands.points-are, stands.directory-is) (contour-record rings _ _ i h)

  fate-is-the-list's : (i : ℕ) → i < length rings → fate_answer points' directory' n i ≡ Ok (fate_told rings i)
  fate-is-the-list's i h =
      rw (← counted)
      (fate-by-rings points' directory' rings (λ k l. (record_of k l).ring-is) (rw counted (contours-checked values level dx dy lines links points directory b n is).passes-nine) i h)

  -- a ring's fate is the one by which the build acted
  pub fate-acted : (i : ℕ) → i < n → {fate : Result RingFate Refusal} → FateFound points' directory' n i fate → Acted directory' i fate
  unfolding fate_told contour_fates contour_classes
  fate-acted i h {fate} found =
      let there : i < length rings = omega (arith, counted) in
      let classed = length-map rings (λ ring. positive (area ring)) in
      let as_many = fates-length (contour_classes rings) rings (contour_classes rings) rings classed in
      let owned = each_at _ (contour_fates rings) line (fates-owned (contour_classes rings) rings classed) i (omega (arith, as_many)) in
      let r = record_of i there in
      subst (Acted directory' i) (sym (found.answers ∙ fate-is-the-list's i there ∙ ap (λ (f : Fate). Ok (told rings (get_or rings i []) f)) (within (contour_fates rings) i dropped line (omega (arith, as_many)))))
      (acted directory' i rings (get_or rings i []) _ (get_or (contour_fates rings) i line) r.class-is r.owner-is owned)

  -- ---- 2. vertices

  abbrev nowhere : Point
  nowhere = record { x = 0; y = 0 }

  module _ (i v : ℕ) (ring-there : i < n) (vertex-there : v < count_at directory' i) where
    there : i < length rings
    there = omega (arith, counted, ring-there)

    in-ring : v < length (get_or rings i [])
    in-ring = omega (arith, (record_of i there).count-is, vertex-there)

    its-vertex : vertex_of_ring points' directory' i v ≡ get_or (get_or rings i []) v nowhere
    unfolding vertex_of_ring
    its-vertex = ap (λ (l : Line). get_or l v nowhere) (record_of i there).ring-is

    its-law : RingLaw dx dy (get_or rings i [])
    its-law = each_at (RingLaw dx dy) rings [] (laws values level dx dy (a-grid-that-fits-is-sized (length values) dx dy stands.fits)) i there

    stands-midway : midway dx dy (vertex_of_ring points' directory' i v) ≡ true
    stands-midway =
        let odd : OddSum (get_or (get_or rings i []) v nowhere) = each_at OddSum (get_or rings i []) nowhere its-law.odd-sums v in-ring in
        let inside : Within dx dy (get_or (get_or rings i []) v nowhere) = each_at (Within dx dy) (get_or rings i []) nowhere its-law.inside v in-ring in
        rw its-vertex
        (drawn-is-midway dx dy (some_of (length values) dx dy dx (no-columns-are-refused (length values) dx dy) stands.fits) (some_of (length values) dx dy dy (no-rows-are-refused (length values) dx dy) stands.fits) (get_or (get_or rings i []) v nowhere) odd inside.0 inside.1)

    -- no vertex of the build is refused
    pub vertex-explained-always : vertex_answer values level.threshold dx dy points' directory' n i v ≡ Ok (vertex_moves values level.threshold dx dy (vertex_of_ring points' directory' i v))
    unfolding vertex_answer on_grid vertex_told vertex_there
    vertex-explained-always =
        rw (
          stands.fits,
          (contours-checked values level dx dy lines links points directory b n is).passes-nine,
          lt-ltb i n ring-there,
          lt-ltb v (count_at directory' i) vertex-there,
          stands-midway,
        )

    -- what is said of it is what contour_lines wrote, smoothed, then placed
    pub vertex-written : {q : Placing} {lines₂ links₂ : List ℕ} {points₂ : List Float} {directory₂ : List ℕ} {answer₂ : Result ℕ Refusal} {lines₂' links₂' : List ℕ} {points₂' : List Float} {directory₂' : List ℕ}
        → LinesBuilt values level dx dy true q lines₂ links₂ points₂ directory₂ answer₂ lines₂' links₂' points₂' directory₂' → (m : ℕ) → answer₂ ≡ Ok m
        → VertexAt points₂' (2 * (first_at directory' i + v)) (placed_at q (vertex_by (vertex_of_ring points' directory' i v) (vertex_moves values level.threshold dx dy (vertex_of_ring points' directory' i v)))) nan
    unfolding written line_points line_vertices line_vertex
    vertex-written {q} {lines₂} {links₂} {points₂} {directory₂} l m is₂ =
        let g = given m is₂ (lines-constructed values level dx dy true q lines₂ links₂ points₂ directory₂ l) in
        rw ((record_of i there).first-is, vertex-explained, its-vertex, g.points-are)
        (vertex-stands (line_vertex true values level.threshold dx dy q) nowhere nan rings _ i v there in-ring)

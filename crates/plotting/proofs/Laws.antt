-- What callers cite of the points of lines: after a run over tables with the reported room, the walk along the links gives document 01's line points, and
-- these fill their room. A line's points are the words of the rings' points, vertex by vertex. Assumes nothing.
use mathlib.Core.Path.{◌≡◌, refl, sym, ◌∙◌, ap, ap₂}
use mathlib.Core.Bool.{Bool}
use mathlib.Core.List.{List, [], ◌∷◌, ◌++◌, map, flat_map}
use Prim.Native.Nat.{ℕ, suc, ◌/◌, ◌%◌, ◌^◌, ◌≤◌, ◌<◌}
use lib.Ieee.{Float}
use lib.IntN.{ℤ, ◌+ℤ◌}
use lib.ListN.{length}
use Rattle.scope.specs.Terrain.{Sheet}
use Rattle.scope.specs.Cells.{Point}
use Rattle.scope.specs.Stitching.{Line}
use Rattle.scope.specs.Area.{twist, twos_complement, low_word, high_word, area_words}
use Rattle.scope.specs.Drawing.{rings_of, segment_count, ring_count, peak}
use Rattle.scope.specs.Room.{open_words, link_words, point_words}
use Rattle.scope.specs.Smoothing.{Vertex, Placing, line_vertex, line_vertices}
use Rattle.scope.specs.Tables.{vertex_words, packed_vertices, line_points}
use Rattle.laws.proofs.Edges.{Outside}
use Rattle.machine.specs.Machine.{mark, Tables, run_after, run_over}
use Rattle.machine.specs.Walk.{start_point, link_twist, walk_words, record_words, measured_words}
use Rattle.machine.proofs.Built.{words-found, words-fill-their-room}
use Rattle.measuring.specs.Ringed.{Turned}
use Rattle.plotting.specs.Plot.{vertex_at}

-- the words of one vertex
abbrev point_vertex : (Point → Vertex) → Point → List Float
point_vertex vertex p = vertex_words (vertex p ∷ [])

line-packed : (vertex : Point → Vertex) (line : Line) → flat_map (point_vertex vertex) line ≡ vertex_words (map vertex line)
unfolding flat_map vertex_words
line-packed vertex [] = refl
line-packed vertex (p ∷ line) = ap (λ (w : List Float). (vertex p).x ∷ (vertex p).y ∷ w) (line-packed vertex line)

lines-packed : (smooth : Bool) (values : List Float) (t : Float) (dx dy : ℕ) (q : Placing) (rings : List Line)
    → flat_map (flat_map (point_vertex (line_vertex smooth values t dx dy q))) rings ≡ line_points smooth values t dx dy q rings
unfolding flat_map line_points packed_vertices line_vertices
lines-packed smooth values t dx dy q [] = refl
lines-packed smooth values t dx dy q (ring ∷ rings) =
    ap₂ (λ (a b : List Float). a ++ b) (line-packed (line_vertex smooth values t dx dy q) ring) (lines-packed smooth values t dx dy q rings)

-- a line's vertex has two words
pub vertex-has-two-words : (smooth : Bool) (values : List Float) (t : Float) (dx dy : ℕ) (q : Placing) (links : List ℕ) (k : ℕ)
    → length (vertex_at smooth values t dx dy q links k) ≡ 2
unfolding vertex_at vertex_words
vertex-has-two-words smooth values t dx dy q links k = refl

-- ---- what a turn of the walk goes by

-- the vertex of a point where a link starts
pub vertex-of-link : (smooth : Bool) (values : List Float) (t : Float) (dx dy : ℕ) (q : Placing) (links : List ℕ) (k : ℕ) {p : Point} → p ≡ start_point dx links k
    → vertex_words (line_vertex smooth values t dx dy q p ∷ []) ≡ vertex_at smooth values t dx dy q links k
unfolding vertex_at start_point
vertex-of-link smooth values t dx dy q links k e = ap (λ (p : Point). vertex_words (line_vertex smooth values t dx dy q p ∷ [])) e

-- the step between the start points of two links
pub stepped-along : (dx : ℕ) (links : List ℕ) (k next : ℕ) (area : ℕ) {number : ℕ} {p q : Point} → Turned area p q number → p ≡ start_point dx links k → q ≡ start_point dx links next
    → (a : ℤ) → area ≡ twos_complement a → number ≡ twos_complement (a +ℤ link_twist dx links k next)
unfolding Turned link_twist
stepped-along dx links k next area turned at-k at_next a is = turned a is ∙ ap₂ (λ (p q : Point). twos_complement (a +ℤ twist p q)) at-k at_next

-- the words of a line's record
pub line-words : (first count number : ℕ) (a : ℤ) → number ≡ twos_complement a → record_words first count ++ (number % 2 ^ 32 ∷ number / 2 ^ 32 ∷ []) ≡ measured_words first count a
unfolding measured_words area_words low_word high_word
line-words first count number a is = rw is

pub six-words : (first count : ℕ) (a : ℤ) → length (measured_words first count a) ≡ 6
unfolding measured_words record_words area_words
six-words first count a = refl

module _ (A : Sheet) {dx dy : ℕ} (out : Outside A dx dy) where
  pub line-points-fill-their-room : (smooth : Bool) (values : List Float) (t : Float) (q : Placing)
      → length (line_points smooth values t dx dy q (rings_of A dx dy)) ≡ point_words (segment_count A dx dy) (ring_count A dx dy)
  line-points-fill-their-room smooth values t q =
      ap length (sym (lines-packed smooth values t dx dy q (rings_of A dx dy)))
      ∙ words-fill-their-room A out (point_vertex (line_vertex smooth values t dx dy q)) (λ p. unfold vertex_words in refl)

  -- the run over tables that have the reported room
  module _ (lines links : List ℕ) (lines_fit : open_words dx (peak A dx dy) ≤ length lines) (links-fit : link_words (segment_count A dx dy) ≤ length links)
      (numbers : segment_count A dx dy ≤ mark) (small : peak A dx dy < 2 ^ 32) where
    abbrev after : Tables
    after = (run_after A dx (run_over lines links) dy (suc dx)).tables

    pub line-points-found : (smooth : Bool) (values : List Float) (t : Float) (q : Placing)
        → walk_words (vertex_at smooth values t dx dy q after.links) after.links after.progress.head after.progress.head (segment_count A dx dy) ≡ line_points smooth values t dx dy q (rings_of A dx dy)
    unfolding vertex_at
    line-points-found smooth values t q =
        words-found A out lines links lines_fit links-fit numbers small (point_vertex (line_vertex smooth values t dx dy q)) ∙ lines-packed smooth values t dx dy q (rings_of A dx dy)

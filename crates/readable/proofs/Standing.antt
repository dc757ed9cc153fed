-- Where the tables of a contour hold what: a record's words are those of its ring and its fate, and the ring that a reader finds there is the ring; and where a
-- line's vertices stand among packed ones. Assumes nothing.
use mathlib.Core.Path.{◌≡◌, refl, sym, ◌∙◌, ap}
use mathlib.Core.List.{List, [], ◌∷◌, ◌++◌, append_assoc, map}
use Prim.Native.Nat.{ℕ, zero, suc, ◌+◌, ◌*◌, ◌<◌}
use native.Mathlib.Nat.{le_of_suc-le-suc, not-suc-le-zero, zero-add}
use native.Mathlib.Omega.{arith}
use lib.Ieee.{Float}
use lib.ListN.{length, get_or, length-map}
use lib.Seq.{get_or-append-add}
use Rattle.scope.specs.Cells.{Point}
use Rattle.scope.specs.Stitching.{Line}
use Rattle.scope.specs.Area.{area, positive, low_word, high_word}
use Rattle.scope.specs.Contour.{line, class_word, owner_word, contour_classes, contour_fates}
use Rattle.scope.specs.Band.{Numbered, numbered_from}
use Rattle.scope.specs.Smoothing.{Vertex}
use Rattle.scope.specs.Tables.{first_point, packed_points, contour_records, vertex_words, packed_vertices}
use Rattle.scope.specs.GeoJson.{first_at, count_at, class_at, owner_at, area_low_at, area_high_at, ring_at}
use Rattle.readable.proofs.Orders.{nobody, Among, each_at, by_number}
use Rattle.readable.proofs.Fates.{fates-length}
use Rattle.readable.proofs.Records.{recorded, ring-found}

-- ---- a contour's record

-- ring k of an order by number
numbered-at : (rings : List Line) (k i : ℕ) → i < length rings → get_or (numbered_from k rings) i nobody ≡ record { number = k + i; ring = get_or rings i [] }
unfolding numbered_from
numbered-at [] k i h = absurd (not-suc-le-zero h)
numbered-at (ring ∷ rings) k zero h = ap (λ (n : ℕ). record { number = n; ring = ring }) (omega arith)
numbered-at (ring ∷ rings) k (suc i) h =
    numbered-at rings (suc k) i (le_of_suc-le-suc h) ∙ ap (λ (n : ℕ). record { number = n; ring = get_or rings i [] }) (omega arith)

-- record k of a contour's directory, over points that are packed
pub record ContourRecord (rings : List Line) (points directory : List ℕ) (k : ℕ) : Type 0 where
  pub first-is : first_at directory k ≡ first_point rings k
  pub count-is : count_at directory k ≡ length (get_or rings k [])
  pub class-is : class_at directory k ≡ class_word (get_or (contour_fates rings) k line)
  pub owner-is : owner_at directory k ≡ owner_word k (get_or (contour_fates rings) k line)
  pub area-low-is : area_low_at directory k ≡ low_word (area (get_or rings k []))
  pub area-high-is : area_high_at directory k ≡ high_word (area (get_or rings k []))
  pub ring-is : ring_at points directory k ≡ get_or rings k []

pub contour-record : (rings : List Line) (pp pd : List ℕ) (k : ℕ) → k < length rings → ContourRecord rings (packed_points rings ++ pp) (contour_records rings ++ pd) k
unfolding contour_records contour_fates contour_classes
contour-record rings pp pd k h =
    let o = by_number rings in
    let as_many = fates-length (contour_classes rings) rings (contour_classes rings) rings (length-map rings (λ ring. positive (area ring))) ∙ sym o.as_many in
    let there : k < length (numbered_from 0 rings) = omega (arith, o.as_many) in
    let numbered : get_or (numbered_from 0 rings) k nobody ≡ record { number = k; ring = get_or rings k [] } = numbered-at rings 0 k h ∙ ap (λ (n : ℕ). record { number = n; ring = get_or rings k [] }) (zero-add k) in
    let r = recorded rings (numbered_from 0 rings) (contour_fates rings) as_many pd k there in
    let among : Among rings (get_or (numbered_from 0 rings) k nobody) = each_at (Among rings) (numbered_from 0 rings) nobody o.all_among k there in
    record {
      first-is = r.first-is ∙ ap (λ (m : Numbered). first_point rings m.number) numbered;
      count-is = r.count-is ∙ ap (λ (m : Numbered). length m.ring) numbered;
      class-is = r.class-is;
      owner-is = r.owner-is;
      area-low-is = r.area-low-is ∙ ap (λ (m : Numbered). low_word (area m.ring)) numbered;
      area-high-is = r.area-high-is ∙ ap (λ (m : Numbered). high_word (area m.ring)) numbered;
      ring-is = ring-found r among pp ∙ ap (λ (m : Numbered). m.ring) numbered;
    }

-- ---- a line's vertex

-- the two words of a vertex, from a place on
pub record VertexAt (words : List Float) (at : ℕ) (v : Vertex) (past : Float) : Type 0 where
  pub x-is : get_or words at past ≡ v.x
  pub y-is : get_or words (at + 1) past ≡ v.y

module _ (vertex : Point → Vertex) (nowhere : Point) (past : Float) where
  in-line : (l : Line) (rest : List Float) (v : ℕ) → v < length l → VertexAt (vertex_words (map vertex l) ++ rest) (2 * v) (vertex (get_or l v nowhere)) past
  unfolding vertex_words
  in-line [] rest v h = absurd (not-suc-le-zero h)
  in-line (p ∷ l) rest zero h = record { x-is = refl; y-is = refl }
  in-line (p ∷ l) rest (suc v) h =
      let two : 2 * suc v ≡ suc (suc (2 * v)) = omega arith in
      let three : suc (suc (2 * v)) + 1 ≡ suc (suc (2 * v + 1)) = omega arith in
      let behind = in-line l rest v (le_of_suc-le-suc h) in
      rw two (record { x-is = behind.x-is; y-is = rw three behind.y-is })

  line-length : (l : Line) → length (vertex_words (map vertex l)) ≡ 2 * length l
  unfolding vertex_words
  line-length [] = refl
  line-length (p ∷ l) = omega (arith, line-length l)

  -- vertex v of line i among all lines
  pub vertex-stands : (rings : List Line) (rest : List Float) (i v : ℕ) → i < length rings → v < length (get_or rings i [])
      → VertexAt (packed_vertices (map vertex) rings ++ rest) (2 * (first_point rings i + v)) (vertex (get_or (get_or rings i []) v nowhere)) past
  unfolding packed_vertices first_point
  vertex-stands [] rest i v h k = absurd (not-suc-le-zero h)
  vertex-stands (ring ∷ rings) rest zero v h k = rw (append_assoc, zero-add) (in-line ring (packed_vertices (map vertex) rings ++ rest) v k)
  vertex-stands (ring ∷ rings) rest (suc i) v h k =
      let behind = vertex-stands rings rest i v (le_of_suc-le-suc h) k in
      let at : 2 * (length ring + first_point rings i + v) ≡ length (vertex_words (map vertex ring)) + 2 * (first_point rings i + v) = omega (arith, line-length ring) in
      let next : 2 * (length ring + first_point rings i + v) + 1 ≡ length (vertex_words (map vertex ring)) + (2 * (first_point rings i + v) + 1) = omega (arith, line-length ring) in
      record {
        x-is = rw (append_assoc, at, get_or-append-add) behind.x-is;
        y-is = rw (append_assoc, next, get_or-append-add) behind.y-is;
      }

-- What a whole run leaves, lent the reported room or more: document 01's rings, to be read off by one walk, and every word past the need as it was.
-- Assumes nothing.
use mathlib.Core.Path.{◌≡◌, refl, sym, ◌∙◌, ap, ap₂, subst}
use mathlib.Core.List.{List, [], ◌∷◌, ◌++◌, flat_map}
use Prim.Native.Nat.{ℕ, suc, ◌+◌, ◌*◌, ◌%◌, ◌^◌, ◌≤◌, ◌<◌}
use native.Mathlib.Nat.{mod-eq_of_lt, mul-zero, mul-suc, add_comm}
use native.Mathlib.Decide.{dec_lt}
use native.Mathlib.Omega.{arith}
use lib.IntN.{pos}
use lib.ListN.{length, drop, length-append}
use Rattle.scope.specs.Terrain.{Sheet}
use Rattle.scope.specs.Limits.{record_stride}
use Rattle.scope.specs.Cells.{Point, indexed_point}
use Rattle.scope.specs.Stitching.{Line, nothing, stitch_all}
use Rattle.scope.specs.Drawing.{segments_after, drawing_after, rings_after, rings_of, segments_of, segment_count, ring_count, peak}
use Rattle.scope.specs.Room.{open_words, link_words, point_count, point_words, directory_words}
use Rattle.scope.specs.Area.{area_words}
use Rattle.scope.specs.Contour.{Fate, line}
use Rattle.scope.specs.Tables.{ring_words, packed_points, short_of, record_of, bare_by, bare_records}
use Rattle.laws.proofs.Total.{total}
use Rattle.laws.proofs.Conservation.{Each}
use Rattle.laws.proofs.Edges.{Outside}
use Rattle.laws.proofs.Rings.{RingLaw, Within}
use Rattle.laws.proofs.Laws.{rings-are-rings, points-are-segments-and-rings}
use Rattle.machine.specs.Machine.{mark, Tables, run_after, run_over, link_point}
use Rattle.machine.specs.Walk as walk
use Rattle.machine.specs.Walk.{walk_words, walk_points, walk_records, walk_measured}
use Rattle.machine.proofs.Chains.{uses}
use Rattle.machine.proofs.Held.{HeldRings, rings-counted}
use Rattle.machine.proofs.Steps.{Kept, Carried}
use Rattle.machine.proofs.Leaving.{all}
use Rattle.machine.proofs.WholeRun.{run_holds}
use Rattle.machine.proofs.Walking.{words-walked, records-walked, measured-walked, points-counted}

-- ---- the sizes of the packed tables

module _ {Word : Type 0} (f : Point → List Word) (two : (p : Point) → length (f p) ≡ 2) where
  line-length : (l : Line) → length (flat_map f l) ≡ 2 * length l
  unfolding flat_map
  line-length [] = refl
  line-length (p ∷ l) = omega (arith, length-append (f p) (flat_map f l), two p, line-length l)

  words-length : (rings : List Line) → length (flat_map (flat_map f) rings) ≡ 2 * total length rings
  unfolding flat_map total
  words-length [] = refl
  words-length (ring ∷ rings) = omega (arith, length-append (flat_map f ring) (flat_map (flat_map f) rings), line-length ring, words-length rings)

-- where each record has as many words
bare-length : (words : ℕ → ℕ → Line → Fate → List ℕ) (each : ℕ) → ((k first : ℕ) (ring : Line) → length (words k first ring line) ≡ each)
    → (k first : ℕ) (rings : List Line) → length (bare_by words k first rings) ≡ each * length rings
unfolding bare_by
bare-length words each has k first [] = sym (mul-zero each)
bare-length words each has k first (ring ∷ rings) =
    length-append (words k first ring line) (bare_by words (suc k) (first + length ring) rings)
    ∙ ap₂ (λ (a b : ℕ). a + b) (has k first ring) (bare-length words each has (suc k) (first + length ring) rings)
    ∙ sym (mul-suc each (length rings) ∙ add_comm (each * length rings) each)

-- ---- the points as words

-- both coordinates
both : Point → List ℕ
both p = p.x ∷ p.y ∷ []

ring-packed : (ring : Line) → flat_map both ring ≡ ring_words ring
unfolding flat_map both ring_words
ring-packed [] = refl
ring-packed (p ∷ ring) = ap (λ (w : List ℕ). p.x ∷ p.y ∷ w) (ring-packed ring)

rings-packed : (rings : List Line) → flat_map (flat_map both) rings ≡ packed_points rings
unfolding flat_map packed_points
rings-packed [] = refl
rings-packed (ring ∷ rings) = ap₂ (λ (a b : List ℕ). a ++ b) (ring-packed ring) (rings-packed rings)

-- both as words of 16 bits, which hold them on a grid whose sides are short
narrow : Point → List ℕ
narrow p = p.x % 2 ^ 16 ∷ p.y % 2 ^ 16 ∷ []

module _ (dx dy : ℕ) (hx : 2 * dx < 2 ^ 16) (hy : 2 * dy < 2 ^ 16) where
  ring-narrow : (ring : Line) → Each (Within dx dy) ring → flat_map narrow ring ≡ flat_map both ring
  unfolding flat_map narrow both
  ring-narrow [] w = refl
  ring-narrow (p ∷ ring) w =
      ap₂ (λ (a b : List ℕ). a ++ b) (ap₂ (λ (x y : ℕ). x ∷ y ∷ []) (mod-eq_of_lt (omega (arith, w.0.0))) (mod-eq_of_lt (omega (arith, w.0.1)))) (ring-narrow ring w.1)

  rings-narrow : (rings : List Line) → Each (RingLaw dx dy) rings → flat_map (flat_map narrow) rings ≡ flat_map (flat_map both) rings
  unfolding flat_map
  rings-narrow [] w = refl
  rings-narrow (ring ∷ rings) w = ap₂ (λ (a b : List ℕ). a ++ b) (ring-narrow ring w.0.inside) (rings-narrow rings w.1)

module _ (A : Sheet) {dx dy : ℕ} (out : Outside A dx dy) where
  -- two words a point, whatever they are
  pub words-fill-their-room : {Word : Type 0} (f : Point → List Word) → ((p : Point) → length (f p) ≡ 2)
      → length (flat_map (flat_map f) (rings_of A dx dy)) ≡ point_words (segment_count A dx dy) (ring_count A dx dy)
  unfolding point_words point_count
  words-fill-their-room f two = omega (arith, words-length f two (rings_of A dx dy), points-are-segments-and-rings A out)

  pub packed-points-fill-their-room : length (packed_points (rings_of A dx dy)) ≡ point_words (segment_count A dx dy) (ring_count A dx dy)
  packed-points-fill-their-room = ap length (sym (rings-packed (rings_of A dx dy))) ∙ words-fill-their-room both (λ p. unfold both in refl)

  pub records-fill-their-room : length (bare_records 0 0 (rings_of A dx dy)) ≡ directory_words (ring_count A dx dy)
  unfolding directory_words record_stride ring_count
  records-fill-their-room = bare-length record_of 6 (λ k first ring. unfold record_of short_of area_words in refl) 0 0 (rings_of A dx dy)

  pub short-records-length : length (bare_by short_of 0 0 (rings_of A dx dy)) ≡ 4 * ring_count A dx dy
  unfolding ring_count
  short-records-length = bare-length short_of 4 (λ k first ring. unfold short_of in refl) 0 0 (rings_of A dx dy)

  -- the run over tables that have the reported room
  module _ (lines links : List ℕ) (lines_fit : open_words dx (peak A dx dy) ≤ length lines) (links-fit : link_words (segment_count A dx dy) ≤ length links)
      (numbers : segment_count A dx dy ≤ mark) (small : peak A dx dy < 2 ^ 32) where
    abbrev after : Tables
    after = (run_after A dx (run_over lines links) dy (suc dx)).tables

    same-need : dx + 2 + 4 * peak A dx dy ≡ open_words dx (peak A dx dy)
    unfolding open_words
    same-need = omega arith

    kept : Kept
    kept = record { past-lines = drop (dx + 2 + 4 * peak A dx dy) lines; past-links = drop (2 * segment_count A dx dy) links }

    holds : Carried dx (peak A dx dy) (segment_count A dx dy) kept (length (segments_after A dx dy (suc dx))) all (stitch_all nothing (segments_after A dx dy (suc dx))) after
    holds =
        (run_holds A out (peak A dx dy) (segment_count A dx dy) kept (omega arith) (omega arith) numbers small lines links
        (unfold open_words in omega arith) (unfold link_words in omega arith) (unfold kept in refl) (unfold kept in refl) dy (suc dx) (omega arith) (omega arith)).carried

    held-rings : HeldRings dx after.links after.progress.head holds.loops (rings_of A dx dy) after.progress.tail
    unfolding rings_of rings_after drawing_after
    held-rings = holds.held.rings-held

    links-below : (k : ℕ) → 1 ≤ total (uses k) holds.loops → k < mark
    unfolding segment_count segments_of
    links-below k u = by (dec_lt k (length (segments_after A dx dy (suc dx))))
      where
        by : Dec (k < length (segments_after A dx dy (suc dx))) → k < mark
        by (yes h) = omega (arith, numbers)
        by (no h) = absurd (omega (arith, holds.held.unused k (omega arith)))

    loops-are : length holds.loops ≡ ring_count A dx dy
    unfolding ring_count
    loops-are = rings-counted dx after.links after.progress.head holds.loops (rings_of A dx dy) after.progress.tail held-rings

    links-are : total length holds.loops ≡ segment_count A dx dy
    links-are =
        omega (arith, points-counted dx after.links after.progress.head holds.loops (rings_of A dx dy) after.progress.tail held-rings, loops-are, points-are-segments-and-rings A out)

    pub rings-found : after.progress.rings ≡ ring_count A dx dy
    rings-found = holds.held.rings-are ∙ loops-are

    -- the words of the rings' points by any function of a point, ring by ring
    pub words-found : {Word : Type 0} (f : Point → List Word)
        → walk_words (λ k. f (indexed_point dx (link_point after.links k))) after.links after.progress.head after.progress.head (segment_count A dx dy) ≡ flat_map (flat_map f) (rings_of A dx dy)
    words-found f =
        subst (λ (n : ℕ). walk_words (λ k. f (indexed_point dx (link_point after.links k))) after.links after.progress.head after.progress.head n ≡ flat_map (flat_map f) (rings_of A dx dy)) links-are
        (words-walked f dx after.links after.progress.head holds.loops (rings_of A dx dy) after.progress.tail held-rings links-below)

    pub points-found : 2 * dx < 2 ^ 16 → 2 * dy < 2 ^ 16 → walk_points dx after.links after.progress.head after.progress.head (segment_count A dx dy) ≡ packed_points (rings_of A dx dy)
    unfolding walk.index_words walk.point_words narrow
    points-found hx hy =
        words-found narrow
        ∙ rings-narrow dx dy hx hy (rings_of A dx dy) (unfold rings_of in rings-are-rings A out dy (suc dx) (omega arith) (omega arith))
        ∙ rings-packed (rings_of A dx dy)

    -- the records without areas, and with them
    module _ (fits : segment_count A dx dy + ring_count A dx dy < 2 ^ 32) where
      pub records-found : walk_records after.links 0 0 after.progress.head (segment_count A dx dy) ≡ bare_by short_of 0 0 (rings_of A dx dy)
      records-found =
          subst (λ (n : ℕ). walk_records after.links 0 0 after.progress.head n ≡ bare_by short_of 0 0 (rings_of A dx dy)) links-are
          (records-walked dx after.links after.progress.head holds.loops (rings_of A dx dy) after.progress.tail held-rings links-below (omega (arith, points-are-segments-and-rings A out)))

      pub measured-found : walk_measured dx after.links after.progress.head 0 0 (pos 0) after.progress.head (segment_count A dx dy) ≡ bare_records 0 0 (rings_of A dx dy)
      measured-found =
          subst (λ (n : ℕ). walk_measured dx after.links after.progress.head 0 0 (pos 0) after.progress.head n ≡ bare_records 0 0 (rings_of A dx dy)) links-are
          (measured-walked dx after.links after.progress.head holds.loops (rings_of A dx dy) after.progress.tail held-rings links-below (omega (arith, points-are-segments-and-rings A out)))

    pub lines-kept : (open_words dx (peak A dx dy) ≤ length after.lines) × (drop (open_words dx (peak A dx dy)) after.lines ≡ drop (open_words dx (peak A dx dy)) lines)
    lines-kept =
        subst (λ (n : ℕ). (n ≤ length after.lines) × (drop n after.lines ≡ drop n lines)) same-need
        (holds.lines_long, unfold kept in holds.lines-past)

    pub links-kept : (link_words (segment_count A dx dy) ≤ length after.links) × (drop (link_words (segment_count A dx dy)) after.links ≡ drop (link_words (segment_count A dx dy)) links)
    unfolding link_words kept
    links-kept = (holds.links-long, holds.links-past)

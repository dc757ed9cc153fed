-- The outputs after rings that were given out: the points stand packed and the records one after the other, from the first word on. One ring more is written
-- behind them; its words are those of the line that closes, walked along its links, and where the points have room for it its record has its area. Assumes
-- nothing.
use mathlib.Core.Path.{◌≡◌, refl, sym, ◌∙◌, ap, ap₂}
use mathlib.Core.List.{List, [], ◌∷◌, ◌++◌, append_assoc, append-nil}
use Prim.Native.Nat.{ℕ, suc, ◌+◌, ◌*◌, ◌%◌, ◌^◌, ◌≤◌, ◌<◌}
use native.Mathlib.Nat.{mod-eq_of_lt, add-zero, zero-add}
use native.Mathlib.Omega.{arith}
use lib.ListN.{length, drop, length-append, length-map}
use lib.Seq.{sets, length-sets, drop_at}
use Rattle.scope.specs.Limits.{record_stride}
use Rattle.scope.specs.Cells.{Point, indexed_point}
use Rattle.scope.specs.Stitching.{Line}
use Rattle.scope.specs.Area.{area, area_words}
use Rattle.scope.specs.Contour.{line, class_word, owner_word}
use Rattle.scope.specs.Room.{directory_words}
use Rattle.scope.specs.Tables.{written, ring_words, packed_points, short_of, record_of, bare_by, bare_records}
use Rattle.laws.proofs.Total.{total, total-append}
use Rattle.laws.proofs.Conservation.{Each}
use Rattle.laws.proofs.Rings.{Within}
use Rattle.machine.specs.Machine.{word_of, link_point, link_next}
use Rattle.machine.specs.Walk.{index_words, point_words, record_words, measured_words}
use Rattle.machine.proofs.Views.{Slot}
use Rattle.machine.proofs.Chains.{Linked}
use Rattle.machine.proofs.Held.{spelled, HeldLine}
use Rattle.packing.proofs.Laws.{stores-from-the-start, stores-follow}
use Rattle.measuring.specs.Ringed.{area_in}
use Rattle.spreading.proofs.Laws.{ring-words-length, area-named}
use Rattle.giving.specs.Giving.{chain_words, ring_out, given_record}

-- ---- lists

packed-behind : (rings : List Line) (ring : Line) → packed_points (rings ++ (ring ∷ [])) ≡ packed_points rings ++ ring_words ring
unfolding packed_points
packed-behind [] ring = append-nil (ring_words ring)
packed-behind (r ∷ rings) ring = ap (λ (w : List ℕ). ring_words r ++ w) (packed-behind rings ring) ∙ sym (append_assoc (ring_words r) (packed_points rings) (ring_words ring))

pub packed-length : (rings : List Line) → length (packed_points rings) ≡ 2 * total length rings
unfolding packed_points total
packed-length [] = refl
packed-length (ring ∷ rings) = omega (arith, length-append (ring_words ring) (packed_points rings), ring-words-length ring, packed-length rings)

pub records-length : (k first : ℕ) (rings : List Line) → length (bare_records k first rings) ≡ 6 * length rings
unfolding bare_by record_of short_of area_words
records-length k first [] = refl
records-length k first (ring ∷ rings) = omega (arith, records-length (suc k) (first + length ring) rings)

records-behind : (k first : ℕ) (rings : List Line) (ring : Line)
    → bare_records k first (rings ++ (ring ∷ [])) ≡ bare_records k first rings ++ record_of (k + length rings) (first + total length rings) ring line
unfolding bare_by total
records-behind k first [] ring =
    append-nil (record_of k first ring line) ∙ ap₂ (λ (a b : ℕ). record_of a b ring line) (sym (add-zero k)) (sym (add-zero first))
records-behind k first (r ∷ rings) ring =
    ap (λ (w : List ℕ). record_of k first r line ++ w)
    (records-behind (suc k) (first + length r) rings ring
    ∙ ap₂ (λ (a b : ℕ). bare_records (suc k) (first + length r) rings ++ record_of a b ring line) number_is first-is)
    ∙ sym (append_assoc (record_of k first r line) (bare_records (suc k) (first + length r) rings) (record_of (k + suc (length rings)) (first + (length r + total length rings)) ring line))
  where
    number_is : suc k + length rings ≡ k + suc (length rings)
    number_is = omega arith

    first-is : first + length r + total length rings ≡ first + (length r + total length rings)
    first-is = omega arith

-- a ring's record, where its numbers fit their words and the points that it names are the ring's
record_is : (points : List ℕ) (k first size : ℕ) (ring : Line) → length ring ≡ size + 2 → first + length ring < 2 ^ 32 → area_in points first (length ring) ≡ area ring
    → given_record points first size ≡ record_of k first ring line
unfolding given_record measured_words record_words record_of short_of class_word owner_word word_of
record_is points k first size ring long fits named =
    let count-is : (size + 2) % 2 ^ 32 ≡ length ring = mod-eq_of_lt (omega arith) ∙ sym long in
    let first-is : first % 2 ^ 32 ≡ first = mod-eq_of_lt (omega arith) in
    rw (count-is, first-is, named)

-- ---- a line's points as words of sixteen bits

unfoldable pub narrow_words : Line → List ℕ
narrow_words [] = []
narrow_words (p ∷ l) = p.x % 2 ^ 16 ∷ p.y % 2 ^ 16 ∷ narrow_words l

narrow-behind : (l m : Line) → narrow_words (l ++ m) ≡ narrow_words l ++ narrow_words m
unfolding narrow_words
narrow-behind [] m = refl
narrow-behind (p ∷ l) m = ap (λ (w : List ℕ). p.x % 2 ^ 16 ∷ p.y % 2 ^ 16 ∷ w) (narrow-behind l m)

narrow-is : (dx dy : ℕ) → 2 * dx < 2 ^ 16 → 2 * dy < 2 ^ 16 → (l : Line) → Each (Within dx dy) l → narrow_words l ≡ ring_words l
unfolding narrow_words ring_words
narrow-is dx dy hx hy [] w = refl
narrow-is dx dy hx hy (p ∷ l) w =
    ap₂ (λ (a b : List ℕ). a ++ b) (ap₂ (λ (x y : ℕ). x ∷ y ∷ []) (mod-eq_of_lt (omega (arith, w.0.0))) (mod-eq_of_lt (omega (arith, w.0.1)))) (narrow-is dx dy hx hy l w.1)

module _ (dx : ℕ) (links : List ℕ) where
  -- the words of a chain, walked from its first link
  chain-walked : (a : ℕ) (chain : List ℕ) (z : ℕ) → Linked (link_next links) a chain z → chain_words dx links a (length chain) ≡ narrow_words (spelled dx links chain)
  unfolding chain_words spelled narrow_words point_words index_words
  chain-walked a [] z h = absurd h
  chain-walked a (x ∷ []) z h = ap (λ (k : ℕ). point_words dx links k ++ []) (sym h.0)
  chain-walked a (x ∷ y ∷ l) z h =
      ap (λ (k : ℕ). point_words dx links k ++ chain_words dx links (link_next links k) (length (y ∷ l))) (sym h.0)
      ∙ ap (λ (w : List ℕ). point_words dx links x ++ w) (chain-walked (link_next links x) (y ∷ l) z h.1)

  -- the ring of a held line, which begins at the point e
  pub ring-out : (slot : Slot) (chain : List ℕ) (l : Line) (e : Point) → HeldLine dx links slot chain l → e ≡ indexed_point dx (link_point links slot.first)
      → ring_out dx links slot.first (length chain) slot.end ≡ narrow_words (l ++ (e ∷ []))
  unfolding ring_out narrow_words point_words index_words
  ring-out slot chain l e held at_first =
      ap (λ (w : List ℕ). w ++ (index_words dx slot.end ++ point_words dx links slot.first)) (chain-walked slot.first chain slot.last held.linked)
      ∙ ap (λ (p : Point). narrow_words (spelled dx links chain) ++ (index_words dx slot.end ++ narrow_words (p ∷ []))) (sym at_first)
      ∙ sym (append_assoc (narrow_words (spelled dx links chain)) (narrow_words (indexed_point dx slot.end ∷ [])) (narrow_words (e ∷ [])))
      ∙ ap (λ (w : List ℕ). w ++ narrow_words (e ∷ [])) (sym (narrow-behind (spelled dx links chain) (indexed_point dx slot.end ∷ [])) ∙ ap narrow_words (sym held.spells))
      ∙ sym (narrow-behind l (e ∷ []))

-- a line has a point more than its chain has links
pub held-length : (dx : ℕ) (links : List ℕ) (slot : Slot) (chain : List ℕ) (l : Line) → HeldLine dx links slot chain l → length l ≡ length chain + 1
unfolding spelled
held-length dx links slot chain l held =
    ap length held.spells
    ∙ length-append (spelled dx links chain) (indexed_point dx slot.end ∷ [])
    ∙ ap (λ (n : ℕ). n + 1) (length-map chain (λ k. indexed_point dx (link_point links k)))

-- ---- the outputs

-- after these rings, where the tables held points₀ and directory₀ before the first of them; the records have the rings' areas where the points have room
pub record Outputs (points₀ directory₀ : List ℕ) (given : List Line) (points directory : List ℕ) (rings count : ℕ) : Type 0 where
  pub rings-are : rings ≡ length given
  pub points-are : count ≡ total length given
  pub points-out : points ≡ sets points₀ 0 (packed_points given)
  pub directory-out : 2 * total length given ≤ length points₀ → directory ≡ sets directory₀ 0 (bare_records 0 0 given)

-- before the first
pub none_out : (points directory : List ℕ) → Outputs points directory [] points directory 0 0
unfolding total packed_points bare_by
none_out points directory = record { rings-are = refl; points-are = refl; points-out = refl; directory-out = λ room. refl }

-- one ring more
module _ {points₀ directory₀ : List ℕ} {given : List Line} {points directory : List ℕ} {rings count : ℕ} (o : Outputs points₀ directory₀ given points directory rings count)
    (dx dy : ℕ) (hx : 2 * dx < 2 ^ 16) (hy : 2 * dy < 2 ^ 16) (ring : Line) (words : List ℕ) (size : ℕ) (spelt : words ≡ narrow_words ring) (inside : Each (Within dx dy) ring)
    (long : length ring ≡ size + 2) (few : total length given + length ring < 2 ^ 32) (small : length given + 1 < 2 ^ 32) where
  abbrev points' : List ℕ
  points' = sets points (2 * count) words

  more-points : total length (given ++ (ring ∷ [])) ≡ total length given + length ring
  more-points = total-append length given (ring ∷ []) ∙ unfold total in omega arith

  at-points : 2 * count ≡ length (packed_points given)
  at-points = omega (arith, o.points-are, packed-length given)

  words_are : words ≡ ring_words ring
  words_are = spelt ∙ narrow-is dx dy hx hy ring inside

  points-stored : points' ≡ sets points₀ 0 (packed_points (given ++ (ring ∷ [])))
  points-stored =
      ap₂ (λ (table ws : List ℕ). sets table (2 * count) ws) o.points-out words_are
      ∙ ap (λ (n : ℕ). sets (sets points₀ 0 (packed_points given)) n (ring_words ring)) (at-points ∙ sym (zero-add (length (packed_points given))))
      ∙ sym (stores-follow points₀ 0 (packed_points given) (ring_words ring))
      ∙ ap (sets points₀ 0) (sym (packed-behind given ring))

  -- where the points have room for it, its words stand from its first point on
  area-is : 2 * total length (given ++ (ring ∷ [])) ≤ length points₀ → area_in points' count (length ring) ≡ area ring
  area-is room =
      area-named points' count ring (drop (length (packed_points (given ++ (ring ∷ [])))) points₀)
      (omega (arith, ap length points-stored, length-sets points₀ 0 (packed_points (given ++ (ring ∷ []))), o.points-are, more-points))
      (ap (drop (2 * count)) (points-stored ∙ stores-from-the-start points₀ (packed_points (given ++ (ring ∷ []))) (omega (arith, packed-length (given ++ (ring ∷ [])))) ∙ apart)
      ∙ drop_at (packed_points given) (ring_words ring ++ drop (length (packed_points (given ++ (ring ∷ [])))) points₀) (2 * count) (sym at-points))
    where
      apart : packed_points (given ++ (ring ∷ [])) ++ drop (length (packed_points (given ++ (ring ∷ [])))) points₀
          ≡ packed_points given ++ (ring_words ring ++ drop (length (packed_points (given ++ (ring ∷ [])))) points₀)
      apart =
          ap (λ (ws : List ℕ). ws ++ drop (length (packed_points (given ++ (ring ∷ [])))) points₀) (packed-behind given ring)
          ∙ append_assoc (packed_points given) (ring_words ring) (drop (length (packed_points (given ++ (ring ∷ [])))) points₀)

  at_records : directory_words rings ≡ 0 + length (bare_records 0 0 given)
  unfolding directory_words record_stride
  at_records = omega (arith, o.rings-are, records-length 0 0 given)

  the-record : 2 * total length (given ++ (ring ∷ [])) ≤ length points₀ → given_record points' count size ≡ record_of (0 + length given) (0 + total length given) ring line
  the-record room =
      record_is points' (0 + length given) count size ring long (omega (arith, o.points-are)) (area-is room)
      ∙ ap (λ (first : ℕ). record_of (0 + length given) first ring line) (o.points-are ∙ sym (zero-add (total length given)))

  pub one_out : Outputs points₀ directory₀ (given ++ (ring ∷ [])) (sets points (2 * count) words)
      (sets directory (directory_words rings) (given_record (sets points (2 * count) words) count size)) (word_of (rings + 1)) (word_of (count + size + 2))
  unfolding word_of
  one_out = record {
    rings-are = ap (λ (n : ℕ). (n + 1) % 2 ^ 32) o.rings-are ∙ mod-eq_of_lt small ∙ sym (length-append given (ring ∷ []));
    points-are = mod-eq_of_lt (omega (arith, o.points-are)) ∙ omega (arith, o.points-are, more-points);
    points-out = points-stored;
    directory-out = λ room.
        ap₂ (λ (table : List ℕ) (n : ℕ). sets table n (given_record points' count size)) (o.directory-out (omega (arith, more-points))) at_records
        ∙ ap (sets (sets directory₀ 0 (bare_records 0 0 given)) (0 + length (bare_records 0 0 given))) (the-record room)
        ∙ sym (stores-follow directory₀ 0 (bare_records 0 0 given) (record_of (0 + length given) (0 + total length given) ring line))
        ∙ ap (sets directory₀ 0) (sym (records-behind 0 0 given ring));
  }

-- where there is room for them, they are written and the words behind them stay
module _ {points₀ directory₀ : List ℕ} {given : List Line} {points directory : List ℕ} {rings count : ℕ} (o : Outputs points₀ directory₀ given points directory rings count)
    (points-fit : 2 * total length given ≤ length points₀) where
  pub points-written : points ≡ written (packed_points given) points₀
  unfolding written
  points-written = o.points-out ∙ stores-from-the-start points₀ (packed_points given) (omega (arith, packed-length given))

  pub records-written : 6 * length given ≤ length directory₀ → directory ≡ written (bare_records 0 0 given) directory₀
  unfolding written
  records-written fits = o.directory-out points-fit ∙ stores-from-the-start directory₀ (bare_records 0 0 given) (omega (arith, records-length 0 0 given))

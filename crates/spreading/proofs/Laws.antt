-- What spreading leaves of records that stand in a directory without their areas: whole records, of bare rings that are packed and of rings in an order, where
-- the points that a record names are its ring's. Assumes nothing.
use mathlib.Core.Path.{◌≡◌, refl, sym, ◌∙◌, ap, ap₂}
use mathlib.Core.List.{List, [], ◌∷◌, ◌++◌, append_assoc}
use Prim.Native.Nat.{ℕ, suc, ◌+◌, ◌-◌, ◌*◌, ◌≤◌, ◌<◌}
use native.Mathlib.Nat.{mul-zero, mul-suc, add_comm}
use native.Mathlib.Omega.{arith}
use lib.ListN.{length, get_or, take, drop, length-append, length-drop}
use lib.Seq.{get_or-drop, drop-drop, drop-append-add, drop_at, take_at}
use Rattle.scope.specs.Stitching.{Line}
use Rattle.scope.specs.Area.{points, area, area_words}
use Rattle.scope.specs.Contour.{Fate, line}
use Rattle.scope.specs.Band.{Numbered}
use Rattle.scope.specs.GeoJson.{words_in}
use Rattle.scope.specs.Tables.{written, ring_words, packed_points, short_of, record_of, bare_by, bare_records, first_point, ordered_by, ordered_records}
use Rattle.measuring.specs.Ringed.{area_in}
use Rattle.measuring.proofs.Complement.{area-within}
use Rattle.spreading.specs.Spread.{spread_record, spread_from}
use Rattle.spreading.proofs.Stores.{from-record}

-- ---- words that are written over others

-- words written over words that are no more
pub written_over : {Word : Type 0} (new old table : List Word) → length old ≤ length new → written new (written old table) ≡ written new table
unfolding written
written_over {Word} new old table h =
    let more : length new ≡ length old + (length new - length old) = omega arith in
    ap (λ (l : List Word). new ++ l)
    (ap (λ (m : ℕ). drop m (old ++ drop (length old) table)) more
    ∙ drop-append-add old (drop (length old) table) (length new - length old)
    ∙ drop-drop (length new - length old) (length old) table
    ∙ ap (λ (m : ℕ). drop m table) (sym more))

-- ---- one record

-- words of a record, behind others
module _ (ps directory : List ℕ) (k first : ℕ) (ring : Line) (fate : Fate) (rest : List ℕ) (stands : drop (4 * k) directory ≡ short_of k first ring fate ++ rest) where
  word_stands : (j : ℕ) → get_or directory (4 * k + j) 0 ≡ get_or (short_of k first ring fate ++ rest) j 0
  word_stands j = sym (get_or-drop (4 * k) directory j 0) ∙ ap (λ (l : List ℕ). get_or l j 0) stands

  first-stands : get_or directory (4 * k) 0 ≡ first
  unfolding short_of
  first-stands = let none : 4 * k ≡ 4 * k + 0 = omega arith in ap (λ (i : ℕ). get_or directory i 0) none ∙ word_stands 0

  record-spread : area_in ps first (length ring) ≡ area ring → spread_record ps directory k ≡ record_of k first ring fate
  unfolding spread_record record_of short_of
  record-spread named = rw (first-stands, word_stands 1, word_stands 2, word_stands 3, named)

  next-stands : drop (4 * suc k) directory ≡ rest
  unfolding short_of
  next-stands =
      let four : 4 * suc k ≡ 4 * k + 4 = omega arith in
      ap (λ (i : ℕ). drop i directory) four ∙ sym (drop-drop 4 (4 * k) directory) ∙ ap (drop 4) stands

-- ---- bare rings, which are packed

pub ring-words-length : (l : Line) → length (ring_words l) ≡ 2 * length l
unfolding ring_words
ring-words-length [] = refl
ring-words-length (p ∷ l) = omega (arith, ring-words-length l)

pub points-of-words : (l : Line) → points (ring_words l) ≡ l
unfolding points ring_words
points-of-words [] = refl
points-of-words (p ∷ l) = ap (λ (m : Line). p ∷ m) (points-of-words l)

-- a ring whose words stand from its first point on
pub area-named : (ps : List ℕ) (first : ℕ) (ring : Line) (past : List ℕ) → 2 * first ≤ length ps → drop (2 * first) ps ≡ ring_words ring ++ past → area_in ps first (length ring) ≡ area ring
unfolding words_in
area-named ps first ring past there stand =
    area-within ps first (length ring) (omega (arith, length-drop (2 * first) ps, ap length stand, length-append (ring_words ring) past, ring-words-length ring))
    ∙ ap (λ (ws : List ℕ). area (points ws)) (ap (take (2 * length ring)) stand ∙ take_at (ring_words ring) past (2 * length ring) (ring-words-length ring))
    ∙ ap area (points-of-words ring)

bare-spread : (ps directory : List ℕ) (k first : ℕ) (rings : List Line) (past rest : List ℕ) → 2 * first ≤ length ps → drop (2 * first) ps ≡ packed_points rings ++ past
    → drop (4 * k) directory ≡ bare_by short_of k first rings ++ rest → spread_from ps directory k (length rings) ≡ bare_records k first rings
unfolding bare_by packed_points
bare-spread ps directory k first [] past rest there stand stands = unfold spread_from in refl
bare-spread ps directory k first (ring ∷ rings) past rest there stand stands =
    from-record ps directory k (length rings)
    ∙ ap₂ (λ (a b : List ℕ). a ++ b)
    (record-spread ps directory k first ring line (bare_by short_of (suc k) (first + length ring) rings ++ rest) (stands ∙ append_assoc (short_of k first ring line) _ rest)
    (area-named ps first ring (packed_points rings ++ past) there in-front))
    (bare-spread ps directory (suc k) (first + length ring) rings past rest further behind
    (next-stands ps directory k first ring line (bare_by short_of (suc k) (first + length ring) rings ++ rest) (stands ∙ append_assoc (short_of k first ring line) _ rest)))
  where
    in-front : drop (2 * first) ps ≡ ring_words ring ++ (packed_points rings ++ past)
    in-front = stand ∙ append_assoc (ring_words ring) (packed_points rings) past

    further : 2 * (first + length ring) ≤ length ps
    further = omega (arith, length-drop (2 * first) ps, ap length in-front, length-append (ring_words ring) (packed_points rings ++ past), ring-words-length ring)

    behind : drop (2 * (first + length ring)) ps ≡ packed_points rings ++ past
    behind =
        let on : 2 * (first + length ring) ≡ 2 * first + 2 * length ring = omega arith in
        ap (λ (i : ℕ). drop i ps) on ∙ sym (drop-drop (2 * length ring) (2 * first) ps) ∙ ap (drop (2 * length ring)) in-front
        ∙ drop_at (ring_words ring) (packed_points rings ++ past) (2 * length ring) (ring-words-length ring)

-- where the rings' points and their records without areas are written, spreading leaves their records
pub bare-written : (rings : List Line) (ps past directory : List ℕ) → ps ≡ packed_points rings ++ past → length (bare_by short_of 0 0 rings) ≤ length (bare_records 0 0 rings)
    → written (spread_from ps (written (bare_by short_of 0 0 rings) directory) 0 (length rings)) (written (bare_by short_of 0 0 rings) directory) ≡ written (bare_records 0 0 rings) directory
bare-written rings ps past directory are fewer =
    ap (λ (ws : List ℕ). written ws (written (bare_by short_of 0 0 rings) directory))
    (bare-spread ps (written (bare_by short_of 0 0 rings) directory) 0 0 rings past (drop (length (bare_by short_of 0 0 rings)) directory) (omega arith) are (unfold written in refl))
    ∙ written_over (bare_records 0 0 rings) (bare_by short_of 0 0 rings) directory fewer

-- ---- rings in an order

module _ (all : List Line) where
  pub ordered-length : (words : ℕ → ℕ → Line → Fate → List ℕ) (each : ℕ) → ((k first : ℕ) (ring : Line) (fate : Fate) → length (words k first ring fate) ≡ each)
      → (k : ℕ) (order : List Numbered) (fates : List Fate) → length fates ≡ length order → length (ordered_by words all k order fates) ≡ each * length order
  unfolding ordered_by
  ordered-length words each has k [] fates many = sym (mul-zero each)
  ordered-length words each has k (m ∷ ms) [] many = absurd (omega arith)
  ordered-length words each has k (m ∷ ms) (fate ∷ fates) many =
      length-append (words k (first_point all m.number) m.ring fate) (ordered_by words all (suc k) ms fates)
      ∙ ap₂ (λ (a b : ℕ). a + b) (has k (first_point all m.number) m.ring fate) (ordered-length words each has (suc k) ms fates (omega arith))
      ∙ sym (mul-suc each (length ms) ∙ add_comm (each * length ms) each)

  pub short-length : (order : List Numbered) (fates : List Fate) → length fates ≡ length order → length (ordered_by short_of all 0 order fates) ≡ 4 * length order
  short-length order fates = ordered-length short_of 4 (λ k first ring fate. unfold short_of in refl) 0 order fates

  pub records-length : (order : List Numbered) (fates : List Fate) → length fates ≡ length order → length (ordered_records all 0 order fates) ≡ 6 * length order
  records-length order fates = ordered-length record_of 6 (λ k first ring fate. unfold record_of short_of area_words in refl) 0 order fates

-- past is what stands past the end of an order
module _ (ps : List ℕ) (all : List Line) (past : Numbered) where
  -- the points that the record of an element names are its ring's
  abbrev pub Named : Numbered → Type 0
  Named m = area_in ps (first_point all m.number) (length m.ring) ≡ area m.ring

  ordered-spread : (directory : List ℕ) (k : ℕ) (order : List Numbered) (fates : List Fate) (rest : List ℕ) → length fates ≡ length order → ((r : ℕ) → r < length order → Named (get_or order r past))
      → drop (4 * k) directory ≡ ordered_by short_of all k order fates ++ rest → spread_from ps directory k (length order) ≡ ordered_records all k order fates
  unfolding ordered_by
  ordered-spread directory k [] fates rest many named stands = unfold spread_from in refl
  ordered-spread directory k (m ∷ ms) [] rest many named stands = absurd (omega arith)
  ordered-spread directory k (m ∷ ms) (fate ∷ fates) rest many named stands =
      let here = stands ∙ append_assoc (short_of k (first_point all m.number) m.ring fate) (ordered_by short_of all (suc k) ms fates) rest in
      from-record ps directory k (length ms)
      ∙ ap₂ (λ (a b : List ℕ). a ++ b)
      (record-spread ps directory k (first_point all m.number) m.ring fate (ordered_by short_of all (suc k) ms fates ++ rest) here (named 0 (omega arith)))
      (ordered-spread directory (suc k) ms fates rest (omega arith) (λ r h. named (suc r) (omega arith))
      (next-stands ps directory k (first_point all m.number) m.ring fate (ordered_by short_of all (suc k) ms fates ++ rest) here))

  -- where the records of an order are written without areas, spreading leaves its records
  pub ordered-written : (directory : List ℕ) (order : List Numbered) (fates : List Fate) → length fates ≡ length order → ((r : ℕ) → r < length order → Named (get_or order r past))
      → written (spread_from ps (written (ordered_by short_of all 0 order fates) directory) 0 (length order)) (written (ordered_by short_of all 0 order fates) directory) ≡ written (ordered_records all 0 order fates) directory
  ordered-written directory order fates many named =
      ap (λ (ws : List ℕ). written ws (written (ordered_by short_of all 0 order fates) directory))
      (ordered-spread (written (ordered_by short_of all 0 order fates) directory) 0 order fates (drop (length (ordered_by short_of all 0 order fates)) directory) many named (unfold written in refl))
      ∙ written_over (ordered_records all 0 order fates) (ordered_by short_of all 0 order fates) directory (omega (arith, short-length all order fates many, records-length all order fates many))

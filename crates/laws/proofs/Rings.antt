-- Rings: closed, of five points or more, with neighbours that differ, inside the grid, each point between two neighbouring samples, and with no point
-- twice but the first. Every pair of a ring is a segment that was drawn, by conservation; two segments that follow one another lie in two cells that
-- share an edge, and a point is the sum of its two cells, so fewer than four segments do not close. Assumes nothing.
use mathlib.Core.Path.{◌≡◌, refl, sym, ◌∙◌, ap, subst}
use mathlib.Core.Bool.{Bool, true, false, not, cond, ◌&&◌, false≢true, true≢false}
use mathlib.Core.List.{List, [], ◌∷◌, ◌++◌, map}
use Prim.Native.Nat.{ℕ, zero, suc, ◌+◌, ◌*◌, ◌%◌, ◌≤◌}
use native.Mathlib.Decide.{dec_le}
use native.Mathlib.Omega.{arith}
use lib.Dec.{eqb, leb}
use lib.ListN.{length, length-append}
use borrow.Author.Tests.{eqb-true, eq-eqb, leb-true, le-leb, not-true}
use Rattle.scope.specs.Terrain.{Sheet}
use Rattle.scope.specs.declared.Side.{Side}
use Rattle.scope.specs.declared.Side.TheVariants.{Left, Right, Top, Bottom}
use Rattle.scope.specs.Cells.{same_side, Point, Stroke, ◌⟶◌, Segment, same_point, when, point_of, placed, drawn, cell_number, cell_segments}
use Rattle.scope.specs.Stitching.{Line}
use Rattle.scope.specs.Drawing.{along, down, up_to, with_cell, segments_after}
use Rattle.laws.proofs.Total.{total, total-append}
use Rattle.laws.proofs.Ends.{and_left, and_right, point-eq, same_refl}
use Rattle.laws.proofs.Counting.{same}
use Rattle.laws.proofs.Conservation.{pair_sum, Each, Closed}
use Rattle.laws.proofs.Edges.{Outside, Cell, end_cell, start_cell, first_cell, second_cell, tested}
use Rattle.laws.proofs.Strokes.{Role, begin, finish, side_by, leaving, fitting, head-fits, rest-fits, strokes-fit}
use Rattle.laws.proofs.Marks.{on_side, drawable, home_here}
use Rattle.laws.proofs.Cellwise.{roles-apart}

-- every pair of neighbours has a property
abbrev pub Chain : (Point → Point → Type 0) → Line → Type 0
Chain P [] = Unit {0}
Chain P (p ∷ []) = Unit {0}
Chain P (p ∷ q ∷ l) = P p q × Chain P (q ∷ l)

abbrev pub Within : ℕ → ℕ → Point → Type 0
Within dx dy p = (p.x ≤ 2 * dx) × (p.y ≤ 2 * dy)

-- a point lies between two neighbouring samples: one of its doubled coordinates is even and the other odd
abbrev pub OddSum : Point → Type 0
OddSum p = (p.x + p.y) % 2 ≡ 1

-- how often a point stands in a line, and a line without its first point
unfoldable pub occurrences : Point → Line → ℕ
occurrences p l = total (same p) l

abbrev pub behind : Line → Line
behind [] = []
behind (p ∷ l) = l

-- what holds of a drawn segment from p to q
record Good (A : Sheet) (dx dy : ℕ) (p q : Point) : Type 0 where
  column-of-both : (start_cell A p).column ≡ (end_cell A q).column
  row-of-both : (start_cell A p).row ≡ (end_cell A q).row
  apart : same_point p q ≡ false
  from-within : Within dx dy p
  to-within : Within dx dy q
  odd-sum : OddSum p

within_test : ℕ → ℕ → Point → Bool
within_test dx dy p = leb p.x (2 * dx) && leb p.y (2 * dy)

-- the same as a test
good_test : Sheet → ℕ → ℕ → Point → Point → Bool
good_test A dx dy p q =
    eqb (start_cell A p).column (end_cell A q).column
    && (eqb (start_cell A p).row (end_cell A q).row
    && (not (same_point p q) && (within_test dx dy p && (within_test dx dy q && eqb ((p.x + p.y) % 2) 1))))

and-true : {a b : Bool} → a ≡ true → b ≡ true → a && b ≡ true
and-true {a} {b} ha hb = ap (λ (x : Bool). x && b) ha ∙ hb

within-passes : (dx dy : ℕ) (p : Point) → Within dx dy p → within_test dx dy p ≡ true
unfolding within_test
within-passes dx dy p w = and-true (le-leb p.x (2 * dx) w.0) (le-leb p.y (2 * dy) w.1)

within-from : (dx dy : ℕ) (p : Point) → within_test dx dy p ≡ true → Within dx dy p
unfolding within_test
within-from dx dy p h =
    (leb-true p.x (2 * dx) (and_left (leb p.x (2 * dx)) (leb p.y (2 * dy)) h), leb-true p.y (2 * dy) (and_right (leb p.x (2 * dx)) (leb p.y (2 * dy)) h))

good-passes : (A : Sheet) (dx dy : ℕ) (p q : Point) → Good A dx dy p q → good_test A dx dy p q ≡ true
unfolding good_test
good-passes A dx dy p q g =
    and-true (eq-eqb (start_cell A p).column (end_cell A q).column g.column-of-both)
    (and-true (eq-eqb (start_cell A p).row (end_cell A q).row g.row-of-both)
    (and-true (ap not g.apart)
    (and-true (within-passes dx dy p g.from-within)
    (and-true (within-passes dx dy q g.to-within) (eq-eqb ((p.x + p.y) % 2) 1 g.odd-sum)))))

good-from : (A : Sheet) (dx dy : ℕ) (p q : Point) → good_test A dx dy p q ≡ true → Good A dx dy p q
unfolding good_test
good-from A dx dy p q h =
    let columns : Bool = eqb (start_cell A p).column (end_cell A q).column in
    let rows : Bool = eqb (start_cell A p).row (end_cell A q).row in
    let odd : Bool = eqb ((p.x + p.y) % 2) 1 in
    let to : Bool = within_test dx dy q && odd in
    let from : Bool = within_test dx dy p && to in
    let rest : Bool = not (same_point p q) && from in
    let h₁ : rows && rest ≡ true = and_right columns (rows && rest) h in
    let h₂ : rest ≡ true = and_right rows rest h₁ in
    let h₃ : from ≡ true = and_right (not (same_point p q)) from h₂ in
    let h₄ : to ≡ true = and_right (within_test dx dy p) to h₃ in
    record {
      column-of-both = eqb-true (start_cell A p).column (end_cell A q).column (and_left columns (rows && rest) h);
      row-of-both = eqb-true (start_cell A p).row (end_cell A q).row (and_left rows rest h₁);
      apart = not-true (same_point p q) (and_left (not (same_point p q)) from h₂);
      from-within = within-from dx dy p (and_left (within_test dx dy p) to h₃);
      to-within = within-from dx dy q (and_left (within_test dx dy q) odd h₄);
      odd-sum = eqb-true ((p.x + p.y) % 2) 1 (and_right (within_test dx dy q) odd h₄);
    }

-- 1 for a pair that is not good
pub fault : Sheet → ℕ → ℕ → Point → Point → ℕ
fault A dx dy p q = when 1 (not (good_test A dx dy p q))

module _ (A : Sheet) {dx dy : ℕ} (out : Outside A dx dy) where
  -- where a sample of the cell's right column is above, that column is in the grid; likewise its lower row
  pub in-columns : (c r : ℕ) → A c r ≡ true → c ≤ dx
  in-columns c r h = by (dec_le c dx)
    where
      by : Dec (c ≤ dx) → c ≤ dx
      by (yes k) = k
      by (no k) = absurd (false≢true (sym (out.no-column-after c r (omega arith)) ∙ h))

  in_rows : (c r : ℕ) → A c r ≡ true → r ≤ dy
  in_rows c r h = by (dec_le r dy)
    where
      by : Dec (r ≤ dy) → r ≤ dy
      by (yes k) = k
      by (no k) = absurd (false≢true (sym (out.no-row-after c r (omega arith)) ∙ h))

  side-within : (role : Role) (c r : ℕ) (d : Side) → c ≤ dx → r ≤ dy → on_side role A c r d ≡ true → Within dx dy (point_of c r d)
  unfolding point_of
  side-within role c r Left hc hr h = omega arith
  side-within begin c r Right hc hr h = omega (arith, in-columns (suc c) (suc r) (and_left (A (suc c) (suc r)) (not (A (suc c) r)) h))
  side-within finish c r Right hc hr h = omega (arith, in-columns (suc c) r (and_left (A (suc c) r) (not (A (suc c) (suc r))) h))
  side-within role c r Top hc hr h = omega arith
  side-within begin c r Bottom hc hr h = omega (arith, in_rows c (suc r) (and_left (A c (suc r)) (not (A (suc c) (suc r))) h))
  side-within finish c r Bottom hc hr h = omega (arith, in_rows (suc c) (suc r) (and_left (A (suc c) (suc r)) (not (A c (suc r))) h))

  odd-side : (role : Role) (c r : ℕ) (d : Side) → on_side role A c r d ≡ true → ((point_of c r d).x + (point_of c r d).y) % 2 ≡ 1
  unfolding point_of
  odd-side role c r Left h = omega (arith, drawable A out role c r Left h)
  odd-side role c r Right h = omega arith
  odd-side role c r Top h = omega (arith, drawable A out role c r Top h)
  odd-side role c r Bottom h = omega arith

  stroke-good : (c r : ℕ) → c ≤ dx → r ≤ dy → (s e : Side) → on_side begin A c r s ≡ true → on_side finish A c r e ≡ true → Good A dx dy (point_of c r s) (point_of c r e)
  stroke-good c r hc hr s e hs he = record {
    column-of-both = ap (λ (k : Cell). k.column) (home_here A out begin c r s hs) ∙ sym (ap (λ (k : Cell). k.column) (home_here A out finish c r e he));
    row-of-both = ap (λ (k : Cell). k.row) (home_here A out begin c r s hs) ∙ sym (ap (λ (k : Cell). k.row) (home_here A out finish c r e he));
    apart = roles-apart A out c r begin s e hs he;
    from-within = side-within begin c r s hc hr hs;
    to-within = side-within finish c r e hc hr he;
    odd-sum = odd-side begin c r s hs;
  }

  -- no segment is at fault
  strokes-good : (c r : ℕ) → c ≤ dx → r ≤ dy → (free : Role → Side → Bool) → ((role : Role) (d : Side) → free role d ≡ true → on_side role A c r d ≡ true)
      → (strokes : List Stroke) → fitting free strokes ≡ true → total (λ σ. fault A dx dy σ.from σ.to) (map (placed c r) strokes) ≡ 0
  unfolding total placed fault
  strokes-good c r hc hr free sampled [] h = refl
  strokes-good c r hc hr free sampled ((s ⟶ e) ∷ strokes) h =
      omega (
        arith,
        ap (λ (b : Bool). when 1 (not b)) (good-passes A dx dy (point_of c r s) (point_of c r e)
            (stroke-good c r hc hr s e (sampled begin s (head-fits free (s ⟶ e) strokes h begin)) (sampled finish e (head-fits free (s ⟶ e) strokes h finish)))),
        strokes-good c r hc hr (leaving free (s ⟶ e)) (λ role d k. sampled role d (and_left (free role d) (not (same_side d (side_by role (s ⟶ e)))) k)) strokes (rest-fits free (s ⟶ e) strokes h),
      )

  pub cell-good : (c r : ℕ) → c ≤ dx → r ≤ dy → total (λ σ. fault A dx dy σ.from σ.to) (cell_segments A c r) ≡ 0
  unfolding cell_segments cell_number
  cell-good c r hc hr =
      strokes-good c r hc hr (λ role. on_side role A c r) (λ role d h. h) (drawn (cell_number A c r)) (strokes-fit (A c (suc r)) (A (suc c) (suc r)) (A (suc c) r) (A c r))

-- a measure that no cell's segments have
module _ (A : Sheet) (dx dy : ℕ) (w : Segment → ℕ) (none : (c r : ℕ) → c ≤ dx → r ≤ dy → total w (cell_segments A c r) ≡ 0) where
  row-none : (σs : List Segment) (r c : ℕ) → r ≤ dy → c ≤ suc dx → total w (along (with_cell A) [] dx σs r c) ≡ total w σs
  unfolding along with_cell
  row-none σs r zero hr hc = refl
  row-none σs r (suc c) hr hc =
      omega (arith, total-append w (along (with_cell A) [] dx σs r c) (cell_segments A c r), row-none σs r c hr (omega arith), none c r (omega arith) hr)

  rows_none : (r : ℕ) → r ≤ suc dy → total w (down (with_cell A) [] dx r) ≡ 0
  unfolding down total
  rows_none zero hr = refl
  rows_none (suc r) hr = row-none (down (with_cell A) [] dx r) r (suc dx) (omega arith) (omega arith) ∙ rows_none r (omega arith)

  pub all_none : (r c : ℕ) → r ≤ dy → c ≤ suc dx → total w (segments_after A dx r c) ≡ 0
  unfolding segments_after up_to
  all_none r c hr hc = row-none (down (with_cell A) [] dx r) r c hr hc ∙ rows_none r (omega arith)

-- ---- from the sums to each ring

-- no faults in a line: every pair is good
chain-good : (A : Sheet) (dx dy : ℕ) (l : Line) → pair_sum (fault A dx dy) l ≡ 0 → Chain (Good A dx dy) l
unfolding pair_sum fault
chain-good A dx dy [] h = tt
chain-good A dx dy (p ∷ []) h = tt
chain-good A dx dy (p ∷ q ∷ l) h =
    (good-from A dx dy p q (passed (good_test A dx dy p q) (omega arith)), chain-good A dx dy (q ∷ l) (omega arith))
  where
    passed : (b : Bool) → when 1 (not b) ≡ 0 → b ≡ true
    passed true e = refl
    passed false e = absurd (omega arith)

-- a point is the sum of its two cells
sum-of-cells : (A : Sheet) (p : Point) → ((end_cell A p).column + (start_cell A p).column ≡ p.x) × ((end_cell A p).row + (start_cell A p).row ≡ p.y)
unfolding end_cell start_cell first_cell second_cell
sum-of-cells A p = by (tested A p)
  where
    by : (b : Bool) → ((cond b (first_cell p) (second_cell p)).column + (cond b (second_cell p) (first_cell p)).column ≡ p.x) × ((cond b (first_cell p) (second_cell p)).row + (cond b (second_cell p) (first_cell p)).row ≡ p.y)
    by true = (omega arith, omega arith)
    by false = (omega arith, omega arith)

-- three cells, each sharing an edge with the other two: there are none
height : Cell → ℕ
height k = k.column + k.row

odd-heights : {A : Sheet} {dx dy : ℕ} {o p q : Point} → Good A dx dy o p → Good A dx dy p q → (height (start_cell A o) + height (start_cell A p)) % 2 ≡ 1
unfolding height
odd-heights {A} {dx} {dy} {o} {p} {q} g h =
    ap (λ (n : ℕ). n % 2) (omega (arith, (sum-of-cells A p).0, (sum-of-cells A p).1, g.column-of-both, g.row-of-both)) ∙ h.odd-sum

no-triangle : (u v w : ℕ) → (w + u) % 2 ≡ 1 → (u + v) % 2 ≡ 1 → (v + w) % 2 ≡ 1 → ⊥
no-triangle u v w h k l = omega arith

-- a closed chain of good pairs has four of them or more
five-points : (A : Sheet) (dx dy : ℕ) (p : Point) (l : Line) → Chain (Good A dx dy) (p ∷ l ++ (p ∷ [])) → 5 ≤ length (p ∷ l ++ (p ∷ []))
five-points A dx dy p [] chain = absurd (true≢false (sym (same_refl p) ∙ chain.0.apart))
five-points A dx dy p (q ∷ []) chain =
    absurd (true≢false (sym (same_refl p) ∙ ap (same_point p) (point-eq p q
    (omega (arith, (sum-of-cells A p).0, (sum-of-cells A q).0, chain.0.column-of-both, chain.1.0.column-of-both))
    (omega (arith, (sum-of-cells A p).1, (sum-of-cells A q).1, chain.0.row-of-both, chain.1.0.row-of-both))) ∙ chain.0.apart))
five-points A dx dy p (q ∷ s ∷ []) chain =
    absurd (no-triangle (height (start_cell A p)) (height (start_cell A q)) (height (start_cell A s))
    (odd-heights chain.1.1.0 chain.0) (odd-heights chain.0 chain.1.0) (odd-heights chain.1.0 chain.1.1.0))
five-points A dx dy p (q ∷ s ∷ t ∷ l) chain = omega (arith, length-append l (p ∷ []))

neighbours-apart : (A : Sheet) (dx dy : ℕ) (l : Line) → Chain (Good A dx dy) l → Chain (λ p q. p ≡ q → ⊥) l
neighbours-apart A dx dy [] chain = tt
neighbours-apart A dx dy (p ∷ []) chain = tt
neighbours-apart A dx dy (p ∷ q ∷ l) chain =
    (λ e. true≢false (sym (same_refl p) ∙ ap (same_point p) e ∙ chain.0.apart), neighbours-apart A dx dy (q ∷ l) chain.1)

all-within : (A : Sheet) (dx dy : ℕ) (p q : Point) (l : Line) → Chain (Good A dx dy) (p ∷ q ∷ l) → Each (Within dx dy) (p ∷ q ∷ l)
all-within A dx dy p q [] chain = (chain.0.from-within, (chain.0.to-within, tt))
all-within A dx dy p q (s ∷ l) chain = (chain.0.from-within, all-within A dx dy q s l chain.1)

-- of a pair its first point is known to have an odd sum, so the last point of a line is known by itself
all-odd : (A : Sheet) (dx dy : ℕ) (p : Point) (l : Line) (z : Point) → OddSum z → Chain (Good A dx dy) (p ∷ l ++ (z ∷ [])) → Each OddSum (p ∷ l ++ (z ∷ []))
all-odd A dx dy p [] z h chain = (chain.0.odd-sum, (h, tt))
all-odd A dx dy p (q ∷ l) z h chain = (chain.0.odd-sum, all-odd A dx dy q l z h chain.1)

-- the pairs that have a point second are its occurrences behind the first
second-points : (p : Point) (l : Line) → pair_sum (λ a b. same p b) l ≡ occurrences p (behind l)
unfolding pair_sum occurrences total
second-points p [] = refl
second-points p (q ∷ []) = refl
second-points p (q ∷ q' ∷ l) = omega (arith, second-points p (q' ∷ l))

-- what holds of a ring
pub record RingLaw (dx dy : ℕ) (ring : Line) : Type 0 where
  pub is-closed : Closed ring
  pub five : 5 ≤ length ring
  pub neighbours_differ : Chain (λ p q. p ≡ q → ⊥) ring
  pub inside : Each (Within dx dy) ring
  pub odd-sums : Each OddSum ring
  pub no-point-twice : (p : Point) → occurrences p (behind ring) ≤ 1

ring-law : (A : Sheet) (dx dy : ℕ) (ring : Line) → Closed ring → pair_sum (fault A dx dy) ring ≡ 0 → ((p : Point) → pair_sum (λ a b. same p b) ring ≤ 1) → RingLaw dx dy ring
ring-law A dx dy ring closed faultless once = record {
  is-closed = closed;
  five = subst (λ (l : Line). 5 ≤ length l) (sym closed.2) (five-points A dx dy closed.0 closed.1 chain);
  neighbours_differ = neighbours-apart A dx dy ring (chain-good A dx dy ring faultless);
  inside = subst (Each (Within dx dy)) (sym closed.2) (within closed.0 closed.1 chain);
  odd-sums = subst (Each OddSum) (sym closed.2) (odd closed.0 closed.1 chain);
  no-point-twice = λ p. omega (arith, once p, second-points p ring);
}
  where
    chain : Chain (Good A dx dy) (closed.0 ∷ closed.1 ++ (closed.0 ∷ []))
    chain = subst (Chain (Good A dx dy)) closed.2 (chain-good A dx dy ring faultless)

    within : (p : Point) (l : Line) → Chain (Good A dx dy) (p ∷ l ++ (p ∷ [])) → Each (Within dx dy) (p ∷ l ++ (p ∷ []))
    within p [] k = all-within A dx dy p p [] k
    within p (q ∷ l) k = all-within A dx dy p q (l ++ (p ∷ [])) k

    odd : (p : Point) (l : Line) → Chain (Good A dx dy) (p ∷ l ++ (p ∷ [])) → Each OddSum (p ∷ l ++ (p ∷ []))
    odd p [] k = all-odd A dx dy p [] p k.0.odd-sum k
    odd p (q ∷ l) k = all-odd A dx dy p (q ∷ l) p k.0.odd-sum k

-- what holds of all rings, from what the rings' sums are
pub ring-laws : (A : Sheet) (dx dy : ℕ) (rings : List Line) → Each Closed rings → total (pair_sum (fault A dx dy)) rings ≡ 0
    → ((p : Point) → total (pair_sum (λ a b. same p b)) rings ≤ 1) → Each (RingLaw dx dy) rings
unfolding total
ring-laws A dx dy [] closed faultless once = tt
ring-laws A dx dy (ring ∷ rings) closed faultless once = (
  ring-law A dx dy ring closed.0 (omega arith) (λ p. omega (arith, once p)),
  ring-laws A dx dy rings closed.1 (omega arith) (λ p. omega (arith, once p)),
)

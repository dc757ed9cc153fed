-- One cell, over any machine that draws by the five rules: it carries the drawing over the cell. The near sides' slots are read before the cell is drawn, and after it every tip has
-- a frontier word of its own again. Assumes nothing.
use mathlib.Core.Path.{◌≡◌, refl, sym, ◌∙◌, ap, subst}
use mathlib.Core.Bool.{Bool, true, false, cond}
use mathlib.Core.List.{List, [], ◌∷◌, ◌++◌}
use Prim.Native.Nat.{ℕ, suc, ◌+◌, ◌-◌, ◌*◌, ◌/◌, ◌%◌, ◌≤◌, ◌<◌}
use native.Mathlib.Decide.{dec_lt, ℕ_discrete}
use native.Mathlib.Omega.{arith}
use lib.Dec.{eqb}
use lib.ListN.{length, get_or}
use borrow.Author.Tests.{eq-eqb, ne_eqb}
use Rattle.scope.specs.Terrain.{Sheet}
use Rattle.scope.specs.declared.Side.{Side}
use Rattle.scope.specs.declared.Side.TheVariants.{Left, Right, Top, Bottom}
use Rattle.scope.specs.Cells.{Point, ◌⟶◌, Segment, when, same_point, point_of, placed, on_finished, point_index, indexed_point}
use Rattle.scope.specs.Stitching.{Line, starts_at, find, nothing, stitch_all}
use Rattle.scope.specs.Drawing.{segments_after}
use Rattle.laws.proofs.Total.{total, tally, found, not_found}
use Rattle.laws.proofs.Counting.{same, ends, starts, Fresh}
use Rattle.laws.proofs.Ends.{same_refl}
use Rattle.laws.proofs.Edges.{Outside, Drawable, different}
use Rattle.laws.proofs.Strokes.{Role, begin, finish, other}
use Rattle.laws.proofs.Marks.{point_by, marked, marked-ended, marked-begun, on_side, drawable}
use Rattle.laws.proofs.Cellwise.{Sound, sound-after, marked_append, Ready, fresh}
use Rattle.laws.proofs.Grid.{after, ready}
use Rattle.laws.proofs.Frontier.{OnFrontier, lower, upper, between, half-reached}
use Rattle.laws.proofs.Tips.{Tip, tip_by, edge_word, WordsApart, tip-reached, spent-is-no-tip}
use Rattle.cells.proofs.Laws.{a-point-comes-back-from-its-index}
use Rattle.machine.specs.Machine.{Entry, entry_of, side_word}
use Rattle.machine.proofs.Leaving.{all, Columns}
use Rattle.machine.proofs.Carrier.{Carrier, stroke_drawn}
use Rattle.machine.proofs.Segments.{segment, append-drawn, prepend-drawn, close-drawn, join-drawn}
use Rattle.machine.proofs.Shapes.{Near, at_left, at_top, Far, at_right, at-bottom, near, far, slot_of, opposite, draw-onward, draw-backward}

-- the words of a cell's sides
pub side-word : (dx c r : ℕ) (d : Side) → Drawable c r d → edge_word dx (point_of c r d) ≡ side_word dx c d
unfolding edge_word point_of side_word
side-word dx c r Left h = ap (λ (b : Bool). cond b (dx + 1) ((2 * c - 1) / 2)) (eq-eqb ((2 * c - 1) % 2) 1 (omega arith))
side-word dx c r Right h = ap (λ (b : Bool). cond b (dx + 1) ((2 * c + 1) / 2)) (eq-eqb ((2 * c + 1) % 2) 1 (omega arith))
side-word dx c r Top h = ap (λ (b : Bool). cond b (dx + 1) (2 * c / 2)) (ne_eqb (2 * c % 2) 1 (λ e. omega arith)) ∙ omega arith
side-word dx c r Bottom h = ap (λ (b : Bool). cond b (dx + 1) (2 * c / 2)) (ne_eqb (2 * c % 2) 1 (λ e. omega arith)) ∙ omega arith

-- a line that passes a test, where one does
some-line : (test : Line → Bool) (ls : List Line) → 1 ≤ total (tally test) ls → find test ls < length ls
some-line test ls h = by (dec_lt (find test ls) (length ls))
  where
    by : Dec (find test ls < length ls) → find test ls < length ls
    by (yes k) = k
    by (no k) = absurd (omega (arith, not_found test ls (omega arith)))

module _ (A : Sheet) {dx dy : ℕ} (out : Outside A dx dy) (r c : ℕ) (hc : c ≤ dx) where
  abbrev pub before : List Segment
  before = segments_after A dx r c

  abbrev pub index : Side → ℕ
  index d = point_index dx (point_of c r d)

  -- each side's point comes back from its index
  pub back : (d : Side) → indexed_point dx (index d) ≡ point_of c r d
  back d = a-point-comes-back-from-its-index dx (point_of c r d) (narrow d)
    where
      narrow : (d : Side) → (point_of c r d).x < 2 * (dx + 1)
      narrow Left = unfold point_of in omega arith
      narrow Right = unfold point_of in omega arith
      narrow Top = unfold point_of in omega arith
      narrow Bottom = unfold point_of in omega arith

  pub placed-is : (s e : Side) → placed c r (s ⟶ e) ≡ segment dx (index s) (index e)
  unfolding placed
  placed-is s e = λ i. record { from = sym (back s) i; to = sym (back e) i }

  pub sound : Sound before
  sound = (after A out r c (omega arith)).sound

  pub ready₀ : Ready A out c r before (λ role. on_side role A c r)
  ready₀ = ready A out c r hc sound

  word_of : (role : Role) (d : Side) → on_side role A c r d ≡ true → edge_word dx (point_of c r d) ≡ side_word dx c d
  word_of role d h = side-word dx c r d (drawable A out role c r d h)

  abbrev pub lines₀ : List Line
  lines₀ = (stitch_all nothing before).lines

  pub near-finished : (d : Near) → on_finished (near d) ≡ 1
  unfolding on_finished
  near-finished at_left = refl
  near-finished at_top = refl

  pub far-finished : (d : Far) → on_finished (far d) ≡ 0
  unfolding on_finished
  far-finished at_right = refl
  far-finished at-bottom = refl

  -- the line at a near side has its other role there
  line-there : (role : Role) (d : Near) → on_side role A c r (near d) ≡ true → 1 ≤ total (tally (tip_by (other role) (point_of c r (near d)))) lines₀
  unfolding ends starts
  line-there begin d h =
      omega (
        arith,
        sound.balanced.at-ends (point_of c r (near d)),
        marked-ended before (point_of c r (near d)),
        marked-begun before (point_of c r (near d)),
        ready₀.shared-side begin (near d) h,
        ready₀.unmarked-side begin (near d) h,
        near-finished d,
      )
  line-there finish d h =
      omega (
        arith,
        sound.balanced.at-starts (point_of c r (near d)),
        marked-ended before (point_of c r (near d)),
        marked-begun before (point_of c r (near d)),
        ready₀.shared-side finish (near d) h,
        ready₀.unmarked-side finish (near d) h,
        near-finished d,
      )

  -- ---- the drawing with one stroke more

  pub fresh_at : (s e : Side) → on_side begin A c r s ≡ true → on_side finish A c r e ≡ true → Fresh before (segment dx (index s) (index e)) (on_finished s) (on_finished e)
  fresh_at s e hs he =
      subst (λ (σ : Segment). Fresh before σ (on_finished s) (on_finished e)) (placed-is s e) (fresh A out c r before (λ role. on_side role A c r) ready₀ s e hs he)

  -- the drawing with one stroke more
  abbrev pub with-stroke : Side → Side → List Segment
  with-stroke s e = before ++ (segment dx (index s) (index e) ∷ [])

  pub sound-with : (s e : Side) → on_side begin A c r s ≡ true → on_side finish A c r e ≡ true → Sound (with-stroke s e)
  sound-with s e hs he = sound-after before (segment dx (index s) (index e)) (on_finished s) (on_finished e) sound (fresh_at s e hs he)

  pub words : (role : Role) (d : Side) → on_side role A c r d ≡ true → edge_word dx (indexed_point dx (index d)) ≡ side_word dx c d
  words role d k = ap (edge_word dx) (back d) ∙ word_of role d k

  -- ---- a stroke between the two near sides: what is left open lies on columns
  module _ (s : Near) (hs : on_side begin A c r (near s) ≡ true) (he : on_side finish A c r (near (opposite s)) ≡ true) where
    abbrev σ : Segment
    σ = segment dx (index (near s)) (index (near (opposite s)))

    abbrev left_open : List Line
    left_open = (stitch_all nothing (with-stroke (near s) (near (opposite s)))).lines

    sound-met : Sound (with-stroke (near s) (near (opposite s)))
    sound-met = sound-with (near s) (near (opposite s)) hs he

    more : (role : Role) (p : Point) → marked role (with-stroke (near s) (near (opposite s))) p ≡ marked role before p + same p (point_by role σ)
    more role p = unfold marked total in marked_append role before (σ ∷ []) p ∙ omega arith

    -- both roles have now reached the two points
    not_start : (i : ℕ) → i < length left_open → (p : Point) → Tip p (get_or left_open i []) → p ≡ indexed_point dx (index (near s)) → ⊥
    not_start i hi p tip q =
        spent-is-no-tip (stitch_all nothing (with-stroke (near s) (near (opposite s)))) (with-stroke (near s) (near (opposite s))) sound-met.balanced sound-met.once i hi p
        (omega (arith, more begin p, ap (when 1) (ap (same_point p) (sym q) ∙ same_refl p)))
        (omega (arith, more finish p, ap (marked finish before) (q ∙ back (near s)), ready₀.shared-side begin (near s) hs, near-finished s)) tip

    not_end : (i : ℕ) → i < length left_open → (p : Point) → Tip p (get_or left_open i []) → p ≡ indexed_point dx (index (near (opposite s))) → ⊥
    not_end i hi p tip q =
        spent-is-no-tip (stitch_all nothing (with-stroke (near s) (near (opposite s)))) (with-stroke (near s) (near (opposite s))) sound-met.balanced sound-met.once i hi p
        (omega (arith, more begin p, ap (marked begin before) (q ∙ back (near (opposite s))), ready₀.shared-side finish (near (opposite s)) he, near-finished (opposite s)))
        (omega (arith, more finish p, ap (when 1) (ap (same_point p) (sym q) ∙ same_refl p))) tip

    not-either : (i : ℕ) → i < length left_open → (p : Point) → Tip p (get_or left_open i []) → (role : Role) → same_point p (point_by role σ) ≡ false
    not-either i hi p tip begin = different p (indexed_point dx (index (near s))) (not_start i hi p tip)
    not-either i hi p tip finish = different p (indexed_point dx (index (near (opposite s)))) (not_end i hi p tip)

    not_left : (i : ℕ) → i < length left_open → (p : Point) → Tip p (get_or left_open i []) → p ≡ point_of c r Left → ⊥
    not_left i hi p tip q = by s refl
      where
        by : (d : Near) → s ≡ d → ⊥
        by at_left e = not_start i hi p tip (q ∙ sym (back Left) ∙ ap (λ (x : Near). indexed_point dx (index (near x))) (sym e))
        by at_top e = not_end i hi p tip (q ∙ sym (back Left) ∙ ap (λ (x : Near). indexed_point dx (index (near (opposite x)))) (sym e))

    columns-left : Columns left_open
    columns-left i hi p tip odd =
        by (half-reached A out r c (omega arith) tip.role p
        (omega (arith, reached.0, more tip.role p, ap (when 1) (not-either i hi p tip tip.role)))
        (omega (arith, reached.1, more (other tip.role) p)))
      where
        reached : (1 ≤ marked tip.role (with-stroke (near s) (near (opposite s))) p) × (marked (other tip.role) (with-stroke (near s) (near (opposite s))) p ≡ 0)
        reached = tip-reached (stitch_all nothing (with-stroke (near s) (near (opposite s)))) (with-stroke (near s) (near (opposite s))) sound-met.balanced sound-met.once i hi p tip

        by : OnFrontier dx r c p → ⊥
        by (lower k hk hd q) = unfold point_of in omega (arith, ap (λ (a : Point). a.x) q)
        by (upper k hk hd h' q) = unfold point_of in omega (arith, ap (λ (a : Point). a.x) q)
        by (between h' q) = not_left i hi p tip q

  -- ---- the slots of the near sides, read before the cell is drawn
  module _ (C : Carrier dx) (t : C.State) (now : C.Carries (length before) all (stitch_all nothing before) t) where
    abbrev pub entry : Entry
    entry = entry_of dx (C.frontier t) c

    filed-slot : (d : Near) → slot_of entry d ≡ get_or (C.frontier t) (side_word dx c (near d)) 0
    unfolding entry_of side_word
    filed-slot at_left = refl
    filed-slot at_top = refl

    -- the slot that the entry has is that line's
    slot_is : (role : Role) (d : Near) → on_side role A c r (near d) ≡ true → slot_of entry d ≡ find (tip_by (other role) (point_of c r (near d))) lines₀
    slot_is role d k =
        filed-slot d
        ∙ ap (λ (w : ℕ). get_or (C.frontier t) w 0) (sym (word_of role (near d) k))
        ∙ C.filed (length before) all (stitch_all nothing before) t now i inside (point_of c r (near d)) (record { role = other role; there = found (tip_by (other role) (point_of c r (near d))) lines₀ inside }) tt
      where
        i : ℕ
        i = find (tip_by (other role) (point_of c r (near d))) lines₀

        inside : i < length lines₀
        inside = some-line (tip_by (other role) (point_of c r (near d))) lines₀ (line-there role d k)

    pub slot-inside : (role : Role) (d : Near) → on_side role A c r (near d) ≡ true → slot_of entry d < length lines₀
    slot-inside role d k = rw (slot_is role d k) (some-line (tip_by (other role) (point_of c r (near d))) lines₀ (line-there role d k))

    slot-tip : (role : Role) (d : Near) → on_side role A c r (near d) ≡ true → tip_by (other role) (point_of c r (near d)) (get_or lines₀ (slot_of entry d) []) ≡ true
    slot-tip role d k =
        rw (slot_is role d k)
        (found (tip_by (other role) (point_of c r (near d))) lines₀ (some-line (tip_by (other role) (point_of c r (near d))) lines₀ (line-there role d k)))

    pub tip-at : (role : Role) (d : Near) → on_side role A c r (near d) ≡ true → tip_by (other role) (indexed_point dx (index (near d))) (get_or lines₀ (slot_of entry d) []) ≡ true
    tip-at role d k = rw (back (near d)) (slot-tip role d k)

    -- ---- one stroke, drawn first

    pub onward-first : (live' : Point → Type 0) (s : Near) (e : Far) → on_side begin A c r (near s) ≡ true → on_side finish A c r (far e) ≡ true
        → C.Fits (suc (length before)) (stitch_all nothing (with-stroke (near s) (far e)))
        → ((i : ℕ) → i < length (stitch_all nothing (with-stroke (near s) (far e))).lines → (p : Point) → Tip p (get_or (stitch_all nothing (with-stroke (near s) (far e))).lines i []) → live' p → edge_word dx p ≡ edge_word dx (indexed_point dx (index (far e))) → i ≡ slot_of entry s)
        → C.Carries (suc (length before)) live' (stitch_all nothing (with-stroke (near s) (far e))) (stroke_drawn C c entry t (near s ⟶ far e) (index (near s)) (index (far e)))
    onward-first live' s e hs he room alone =
        rw (draw-onward C c entry t s e (index (near s)) (index (far e)), ← words finish (far e) he)
        (append-drawn dx before (index (near s)) (index (far e)) (on_finished (near s)) (on_finished (far e)) sound (fresh_at (near s) (far e) hs he) C all live' t now room
        (far-finished e) (slot_of entry s) (slot-inside begin s hs) (tip-at begin s hs) alone (λ i hi p tip l ne. tt))

    pub backward-first : (live' : Point → Type 0) (s : Far) (e : Near) → on_side begin A c r (far s) ≡ true → on_side finish A c r (near e) ≡ true
        → C.Fits (suc (length before)) (stitch_all nothing (with-stroke (far s) (near e)))
        → ((i : ℕ) → i < length (stitch_all nothing (with-stroke (far s) (near e))).lines → (p : Point) → Tip p (get_or (stitch_all nothing (with-stroke (far s) (near e))).lines i []) → live' p → edge_word dx p ≡ edge_word dx (indexed_point dx (index (far s))) → i ≡ slot_of entry e)
        → C.Carries (suc (length before)) live' (stitch_all nothing (with-stroke (far s) (near e))) (stroke_drawn C c entry t (far s ⟶ near e) (index (far s)) (index (near e)))
    backward-first live' s e hs he room alone =
        rw (draw-backward C c entry t s e (index (far s)) (index (near e)), ← words begin (far s) hs)
        (prepend-drawn dx before (index (far s)) (index (near e)) (on_finished (far s)) (on_finished (near e)) sound (fresh_at (far s) (near e) hs he) C all live' t now room
        (far-finished s) (slot_of entry e) (slot-inside finish e he) (tip-at finish e he) alone (λ i hi p tip l ne. tt))

    -- the machine closes or joins, as the two slots are the same or not
    module _ (s : Near) (hs : on_side begin A c r (near s) ≡ true) (he : on_side finish A c r (near (opposite s)) ≡ true) where
      abbrev pub met-tables : Bool → C.State
      met-tables b = cond b (C.closed t (index (near s)) (slot_of entry s)) (C.joined t (index (near s)) (slot_of entry s) (slot_of entry (opposite s)))

      pub meeting-first : WordsApart dx lines₀ → C.Fits (length before) (stitch_all nothing before) → C.Fits (suc (length before)) (stitch_all nothing (with-stroke (near s) (near (opposite s))))
          → C.Carries (suc (length before)) all (stitch_all nothing (with-stroke (near s) (near (opposite s)))) (met-tables (eqb (slot_of entry s) (slot_of entry (opposite s))))
      meeting-first apart room room' = by (ℕ_discrete (slot_of entry s) (slot_of entry (opposite s)))
        where
          by : Dec (slot_of entry s ≡ slot_of entry (opposite s)) → C.Carries (suc (length before)) all (stitch_all nothing (with-stroke (near s) (near (opposite s)))) (met-tables (eqb (slot_of entry s) (slot_of entry (opposite s))))
          by (yes q) =
              rw (eq-eqb (slot_of entry s) (slot_of entry (opposite s)) q)
              (close-drawn dx before (index (near s)) (index (near (opposite s))) (on_finished (near s)) (on_finished (near (opposite s))) sound (fresh_at (near s) (near (opposite s)) hs he) C t now room room' apart (columns-left s hs he)
              (slot_of entry s) (slot-inside begin s hs) (tip-at begin s hs)
              (subst (λ (n : ℕ). starts_at (indexed_point dx (index (near (opposite s)))) (get_or lines₀ n []) ≡ true) (sym q) (tip-at finish (opposite s) he)))
          by (no q) =
              rw (ne_eqb (slot_of entry s) (slot_of entry (opposite s)) q)
              (join-drawn dx before (index (near s)) (index (near (opposite s))) (on_finished (near s)) (on_finished (near (opposite s))) sound (fresh_at (near s) (near (opposite s)) hs he) C t now room room' apart (columns-left s hs he)
              (slot_of entry s) (slot_of entry (opposite s)) (slot-inside begin s hs) (slot-inside finish (opposite s) he) q (tip-at begin s hs) (tip-at finish (opposite s) he))

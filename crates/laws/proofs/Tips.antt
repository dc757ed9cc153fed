-- The tips of open lines: no point is a tip of two lines, and at the end of a cell each tip has a frontier word of its own. Assumes nothing.
use mathlib.Core.Path.{◌≡◌, sym, ◌∙◌, ap, subst}
use mathlib.Core.Bool.{Bool, true, cond}
use mathlib.Core.List.{List, []}
use Prim.Native.Nat.{ℕ, suc, ◌+◌, ◌-◌, ◌*◌, ◌/◌, ◌%◌, ◌≤◌, ◌<◌}
use native.Mathlib.Decide.{ℕ_discrete}
use native.Mathlib.Omega.{arith}
use lib.Dec.{eqb}
use lib.ListN.{length, get_or}
use borrow.Author.Tests.{eq-eqb, ne_eqb}
use Rattle.scope.specs.Terrain.{Sheet}
use Rattle.scope.specs.declared.Side.TheVariants.{Left, Top, Bottom}
use Rattle.scope.specs.Cells.{Point, Segment, point_of, when}
use Rattle.scope.specs.Stitching.{Line, Drawing, starts_at, ends_at, nothing, stitch_all}
use Rattle.scope.specs.Drawing.{segments_after, drawing_after}
use Rattle.laws.proofs.Total.{total, total-at, total-two, tally}
use Rattle.laws.proofs.Counting.{ends, starts, Balanced}
use Rattle.laws.proofs.Edges.{Outside}
use Rattle.laws.proofs.Strokes.{Role, begin, finish, other}
use Rattle.laws.proofs.Marks.{marked, marked-ended, marked-begun}
use Rattle.laws.proofs.Cellwise.{Sound}
use Rattle.laws.proofs.Grid.{after}
use Rattle.laws.proofs.Frontier.{OnFrontier, lower, upper, between, half-reached}

-- a line starts or ends at the point
abbrev pub tip_by : Role → Point → Line → Bool
tip_by begin = starts_at
tip_by finish = ends_at

pub record Tip (p : Point) (l : Line) : Type 0 where
  pub role : Role
  pub there : tip_by role p l ≡ true

-- the frontier's word of a point: the vertical edge's, or its column's
unfoldable pub edge_word : ℕ → Point → ℕ
edge_word dx p = cond (eqb (p.x % 2) 1) (dx + 1) (p.x / 2)

-- no two lines have the same tip, and in the frontier no two have the same word
abbrev pub TipsApart : List Line → Type 0
TipsApart ls = (i j : ℕ) → i < length ls → j < length ls → (p : Point) → Tip p (get_or ls i []) → Tip p (get_or ls j []) → i ≡ j

abbrev pub WordsApart : ℕ → List Line → Type 0
WordsApart dx ls = (i j : ℕ) → i < length ls → j < length ls → (p q : Point) → Tip p (get_or ls i []) → Tip q (get_or ls j []) → edge_word dx p ≡ edge_word dx q → i ≡ j

module _ (d : Drawing) (σs : List Segment) (balanced : Balanced d σs) (once : (role : Role) (p : Point) → marked role σs p ≤ 1) where
  lines-by : Role → Point → ℕ
  lines-by role p = total (tally (tip_by role p)) d.lines

  -- the lines that have the point in a role are the segments that have it, less those that have it in the other
  lines_are : (role : Role) (p : Point) → lines-by role p ≡ marked role σs p - marked (other role) σs p
  unfolding lines-by starts ends
  lines_are begin p = unfold starts in omega (arith, balanced.at-starts p, marked-begun σs p, marked-ended σs p)
  lines_are finish p = unfold ends in omega (arith, balanced.at-ends p, marked-begun σs p, marked-ended σs p)

  has-line : (i : ℕ) → i < length d.lines → (p : Point) (tip : Tip p (get_or d.lines i [])) → 1 ≤ lines-by tip.role p
  unfolding lines-by
  has-line i hi p tip = omega (arith, total-at (tally (tip_by tip.role p)) d.lines i [] hi, ap (when 1) tip.there)

  same-role : (role : Role) (i j : ℕ) → i < length d.lines → j < length d.lines → (p : Point)
      → tip_by role p (get_or d.lines i []) ≡ true → tip_by role p (get_or d.lines j []) ≡ true → (j ≡ i → ⊥) → ⊥
  same-role role i j hi hj p s t ne =
      unfold lines-by in
      omega (arith, total-two (tally (tip_by role p)) d.lines i j [] hi hj ne, ap (when 1) s, ap (when 1) t, lines_are role p, once role p)

  both-roles : (i j : ℕ) → i < length d.lines → j < length d.lines → (p : Point)
      → starts_at p (get_or d.lines i []) ≡ true → ends_at p (get_or d.lines j []) ≡ true → ⊥
  both-roles i j hi hj p s t =
      omega (arith, has-line i hi p (record { role = begin; there = s }), has-line j hj p (record { role = finish; there = t }), lines_are begin p, lines_are finish p)

  pub tips-apart : TipsApart d.lines
  tips-apart i j hi hj p s t = by (ℕ_discrete j i)
    where
      one : (a b : Role) → tip_by a p (get_or d.lines i []) ≡ true → tip_by b p (get_or d.lines j []) ≡ true → (j ≡ i → ⊥) → ⊥
      one begin begin u v ne = same-role begin i j hi hj p u v ne
      one begin finish u v ne = both-roles i j hi hj p u v
      one finish begin u v ne = both-roles j i hj hi p v u
      one finish finish u v ne = same-role finish i j hi hj p u v ne

      by : Dec (j ≡ i) → i ≡ j
      by (yes e) = sym e
      by (no ne) = absurd (one s.role t.role s.there t.there ne)

  -- a tip is reached in one role and not in the other
  pub tip-reached : (i : ℕ) → i < length d.lines → (p : Point) (tip : Tip p (get_or d.lines i [])) → (1 ≤ marked tip.role σs p) × (marked (other tip.role) σs p ≡ 0)
  tip-reached i hi p tip = (omega (arith, has-line i hi p tip, lines_are tip.role p), omega (arith, has-line i hi p tip, lines_are tip.role p, once tip.role p))

  -- so what both roles have reached is no tip
  pub spent-is-no-tip : (i : ℕ) → i < length d.lines → (p : Point) → 1 ≤ marked begin σs p → 1 ≤ marked finish σs p → Tip p (get_or d.lines i []) → ⊥
  spent-is-no-tip i hi p b f tip = by tip.role (tip-reached i hi p tip).1
    where
      by : (role : Role) → marked (other role) σs p ≡ 0 → ⊥
      by begin h = omega arith
      by finish h = omega arith

-- words of the frontier's points
column-word : (dx k r : ℕ) → edge_word dx (point_of k r Bottom) ≡ k
unfolding edge_word point_of
column-word dx k r = ap (λ (b : Bool). cond b (dx + 1) (2 * k / 2)) (ne_eqb (2 * k % 2) 1 (λ e. omega arith)) ∙ omega arith

top-word : (dx k r : ℕ) → edge_word dx (point_of k r Top) ≡ k
unfolding edge_word point_of
top-word dx k r = ap (λ (b : Bool). cond b (dx + 1) (2 * k / 2)) (ne_eqb (2 * k % 2) 1 (λ e. omega arith)) ∙ omega arith

left_word : (dx c r : ℕ) → 0 < c → edge_word dx (point_of c r Left) ≡ dx + 1
unfolding edge_word point_of
left_word dx c r h = ap (λ (b : Bool). cond b (dx + 1) ((2 * c - 1) / 2)) (eq-eqb ((2 * c - 1) % 2) 1 (omega arith))

pub word-determines : (dx r c : ℕ) (p q : Point) → OnFrontier dx r c p → OnFrontier dx r c q → edge_word dx p ≡ edge_word dx q → p ≡ q
word-determines dx r c p q (lower k hk hd e) (lower m hm hn f) w = e ∙ ap (λ (n : ℕ). point_of n r Bottom) (sym (column-word dx k r) ∙ ap (edge_word dx) (sym e) ∙ w ∙ ap (edge_word dx) f ∙ column-word dx m r) ∙ sym f
word-determines dx r c p q (lower k hk hd e) (upper m hm hn h f) w =
    absurd (omega (arith, sym (column-word dx k r) ∙ ap (edge_word dx) (sym e) ∙ w ∙ ap (edge_word dx) f ∙ top-word dx m r))
word-determines dx r c p q (lower k hk hd e) (between h f) w =
    absurd (omega (arith, sym (column-word dx k r) ∙ ap (edge_word dx) (sym e) ∙ w ∙ ap (edge_word dx) f ∙ left_word dx c r h))
word-determines dx r c p q (upper k hk hd h e) (lower m hm hn f) w =
    absurd (omega (arith, sym (top-word dx k r) ∙ ap (edge_word dx) (sym e) ∙ w ∙ ap (edge_word dx) f ∙ column-word dx m r))
word-determines dx r c p q (upper k hk hd h e) (upper m hm hn h' f) w = e ∙ ap (λ (n : ℕ). point_of n r Top) (sym (top-word dx k r) ∙ ap (edge_word dx) (sym e) ∙ w ∙ ap (edge_word dx) f ∙ top-word dx m r) ∙ sym f
word-determines dx r c p q (upper k hk hd h e) (between h' f) w =
    absurd (omega (arith, sym (top-word dx k r) ∙ ap (edge_word dx) (sym e) ∙ w ∙ ap (edge_word dx) f ∙ left_word dx c r h'))
word-determines dx r c p q (between h e) (lower m hm hn f) w =
    absurd (omega (arith, sym (left_word dx c r h) ∙ ap (edge_word dx) (sym e) ∙ w ∙ ap (edge_word dx) f ∙ column-word dx m r))
word-determines dx r c p q (between h e) (upper m hm hn h' f) w =
    absurd (omega (arith, sym (left_word dx c r h) ∙ ap (edge_word dx) (sym e) ∙ w ∙ ap (edge_word dx) f ∙ top-word dx m r))
word-determines dx r c p q (between h e) (between h' f) w = e ∙ sym f

module _ (A : Sheet) {dx dy : ℕ} (out : Outside A dx dy) (r c : ℕ) (hc : c ≤ suc dx) where
  sound : Sound (segments_after A dx r c)
  sound = (after A out r c hc).sound

  pub tips-apart-after : TipsApart (drawing_after A dx r c).lines
  unfolding drawing_after
  tips-apart-after = tips-apart (stitch_all nothing (segments_after A dx r c)) (segments_after A dx r c) sound.balanced sound.once

  pub tips-on-frontier : (i : ℕ) → i < length (drawing_after A dx r c).lines → (p : Point) → Tip p (get_or (drawing_after A dx r c).lines i []) → OnFrontier dx r c p
  unfolding drawing_after
  tips-on-frontier i hi p tip =
      let reached = tip-reached (stitch_all nothing (segments_after A dx r c)) (segments_after A dx r c) sound.balanced sound.once i hi p tip in
      half-reached A out r c hc tip.role p reached.0 reached.1

  pub words-apart-after : WordsApart dx (drawing_after A dx r c).lines
  words-apart-after i j hi hj p q s t w =
      let same : p ≡ q = word-determines dx r c p q (tips-on-frontier i hi p s) (tips-on-frontier j hj q t) w in
      tips-apart-after i j hi hj q (subst (λ (x : Point). Tip x (get_or (drawing_after A dx r c).lines i [])) same s) t

-- a point on the frontier has one of its dx + 2 words
pub frontier-word-low : (dx r c : ℕ) (p : Point) → OnFrontier dx r c p → edge_word dx p < dx + 2
frontier-word-low dx r c p (lower k hk hd e) = omega (arith, ap (edge_word dx) e, column-word dx k r)
frontier-word-low dx r c p (upper k hk hd h e) = omega (arith, ap (edge_word dx) e, top-word dx k r)
frontier-word-low dx r c p (between h e) = omega (arith, ap (edge_word dx) e, left_word dx c r h)

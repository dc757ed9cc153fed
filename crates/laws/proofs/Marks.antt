-- How many of the segments drawn so far begin or end at a point of the next cell. Each point has one cell that a segment may begin in and one that a
-- segment may end in, so the count is that cell's where it is finished, and else 0. Assumes nothing.
use mathlib.Core.Path.{◌≡◌, refl, sym, ◌∙◌, ap}
use mathlib.Core.Bool.{Bool, true, false, not, ◌||◌, false≢true}
use mathlib.Core.List.{List, [], ◌∷◌, map}
use Prim.Native.Nat.{ℕ, zero, suc, ◌+◌, ◌≤◌}
use native.Mathlib.Nat.{not-suc-le-zero}
use native.Mathlib.Omega.{arith}
use Rattle.scope.specs.Terrain.{Sheet}
use Rattle.scope.specs.declared.Side.{Side}
use Rattle.scope.specs.declared.Side.TheVariants.{Left, Right, Top, Bottom}
use Rattle.scope.specs.Cells.{Point, same_side, Stroke, ◌⟶◌, Segment, same_point, when, point_of, placed, drawn, cell_number, cell_segments, on_finished}
use Rattle.scope.specs.Drawing.{segments_after}
use Rattle.laws.proofs.Total.{total}
use Rattle.laws.proofs.Ends.{and_left, same_refl}
use Rattle.laws.proofs.Counting.{same, ended, begun}
use Rattle.laws.proofs.Edges.{Outside, Cell, cell, end_cell, start_cell, neighbour, ending-homes, beginning-homes, left-is-right, top-is-bottom, different, Drawable, ending-drawable, beginning-drawable}
use Rattle.scope.proofs.Sides.{same-side}
use Rattle.laws.proofs.Strokes.{Role, begin, finish, other, side_by, on_by, has, present, leaving, fitting, head-fits, rest-fits, strokes-fit}
use Rattle.laws.proofs.Visits.{not-visited, visited-above, visited-before}

-- the segment's point in a role, and how many of the segments have a point there
abbrev pub point_by : Role → Segment → Point
point_by begin σ = σ.from
point_by finish σ = σ.to

unfoldable pub marked : Role → List Segment → Point → ℕ
marked role σs p = total (λ σ. same p (point_by role σ)) σs

pub marked-ended : (σs : List Segment) (p : Point) → marked finish σs p ≡ ended σs p
unfolding marked ended
marked-ended σs p = refl

pub marked-begun : (σs : List Segment) (p : Point) → marked begin σs p ≡ begun σs p
unfolding marked begun
marked-begun σs p = refl

-- the samples' word for a role, and the cell of a role at a point
abbrev pub on_side : Role → Sheet → ℕ → ℕ → Side → Bool
on_side role A c r = on_by role (A c (suc r)) (A (suc c) (suc r)) (A (suc c) r) (A c r)

abbrev pub home_of : Role → Sheet → Point → Cell
home_of begin = start_cell
home_of finish = end_cell

pub point-of-stroke : (role : Role) (c r : ℕ) (stroke : Stroke) → point_by role (placed c r stroke) ≡ point_of c r (side_by role stroke)
unfolding placed
point-of-stroke begin c r (s ⟶ e) = refl
point-of-stroke finish c r (s ⟶ e) = refl

-- the same pair seen from the cell before
pub across-left : (role : Role) (A : Sheet) (c r : ℕ) → on_side role A (suc c) r Left ≡ on_side (other role) A c r Right
across-left begin A c r = refl
across-left finish A c r = refl

pub across-top : (role : Role) (A : Sheet) (c r : ℕ) → on_side role A c (suc r) Top ≡ on_side (other role) A c r Bottom
across-top begin A c r = refl
across-top finish A c r = refl

pub across-right : (role : Role) (A : Sheet) (c r : ℕ) → on_side role A c r Right ≡ on_side (other role) A (suc c) r Left
across-right begin A c r = refl
across-right finish A c r = refl

pub across-bottom : (role : Role) (A : Sheet) (c r : ℕ) → on_side role A c r Bottom ≡ on_side (other role) A c (suc r) Top
across-bottom begin A c r = refl
across-bottom finish A c r = refl

elsewhere : (role : Role) (p : Point) (c r : ℕ) (free : Role → Side → Bool) (strokes : List Stroke) → fitting free strokes ≡ true
    → ((d : Side) → free role d ≡ true → same_point p (point_of c r d) ≡ false) → marked role (map (placed c r) strokes) p ≡ 0
unfolding marked total
elsewhere role p c r free [] h no-side = refl
elsewhere role p c r free (stroke ∷ strokes) h no-side =
    omega (
      arith,
      ap (same p) (point-of-stroke role c r stroke),
      ap (when 1) (no-side (side_by role stroke) (head-fits free stroke strokes h role)),
      elsewhere role p c r (leaving free stroke) strokes (rest-fits free stroke strokes h)
          (λ d k. no-side d (and_left (free role d) (not (same_side d (side_by role stroke))) k)),
    )

at_least_one : (role : Role) (c r : ℕ) (d : Side) (strokes : List Stroke) → has role d strokes ≡ true → 1 ≤ marked role (map (placed c r) strokes) (point_of c r d)
unfolding marked total has
at_least_one role c r d [] h = absurd (false≢true h)
at_least_one role c r d (stroke ∷ strokes) h = by (same_side d (side_by role stroke)) refl h (at_least_one role c r d strokes)
  where
    by : (b : Bool) → same_side d (side_by role stroke) ≡ b → b || has role d strokes ≡ true
        → (has role d strokes ≡ true → 1 ≤ marked role (map (placed c r) strokes) (point_of c r d))
        → 1 ≤ same (point_of c r d) (point_by role (placed c r stroke)) + marked role (map (placed c r) strokes) (point_of c r d)
    by true e k ih =
        omega (arith, ap (same (point_of c r d)) (point-of-stroke role c r stroke ∙ ap (point_of c r) (sym (same-side d (side_by role stroke) e))), ap (when 1) (same_refl (point_of c r d)))
    by false e k ih = omega (arith, ih k)

module _ (A : Sheet) {dx dy : ℕ} (out : Outside A dx dy) where
  pub home_here : (role : Role) (c r : ℕ) (d : Side) → on_side role A c r d ≡ true → home_of role A (point_of c r d) ≡ cell c r
  home_here begin c r d h = (beginning-homes A out c r d h).start-home
  home_here finish c r d h = (ending-homes A out c r d h).end-home

  pub home-there : (role : Role) (c r : ℕ) (d : Side) → on_side role A c r d ≡ true → home_of (other role) A (point_of c r d) ≡ neighbour c r d
  home-there begin c r d h = (beginning-homes A out c r d h).end-home
  home-there finish c r d h = (ending-homes A out c r d h).start-home

  -- no other cell has the point in that role
  only-home : (role : Role) (p : Point) (c r : ℕ) → (c ≡ (home_of role A p).column → r ≡ (home_of role A p).row → ⊥) → marked role (cell_segments A c r) p ≡ 0
  unfolding cell_segments cell_number
  only-home role p c r away =
      elsewhere role p c r (λ role. on_side role A c r) (drawn (cell_number A c r)) (strokes-fit (A c (suc r)) (A (suc c) (suc r)) (A (suc c) r) (A c r))
      (λ d h. different p (point_of c r d) (λ q.
      away (sym (ap (λ (k : Cell). k.column) (ap (home_of role A) q ∙ home_here role c r d h)))
      (sym (ap (λ (k : Cell). k.row) (ap (home_of role A) q ∙ home_here role c r d h)))))

  unfoldable pub measure : Role → Point → Segment → ℕ
  measure role p σ = same p (point_by role σ)

  pub only-there : (role : Role) (p : Point) (k : Cell) → home_of role A p ≡ k → (c r : ℕ) → c ≤ dx → (c ≡ k.column → r ≡ k.row → ⊥) → total (measure role p) (cell_segments A c r) ≡ 0
  unfolding measure marked
  only-there role p k q c r h away =
      only-home role p c r (λ e f. away (e ∙ ap (λ (m : Cell). m.column) q) (f ∙ ap (λ (m : Cell). m.row) q))

  pub marked_by : (role : Role) (p : Point) (σs : List Segment) → marked role σs p ≡ total (measure role p) σs
  unfolding measure marked
  marked_by role p σs = refl

  -- in the cell itself some stroke has the point in the role that the samples say
  pub in_cell : (role : Role) (c r : ℕ) (d : Side) → on_side role A c r d ≡ true → 1 ≤ marked role (cell_segments A c r) (point_of c r d)
  unfolding cell_segments cell_number
  in_cell role c r d h = at_least_one role c r d (drawn (cell_number A c r)) (present role d (A c (suc r)) (A (suc c) (suc r)) (A (suc c) r) (A c r) h)

  -- after the cells before (c, r), nothing has the point in a role that only this cell or a later one has
  not_yet : (role : Role) (r c : ℕ) → c ≤ dx → (p : Point) (k : Cell) → home_of role A p ≡ k → r ≤ k.row → (k.row ≡ r → c ≤ k.column) → marked role (segments_after A dx r c) p ≡ 0
  not_yet role r c inside p k q below behind =
      marked_by role p (segments_after A dx r c)
      ∙ not-visited A dx (measure role p) k.column k.row (only-there role p k q) r c (omega arith) below behind

  -- where only one cell has it, and that one has been finished, it stands once
  seen-once : (role : Role) (r c : ℕ) (p : Point) (σs : List Segment) → marked role (segments_after A dx r c) p ≤ 1
      → total (measure role p) (segments_after A dx r c) ≡ total (measure role p) σs → 1 ≤ marked role σs p → marked role (segments_after A dx r c) p ≡ 1
  seen-once role r c p σs once q h = omega (arith, marked_by role p (segments_after A dx r c), marked_by role p σs)

  pub drawable : (role : Role) (c r : ℕ) (d : Side) → on_side role A c r d ≡ true → Drawable c r d
  drawable begin c r d h = beginning-drawable A out c r d h
  drawable finish c r d h = ending-drawable A out c r d h

  -- the role's own count at a side of the cell to be drawn
  pub unmarked : (role : Role) (c r : ℕ) (d : Side) → c ≤ dx → on_side role A c r d ≡ true → marked role (segments_after A dx r c) (point_of c r d) ≡ 0
  unmarked role c r d inside h = not_yet role r c inside (point_of c r d) (cell c r) (home_here role c r d h) (omega arith) (λ e. omega arith)

  -- the other role's count at a side of the cell to be drawn: 1 on Left and Top, which finished cells share, and 0 on Right and Bottom
  pub shared : (role : Role) (c r : ℕ) (d : Side) → c ≤ dx → marked (other role) (segments_after A dx r c) (point_of c r d) ≤ 1 → on_side role A c r d ≡ true
      → marked (other role) (segments_after A dx r c) (point_of c r d) ≡ on_finished d
  unfolding on_finished
  shared role zero r Left inside once h = absurd (not-suc-le-zero (drawable role 0 r Left h))
  shared role (suc c) r Left inside once h =
      seen-once (other role) r (suc c) (point_of (suc c) r Left) (cell_segments A c r) once
      (visited-before A dx (measure (other role) (point_of (suc c) r Left)) c r (only-there (other role) (point_of (suc c) r Left) (cell c r) (home-there role (suc c) r Left h)) (suc c) (omega arith) (omega arith))
      (rw (left-is-right A c r) (in_cell (other role) c r Right (sym (across-left role A c r) ∙ h)))
  shared role c r Right inside once h =
      not_yet (other role) r c inside (point_of c r Right) (cell (suc c) r) (home-there role c r Right h) (omega arith) (λ e. omega arith)
  shared role c zero Top inside once h = absurd (not-suc-le-zero (drawable role c 0 Top h))
  shared role c (suc r) Top inside once h =
      seen-once (other role) (suc r) c (point_of c (suc r) Top) (cell_segments A c r) once
      (visited-above A dx (measure (other role) (point_of c (suc r) Top)) c r (only-there (other role) (point_of c (suc r) Top) (cell c r) (home-there role c (suc r) Top h)) (suc r) c (omega arith) inside (omega arith))
      (rw (top-is-bottom A c r) (in_cell (other role) c r Bottom (sym (across-top role A c r) ∙ h)))
  shared role c r Bottom inside once h =
      not_yet (other role) r c inside (point_of c r Bottom) (cell c (suc r)) (home-there role c r Bottom h) (omega arith) (λ e. omega arith)

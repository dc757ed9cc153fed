-- Edges: each point of a cell lies between two cells, and from the samples one of the two is where a segment may end there, the other where one may
-- begin. A cell's strokes begin and end just where its samples say. Assumes nothing.
use mathlib.Core.Path.{◌≡◌, refl, sym, ◌∙◌, ap, ap₂}
use mathlib.Core.Bool.{Bool, true, false, cond, not, ◌&&◌, false≢true}
use Prim.Native.Nat.{ℕ, zero, suc, ◌+◌, ◌-◌, ◌*◌, ◌/◌, ◌<◌}
use native.Mathlib.Omega.{arith}
use lib.Dec.{ltb}
use borrow.Author.Tests.{lt-ltb, le-ltb, not-true}
use Rattle.scope.specs.Terrain.{Sheet}
use Rattle.scope.specs.declared.Side.{Side}
use Rattle.scope.specs.declared.Side.TheVariants.{Left, Right, Top, Bottom}
use Rattle.scope.specs.Cells.{Point, point_of, same_point}
use Rattle.laws.proofs.Ends.{and_left, and_right, same-eq}

-- nothing outside the grid is above
pub record Outside (A : Sheet) (dx dy : ℕ) : Type 0 where
  pub no-column-before : (r : ℕ) → A 0 r ≡ false
  pub no-row-before : (c : ℕ) → A c 0 ≡ false
  pub no-column-after : (c r : ℕ) → dx < c → A c r ≡ false
  pub no-row-after : (c r : ℕ) → dy < r → A c r ≡ false

-- by the four samples, lower left, lower right, upper right and upper left: where a segment ends, and where one begins
abbrev pub ending : Bool → Bool → Bool → Bool → Side → Bool
ending ll lr ur ul Left = ll && not ul
ending ll lr ur ul Right = ur && not lr
ending ll lr ur ul Top = ul && not ur
ending ll lr ur ul Bottom = lr && not ll

abbrev pub beginning : Bool → Bool → Bool → Bool → Side → Bool
beginning ll lr ur ul Left = ul && not ll
beginning ll lr ur ul Right = lr && not ur
beginning ll lr ur ul Top = ur && not ul
beginning ll lr ur ul Bottom = ll && not lr

abbrev pub ends_on : Sheet → ℕ → ℕ → Side → Bool
ends_on A c r = ending (A c (suc r)) (A (suc c) (suc r)) (A (suc c) r) (A c r)

abbrev pub begins_on : Sheet → ℕ → ℕ → Side → Bool
begins_on A c r = beginning (A c (suc r)) (A (suc c) (suc r)) (A (suc c) r) (A c r)

-- ---- the two cells at a point

pub record Cell : Type 0 where
  pub column : ℕ
  pub row : ℕ

abbrev pub cell : ℕ → ℕ → Cell
cell c r = record { column = c; row = r }

unfoldable pub first_cell : Point → Cell
first_cell p = cell (p.x / 2) (p.y / 2)

unfoldable pub second_cell : Point → Cell
second_cell p = cell ((p.x + 1) / 2) ((p.y + 1) / 2)

-- the sample that says which of the two a segment ends in
unfoldable pub tested : Sheet → Point → Bool
tested A p = A (suc (p.x / 2)) ((p.y + 1) / 2)

unfoldable pub end_cell : Sheet → Point → Cell
end_cell A p = cond (tested A p) (first_cell p) (second_cell p)

unfoldable pub start_cell : Sheet → Point → Cell
start_cell A p = cond (tested A p) (second_cell p) (first_cell p)

cell-eq : {a b c d : ℕ} → a ≡ c → b ≡ d → cell a b ≡ cell c d
cell-eq p q = λ i. cell (p i) (q i)

-- the point's two cells and its sample
record Between (A : Sheet) (p : Point) (one other : Cell) (sample : Bool) : Type 0 where
  is-first : first_cell p ≡ one
  is-second : second_cell p ≡ other
  is-tested : tested A p ≡ sample

module _ (A : Sheet) where
  at_right : (c r : ℕ) → Between A (point_of c r Right) (cell c r) (cell (suc c) r) (A (suc c) r)
  unfolding point_of first_cell second_cell tested
  at_right c r = record {
    is-first = cell-eq (omega arith) (omega arith);
    is-second = cell-eq (omega arith) (omega arith);
    is-tested = ap₂ A (omega arith) (omega arith);
  }

  at-bottom : (c r : ℕ) → Between A (point_of c r Bottom) (cell c r) (cell c (suc r)) (A (suc c) (suc r))
  unfolding point_of first_cell second_cell tested
  at-bottom c r = record {
    is-first = cell-eq (omega arith) (omega arith);
    is-second = cell-eq (omega arith) (omega arith);
    is-tested = ap₂ A (omega arith) (omega arith);
  }

  pub left-is-right : (c r : ℕ) → point_of (suc c) r Left ≡ point_of c r Right
  unfolding point_of
  left-is-right c r = λ i. record { x = along c i; y = 2 * r }
    where
      along : (c : ℕ) → 2 * suc c - 1 ≡ 2 * c + 1
      along c = omega arith

  pub top-is-bottom : (c r : ℕ) → point_of c (suc r) Top ≡ point_of c r Bottom
  unfolding point_of
  top-is-bottom c r = λ i. record { x = 2 * c; y = down r i }
    where
      down : (r : ℕ) → 2 * suc r - 1 ≡ 2 * r + 1
      down r = omega arith

-- the cell on the other side of a cell's edge
abbrev pub neighbour : ℕ → ℕ → Side → Cell
neighbour zero r Left = cell 0 r
neighbour (suc c) r Left = cell c r
neighbour c r Right = cell (suc c) r
neighbour c zero Top = cell c 0
neighbour c (suc r) Top = cell c r
neighbour c r Bottom = cell c (suc r)

-- the cell that a segment may end in at a point, and the cell that one may begin in
pub record Homes (A : Sheet) (p : Point) (end start : Cell) : Type 0 where
  pub end-home : end_cell A p ≡ end
  pub start-home : start_cell A p ≡ start

module _ (A : Sheet) where
  homes-above : {p : Point} {one other : Cell} {sample : Bool} → Between A p one other sample → sample ≡ true → Homes A p one other
  unfolding end_cell start_cell
  homes-above {p} {one} {other} at h = record {
    end-home = ap (λ (b : Bool). cond b (first_cell p) (second_cell p)) (at.is-tested ∙ h) ∙ at.is-first;
    start-home = ap (λ (b : Bool). cond b (second_cell p) (first_cell p)) (at.is-tested ∙ h) ∙ at.is-second;
  }

  homes-below : {p : Point} {one other : Cell} {sample : Bool} → Between A p one other sample → sample ≡ false → Homes A p other one
  unfolding end_cell start_cell
  homes-below {p} {one} {other} at h = record {
    end-home = ap (λ (b : Bool). cond b (first_cell p) (second_cell p)) (at.is-tested ∙ h) ∙ at.is-second;
    start-home = ap (λ (b : Bool). cond b (second_cell p) (first_cell p)) (at.is-tested ∙ h) ∙ at.is-first;
  }

  module _ {dx dy : ℕ} (out : Outside A dx dy) where
    -- where a segment ends in a cell, one may begin in the neighbour
    pub ending-homes : (c r : ℕ) (d : Side) → ends_on A c r d ≡ true → Homes A (point_of c r d) (cell c r) (neighbour c r d)
    ending-homes zero r Left h = absurd (false≢true (sym (out.no-column-before (suc r)) ∙ and_left (A 0 (suc r)) (not (A 0 r)) h))
    ending-homes (suc c) r Left h =
        rw (left-is-right A c r) (homes-below (at_right A c r) (not-true (A (suc c) r) (and_right (A (suc c) (suc r)) (not (A (suc c) r)) h)))
    ending-homes c r Right h = homes-above (at_right A c r) (and_left (A (suc c) r) (not (A (suc c) (suc r))) h)
    ending-homes c zero Top h = absurd (false≢true (sym (out.no-row-before c) ∙ and_left (A c 0) (not (A (suc c) 0)) h))
    ending-homes c (suc r) Top h =
        rw (top-is-bottom A c r) (homes-below (at-bottom A c r) (not-true (A (suc c) (suc r)) (and_right (A c (suc r)) (not (A (suc c) (suc r))) h)))
    ending-homes c r Bottom h = homes-above (at-bottom A c r) (and_left (A (suc c) (suc r)) (not (A c (suc r))) h)

    -- and where one begins, one may end in the neighbour
    pub beginning-homes : (c r : ℕ) (d : Side) → begins_on A c r d ≡ true → Homes A (point_of c r d) (neighbour c r d) (cell c r)
    beginning-homes zero r Left h = absurd (false≢true (sym (out.no-column-before r) ∙ and_left (A 0 r) (not (A 0 (suc r))) h))
    beginning-homes (suc c) r Left h = rw (left-is-right A c r) (homes-above (at_right A c r) (and_left (A (suc c) r) (not (A (suc c) (suc r))) h))
    beginning-homes c r Right h = homes-below (at_right A c r) (not-true (A (suc c) r) (and_right (A (suc c) (suc r)) (not (A (suc c) r)) h))
    beginning-homes c zero Top h = absurd (false≢true (sym (out.no-row-before (suc c)) ∙ and_left (A (suc c) 0) (not (A c 0)) h))
    beginning-homes c (suc r) Top h = rw (top-is-bottom A c r) (homes-above (at-bottom A c r) (and_left (A (suc c) (suc r)) (not (A c (suc r))) h))
    beginning-homes c r Bottom h = homes-below (at-bottom A c r) (not-true (A (suc c) (suc r)) (and_right (A c (suc r)) (not (A (suc c) (suc r))) h))

-- ---- the sides of one cell have different points

-- the point of Left is drawn only in a cell with a column before it, that of Top only below another row
abbrev pub Drawable : ℕ → ℕ → Side → Type 0
Drawable c r Left = 0 < c
Drawable c r Right = Unit {0}
Drawable c r Top = 0 < r
Drawable c r Bottom = Unit {0}

side_at : ℕ → ℕ → Point → Side
side_at c r p = cond (ltb p.x (2 * c)) Left (cond (ltb (2 * c) p.x) Right (cond (ltb p.y (2 * r)) Top Bottom))

side-back : (c r : ℕ) (d : Side) → Drawable c r d → side_at c r (point_of c r d) ≡ d
unfolding side_at point_of
side-back c r Left h = simp (lt-ltb (2 * c - 1) (2 * c) (omega arith))
side-back c r Right h = simp (le-ltb (2 * c + 1) (2 * c) (omega arith), lt-ltb (2 * c) (2 * c + 1) (omega arith))
side-back c r Top h = simp (le-ltb (2 * c) (2 * c) (omega arith), lt-ltb (2 * r - 1) (2 * r) (omega arith))
side-back c r Bottom h = simp (le-ltb (2 * c) (2 * c) (omega arith), le-ltb (2 * r + 1) (2 * r) (omega arith))

pub different : (p q : Point) → (p ≡ q → ⊥) → same_point p q ≡ false
different p q ne = by (same_point p q) refl
  where
    by : (b : Bool) → same_point p q ≡ b → b ≡ false
    by true e = absurd (ne (same-eq p q e))
    by false e = refl

pub sides_apart : (c r : ℕ) (d e : Side) → Drawable c r d → Drawable c r e → (d ≡ e → ⊥) → same_point (point_of c r d) (point_of c r e) ≡ false
sides_apart c r d e hd he ne =
    different (point_of c r d) (point_of c r e) (λ q. ne (sym (side-back c r d hd) ∙ ap (side_at c r) q ∙ side-back c r e he))

module _ (A : Sheet) {dx dy : ℕ} (out : Outside A dx dy) where
  pub ending-drawable : (c r : ℕ) (d : Side) → ends_on A c r d ≡ true → Drawable c r d
  ending-drawable zero r Left h = absurd (false≢true (sym (out.no-column-before (suc r)) ∙ and_left (A 0 (suc r)) (not (A 0 r)) h))
  ending-drawable (suc c) r Left h = omega arith
  ending-drawable c r Right h = tt
  ending-drawable c zero Top h = absurd (false≢true (sym (out.no-row-before c) ∙ and_left (A c 0) (not (A (suc c) 0)) h))
  ending-drawable c (suc r) Top h = omega arith
  ending-drawable c r Bottom h = tt

  pub beginning-drawable : (c r : ℕ) (d : Side) → begins_on A c r d ≡ true → Drawable c r d
  beginning-drawable zero r Left h = absurd (false≢true (sym (out.no-column-before r) ∙ and_left (A 0 r) (not (A 0 (suc r))) h))
  beginning-drawable (suc c) r Left h = omega arith
  beginning-drawable c r Right h = tt
  beginning-drawable c zero Top h = absurd (false≢true (sym (out.no-row-before (suc c)) ∙ and_left (A (suc c) 0) (not (A c 0)) h))
  beginning-drawable c (suc r) Top h = omega arith
  beginning-drawable c r Bottom h = tt

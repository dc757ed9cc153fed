-- What a pair of points can hold: no point past both ends by Y, and a point past both ends by X only where the ends are one point in its row.
-- A point on the straight line between two ends of unequal X has its Y between theirs too. Assumes nothing.
use mathlib.Core.Path.{◌≡◌, refl, sym, ap, ◌∙◌}
use mathlib.Core.Bool.{Bool, true, false, cond, ◌&&◌, ◌||◌}
use mathlib.Core.Logic.{◌⊎◌, inl, inr}
use Prim.Native.Nat.{ℕ, ◌+◌, ◌*◌, ◌-◌, ◌<◌, ◌≤◌}
use native.Mathlib.Omega.{arith}
use lib.Dec.{leb, eqb}
use borrow.Author.Tests.{leb-true, eqb-true, eqb-false}
use Rattle.scope.specs.Cells.{Point}
use Rattle.scope.specs.Containment.{collinear, between, on_pair}
use Rattle.area.proofs.Crossing.{around, collinear-is}
use Rattle.laws.proofs.Ends.{and_left, and_right, point-eq}
use Rattle.nearness.proofs.Weights.{mix-less, mix-more, balanced, by-columns}

-- one of two tests is true
pub either : (t u : Bool) → t || u ≡ true → (t ≡ true) ⊎ (u ≡ true)
either true u h = inl refl
either false u h = inr h

-- a test that cannot be true
pub is_false : (t : Bool) → (t ≡ true → ⊥) → t ≡ false
is_false true h = absurd (h refl)
is_false false h = refl

-- k lies past both numbers
pub data Past (m n k : ℕ) : Type 0 where
  over : m < k → n < k → Past m n k
  under : k < m → k < n → Past m n k

past-swap : {m n k : ℕ} → Past m n k → Past n m k
past-swap (over s t) = over t s
past-swap (under s t) = under t s

data Between (m k n : ℕ) : Type 0 where
  up : m ≤ k → k ≤ n → Between m k n
  down : n ≤ k → k ≤ m → Between m k n

between_is : (m k n : ℕ) → between m k n ≡ true → Between m k n
unfolding between
between_is m k n h = from (either (leb m k && leb k n) (leb n k && leb k m) h)
  where
    from : (leb m k && leb k n ≡ true) ⊎ (leb n k && leb k m ≡ true) → Between m k n
    from (inl e) = up (leb-true m k (and_left (leb m k) (leb k n) e)) (leb-true k n (and_right (leb m k) (leb k n) e))
    from (inr e) = down (leb-true n k (and_left (leb n k) (leb k m) e)) (leb-true k m (and_right (leb n k) (leb k m) e))

-- no number between two lies past both
not-past : {m k n : ℕ} → Between m k n → Past m n k → ⊥
not-past (up h i) (over s t) = omega arith
not-past (up h i) (under s t) = omega arith
not-past (down h i) (over s t) = omega arith
not-past (down h i) (under s t) = omega arith

-- on one straight line, from either end
swapped : (a b p : Point) → around p b a ≡ around a b p → around p a b ≡ around b a p
unfolding around
swapped a b p e = omega arith

-- between the ends by X, and past both by Y: not on their straight line
uneven : (a b p : Point) → a.x ≤ p.x → p.x ≤ b.x → (a.x ≡ b.x → ⊥) → Past a.y b.y p.y → around p b a ≡ around a b p → ⊥
uneven a b p h i ne s e = from s
  where
    v : ℕ
    v = p.x - a.x

    u : ℕ
    u = b.x - p.x

    sums : around p b a + (u + v) * p.y ≡ around a b p + (u * a.y + v * b.y)
    sums = by-columns a b p u v (omega arith) (omega arith)

    from : Past a.y b.y p.y → ⊥
    from (over s t) = omega (arith, sums, mix-less u v a.y b.y p.y s t (omega arith))
    from (under s t) = omega (arith, sums, mix-more u v a.y b.y p.y s t (omega arith))

-- how a pair holds a point
data On (a b p : Point) : Type 0 where
  upright : around p b a ≡ around a b p → a.x ≡ b.x → Between a.y p.y b.y → On a b p
  slanted : around p b a ≡ around a b p → (a.x ≡ b.x → ⊥) → Between a.x p.x b.x → On a b p

module _ (a b p : Point) where
  on-is : on_pair a b p ≡ true → On a b p
  unfolding on_pair
  on-is h = from (eqb a.x b.x) refl (and_right (collinear a b p) by h)
    where
      by : Bool
      by = cond (eqb a.x b.x) (between a.y p.y b.y) (between a.x p.x b.x)

      straight : around p b a ≡ around a b p
      straight = eqb-true (around p b a) (around a b p) (sym (collinear-is a b p) ∙ and_left (collinear a b p) by h)

      from : (t : Bool) → eqb a.x b.x ≡ t → cond t (between a.y p.y b.y) (between a.x p.x b.x) ≡ true → On a b p
      from true e g = upright straight (eqb-true a.x b.x e) (between_is a.y p.y b.y g)
      from false e g = slanted straight (eqb-false a.x b.x e) (between_is a.x p.x b.x g)

  -- ends of equal X beside the point, in one straight line with it, are at one height
  level : a.x ≡ b.x → Past a.x b.x p.x → around p b a ≡ around a b p → a.y ≡ b.y
  unfolding around
  level e (over s t) f = balanced a.x p.x a.y b.y s (omega (arith, ap (λ k. k * a.y) e, ap (λ k. k * p.y) e))
  level e (under s t) f = balanced p.x a.x a.y b.y s (omega (arith, ap (λ k. k * a.y) e, ap (λ k. k * p.y) e))

  -- past both ends by Y
  pub none-by-rows : Past a.y b.y p.y → on_pair a b p ≡ true → ⊥
  none-by-rows s h = from (on-is h)
    where
      from : On a b p → ⊥
      from (upright e f g) = not-past g s
      from (slanted e ne (up h i)) = uneven a b p h i ne s e
      from (slanted e ne (down h i)) = uneven b a p h i (λ q. ne (sym q)) (past-swap s) (swapped a b p e)

  -- past both ends by X
  pub one-by-columns : Past a.x b.x p.x → on_pair a b p ≡ true → a ≡ b
  one-by-columns s h = from (on-is h)
    where
      from : On a b p → a ≡ b
      from (upright e f g) = point-eq a b f (level f s e)
      from (slanted e ne g) = absurd (not-past g s)

  -- and then the point lies in the row of the end
  pub row-by-columns : Past a.x b.x p.x → on_pair a b p ≡ true → p.y ≡ b.y
  row-by-columns s h = from (on-is h)
    where
      from : On a b p → p.y ≡ b.y
      from (upright e f (up h i)) = omega (arith, level f s e)
      from (upright e f (down h i)) = omega (arith, level f s e)
      from (slanted e ne g) = absurd (not-past g s)

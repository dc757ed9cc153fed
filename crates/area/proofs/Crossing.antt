-- Document 01's collinearity and crossing abscissa, over integers, are comparisons of two sums of three products of naturals.
-- Each side of the definition is put as one difference of naturals, and what both numbers share is dropped. Assumes nothing.
use mathlib.Core.Path.{◌≡◌, sym, ap, ◌∙◌}
use mathlib.Core.Bool.{cond}
use Prim.Native.Nat.{ℕ, suc, ◌+◌, ◌*◌, ◌<◌}
use native.Mathlib.Decide.{ℕ_discrete, dec_lt}
use native.Mathlib.Omega.{arith}
use lib.Dec.{ltb, eqb}
use lib.IntN.{ℤ, pos, ◌+ℤ◌, ◌*ℤ◌}
use borrow.Author.Tests.{eq-eqb, ne_eqb, lt-ltb, le-ltb}
use Rattle.scope.specs.Cells.{Point}
use Rattle.scope.specs.Containment.{is_zero, below, below_fraction, collinear, left_of_crossing}
use Rattle.area.proofs.Differences.{diff, Split, more, less, split, add-diff, sub-diff, mul-diff, scale-diff, natural, negated, zero-is-equal, below-is-less}

-- each point's x times the next point's y, over three points in a circle
unfoldable pub around : Point → Point → Point → ℕ
around a b c = a.x * b.y + b.x * c.y + c.x * a.y

-- what both numbers of a test share may go
shared-equal : (k a b m n : ℕ) → m ≡ b + k → n ≡ a + k → eqb m n ≡ eqb a b
shared-equal k a b m n e f = from (ℕ_discrete a b)
  where
    from : Dec (a ≡ b) → eqb m n ≡ eqb a b
    from (yes h) = eq-eqb m n (omega arith) ∙ sym (eq-eqb a b h)
    from (no h) = ne_eqb m n (λ q. h (omega arith)) ∙ sym (ne_eqb a b h)

shared-less : (k a b m n : ℕ) → m ≡ a + k → n ≡ b + k → ltb m n ≡ ltb a b
shared-less k a b m n e f = from (dec_lt a b)
  where
    from : Dec (a < b) → ltb m n ≡ ltb a b
    from (yes h) = lt-ltb m n (omega arith) ∙ sym (lt-ltb a b h)
    from (no h) = le-ltb m n (omega arith) ∙ sym (le-ltb a b (omega arith))

-- a fraction whose denominator is a difference of naturals
fraction-is : (m n : ℤ) (a b : ℕ) →
    below_fraction m n (diff b a) ≡ cond (ltb b a) (below n (m *ℤ diff b a)) (below (m *ℤ diff b a) n)
unfolding below_fraction
fraction-is m n a b = from (split b a)
  where
    from : Split b a → below_fraction m n (diff b a) ≡ cond (ltb b a) (below n (m *ℤ diff b a)) (below (m *ℤ diff b a) n)
    from (more k e) = rw (natural b a k e, le-ltb b a (omega arith))
    from (less k e) = rw (negated b a (suc k) e, lt-ltb b a (omega arith))

module _ (a b p : Point) where
  -- the step from a to b along x, times the step from a to p along y
  across : diff b.x a.x *ℤ diff p.y a.y ≡ diff (b.x * p.y + a.x * a.y) (b.x * a.y + a.x * p.y)
  across = mul-diff b.x a.x p.y a.y

  -- the three points lie on one straight line
  pub collinear-is : collinear a b p ≡ eqb (around p b a) (around a b p)
  unfolding collinear around
  collinear-is =
      let m = b.x * p.y + a.x * a.y in
      let n = b.x * a.y + a.x * p.y in
      let k = p.x * b.y + a.x * a.y in
      let l = p.x * a.y + a.x * b.y in
      ap is_zero (rw (across, mul-diff p.x a.x b.y a.y) (sub-diff m n k l))
      ∙ zero-is-equal (m + l) (n + k)
      ∙ shared-equal (a.x * a.y) (around p b a) (around a b p) (m + l) (n + k) (omega arith) (omega arith)

  -- the crossing abscissa's numerator
  abbrev numerator : ℤ
  numerator = pos a.x *ℤ diff b.y a.y +ℤ diff b.x a.x *ℤ diff p.y a.y

  -- what it is more and less than zero by
  abbrev up : ℕ
  up = a.x * b.y + (b.x * p.y + a.x * a.y)

  abbrev down : ℕ
  down = a.x * a.y + (b.x * a.y + a.x * p.y)

  numerator-is : numerator ≡ diff up down
  numerator-is =
      rw (scale-diff a.x b.y a.y, across)
      (add-diff (a.x * b.y) (a.x * a.y) (b.x * p.y + a.x * a.y) (b.x * a.y + a.x * p.y))

  -- the point's x, times the denominator
  abbrev scaled : ℤ
  scaled = pos p.x *ℤ diff b.y a.y

  scaled-is : scaled ≡ diff (p.x * b.y) (p.x * a.y)
  scaled-is = scale-diff p.x b.y a.y

  point-less : below scaled numerator ≡ ltb (around p b a) (around a b p)
  unfolding around
  point-less =
      below-is-less scaled numerator (p.x * b.y + down) (p.x * a.y + up)
      (rw (numerator-is, scaled-is) (sub-diff (p.x * b.y) (p.x * a.y) up down))
      ∙ shared-less (a.x * a.y) (around p b a) (around a b p) (p.x * b.y + down) (p.x * a.y + up) (omega arith) (omega arith)

  point-more : below numerator scaled ≡ ltb (around a b p) (around p b a)
  unfolding around
  point-more =
      below-is-less numerator scaled (up + p.x * a.y) (down + p.x * b.y)
      (rw (numerator-is, scaled-is) (sub-diff up down (p.x * b.y) (p.x * a.y)))
      ∙ shared-less (a.x * a.y) (around a b p) (around p b a) (up + p.x * a.y) (down + p.x * b.y) (omega arith) (omega arith)

  -- the point's x is less than the crossing abscissa
  pub left_is : left_of_crossing a b p ≡ cond (ltb b.y a.y) (ltb (around a b p) (around p b a)) (ltb (around p b a) (around a b p))
  unfolding left_of_crossing
  left_is = fraction-is (pos p.x) numerator a.y b.y ∙ rw (point-less, point-more)

-- Where a line starts and ends after it is lengthened or joined, and equality of points as a test. Assumes nothing.
use mathlib.Core.Path.{◌≡◌, refl, sym, ◌∙◌, ap}
use mathlib.Core.Bool.{Bool, true, false, ◌&&◌, false≢true}
use mathlib.Core.List.{[], ◌∷◌, ◌++◌}
use lib.Dec.{eqb}
use borrow.Author.Tests.{eqb-true, eq-eqb}
use Rattle.scope.specs.Cells.{Point, same_point}
use Rattle.scope.specs.Stitching.{Line, starts_at, ends_at}

pub and_left : (a b : Bool) → a && b ≡ true → a ≡ true
and_left true b h = refl
and_left false b h = h

pub and_right : (a b : Bool) → a && b ≡ true → b ≡ true
and_right true b h = h
and_right false b h = absurd (false≢true h)

pub point-eq : (p q : Point) → p.x ≡ q.x → p.y ≡ q.y → p ≡ q
point-eq p q ex ey = λ i. record { x = ex i; y = ey i }

pub same-eq : (p q : Point) → same_point p q ≡ true → p ≡ q
unfolding same_point
same-eq p q h =
    point-eq p q
    (eqb-true p.x q.x (and_left (eqb p.x q.x) (eqb p.y q.y) h))
    (eqb-true p.y q.y (and_right (eqb p.x q.x) (eqb p.y q.y) h))

pub same_refl : (p : Point) → same_point p p ≡ true
unfolding same_point
same_refl p = ap (λ (b : Bool). b && eqb p.y p.y) (eq-eqb p.x p.x refl) ∙ eq-eqb p.y p.y refl

module _ (p : Point) where
  pub start_is : (e : Point) (l : Line) → starts_at e l ≡ true → starts_at p l ≡ same_point p e
  unfolding starts_at
  start_is e [] h = absurd (false≢true h)
  start_is e (q ∷ l) h = ap (same_point p) (sym (same-eq e q h))

  pub end_is : (s : Point) (l : Line) → ends_at s l ≡ true → ends_at p l ≡ same_point p s
  unfolding ends_at
  end_is s [] h = absurd (false≢true h)
  end_is s (q ∷ []) h = ap (same_point p) (sym (same-eq s q h))
  end_is s (q ∷ q' ∷ l) h = end_is s (q' ∷ l) h

  pub end-of-prepended : (s e : Point) (l : Line) → starts_at e l ≡ true → ends_at p (s ∷ l) ≡ ends_at p l
  unfolding ends_at starts_at
  end-of-prepended s e [] h = absurd (false≢true h)
  end-of-prepended s e (q ∷ l) h = refl

  pub start-of-joined : (s : Point) (f g : Line) → ends_at s f ≡ true → starts_at p (f ++ g) ≡ starts_at p f
  unfolding ends_at starts_at
  start-of-joined s [] g h = absurd (false≢true h)
  start-of-joined s (q ∷ f) g h = refl

  pub end-of-joined : (e : Point) (f g : Line) → starts_at e g ≡ true → ends_at p (f ++ g) ≡ ends_at p g
  unfolding ends_at
  end-of-joined e [] g h = refl
  end-of-joined e (q ∷ []) g h = end-of-prepended q e g h
  end-of-joined e (q ∷ q' ∷ f) g h = end-of-joined e (q' ∷ f) g h

  pub end-of-appended : (e : Point) (f : Line) → ends_at p (f ++ (e ∷ [])) ≡ same_point p e
  unfolding starts_at ends_at
  end-of-appended e f = end-of-joined e f (e ∷ []) (same_refl e)

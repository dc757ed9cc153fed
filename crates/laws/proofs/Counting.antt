-- How many open lines start and end at a point, and how many there are, after a stitch; and, for segments that begin and end at most once at each
-- point, what that makes of them: a line ends where a segment has ended and none has begun. Assumes nothing.
use mathlib.Core.Path.{◌≡◌, refl, sym, ◌∙◌, ap}
use mathlib.Core.Bool.{Bool, true, false, true≢false}
use mathlib.Core.List.{List, [], ◌∷◌, ◌++◌}
use Prim.Native.Nat.{ℕ, ◌+◌, ◌-◌, ◌≤◌}
use native.Mathlib.Omega.{arith}
use lib.ListN.{length}
use Rattle.scope.specs.Cells.{Point, Segment, same_point, when}
use Rattle.scope.specs.Stitching.{Line, Drawing, starts_at, ends_at, stitch}
use Rattle.laws.proofs.Total.{total, total-append, tally}
use Rattle.laws.proofs.Ends.{same-eq, start_is, end_is, end-of-prepended, start-of-joined, end-of-joined, end-of-appended}
use Rattle.laws.proofs.Outcome.{Outcome, closed-ring, joined, appended, prepended, started, outcome}

unfoldable pub ends : Drawing → Point → ℕ
ends d p = total (tally (ends_at p)) d.lines

unfoldable pub starts : Drawing → Point → ℕ
starts d p = total (tally (starts_at p)) d.lines

-- 1 where the points are the same
abbrev pub same : Point → Point → ℕ
same p q = when 1 (same_point p q)

one_each : (ls : List Line) → total (λ l. 1) ls ≡ length ls
unfolding total
one_each [] = refl
one_each (l ∷ ls) = omega (arith, one_each ls)

-- the change of the three counts, where a line that ends at s or starts at e is the only one
pub record Counted (d d' : Drawing) (s e : Point) : Type 0 where
  pub open-lines : length d'.lines + ends d s + starts d e ≡ length d.lines + 1
  pub line-ends : (p : Point) → ends d' p + when (ends d s) (same_point p s) + when (starts d e) (same_point p e) ≡ ends d p + same p e
  pub line-starts : (p : Point) → starts d' p + when (ends d s) (same_point p s) + when (starts d e) (same_point p e) ≡ starts d p + same p s

-- from the numbers of lines at s and at e as the rule has them
module _ (d d' : Drawing) (s e : Point) (a b : ℕ) (ea : ends d s ≡ a) (eb : starts d e ≡ b) where
  counted-by : length d'.lines + a + b ≡ length d.lines + 1
      → ((p : Point) → ends d' p + when a (same_point p s) + when b (same_point p e) ≡ ends d p + same p e)
      → ((p : Point) → starts d' p + when a (same_point p s) + when b (same_point p e) ≡ starts d p + same p s)
      → Counted d d' s e
  counted-by n es ss = record {
    open-lines = omega arith;
    line-ends = λ p. omega (arith, es p, as_many p s ea, as_many p e eb);
    line-starts = λ p. omega (arith, ss p, as_many p s ea, as_many p e eb);
  }
    where
      as_many : (p q : Point) {m n : ℕ} → m ≡ n → when m (same_point p q) ≡ when n (same_point p q)
      as_many p q eq = ap (λ (k : ℕ). when k (same_point p q)) eq

nothing-when : (b : Bool) → when 0 b ≡ 0
nothing-when true = refl
nothing-when false = refl

pub counted : {d d' : Drawing} {s e : Point} → Outcome d d' s e → ends d s ≤ 1 → starts d e ≤ 1 → Counted d d' s e
unfolding ends starts
counted {d} {d'} {s} {e} (closed-ring f some-f some-g hs he sum rings) us ue =
    counted-by d d' s e 1 1 (omega arith) (omega arith)
    (omega (arith, sum (λ l. 1), one_each d.lines, one_each d'.lines))
    (λ p. omega (arith, sum (tally (ends_at p)), ap (when 1) (end_is p s f hs)))
    (λ p. omega (arith, sum (tally (starts_at p)), ap (when 1) (start_is p e f he)))
counted {d} {d'} {s} {e} (joined f g some-f some-g hs he sum rings) us ue =
    counted-by d d' s e 1 1 (omega arith) (omega arith)
    (omega (arith, sum (λ l. 1), one_each d.lines, one_each d'.lines))
    (λ p. omega (arith, sum (tally (ends_at p)), ap (when 1) (end_is p s f hs), ap (when 1) (end-of-joined p e f g he)))
    (λ p. omega (arith, sum (tally (starts_at p)), ap (when 1) (start_is p e g he), ap (when 1) (start-of-joined p s f g hs)))
counted {d} {d'} {s} {e} (appended f some-f none hs sum rings) us ue =
    counted-by d d' s e 1 0 (omega arith) none
    (omega (arith, sum (λ l. 1), one_each d.lines, one_each d'.lines))
    (λ p. omega (arith, sum (tally (ends_at p)), ap (when 1) (end_is p s f hs), ap (when 1) (end-of-appended p e f), nothing-when (same_point p e)))
    (λ p. omega (arith, sum (tally (starts_at p)), ap (when 1) (start-of-joined p s f (e ∷ []) hs), nothing-when (same_point p e)))
counted {d} {d'} {s} {e} (prepended g none some-g he sum rings) us ue =
    counted-by d d' s e 0 1 none (omega arith)
    (omega (arith, sum (λ l. 1), one_each d.lines, one_each d'.lines))
    (λ p. omega (arith, sum (tally (ends_at p)), ap (when 1) (end-of-prepended p s e g he), nothing-when (same_point p s)))
    (λ p. unfold starts_at in omega (arith, sum (tally (starts_at p)), ap (when 1) (start_is p e g he), nothing-when (same_point p s)))
counted {d} {d'} {s} {e} (started none none' sum rings) us ue =
    counted-by d d' s e 0 0 none none'
    (omega (arith, sum (λ l. 1), one_each d.lines, one_each d'.lines))
    (λ p. unfold ends_at in omega (arith, sum (tally (ends_at p)), nothing-when (same_point p s), nothing-when (same_point p e)))
    (λ p. unfold starts_at in omega (arith, sum (tally (starts_at p)), nothing-when (same_point p s), nothing-when (same_point p e)))

-- how many of the segments end at a point, and how many begin there
unfoldable pub ended : List Segment → Point → ℕ
ended σs p = total (λ σ. same p σ.to) σs

unfoldable pub begun : List Segment → Point → ℕ
begun σs p = total (λ σ. same p σ.from) σs

pub ended-append : (σs τs : List Segment) (p : Point) → ended (σs ++ τs) p ≡ ended σs p + ended τs p
unfolding ended
ended-append σs τs p = total-append (λ σ. same p σ.to) σs τs

pub begun-append : (σs τs : List Segment) (p : Point) → begun (σs ++ τs) p ≡ begun σs p + begun τs p
unfolding begun
begun-append σs τs p = total-append (λ σ. same p σ.from) σs τs

-- a line ends where a segment has ended and none has begun, and starts where one has begun and none has ended
pub record Balanced (d : Drawing) (σs : List Segment) : Type 0 where
  pub at-ends : (p : Point) → ends d p ≡ ended σs p - begun σs p
  pub at-starts : (p : Point) → starts d p ≡ begun σs p - ended σs p

-- a segment whose start no segment has begun at, and whose end none has ended at
pub record Fresh (σs : List Segment) (σ : Segment) (a b : ℕ) : Type 0 where
  pub apart : same_point σ.from σ.to ≡ false
  pub ended-at-start : ended σs σ.from ≡ a
  pub begun-at-end : begun σs σ.to ≡ b
  pub not-begun : begun σs σ.from ≡ 0
  pub not-ended : ended σs σ.to ≡ 0
  pub once-ended : a ≤ 1
  pub once-begun : b ≤ 1

module _ (d : Drawing) (σs : List Segment) (σ : Segment) (a b : ℕ) (balanced : Balanced d σs) (fresh : Fresh σs σ a b) where
  change : Counted d (stitch d σ) σ.from σ.to
  change =
      counted (outcome d σ)
      (omega (arith, balanced.at-ends σ.from))
      (omega (arith, balanced.at-starts σ.to))

  pub fewer-or-more : length (stitch d σ).lines + a + b ≡ length d.lines + 1
  fewer-or-more = omega (arith, change.open-lines, balanced.at-ends σ.from, balanced.at-starts σ.to)

  -- what is known at a point that is the segment's start or not, and its end or not
  after : (p : Point) (u v : Bool) → same_point p σ.from ≡ u → same_point p σ.to ≡ v
      → (ends (stitch d σ) p ≡ (ended σs p + when 1 v) - (begun σs p + when 1 u)) × (starts (stitch d σ) p ≡ (begun σs p + when 1 u) - (ended σs p + when 1 v))
  after p true true eu ev = absurd (true≢false (sym ev ∙ ap (λ (q : Point). same_point q σ.to) (same-eq p σ.from eu) ∙ fresh.apart))
  after p true false eu ev =
      omega (
        arith,
        change.line-ends p,
        change.line-starts p,
        balanced.at-ends p,
        balanced.at-starts p,
        balanced.at-ends σ.from,
        ap (when (ends d σ.from)) eu,
        ap (when (starts d σ.to)) ev,
        ap (when 1) eu,
        ap (when 1) ev,
        ap (ended σs) (same-eq p σ.from eu),
        ap (begun σs) (same-eq p σ.from eu),
      )
  after p false true eu ev =
      omega (
        arith,
        change.line-ends p,
        change.line-starts p,
        balanced.at-ends p,
        balanced.at-starts p,
        balanced.at-starts σ.to,
        ap (when (ends d σ.from)) eu,
        ap (when (starts d σ.to)) ev,
        ap (when 1) eu,
        ap (when 1) ev,
        ap (ended σs) (same-eq p σ.to ev),
        ap (begun σs) (same-eq p σ.to ev),
      )
  after p false false eu ev =
      omega (
        arith,
        change.line-ends p,
        change.line-starts p,
        balanced.at-ends p,
        balanced.at-starts p,
        ap (when (ends d σ.from)) eu,
        ap (when (starts d σ.to)) ev,
        ap (when 1) eu,
        ap (when 1) ev,
      )

  pub balanced-after : Balanced (stitch d σ) (σs ++ (σ ∷ []))
  balanced-after = record {
    at-ends = λ p. omega (arith, (after p (same_point p σ.from) (same_point p σ.to) refl refl).0, (more p).0, (more p).1);
    at-starts = λ p. omega (arith, (after p (same_point p σ.from) (same_point p σ.to) refl refl).1, (more p).0, (more p).1);
  }
    where
      more : (p : Point) → (ended (σs ++ (σ ∷ [])) p ≡ ended σs p + same p σ.to) × (begun (σs ++ (σ ∷ [])) p ≡ begun σs p + same p σ.from)
      more p = unfold ended begun total in omega (arith, ended-append σs (σ ∷ []) p, begun-append σs (σ ∷ []) p)

-- Conservation: each stitch adds exactly its own pair of points, so any sum over the consecutive pairs of all open lines and rings is the sum over the
-- segments drawn. And every ring is closed. Assumes nothing.
use mathlib.Core.Path.{◌≡◌, sym, ap, subst}
use mathlib.Core.Bool.{true, false≢true}
use mathlib.Core.List.{List, [], ◌∷◌, ◌++◌}
use Prim.Native.Nat.{ℕ, ◌+◌}
use native.Mathlib.Omega.{arith}
use Rattle.scope.specs.Cells.{Point, Segment}
use Rattle.scope.specs.Stitching.{Line, Drawing, starts_at, ends_at, nothing, stitch, stitch_all}
use Rattle.laws.proofs.Total.{total, total-append}
use Rattle.laws.proofs.Ends.{same-eq, same_refl}
use Rattle.laws.proofs.Outcome.{Outcome, closed-ring, joined, appended, prepended, started, outcome}

module _ (ω : Point → Point → ℕ) where
  -- the sum of ω over a line's consecutive pairs
  unfoldable pub pair_sum : Line → ℕ
  pair_sum [] = 0
  pair_sum (p ∷ []) = 0
  pair_sum (p ∷ q ∷ l) = ω p q + pair_sum (q ∷ l)

  -- over all open lines and rings
  unfoldable pub drawn_sum : Drawing → ℕ
  drawn_sum d = total pair_sum d.lines + total pair_sum d.rings

  -- over the segments
  unfoldable pub segment_sum : List Segment → ℕ
  segment_sum σs = total (λ σ. ω σ.from σ.to) σs

  pairs-prepended : (s e : Point) (g : Line) → starts_at e g ≡ true → pair_sum (s ∷ g) ≡ ω s e + pair_sum g
  unfolding pair_sum starts_at
  pairs-prepended s e [] h = absurd (false≢true h)
  pairs-prepended s e (q ∷ g) h = ap (λ (r : Point). ω s r + pair_sum (q ∷ g)) (sym (same-eq e q h))

  pairs-joined : (s e : Point) (f g : Line) → ends_at s f ≡ true → starts_at e g ≡ true → pair_sum (f ++ g) ≡ pair_sum f + ω s e + pair_sum g
  unfolding pair_sum ends_at
  pairs-joined s e [] g hs he = absurd (false≢true hs)
  pairs-joined s e (q ∷ []) g hs he = omega (arith, pairs-prepended q e g he, ap (λ (r : Point). ω r e) (same-eq s q hs))
  pairs-joined s e (q ∷ q' ∷ f) g hs he = omega (arith, pairs-joined s e (q' ∷ f) g hs he)

  pairs-appended : (s e : Point) (f : Line) → ends_at s f ≡ true → pair_sum (f ++ (e ∷ [])) ≡ pair_sum f + ω s e
  unfolding pair_sum starts_at
  pairs-appended s e f hs = omega (arith, pairs-joined s e f (e ∷ []) hs (same_refl e))

  step : {d d' : Drawing} {s e : Point} → Outcome d d' s e → drawn_sum d' ≡ drawn_sum d + ω s e
  unfolding drawn_sum total
  step {d} {d'} {s} {e} (closed-ring f some-f some-g hs he sum rings) =
      omega (arith, sum pair_sum, ap (total pair_sum) rings, total-append pair_sum d.rings ((f ++ (e ∷ [])) ∷ []), pairs-appended s e f hs)
  step {d} {d'} {s} {e} (joined f g some-f some-g hs he sum rings) =
      omega (arith, sum pair_sum, ap (total pair_sum) rings, pairs-joined s e f g hs he)
  step {d} {d'} {s} {e} (appended f some-f none hs sum rings) =
      omega (arith, sum pair_sum, ap (total pair_sum) rings, pairs-appended s e f hs)
  step {d} {d'} {s} {e} (prepended g none some-g he sum rings) =
      omega (arith, sum pair_sum, ap (total pair_sum) rings, pairs-prepended s e g he)
  step {d} {d'} {s} {e} (started none none' sum rings) =
      unfold pair_sum in omega (arith, sum pair_sum, ap (total pair_sum) rings)

  pub conserved : (d : Drawing) (σs : List Segment) → drawn_sum (stitch_all d σs) ≡ drawn_sum d + segment_sum σs
  unfolding stitch_all segment_sum total
  conserved d [] = omega arith
  conserved d (σ ∷ σs) = omega (arith, conserved (stitch d σ) σs, step (outcome d σ))

  pub conserved-from-none : (σs : List Segment) → drawn_sum (stitch_all nothing σs) ≡ segment_sum σs
  unfolding drawn_sum nothing total
  conserved-from-none σs = omega (arith, conserved nothing σs)

-- every element has a property
abbrev pub Each : {X : Type 0} → (X → Type 0) → List X → Type 0
Each P [] = Unit {0}
Each P (x ∷ xs) = P x × Each P xs

each-one-more : {X : Type 0} (P : X → Type 0) (xs : List X) (x : X) → Each P xs → P x → Each P (xs ++ (x ∷ []))
each-one-more P [] x ps px = (px, tt)
each-one-more P (y ∷ xs) x ps px = (ps.0, each-one-more P xs x ps.1 px)

-- a ring's first point is repeated last
abbrev pub Closed : Line → Type 0
Closed ring = (p : Point) × (l : Line) × (ring ≡ p ∷ l ++ (p ∷ []))

closes : (s e : Point) (f : Line) → ends_at s f ≡ true → starts_at e f ≡ true → Closed (f ++ (e ∷ []))
unfolding ends_at starts_at
closes s e [] hs he = absurd (false≢true hs)
closes s e (q ∷ f) hs he = (q, f, ap (λ (r : Point). q ∷ f ++ (r ∷ [])) (same-eq e q he))

closed-step : {d d' : Drawing} {s e : Point} → Outcome d d' s e → Each Closed d.rings → Each Closed d'.rings
closed-step {d} {d'} {s} {e} (closed-ring f some-f some-g hs he sum rings) all =
    subst (Each Closed) (sym rings) (each-one-more Closed d.rings (f ++ (e ∷ [])) all (closes s e f hs he))
closed-step (joined f g some-f some-g hs he sum rings) all = subst (Each Closed) (sym rings) all
closed-step (appended f some-f none hs sum rings) all = subst (Each Closed) (sym rings) all
closed-step (prepended g none some-g he sum rings) all = subst (Each Closed) (sym rings) all
closed-step (started none none' sum rings) all = subst (Each Closed) (sym rings) all

pub rings-closed : (d : Drawing) (σs : List Segment) → Each Closed d.rings → Each Closed (stitch_all d σs).rings
unfolding stitch_all
rings-closed d [] all = all
rings-closed d (σ ∷ σs) all = rings-closed (stitch d σ) σs (closed-step (outcome d σ) all)

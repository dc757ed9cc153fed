-- Sizes of lines: a line's size is its number of segments. The open lines and the rings hold all segments that were drawn, so their sizes are bounded by them;
-- every open line has two points or more. Assumes nothing.
use mathlib.Core.Path.{◌≡◌, refl, ap}
use mathlib.Core.Bool.{true, false≢true}
use mathlib.Core.List.{List, [], ◌∷◌, ◌++◌}
use Prim.Native.Nat.{ℕ, ◌+◌, ◌-◌, ◌*◌, ◌≤◌, ◌<◌}
use native.Mathlib.Omega.{arith}
use lib.ListN.{length, get_or, length-append}
use Rattle.scope.specs.Cells.{Point, Segment}
use Rattle.scope.specs.Stitching.{Line, Drawing, starts_at, ends_at, nothing, stitch, stitch_all}
use Rattle.laws.proofs.Total.{total, total-at}
use Rattle.laws.proofs.Outcome.{Outcome, closed-ring, joined, appended, prepended, started, outcome}
use Rattle.laws.proofs.Conservation.{pair_sum, drawn_sum, segment_sum, conserved-from-none, Each, Closed, rings-closed}

unfoldable pub size : Line → ℕ
size l = length l - 1

-- the segments in open lines
unfoldable pub held_in : List Line → ℕ
held_in ls = total size ls

pairs-are-size : (l : Line) → pair_sum (λ a b. 1) l ≡ size l
unfolding pair_sum size
pairs-are-size [] = refl
pairs-are-size (p ∷ []) = refl
pairs-are-size (p ∷ q ∷ l) = omega (arith, pairs-are-size (q ∷ l))

sizes : (ls : List Line) → total (pair_sum (λ a b. 1)) ls ≡ total size ls
unfolding total
sizes [] = refl
sizes (l ∷ ls) = omega (arith, sizes ls, pairs-are-size l)

one_each : (σs : List Segment) → segment_sum (λ a b. 1) σs ≡ length σs
unfolding segment_sum total
one_each [] = refl
one_each (σ ∷ σs) = omega (arith, one_each σs)

-- every segment drawn is in an open line or in a ring
pub held-or-closed : (σs : List Segment) → held_in (stitch_all nothing σs).lines + total size (stitch_all nothing σs).rings ≡ length σs
unfolding held_in drawn_sum
held-or-closed σs = omega (arith, conserved-from-none (λ a b. 1) σs, one_each σs, sizes (stitch_all nothing σs).lines, sizes (stitch_all nothing σs).rings)

pub size-at-most : (σs : List Segment) (i : ℕ) → i < length (stitch_all nothing σs).lines → size (get_or (stitch_all nothing σs).lines i []) ≤ length σs
unfolding held_in
size-at-most σs i h = omega (arith, held-or-closed σs, total-at size (stitch_all nothing σs).lines i [] h)

-- rings and their points, by the segments
two-each : (rings : List Line) → Each Closed rings → (length rings ≤ total size rings) × (total length rings ≤ 2 * total size rings)
unfolding total size
two-each [] loops = (omega arith, omega arith)
two-each (ring ∷ rings) loops = (
  omega (arith, (two-each rings loops.1).0, ap length loops.0.2, length-append loops.0.1 (loops.0.0 ∷ [])),
  omega (arith, (two-each rings loops.1).1, ap length loops.0.2, length-append loops.0.1 (loops.0.0 ∷ [])),
)

pub rings-at-most : (σs : List Segment) → length (stitch_all nothing σs).rings ≤ length σs
rings-at-most σs = omega (arith, (two-each (stitch_all nothing σs).rings (rings-closed nothing σs (unfold nothing in tt))).0, held-or-closed σs)

pub points-at-most : (σs : List Segment) → total length (stitch_all nothing σs).rings ≤ 2 * length σs
points-at-most σs = omega (arith, (two-each (stitch_all nothing σs).rings (rings-closed nothing σs (unfold nothing in tt))).1, held-or-closed σs)

-- ---- every open line has two points or more

-- how many points a line lacks of two
unfoldable lacking : Line → ℕ
lacking l = 2 - length l

pub some-point : (s : Point) (f : Line) → ends_at s f ≡ true → 1 ≤ length f
unfolding ends_at
some-point s [] h = absurd (false≢true h)
some-point s (p ∷ f) h = omega arith

pub first-point : (e : Point) (g : Line) → starts_at e g ≡ true → 1 ≤ length g
unfolding starts_at
first-point e [] h = absurd (false≢true h)
first-point e (p ∷ g) h = omega arith

long-step : {d d' : Drawing} {s e : Point} → Outcome d d' s e → total lacking d.lines ≡ 0 → total lacking d'.lines ≡ 0
long-step (closed-ring f some-f some-g hs he sum rings) none = omega (arith, sum lacking)
long-step {d} {d'} {s} {e} (joined f g some-f some-g hs he sum rings) none =
    unfold lacking in omega (arith, sum lacking, length-append f g, some-point s f hs, first-point e g he)
long-step {d} {d'} {s} {e} (appended f some-f none-g hs sum rings) none =
    unfold lacking in omega (arith, sum lacking, length-append f (e ∷ []), some-point s f hs)
long-step {d} {d'} {s} {e} (prepended g none-f some-g he sum rings) none =
    unfold lacking in omega (arith, sum lacking, first-point e g he)
long-step (started none-f none-g sum rings) none = unfold lacking in omega (arith, sum lacking)

none-lacking : (d : Drawing) (σs : List Segment) → total lacking d.lines ≡ 0 → total lacking (stitch_all d σs).lines ≡ 0
unfolding stitch_all
none-lacking d [] none = none
none-lacking d (σ ∷ σs) none = none-lacking (stitch d σ) σs (long-step (outcome d σ) none)

pub lines-are-long : (σs : List Segment) (i : ℕ) → i < length (stitch_all nothing σs).lines → 2 ≤ length (get_or (stitch_all nothing σs).lines i [])
unfolding lacking
lines-are-long σs i h =
    omega (arith, total-at lacking (stitch_all nothing σs).lines i [] h, none-lacking nothing σs (unfold nothing total in refl))

one-or-more : (ls : List Line) → total lacking ls ≡ 0 → length ls ≤ total size ls
unfolding total lacking size
one-or-more [] none = omega arith
one-or-more (l ∷ ls) none = omega (arith, one-or-more ls (omega arith))

pub lines-at-most : (σs : List Segment) → length (stitch_all nothing σs).lines ≤ length σs
unfolding held_in
lines-at-most σs =
    omega (arith, one-or-more (stitch_all nothing σs).lines (none-lacking nothing σs (unfold nothing total in refl)), held-or-closed σs)

-- ---- sizes of lines that are lengthened or joined
module _ (s e : Point) (f g : Line) where
  pub size-appended : ends_at s f ≡ true → size (f ++ (e ∷ [])) ≡ size f + 1
  unfolding size
  size-appended hs = omega (arith, length-append f (e ∷ []), some-point s f hs)

  pub size-prepended : starts_at e g ≡ true → size (s ∷ g) ≡ size g + 1
  unfolding size
  size-prepended he = omega (arith, first-point e g he)

  pub size-joined : ends_at s f ≡ true → starts_at e g ≡ true → size (f ++ g) ≡ size f + size g + 1
  unfolding size
  size-joined hs he = omega (arith, length-append f g, some-point s f hs, first-point e g he)

  -- a ring has a point more than segments
  pub length-closed : ends_at s f ≡ true → length (f ++ (e ∷ [])) ≡ size f + 2
  unfolding size
  length-closed hs = omega (arith, length-append f (e ∷ []), some-point s f hs)

-- `geotext::put_points` meets its contract. The loop's invariant is `PointsLeft`: so many points are left, in the order in which they are written.
-- Assumes nothing.
use mathlib.Core.Path.{◌≡◌, ap, ◌∙◌}
use mathlib.Core.List.{◌∷◌}
use Prim.Native.Nat.{ℕ, ◌+◌, ◌-◌, ◌*◌, ◌/◌, ◌≤◌}
use native.Mathlib.Omega.{arith}
use lib.ListN.{length, drop}
use Rattle.scope.specs.Area.{points}
use Rattle.scope.specs.GeoJson.{written_order}
use Rattle.geotext.specs.Pieces.{point_texts, next_of}
use Rattle.geotext.proofs.Runs.{Left, left-as-long, left-ends, left-stored}
use Rattle.geotext.proofs.Rings.{next-within, points-begin, points-end, point-room, points-comma, points-next, points-last}
use Rattle.geotext.proofs.put_points.Goals as goal
use Rattle.geotext.proofs.put_points.Goals.{After-next_of-i, Then-left-gt0}

-- the next point is the next of those that are left
the_next : (c : After-next_of-i) → c.next_of-i.result ≡ next_of (length c.args.ring.now / 2) c.loop-left.left c.args.back
the_next c = c.next_of-i.ensures ∙ ap (λ (n : ℕ). next_of (length c.args.ring.now / 2) n c.args.back) (omega arith)

-- the next point's words are among the ring's
words-there : (c : After-next_of-i) → 2 * c.next_of-i.result + 2 ≤ length c.args.ring.now
words-there c =
    omega (arith, the_next c, next-within (length c.args.ring.now / 2) c.loop-left.left c.args.back c.loop-left-test.true c.loop-left.invariant.within)

-- where another point follows, the comma is left
at-comma : (c : Then-left-gt0) →
    let ring = written_order c.args.back (points c.args.ring.now) in
    Left c.args.text.now c.args.at (point_texts ring) c.put_point-place.new.text c.put_point-place.result
    (44 ∷ point_texts (drop (length c.args.ring.now / 2 - (c.loop-left.left - 1)) ring))
at-comma c =
    points-comma c.loop-left.invariant c.loop-left-test.true
    (c.next_of-i.ensures ∙ ap (λ (n : ℕ). next_of (length c.args.ring.now / 2) n c.args.back) (omega arith))
    c.put_point-place.ensures.value c.put_point-place.ensures.text_after c.if-left-gt0.true

pub loop-left-init : goal.loop-left-init
loop-left-init c = points-begin c.requires

pub next_of-i-requires : goal.next_of-i-requires
next_of-i-requires c = record { left_nonzero = omega arith; left_le_count = omega (arith, c.loop-left.invariant.within) }

pub overflow_add-i : goal.overflow_add-i
overflow_add-i c = omega (arith, words-there (goal.at.overflow_add-i c).After-next_of-i)

pub overflow_mul-i : goal.overflow_mul-i
overflow_mul-i c = omega (arith, words-there (goal.at.overflow_mul-i c).After-next_of-i)

pub offset_bounds-ring-i : goal.offset_bounds-ring-i
offset_bounds-ring-i c = omega (arith, words-there (goal.at.offset_bounds-ring-i c).After-next_of-i)

pub bounds-ring-i : goal.bounds-ring-i
bounds-ring-i c = omega (arith, words-there (goal.at.bounds-ring-i c).After-next_of-i)

pub offset_bounds-ring-i-in-loop-left : goal.offset_bounds-ring-i-in-loop-left
offset_bounds-ring-i-in-loop-left c = omega (arith, words-there (goal.at.offset_bounds-ring-i-in-loop-left c).After-next_of-i)

pub bounds-ring-i-in-loop-left : goal.bounds-ring-i-in-loop-left
bounds-ring-i-in-loop-left c = omega (arith, words-there (goal.at.bounds-ring-i-in-loop-left c).After-next_of-i)

pub put_point-place-requires : goal.put_point-place-requires
put_point-place-requires c =
    point-room c.loop-left.invariant c.loop-left-test.true (the_next (goal.at.put_point-place-requires c).After-next_of-i)

pub bounds-text-place : goal.bounds-text-place
bounds-text-place c = omega (arith, (at-comma (goal.at.bounds-text-place c).Then-left-gt0).room)

pub overflow_add-place : goal.overflow_add-place
overflow_add-place c = let s = at-comma (goal.at.overflow_add-place c).Then-left-gt0 in omega (arith, s.room, left-as-long s)

pub loop-left-preserved-then-left-gt0 : goal.loop-left-preserved-then-left-gt0
loop-left-preserved-then-left-gt0 c =
    points-next c.loop-left.invariant c.loop-left-test.true (the_next (goal.at.loop-left-preserved-then-left-gt0 c).After-next_of-i)
    c.put_point-place.ensures.value c.put_point-place.ensures.text_after c.if-left-gt0.true

pub loop-left-preserved : goal.loop-left-preserved
loop-left-preserved c =
    points-last c.loop-left.invariant c.loop-left-test.true (the_next (goal.at.loop-left-preserved c).After-next_of-i)
    c.put_point-place.ensures.value c.put_point-place.ensures.text_after c.if-left-gt0.false

pub shape_of-text : goal.shape_of-text
shape_of-text c = left-as-long c.loop-left.invariant.unwritten

pub returns : goal.returns
returns c =
    let s = points-end c.loop-left.invariant c.loop-left-test.false in
    record { value = left-ends s; text_after = left-stored s }

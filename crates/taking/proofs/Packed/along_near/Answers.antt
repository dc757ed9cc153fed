-- `taking::Packed::along_near` meets its contract. The loop's invariant is `Gone`: the pairs that are neither passed over nor walked answer as all do. The measure
-- is what is left of them. Assumes nothing.
use mathlib.Core.Path.{refl, sym, ap, subst, ◌∙◌}
use mathlib.Core.Bool.{true, false}
use Prim.Native.Nat.{◌/◌, ◌+◌}
use native.Mathlib.Omega.{arith}
use Rattle.scope.specs.Containment.{outside, boundary, inside, signed}
use Rattle.extents.specs.Ladders.{Chunked}
use Rattle.area.specs.Answers.{place_of}
use Rattle.taking.proofs.Walks.{placed}
use Rattle.taking.proofs.Passing.{first-chunked, gone_held, gone-next, gone-end}
use Rattle.taking.proofs.Packed.along_near.Goals as goal

pub loop-k-init : goal.loop-k-init
loop-k-init c =
    record {
      chunked =
          subst (Chunked c.args.self.now.points.now c.args.self.now.table.now) (sym c.first_items-ladder.ensures)
          (first-chunked (c.args.last / 64 + 1) c.args.self.now.chunked);
      there = c.requires;
      not-before = omega arith;
      not-past = omega arith;
      left = refl;
    }

pub near_from-near-requires : goal.near_from-near-requires
near_from-near-requires c = (c.loop-k.invariant.chunked.raised, omega arith)

pub stop_after-k-requires : goal.stop_after-k-requires
stop_after-k-requires c = c.near_from-near.ensures.not-past

pub along-place-requires : goal.along-place-requires
along-place-requires c = (c.stop_after-k.ensures.not-before, omega (arith, c.stop_after-k.ensures.not-past, c.loop-k.invariant.there.within))

pub returns-in-Boundary : goal.returns-in-Boundary
unfolding place_of
returns-in-Boundary c =
    sym (ap place_of (gone_held c.loop-k.invariant c.near_from-near.ensures c.stop_after-k.ensures (placed _ boundary (sym c.along-place.ensures ∙ c.in-Boundary.is))))

pub loop-k-smaller-in-Inside : goal.loop-k-smaller-in-Inside
loop-k-smaller-in-Inside c =
    omega (arith, c.stop_after-k.ensures, c.near_from-near.ensures.not-before, c.loop-k-test.true)

pub loop-k-preserved-in-Inside : goal.loop-k-preserved-in-Inside
unfolding place_of signed
loop-k-preserved-in-Inside c =
    gone-next c.loop-k.invariant c.near_from-near.ensures c.stop_after-k.ensures true (placed _ inside (sym c.along-place.ensures ∙ c.in-Inside.is))

pub loop-k-smaller : goal.loop-k-smaller
loop-k-smaller c =
    omega (arith, c.stop_after-k.ensures, c.near_from-near.ensures.not-before, c.loop-k-test.true)

pub loop-k-preserved : goal.loop-k-preserved
unfolding place_of signed
loop-k-preserved c =
    gone-next c.loop-k.invariant c.near_from-near.ensures c.stop_after-k.ensures false (placed _ outside (sym c.along-place.ensures ∙ c.in-Outside.is))

pub returns : goal.returns
returns c = c.by_sign.ensures ∙ sym (ap place_of (gone-end c.loop-k.invariant c.loop-k-test.false))

-- `area::area` meets its contract: past the test the words are a ring, few enough that both sums fit an `i64`, and their difference is the area.
-- Assumes nothing.
use mathlib.Core.Path.{◌≡◌, sym, ◌∙◌}
use mathlib.Core.Bool.{Bool, false}
use mathlib.Core.List.{List}
use Prim.Native.Nat.{ℕ, ◌<◌, ◌^◌}
use native.Mathlib.Omega.{arith}
use lib.ListN.{length}
use Rattle.scope.specs.Area.{area_refused}
use Rattle.area.specs.declared.RingSums.{RingSums}
use Rattle.area.specs.Summed.{SummedUp}
use Rattle.area.specs.Answers.{area_answer}
use Rattle.area.proofs.Differences.{machine-diff-fits, machine-diff}
use Rattle.area.proofs.Words.{Sound, ring-sound}
use Rattle.area.proofs.area.Goals as goal

-- past the test the words are a ring
accepted : (ring : List ℕ) (refused : Bool) → refused ≡ area_refused ring → refused ≡ false → Sound ring × (0 < length ring)
accepted ring refused e f = ring-sound ring (sym e ∙ f)

-- so both sums fit
small : (ring : List ℕ) (sums : RingSums) → Sound ring → SummedUp ring sums → (sums.gained < 2 ^ 63) × (sums.lost < 2 ^ 63)
small ring sums sound summed = (omega (arith, summed.gained-small, sound.few), omega (arith, summed.lost-small, sound.few))

pub returns-then-no_ring : goal.returns-then-no_ring
unfolding area_answer
returns-then-no_ring c = simp (← c.no_ring.ensures, c.if-no_ring.true)

pub sum_up-sums-requires : goal.sum_up-sums-requires
sum_up-sums-requires c =
    let ring = accepted _ _ c.no_ring.ensures c.if-no_ring.false in
    (ring.0.paired, ring.1, omega (arith, ring.0))

pub overflow_cast-signed : goal.overflow_cast-signed
overflow_cast-signed c = record { sfits = (small _ _ (accepted _ _ c.no_ring.ensures c.if-no_ring.false).0 c.sum_up-sums.ensures).0 }

pub overflow_cast-signed-2 : goal.overflow_cast-signed-2
overflow_cast-signed-2 c = record { sfits = (small _ _ (accepted _ _ c.no_ring.ensures c.if-no_ring.false).0 c.sum_up-sums.ensures).1 }

pub overflow_sub-signed : goal.overflow_sub-signed
overflow_sub-signed c =
    machine-diff-fits c.sum_up-sums.result.gained c.sum_up-sums.result.lost (small _ _ (accepted _ _ c.no_ring.ensures c.if-no_ring.false).0 c.sum_up-sums.ensures).0 (small _ _ (accepted _ _ c.no_ring.ensures c.if-no_ring.false).0 c.sum_up-sums.ensures).1

pub returns : goal.returns
unfolding area_answer
returns c =
    simp (
      ← c.no_ring.ensures,
      c.if-no_ring.false,
      c.sum_up-sums.ensures.area-is,
      machine-diff c.sum_up-sums.result.gained c.sum_up-sums.result.lost (small _ _ (accepted _ _ c.no_ring.ensures c.if-no_ring.false).0 c.sum_up-sums.ensures).0 (small _ _ (accepted _ _ c.no_ring.ensures c.if-no_ring.false).0 c.sum_up-sums.ensures).1,
    )

-- `reading::read_rest` meets its contract. The loop's invariant is `Begun`: what is left gives what the whole does. Assumes nothing.
use mathlib.Core.Path.{refl, sym, ◌∙◌}
use native.Mathlib.Omega.{arith}
use lib.ListN.{get_or}
use Rattle.scope.specs.Program.{number_limit}
use Rattle.reading.specs.Reads.{GotNumber, RestRead}
use Rattle.reading.proofs.Decimals.{GoesOn, goes-on}
use Rattle.reading.proofs.Places.{rest-missing, rest_ended, rest-goes-on, rest-faulty}
use Rattle.reading.proofs.read_rest.Goals as goal
use Rattle.reading.proofs.read_rest.Goals.{Else-not-goes_on}

-- past the tests the number goes on with the byte
on : (c : Else-not-goes_on) → GoesOn c.loop-at.value (get_or c.args.text.now c.loop-at.at 0)
on c = goes-on _ _ (sym c.goes_on.ensures ∙ c.if-not-goes_on.false)

pub returns-then-b-end : goal.returns-then-b-end
unfolding RestRead GotNumber
returns-then-b-end c = (c.loop-at.invariant.left ∙ rest_ended _ _ _ _ c.loop-at-test.true refl _ c.if-b-end.true, omega arith)

pub returns-then-not-goes_on : goal.returns-then-not-goes_on
unfolding RestRead GotNumber
returns-then-not-goes_on c =
    c.loop-at.invariant.left ∙ rest-faulty _ _ _ _ c.loop-at-test.true refl _ c.if-b-end.false (sym c.goes_on.ensures ∙ c.if-not-goes_on.true)

pub overflow_mul-value : goal.overflow_mul-value
unfolding number_limit
overflow_mul-value c = omega (arith, on (goal.at.overflow_mul-value c).Else-not-goes_on)

pub overflow_sub-b : goal.overflow_sub-b
overflow_sub-b c = omega (arith, on (goal.at.overflow_sub-b c).Else-not-goes_on)

pub overflow_add-value : goal.overflow_add-value
unfolding number_limit
overflow_add-value c = omega (arith, on (goal.at.overflow_add-value c).Else-not-goes_on)

pub loop-at-preserved : goal.loop-at-preserved
loop-at-preserved c =
    rw c.from.ensures
    (record {
      within = (on (goal.at.loop-at-preserved c).Else-not-goes_on).within;
      left =
          c.loop-at.invariant.left
          ∙ rest-goes-on _ _ _ _ c.loop-at-test.true refl _ c.if-b-end.false (sym c.goes_on.ensures ∙ c.if-not-goes_on.false);
    })

pub returns : goal.returns
unfolding RestRead GotNumber
returns c = c.loop-at.invariant.left ∙ rest-missing _ _ _ c.loop-at-test.false _

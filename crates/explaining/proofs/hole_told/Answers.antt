-- `explaining::hole_told` meets its contract. The loop's invariant is `Sought`: the rings that are not passed give the owner that all do. Assumes nothing.
use mathlib.Core.Path.{◌≡◌, sym, ap, ◌∙◌}
use mathlib.Core.Bool.{Bool}
use Rattle.scope.specs.Stitching.{Line}
use Rattle.scope.specs.Containment.{not_outside}
use Rattle.scope.specs.Contour.{takes}
use Rattle.deciding.specs.Decisions.{answer_in, decision_of}
use Rattle.deciding.specs.declared.Decision.{Decision}
use Rattle.explaining.proofs.Owners.{sought-begin, not-a-polygon, not-the-owner, the-owner, no-owner, taken-by}
use Rattle.explaining.proofs.hole_told.Goals as goal

-- whether a ring takes another, by what its vertices come to
answer-holds : (outer ring : Line) (answer : Decision) (held : Bool) → answer ≡ decision_of outer ring → held ≡ not_outside (answer_in answer) →
    takes outer ring ≡ held
answer-holds outer ring answer held d h = sym (taken-by outer ring) ∙ ap (λ (e : Decision). not_outside (answer_in e)) (sym d) ∙ sym h

pub loop-k-init : goal.loop-k-init
loop-k-init c = sought-begin _ _ _ _

pub loop-k-preserved-then-not-polygon_at : goal.loop-k-preserved-then-not-polygon_at
loop-k-preserved-then-not-polygon_at c =
    not-a-polygon _ _ _ c.loop-k.invariant c.loop-k-test.true (sym c.polygon_at.ensures ∙ c.if-not-polygon_at.true)

pub returns-then-holds : goal.returns-then-holds
returns-then-holds c =
    rw c.decision_at-answer.ensures
    (the-owner _ _ _ c.loop-k.invariant c.loop-k-test.true (sym c.polygon_at.ensures ∙ c.if-not-polygon_at.false) (answer-holds _ _ _ _ c.decision_at-answer.ensures c.holds.ensures ∙ c.if-holds.true))

pub loop-k-preserved : goal.loop-k-preserved
loop-k-preserved c =
    not-the-owner _ _ _ c.loop-k.invariant c.loop-k-test.true (sym c.polygon_at.ensures ∙ c.if-not-polygon_at.false) (answer-holds _ _ _ _ c.decision_at-answer.ensures c.holds.ensures ∙ c.if-holds.false)

pub returns : goal.returns
returns c = no-owner _ _ _ c.loop-k.invariant c.loop-k-test.false

-- `extents::next_near` meets its contract. The loop's invariant is `Passed`: every item passed is apart. The measure is how many items are left.
-- Assumes nothing.
use mathlib.Core.Path.{sym, ◌∙◌}
use native.Mathlib.Omega.{arith}
use Rattle.extents.proofs.Passing.{passed-begin, passed-item, passed-group, passed-block, near-found, none-near}
use Rattle.extents.proofs.next_near.Goals as goal

pub loop-i-init : goal.loop-i-init
loop-i-init c = passed-begin _ _ _ _ c.requires.1

pub loop-i-preserved-then-whole_apart : goal.loop-i-preserved-then-whole_apart
loop-i-preserved-then-whole_apart c =
    let found = c.whole_apart.ensures c.if-whole_apart.true in
    passed-block c.loop-i.invariant c.requires.0 c.if-i-eq0-2.true found.0 found.1

pub overflow_add-i : goal.overflow_add-i
overflow_add-i c =
    let found = c.whole_apart.ensures c.if-whole_apart.true in
    omega (arith, (passed-block c.loop-i.invariant c.requires.0 c.if-i-eq0-2.true found.0 found.1).not-past)

pub loop-i-smaller-then-whole_apart : goal.loop-i-smaller-then-whole_apart
loop-i-smaller-then-whole_apart c =
    let found = c.whole_apart.ensures c.if-whole_apart.true in
    omega (arith, (passed-block c.loop-i.invariant c.requires.0 c.if-i-eq0-2.true found.0 found.1).not-past)

pub loop-i-preserved-then-whole_apart-2 : goal.loop-i-preserved-then-whole_apart-2
loop-i-preserved-then-whole_apart-2 c =
    let found = c.whole_apart-then-i-eq0.ensures c.if-whole_apart-2.true in
    passed-group c.loop-i.invariant c.requires.0 c.if-i-eq0.true found.0 found.1

pub overflow_add-i-then-whole_apart-2 : goal.overflow_add-i-then-whole_apart-2
overflow_add-i-then-whole_apart-2 c =
    let found = c.whole_apart-then-i-eq0.ensures c.if-whole_apart-2.true in
    omega (arith, (passed-group c.loop-i.invariant c.requires.0 c.if-i-eq0.true found.0 found.1).not-past)

pub loop-i-smaller-then-whole_apart-2 : goal.loop-i-smaller-then-whole_apart-2
loop-i-smaller-then-whole_apart-2 c =
    let found = c.whole_apart-then-i-eq0.ensures c.if-whole_apart-2.true in
    omega (arith, (passed-group c.loop-i.invariant c.requires.0 c.if-i-eq0.true found.0 found.1).not-past)

pub returns-then-not-apart_at : goal.returns-then-not-apart_at
returns-then-not-apart_at c =
    near-found c.loop-i.invariant (sym c.apart_at.ensures ∙ c.if-not-apart_at.true)

pub loop-i-preserved : goal.loop-i-preserved
loop-i-preserved c =
    passed-item c.loop-i.invariant c.loop-i-test.true (sym c.apart_at.ensures ∙ c.if-not-apart_at.false)

pub returns : goal.returns
returns c = none-near c.loop-i.invariant c.loop-i-test.false

-- `next` of the set bits meets its contract: the lowest bit of what is left comes first, and then the rest of the word is left. Assumes nothing.
use mathlib.Core.Path.{◌≡◌, sym, ◌∙◌, ap}
use mathlib.Core.List.{[]}
use Prim.Native.Nat.{ℕ}
use native.Mathlib.Omega.{arith}
use borrow.Author.Rules.{rules}
use Rattle.words.specs.Bits.{set_from}
use Rattle.words.proofs.Places.{next-bit, no-bits}
use Rattle.words.proofs.SetBitsIterator.next.Goals as goal

pub returns-then-self-eq0-clause-steps : goal.returns-then-self-eq0-clause-steps
returns-then-self-eq0-clause-steps c =
    let none : c.args.self.now ≡ [] = sym c.self.view_is ∙ ap (λ (word : ℕ). set_from word c.self.inside.at) c.if-self-eq0.true ∙ no-bits c.self.inside.at in
    (none, none)

pub invariant_of-self : goal.invariant_of-self
invariant_of-self c =
    let next = next-bit c.self.invariant.0 c.self.invariant.1 c.if-self-eq0.false in (omega (arith, next.in-word), next.still-fits)

pub returns-clause-steps : goal.returns-clause-steps
returns-clause-steps c =
    let next = next-bit c.self.invariant.0 c.self.invariant.1 c.if-self-eq0.false in sym c.self.view_is ∙ next.comes_first

pub returns-clause-goes : goal.returns-clause-goes
returns-clause-goes c =
    let next = next-bit c.self.invariant.0 c.self.invariant.1 c.if-self-eq0.false in rw (← c.self.view_is, next.comes_first) (search rules)

-- `reading::read_number` meets its contract: a number is its first digit and the rest. Assumes nothing.
use mathlib.Core.Path.{sym, ◌∙◌}
use native.Mathlib.Omega.{arith}
use borrow.Author.Tests.{ltb-true, ltb-false}
use Rattle.std.proofs.lemmas.List.{get_or_default}
use Rattle.reading.specs.Parser.{is_digit}
use Rattle.reading.specs.Reads.{GotNumber, RestRead, NumberRead}
use Rattle.reading.proofs.Decimals.{digit-within}
use Rattle.reading.proofs.Places.{number-missing, number-begun, number-faulty}
use Rattle.reading.proofs.read_number.Goals as goal

pub returns-in_err-b : goal.returns-in_err-b
unfolding NumberRead GotNumber
returns-in_err-b c = rw c.from_residual.ensures (number-missing _ _ _ (ltb-false _ _ (sym (c.in_err-b.ensures.lookup.0))))

pub returns-then-not-is_ascii_digit : goal.returns-then-not-is_ascii_digit
unfolding NumberRead GotNumber is_digit
returns-then-not-is_ascii_digit c =
    let found = c.in_ok-b.ensures.lookup in
    let inside = ltb-true _ _ (sym found.0) in
    number-faulty _ _ _ _ inside (found.1 ∙ get_or_default _ _ _ _ inside) (sym c.if-not-is_ascii_digit.ensures.value)

pub read_rest-requires : goal.read_rest-requires
read_rest-requires c = digit-within _ (omega (arith, c.from.ensures, c.if-not-is_ascii_digit.ensures.cases))

pub returns : goal.returns
unfolding NumberRead RestRead is_digit
returns c =
    let found = c.in_ok-b.ensures.lookup in
    let inside = ltb-true _ _ (sym found.0) in
    rw (number-begun c.args.text.now c.args.from c.args.end c.in_ok-b.field-0.now inside (found.1 ∙ get_or_default _ _ _ _ inside) (sym c.if-not-is_ascii_digit.ensures.value), ← c.from.ensures) c.read_rest.ensures

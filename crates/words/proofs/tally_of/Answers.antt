-- `words::tally_of` meets its contract: its words are the definitions' own, and no word has more than 64 bits that are set. Assumes nothing.
use mathlib.Core.Path.{refl}
use Prim.Native.Nat.{◌^◌, ◌≤◌, ◌<◌}
use native.Mathlib.Nat.{lt_of_le_of_lt, le_trans}
use native.Mathlib.Omega.{arith}
use borrow.Author.Rules.{rules}
use lib.Bits.{bit_and, bit_xor, and_le_l, xor_lt}
use lib.Count.{ones, ones-le}
use Rattle.words.specs.Panes.{lower_in, upper_in, saddles_in, opening_in, closing_in}
use Rattle.words.specs.declared.Pane.{Pane}
use Rattle.words.proofs.tally_of.Goals as goal

few-saddles : (p : Pane) → p.lower_left < 2 ^ 64 → p.lower_right < 2 ^ 64 → ones (saddles_in p) ≤ 64
unfolding lower_in saddles_in
few-saddles p hl hr =
    let below = bit_xor p.lower_left p.lower_right in
    let right = bit_xor p.lower_right p.upper_right in
    ones-le 64 (saddles_in p)
    (lt_of_le_of_lt (le_trans (and_le_l (bit_and below right) (upper_in p)) (and_le_l below right)) (xor_lt 64 p.lower_left p.lower_right hl hr))

pub overflow_add-result : goal.overflow_add-result
unfolding lower_in upper_in saddles_in
overflow_add-result c =
    omega (arith, ones-le 64 c.args.changes (search rules), few-saddles c.args.pane (search rules) (search rules))

pub returns : goal.returns
unfolding lower_in upper_in saddles_in opening_in closing_in
returns c = (refl, refl, refl)

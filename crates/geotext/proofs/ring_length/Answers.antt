-- `geotext::ring_length` meets its contract: the lengths of the ring's words are added, each of them 7 bytes at most. Assumes nothing.
use mathlib.Core.Path.{◌≡◌, refl, sym}
use Prim.Native.Nat.{◌*◌, ◌≤◌}
use native.Mathlib.Omega.{arith}
use lib.ListN.{length}
use borrow.Author.Rules.{rules}
use borrow.Author.Tests.{eqb-true, eqb-false}
use Rattle.std.proofs.lemmas.Iterator.{YieldsList-from_slice, YieldsList-from_map}
use Rattle.std.proofs.lemmas.Iterator.Consumers.{sum_by_from_yields_List, fits_by_from_yields_list}
use Rattle.std.specs.List.{sum_by}
use Rattle.scope.specs.Limits.{point_limit}
use Rattle.geotext.proofs.Lengths.{letters, letters-short, empty-ring-length, ring_by_letters}
use Rattle.geotext.proofs.ring_length.Goals as goal
use Rattle.geotext.proofs.ring_length.Goals.{After-map, After-sum-letters}

-- the lengths of its words are few enough
short : (c : After-map) → sum_by letters c.args.ring.now ≤ 7 * length c.args.ring.now
short c = letters-short c.args.ring.now (λ i. c.type_inv.ring i)

-- they are added
added : (c : After-sum-letters) → c.sum-letters.result ≡ sum_by letters c.args.ring.now
added c =
    sum_by_from_yields_List letters c.args.ring.now c.map.result _ c.sum-letters.ensures.ran
    (YieldsList-from_map _ letters (YieldsList-from_slice c.args.ring.now (cc)) refl (λ x r q k. search rules))

pub returns-then-is_empty : goal.returns-then-is_empty
returns-then-is_empty c = sym (empty-ring-length c.args.ring.now (eqb-true _ 0 (sym c.if-is_empty.ensures)))

pub sum-letters-requires-clause-fits : goal.sum-letters-requires-clause-fits
unfolding point_limit
sum-letters-requires-clause-fits c =
    fits_by_from_yields_list letters c.args.ring.now c.map.result _
    (YieldsList-from_map _ letters (YieldsList-from_slice c.args.ring.now (cc)) refl (λ x r q k. search rules))
    (omega (arith, short c, c.requires.few))

pub overflow_add-result : goal.overflow_add-result
unfolding point_limit
overflow_add-result c = omega (arith, added c, short (goal.at.overflow_add-result c).After-map, c.requires.few)

pub overflow_add-result-2 : goal.overflow_add-result-2
unfolding point_limit
overflow_add-result-2 c = omega (arith, added c, short (goal.at.overflow_add-result-2 c).After-map, c.requires.few)

pub returns : goal.returns
returns c =
    omega (arith, added c, ring_by_letters c.args.ring.now c.requires.even (omega (arith, eqb-false _ 0 (sym c.if-is_empty.ensures))))

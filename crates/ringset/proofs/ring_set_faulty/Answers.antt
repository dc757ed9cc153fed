-- `ringset::ring_set_faulty` meets its contract: the directory is short, or the test of a record is asked of each number below the number of rings.
-- Assumes nothing.
use mathlib.Core.Path.{◌≡◌, refl}
use mathlib.Core.Bool.{true, false}
use Prim.Native.Nat.{◌*◌}
use native.Mathlib.Omega.{arith}
use lib.ListN.{length}
use borrow.Author.Rules.{rules}
use borrow.Author.Tests.{lt-ltb, le-ltb, tests}
use Rattle.std.proofs.lemmas.Iterator.{YieldsList-from_range, cases_from_any}
use Rattle.scope.specs.Limits.{record_stride}
use Rattle.scope.specs.Room.{directory_words}
use Rattle.scope.specs.GeoJson.{directory_short, record_refused, ring_set_refused}
use Rattle.ringset.proofs.Below.{any-asked}
use Rattle.ringset.proofs.ring_set_faulty.Goals as goal

pub returns-then-directory-rings : goal.returns-then-directory-rings
unfolding ring_set_refused directory_short directory_words record_stride
returns-then-directory-rings c =
    simp (lt-ltb (length c.args.directory.now) (record_stride * c.args.rings) (omega arith))

pub returns : goal.returns
unfolding ring_set_refused directory_short directory_words record_stride
returns c =
    let test = record_refused c.args.points.now c.args.directory.now c.args.rings in
    let asked = cases_from_any _ _ _ (λ k. test k ≡ true) (λ k. test k ≡ false) c.any.ensures.ran
    (YieldsList-from_range 0 c.args.rings c.args.rings refl (omega arith)) (λ x q k. search (rules, tests)) (λ x q k. search (rules, tests)) in
    rw (le-ltb (length c.args.directory.now) (record_stride * c.args.rings) (omega arith)) (any-asked test c.args.rings c.any.result asked)

-- `filing::measure_ring` meets its contract: the rank leads to a record whose ring is there, and the extent stands where it is stored. Assumes nothing.
use mathlib.Core.Path.{◌∙◌}
use Prim.Native.Nat.{◌+◌, ◌*◌, ◌≤◌}
use lib.ListN.{length}
use native.Mathlib.Omega.{arith}
use Rattle.extents.specs.Records.{record_first, record_count, record_ring, rank_of}
use Rattle.extents.proofs.Stores.{put-length, put_other, put-read}
use Rattle.filing.proofs.Measures.{ring-there}
use borrow.Author.Rules.{rules}
use Rattle.filing.proofs.measure_ring.Goals as goal

pub extent_of-extent-requires : goal.extent_of-extent-requires
unfolding rank_of record_first record_count
extent_of-extent-requires c = ring-there c.requires

pub returns : goal.returns
unfolding rank_of record_ring record_first record_count
returns c =
    let table = c.args.table.now in
    let at = 2 * c.args.i in
    let extent = c.extent_of-extent.result in
    let there : at + 2 ≤ length table = omega arith in
    record {
      as_long = rw c.put_extent.ensures (put-length table at extent);
      extent =
          rw c.put_extent.ensures
          (put-read table at extent (search rules) (search rules) there ∙ c.extent_of-extent.ensures);
      others = λ k p q. rw c.put_extent.ensures (put_other table at extent k p q);
    }

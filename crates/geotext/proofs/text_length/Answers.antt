-- `geotext::text_length` meets its contract. The loop's invariant: the sum is the shares of the records so far. Assumes nothing.
use mathlib.Core.Path.{◌≡◌, refl, sym, ap, ◌∙◌}
use Prim.Native.Nat.{suc, ◌+◌, ◌^◌, ◌<◌}
use native.Mathlib.Numerals.{add-one}
use native.Mathlib.Omega.{arith}
use Rattle.scope.specs.Limits.{no_owner}
use Rattle.scope.specs.Pairs.{sum_from}
use Rattle.laws.proofs.Sums.{sum-last}
use Rattle.ringset.specs.OneRecord.{shape_refused}
use Rattle.ringset.proofs.OneRecord.{is-record-at}
use Rattle.ringset.proofs.Laws.{sound}
use Rattle.geotext.specs.Shares.{record_share}
use Rattle.geotext.proofs.Sums.{sum-within}
use Rattle.geotext.proofs.Shares.{share_at}
use Rattle.geotext.proofs.Texts.{text-length, shares-fit}
use Rattle.geotext.proofs.text_length.Goals as goal
use Rattle.geotext.proofs.text_length.Goals.{After-loop-k, After-share_of-sum, In-loop-k}

-- the record's share is that of record k
share : (c : After-share_of-sum) → let args = c.args in
    c.share_of-sum.result ≡ share_at args.set.points.now args.set.directory.now c.loop-k.k
share c =
    let args = c.args in
    c.share_of-sum.ensures ∙ ap (record_share args.set.points.now) (is-record-at args.set.directory.now c.loop-k.k c.record_at.ensures)

-- with those before it, it fits
fits : (c : In-loop-k) → let args = c.args in
    c.loop-k.sum + share_at args.set.points.now args.set.directory.now c.loop-k.k < 2 ^ 63
fits c =
    let shares = share_at c.args.set.points.now c.args.set.directory.now in
    let k = c.loop-k.k in
    omega (
      arith,
      c.loop-k.invariant,
      sum-last shares k,
      sum-within shares (suc k) c.args.set.rings (omega (arith, c.loop-k-test.true)),
      shares-fit c.args.set.points.now c.args.set.directory.now c.args.set.rings c.args.set.checked (omega arith),
    )

-- after all records the sum is all shares
whole : (c : After-loop-k) → let args = c.args in
    c.loop-k.sum ≡ sum_from (share_at args.set.points.now args.set.directory.now) 0 args.set.rings
whole c =
    let all : c.loop-k.k ≡ c.args.set.rings = omega arith in
    rw all at c.loop-k.invariant

pub loop-k-init : goal.loop-k-init
unfolding sum_from
loop-k-init c = refl

pub share_of-sum-requires : goal.share_of-sum-requires
share_of-sum-requires c =
    let checked = (sound c.args.set.points.now c.args.set.directory.now c.args.set.rings c.args.set.checked).at c.loop-k.k c.loop-k-test.true in
    ap (shape_refused c.args.set.points.now) (is-record-at c.args.set.directory.now c.loop-k.k c.record_at.ensures) ∙ checked.shaped

pub overflow_add-sum : goal.overflow_add-sum
overflow_add-sum c = omega (arith, fits (goal.at.overflow_add-sum c).In-loop-k, share (goal.at.overflow_add-sum c).After-share_of-sum)

pub loop-k-preserved : goal.loop-k-preserved
loop-k-preserved c =
    rw add-one (omega (arith, c.loop-k.invariant, share (goal.at.loop-k-preserved c).After-share_of-sum, sum-last (share_at c.args.set.points.now c.args.set.directory.now) c.loop-k.k))

pub framed-requires : goal.framed-requires
framed-requires c =
    omega (
      arith,
      whole (goal.at.framed-requires c).After-loop-k,
      shares-fit c.args.set.points.now c.args.set.directory.now c.args.set.rings c.args.set.checked (omega arith),
    )

pub returns : goal.returns
unfolding no_owner
returns c =
    c.framed.ensures
    ∙ rw (whole (goal.at.returns c).After-loop-k)
    (sym (text-length c.args.set.points.now c.args.set.directory.now c.args.set.rings (omega arith)
    (sound c.args.set.points.now c.args.set.directory.now c.args.set.rings c.args.set.checked)))

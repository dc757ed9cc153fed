-- `geotext::share_of` meets its contract: each answer is the record's share in that case. Assumes nothing.
use mathlib.Core.Path.{sym}
use native.Mathlib.Omega.{arith}
use Rattle.scope.specs.Limits.{point_limit, no_owner}
use Rattle.ringset.proofs.Laws.{sound-shape}
use Rattle.geotext.specs.Shares.{ring_bytes}
use Rattle.geotext.proofs.Shares.{part-bytes, part-long, polygon-share, dropped-share, owned-share, ring-bytes-few}
use Rattle.geotext.proofs.share_of.Goals as goal

pub slice_bounds-ring-end : goal.slice_bounds-ring-end
slice_bounds-ring-end c = omega (arith, (sound-shape c.args.points.now c.args.«record» c.requires).within)

pub ring_length-requires : goal.ring_length-requires
ring_length-requires c =
    let set = sound-shape c.args.points.now c.args.«record» c.requires in
    let long = part-long c.args.points.now c.args.«record» c.requires in
    record { even = omega (arith, long); few = omega (arith, long, set.few) }

pub overflow_add-result : goal.overflow_add-result
unfolding point_limit ring_bytes
overflow_add-result c =
    omega (arith, c.ring_length.ensures, part-bytes c.args.points.now c.args.«record», ring-bytes-few c.args.points.now c.args.«record» c.requires)

pub returns-then-record-eq-POLYGON : goal.returns-then-record-eq-POLYGON
unfolding ring_bytes
returns-then-record-eq-POLYGON c =
    omega (arith, c.ring_length.ensures, part-bytes c.args.points.now c.args.«record», polygon-share c.args.points.now c.args.«record» c.if-record-eq-POLYGON.true)

pub returns-then-record-eq-NO_OWNER : goal.returns-then-record-eq-NO_OWNER
unfolding no_owner
returns-then-record-eq-NO_OWNER c =
    sym (dropped-share c.args.points.now c.args.«record» c.if-record-eq-POLYGON.false (omega (arith, c.if-record-eq-NO_OWNER.true)))

pub ring_length-requires-2 : goal.ring_length-requires-2
ring_length-requires-2 c =
    let set = sound-shape c.args.points.now c.args.«record» c.requires in
    let long = part-long c.args.points.now c.args.«record» c.requires in
    record { even = omega (arith, long); few = omega (arith, long, set.few) }

pub overflow_add-result-2 : goal.overflow_add-result-2
unfolding point_limit ring_bytes
overflow_add-result-2 c =
    omega (arith, c.ring_length-2.ensures, part-bytes c.args.points.now c.args.«record», ring-bytes-few c.args.points.now c.args.«record» c.requires)

pub returns : goal.returns
unfolding ring_bytes no_owner
returns c =
    omega (arith, c.ring_length-2.ensures, part-bytes c.args.points.now c.args.«record», owned-share c.args.points.now c.args.«record» c.if-record-eq-POLYGON.false (λ dropped. omega (arith, c.if-record-eq-NO_OWNER.false, dropped)))

-- `measuring::area_of` meets its contract: the part of the points is the ring's words. Assumes nothing.
use Rattle.std.proofs.Common.{◌≡◌, ◌+◌, ◌-◌, ◌*◌, sym, ap, ◌∙◌, arith}
use Rattle.scope.specs.Area.{twos_complement}
use Rattle.scope.specs.GeoJson.{words_in}
use Rattle.measuring.proofs.Complement.{no-points, past_points, part_length, area-within}
use Rattle.measuring.proofs.area_of.Goals as goal

pub returns-then-count-eq0 : goal.returns-then-count-eq0
returns-then-count-eq0 c = no-points _ _ _ c.if-count-eq0.true

pub returns-then-points-end : goal.returns-then-points-end
returns-then-points-end c = past_points _ _ _ (omega arith)

pub measure-requires : goal.measure-requires
measure-requires c =
    let args = c.args in
    let words = part_length args.points.now args.first args.count (omega arith) in
    (omega (arith, words), omega (arith, words), omega (arith, words))

pub returns : goal.returns
unfolding words_in
returns c =
    let args = c.args in
    let some : 2 * args.first + 2 * args.count - 2 * args.first ≡ 2 * args.count = omega arith in
    c.measure.ensures.1 ∙ rw some (ap twos_complement (sym (area-within args.points.now args.first args.count (omega arith))))

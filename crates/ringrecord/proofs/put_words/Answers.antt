-- `ringrecord::put_words` meets its contract: the six words are stored one after the other. Assumes nothing.
use mathlib.Core.Path.{◌≡◌, ap, ◌∙◌}
use Prim.Native.Nat.{◌+◌, ◌*◌, suc}
use native.Mathlib.Omega.{arith}
use borrow.Author.Rules.{rules}
use mir.Syntax.{w64}
use mir.Val.{SFits, to_z, of_z}
use Rattle.scope.specs.Limits.{record_stride}
use Rattle.scope.specs.Area.{twos_complement, low_word, high_word, area_words}
use Rattle.scope.specs.Room.{directory_words}
use Rattle.ringrecord.specs.Records.{words_of}
use Rattle.ringrecord.proofs.Areas.{unsigned-is-complement}
use Rattle.ringrecord.proofs.put_words.Goals as goal

pub returns : goal.returns
unfolding words_of area_words low_word high_word directory_words record_stride
returns c =
    let args = c.args in
    let at = 6 * args.k in
    let fits : SFits w64 args.«record».area = search rules in
    let same : to_z w64 (of_z w64 args.«record».area) ≡ args.«record».area = search rules in
    let area : c.cast_unsigned.result ≡ twos_complement args.«record».area = c.cast_unsigned.ensures ∙ ap (of_z w64) same ∙ unsigned-is-complement args.«record».area fits in
    let second : at + 1 ≡ suc at = omega arith in
    let third : at + 2 ≡ suc (suc at) = omega arith in
    let fourth : at + 3 ≡ suc (suc (suc at)) = omega arith in
    let fifth : at + 4 ≡ suc (suc (suc (suc at))) = omega arith in
    rw (
      c.put_area.ensures,
      area,
      c.put-4.ensures,
      c.owner_word.ensures,
      c.put-3.ensures,
      c.class_word.ensures,
      c.put-2.ensures,
      c.put.ensures,
      second,
      third,
      fourth,
      fifth,
    )

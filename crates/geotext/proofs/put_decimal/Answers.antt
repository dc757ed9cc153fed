-- `geotext::put_decimal` meets its contract: the digits that it writes are the definition's by their units, and after each of them the others are left. Assumes nothing.
use mathlib.Core.Path.{◌≡◌, refl}
use mathlib.Core.List.{List, []}
use Prim.Native.Nat.{ℕ, ◌+◌, ◌%◌, ◌^◌, ◌≤◌, ◌<◌}
use native.Mathlib.Omega.{arith}
use lib.ListN.{length, set}
use lib.Seq.{sets}
use Rattle.scope.specs.GeoJson.{decimal}
use Rattle.geotext.specs.Pieces.{digit_text}
use Rattle.geotext.proofs.Runs.{Left, left-begin, left-room, left-next, left-ends, left-stored}
use Rattle.geotext.proofs.Digits.{low_digits, digits-by-units}
use Rattle.geotext.proofs.put_decimal.Goals as goal

-- the number's digits, written one after the other: so many of them are left
module _ (text : List ℕ) (at n : ℕ) (fits : n < 2 ^ 16) (room : at + length (decimal n) ≤ length text) where
  abbrev Writing : List ℕ → ℕ → List ℕ → Type 0
  Writing = Left text at (decimal n)

  at-start : Writing text at (low_digits 4 n)
  at-start = left-begin (digits-by-units 4 n (omega arith)) room

  module _ {t1 : List ℕ} {p1 : ℕ} (e1 : p1 ≡ at + length (digit_text n 10000)) (f1 : t1 ≡ sets text at (digit_text n 10000)) where
    at-thousands : Writing t1 p1 (low_digits 3 n)
    at-thousands = left-next (digit_text n 10000) (low_digits 3 n) at-start e1 f1

    module _ {t2 : List ℕ} {p2 : ℕ} (e2 : p2 ≡ p1 + length (digit_text n 1000)) (f2 : t2 ≡ sets t1 p1 (digit_text n 1000)) where
      at-hundreds : Writing t2 p2 (low_digits 2 n)
      at-hundreds = left-next (digit_text n 1000) (low_digits 2 n) at-thousands e2 f2

      module _ {t3 : List ℕ} {p3 : ℕ} (e3 : p3 ≡ p2 + length (digit_text n 100)) (f3 : t3 ≡ sets t2 p2 (digit_text n 100)) where
        at-tens : Writing t3 p3 (low_digits 1 n)
        at-tens = left-next (digit_text n 100) (low_digits 1 n) at-hundreds e3 f3

        module _ {t4 : List ℕ} {p4 : ℕ} (e4 : p4 ≡ p3 + length (digit_text n 10)) (f4 : t4 ≡ sets t3 p3 (digit_text n 10)) where
          at_ones : Writing t4 p4 (low_digits 0 n)
          at_ones = left-next (digit_text n 10) (low_digits 0 n) at-tens e4 f4

          at-end : Writing (set t4 p4 (48 + n % 10)) (p4 + 1) []
          at-end = left-next (low_digits 0 n) [] at_ones refl refl

pub put_digit-thousands-requires : goal.put_digit-thousands-requires
put_digit-thousands-requires c =
    let n = c.args.n in
    record {
      unit_nonzero = omega arith;
      unit_in_bounds = left-room (digit_text n 10000) (low_digits 3 n) (at-start c.args.text.now c.args.at n (omega (arith, c.ranges.n.fits)) c.requires);
    }

pub put_digit-hundreds-requires : goal.put_digit-hundreds-requires
put_digit-hundreds-requires c =
    let n = c.args.n in
    let d1 = c.put_digit-thousands.ensures in
    record {
      unit_nonzero = omega arith;
      unit_in_bounds = left-room (digit_text n 1000) (low_digits 2 n) (at-thousands c.args.text.now c.args.at n (omega (arith, c.ranges.n.fits)) c.requires d1.value d1.text_after);
    }

pub put_digit-tens-requires : goal.put_digit-tens-requires
put_digit-tens-requires c =
    let n = c.args.n in
    let d1 = c.put_digit-thousands.ensures in
    let d2 = c.put_digit-hundreds.ensures in
    record {
      unit_nonzero = omega arith;
      unit_in_bounds = left-room (digit_text n 100) (low_digits 1 n) (at-hundreds c.args.text.now c.args.at n (omega (arith, c.ranges.n.fits)) c.requires d1.value d1.text_after d2.value d2.text_after);
    }

pub put_digit-ones-requires : goal.put_digit-ones-requires
put_digit-ones-requires c =
    let n = c.args.n in
    let d1 = c.put_digit-thousands.ensures in
    let d2 = c.put_digit-hundreds.ensures in
    let d3 = c.put_digit-tens.ensures in
    record {
      unit_nonzero = omega arith;
      unit_in_bounds = left-room (digit_text n 10) (low_digits 0 n) (at-tens c.args.text.now c.args.at n (omega (arith, c.ranges.n.fits)) c.requires d1.value d1.text_after d2.value d2.text_after d3.value d3.text_after);
    }

pub bounds-text-ones : goal.bounds-text-ones
bounds-text-ones c =
    let d1 = c.put_digit-thousands.ensures in
    let d2 = c.put_digit-hundreds.ensures in
    let d3 = c.put_digit-tens.ensures in
    let d4 = c.put_digit-ones.ensures in
    omega (arith, (at_ones c.args.text.now c.args.at c.args.n (omega (arith, c.ranges.n.fits)) c.requires d1.value d1.text_after d2.value d2.text_after d3.value d3.text_after d4.value d4.text_after).room)

pub overflow_add-result : goal.overflow_add-result
overflow_add-result c =
    let d1 = c.put_digit-thousands.ensures in
    let d2 = c.put_digit-hundreds.ensures in
    let d3 = c.put_digit-tens.ensures in
    let d4 = c.put_digit-ones.ensures in
    omega (arith, (at_ones c.args.text.now c.args.at c.args.n (omega (arith, c.ranges.n.fits)) c.requires d1.value d1.text_after d2.value d2.text_after d3.value d3.text_after d4.value d4.text_after).room)

pub returns : goal.returns
returns c =
    let d1 = c.put_digit-thousands.ensures in
    let d2 = c.put_digit-hundreds.ensures in
    let d3 = c.put_digit-tens.ensures in
    let d4 = c.put_digit-ones.ensures in
    let s = at-end c.args.text.now c.args.at c.args.n (omega (arith, c.ranges.n.fits)) c.requires d1.value d1.text_after d2.value d2.text_after d3.value d3.text_after d4.value d4.text_after in
    record { value = left-ends s; text_after = left-stored s }

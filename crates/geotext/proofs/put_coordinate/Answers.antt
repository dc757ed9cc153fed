-- `geotext::put_coordinate` meets its contract: behind the whole part nothing is left of an even number, and the half of an odd one. Assumes nothing.
use mathlib.Core.Path.{◌≡◌, refl}
use mathlib.Core.Bool.{cond}
use mathlib.Core.List.{List, [], ◌∷◌, ◌++◌}
use Prim.Native.Nat.{ℕ, suc, ◌+◌, ◌/◌, ◌%◌, ◌≤◌, ◌<◌}
use native.Mathlib.Omega.{arith}
use lib.Dec.{eqb}
use lib.ListN.{length, set, length-set}
use lib.Seq.{sets}
use borrow.Author.Tests.{eq-eqb, ne_eqb}
use Rattle.scope.specs.GeoJson.{decimal, coordinate_text}
use Rattle.geotext.proofs.Runs.{Left, left-begin, left-room, left-next, left-ends, left-stored}
use Rattle.geotext.proofs.put_coordinate.Goals as goal

abbrev half : ℕ → List ℕ
half doubled = cond (eqb (doubled % 2) 0) [] (46 ∷ 53 ∷ [])

-- the coordinate's text, written piece by piece: so much of it is left
module _ (text : List ℕ) (at doubled : ℕ) (room : at + length (coordinate_text doubled) ≤ length text) where
  abbrev Writing : List ℕ → ℕ → List ℕ → Type 0
  Writing = Left text at (coordinate_text doubled)

  at-start : Writing text at (decimal (doubled / 2) ++ half doubled)
  unfolding coordinate_text
  at-start = left-begin refl room

  module _ {text' : List ℕ} {end : ℕ} (e : end ≡ at + length (decimal (doubled / 2))) (f : text' ≡ sets text at (decimal (doubled / 2))) where
    at-half : Writing text' end (half doubled)
    at-half = left-next (decimal (doubled / 2)) (half doubled) at-start e f

    whole : doubled % 2 ≡ 0 → Writing text' end []
    whole even = rw (eq-eqb (doubled % 2) 0 even) at at-half

    odd : 0 < doubled % 2 → Writing text' end (46 ∷ 53 ∷ [])
    odd not-even = rw (ne_eqb (doubled % 2) 0 (λ even. omega (arith, not-even, even))) at at-half

    at-end : 0 < doubled % 2 → Writing (set (set text' end 46) (end + 1) 53) (end + 2) []
    at-end not-even =
        let next : end + 1 ≡ suc end = omega arith in
        left-next (46 ∷ 53 ∷ []) [] (odd not-even) refl (rw next)

pub put_decimal-end-requires : goal.put_decimal-end-requires
put_decimal-end-requires c =
    left-room (decimal (c.args.doubled / 2)) (half c.args.doubled) (at-start c.args.text.now c.args.at c.args.doubled c.requires)

pub returns-then-doubled-eq0 : goal.returns-then-doubled-eq0
returns-then-doubled-eq0 c =
    let d = c.put_decimal-end.ensures in
    let s = whole c.args.text.now c.args.at c.args.doubled c.requires d.value d.text_after (omega (arith, c.if-doubled-eq0.true)) in
    record { value = left-ends s; text_after = left-stored s }

pub bounds-text-end : goal.bounds-text-end
bounds-text-end c =
    let d = c.put_decimal-end.ensures in
    let s = odd c.args.text.now c.args.at c.args.doubled c.requires d.value d.text_after (omega (arith, c.if-doubled-eq0.false)) in
    omega (arith, s.room)

pub overflow_add-text : goal.overflow_add-text
overflow_add-text c =
    let d = c.put_decimal-end.ensures in
    let s = odd c.args.text.now c.args.at c.args.doubled c.requires d.value d.text_after (omega (arith, c.if-doubled-eq0.false)) in
    omega (arith, s.room)

pub bounds-text-end-2 : goal.bounds-text-end-2
bounds-text-end-2 c =
    let d = c.put_decimal-end.ensures in
    let s = odd c.args.text.now c.args.at c.args.doubled c.requires d.value d.text_after (omega (arith, c.if-doubled-eq0.false)) in
    simp length-set (omega (arith, s.room))

pub overflow_add-result : goal.overflow_add-result
overflow_add-result c =
    let d = c.put_decimal-end.ensures in
    let s = odd c.args.text.now c.args.at c.args.doubled c.requires d.value d.text_after (omega (arith, c.if-doubled-eq0.false)) in
    omega (arith, s.room)

pub returns : goal.returns
returns c =
    let d = c.put_decimal-end.ensures in
    let s = at-end c.args.text.now c.args.at c.args.doubled c.requires d.value d.text_after (omega (arith, c.if-doubled-eq0.false)) in
    record { value = left-ends s; text_after = left-stored s }

-- `geotext::put_point` meets its contract: after each piece that it writes the others of `point-spelled` are left. Assumes nothing.
use mathlib.Core.Path.{◌≡◌, refl}
use mathlib.Core.List.{List, [], ◌∷◌, ◌++◌}
use Prim.Native.Nat.{ℕ, ◌+◌, ◌≤◌}
use native.Mathlib.Omega.{arith}
use lib.ListN.{length, set}
use lib.Seq.{sets}
use Rattle.scope.specs.GeoJson.{coordinate_text, point_text}
use Rattle.geotext.proofs.Runs.{Left, left-begin, left-as-long, left-room, left-next, left-ends, left-stored}
use Rattle.geotext.proofs.Rings.{point-spelled}
use Rattle.geotext.proofs.put_point.Goals as goal

-- the point's text, written piece by piece: so much of it is left
module _ (text : List ℕ) (at x y : ℕ) (room : at + length (point_text (record { x = x; y = y })) ≤ length text) where
  abbrev Writing : List ℕ → ℕ → List ℕ → Type 0
  Writing = Left text at (point_text (record { x = x; y = y }))

  -- what is left from y on, from the comma on and from x on
  abbrev from_y : List ℕ
  from_y = coordinate_text y ++ (93 ∷ [])

  abbrev from_x : List ℕ
  from_x = coordinate_text x ++ (44 ∷ from_y)

  at-start : Writing text at (91 ∷ from_x)
  at-start = left-begin (point-spelled x y) room

  at_x : Writing (set text at 91) (at + 1) from_x
  at_x = left-next (91 ∷ []) from_x at-start refl refl

  x-room : at + 1 + length (coordinate_text x) ≤ length (set text at 91)
  x-room = left-room (coordinate_text x) (44 ∷ from_y) at_x

  module _ {t1 : List ℕ} {middle : ℕ} (e1 : middle ≡ at + 1 + length (coordinate_text x)) (f1 : t1 ≡ sets (set text at 91) (at + 1) (coordinate_text x)) where
    at-comma : Writing t1 middle (44 ∷ from_y)
    at-comma = left-next (coordinate_text x) (44 ∷ from_y) at_x e1 f1

    at_y : Writing (set t1 middle 44) (middle + 1) from_y
    at_y = left-next (44 ∷ []) from_y at-comma refl refl

    y-room : middle + 1 + length (coordinate_text y) ≤ length (set t1 middle 44)
    y-room = left-room (coordinate_text y) (93 ∷ []) at_y

    module _ {t2 : List ℕ} {end : ℕ} (e2 : end ≡ middle + 1 + length (coordinate_text y)) (f2 : t2 ≡ sets (set t1 middle 44) (middle + 1) (coordinate_text y)) where
      at_bracket : Writing t2 end (93 ∷ [])
      at_bracket = left-next (coordinate_text y) (93 ∷ []) at_y e2 f2

      at-end : Writing (set t2 end 93) (end + 1) []
      at-end = left-next (93 ∷ []) [] at_bracket refl refl

pub bounds-text-at : goal.bounds-text-at
bounds-text-at c = omega (arith, (at-start c.args.text.now c.args.at c.args.x c.args.y c.requires).room)

pub put_coordinate-middle-requires : goal.put_coordinate-middle-requires
put_coordinate-middle-requires c = x-room c.args.text.now c.args.at c.args.x c.args.y c.requires

pub bounds-text-middle : goal.bounds-text-middle
bounds-text-middle c =
    let d1 = c.put_coordinate-middle.ensures in
    let s = at-comma c.args.text.now c.args.at c.args.x c.args.y c.requires d1.value d1.text_after in
    omega (arith, s.room)

pub overflow_add-middle : goal.overflow_add-middle
overflow_add-middle c =
    let d1 = c.put_coordinate-middle.ensures in
    let s = at-comma c.args.text.now c.args.at c.args.x c.args.y c.requires d1.value d1.text_after in
    omega (arith, s.room, left-as-long s)

pub put_coordinate-end-requires : goal.put_coordinate-end-requires
put_coordinate-end-requires c =
    let d1 = c.put_coordinate-middle.ensures in
    y-room c.args.text.now c.args.at c.args.x c.args.y c.requires d1.value d1.text_after

pub bounds-text-end : goal.bounds-text-end
bounds-text-end c =
    let d1 = c.put_coordinate-middle.ensures in
    let d2 = c.put_coordinate-end.ensures in
    let s = at_bracket c.args.text.now c.args.at c.args.x c.args.y c.requires d1.value d1.text_after d2.value d2.text_after in
    omega (arith, s.room)

pub overflow_add-result : goal.overflow_add-result
overflow_add-result c =
    let d1 = c.put_coordinate-middle.ensures in
    let d2 = c.put_coordinate-end.ensures in
    let s = at_bracket c.args.text.now c.args.at c.args.x c.args.y c.requires d1.value d1.text_after d2.value d2.text_after in
    omega (arith, s.room, left-as-long s)

pub returns : goal.returns
returns c =
    let d1 = c.put_coordinate-middle.ensures in
    let d2 = c.put_coordinate-end.ensures in
    let s = at-end c.args.text.now c.args.at c.args.x c.args.y c.requires d1.value d1.text_after d2.value d2.text_after in
    record { value = left-ends s; text_after = left-stored s }

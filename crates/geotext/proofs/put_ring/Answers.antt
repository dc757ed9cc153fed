-- `geotext::put_ring` meets its contract: after each piece that it writes the others of `ring-spelled` are left. Assumes nothing.
use mathlib.Core.Path.{◌≡◌, refl}
use mathlib.Core.List.{List, [], ◌∷◌, ◌++◌}
use Prim.Native.Nat.{ℕ, ◌+◌, ◌≤◌}
use native.Mathlib.Omega.{arith}
use lib.ListN.{length, set}
use lib.Seq.{sets}
use Rattle.scope.specs.Stitching.{Line}
use Rattle.scope.specs.Area.{points}
use Rattle.scope.specs.GeoJson.{ring_text, written_order}
use Rattle.geotext.specs.Pieces.{point_texts}
use Rattle.geotext.proofs.Runs.{Left, left-begin, left-as-long, left-room, left-next, left-ends, left-stored}
use Rattle.geotext.proofs.Rings.{ring-spelled}
use Rattle.geotext.proofs.put_ring.Goals as goal

-- the ring's text, written piece by piece: so much of it is left
module _ (text : List ℕ) (at : ℕ) (ring : Line) (room : at + length (ring_text ring) ≤ length text) where
  abbrev Writing : List ℕ → ℕ → List ℕ → Type 0
  Writing = Left text at (ring_text ring)

  at-start : Writing text at (91 ∷ (point_texts ring ++ (93 ∷ [])))
  at-start = left-begin (ring-spelled ring) room

  at-points : Writing (set text at 91) (at + 1) (point_texts ring ++ (93 ∷ []))
  at-points = left-next (91 ∷ []) (point_texts ring ++ (93 ∷ [])) at-start refl refl

  points-room : at + 1 + length (point_texts ring) ≤ length (set text at 91)
  points-room = left-room (point_texts ring) (93 ∷ []) at-points

  module _ {text' : List ℕ} {end : ℕ} (e : end ≡ at + 1 + length (point_texts ring)) (f : text' ≡ sets (set text at 91) (at + 1) (point_texts ring)) where
    at_bracket : Writing text' end (93 ∷ [])
    at_bracket = left-next (point_texts ring) (93 ∷ []) at-points e f

    at-end : Writing (set text' end 93) (end + 1) []
    at-end = left-next (93 ∷ []) [] at_bracket refl refl

pub bounds-text-at : goal.bounds-text-at
bounds-text-at c =
    let ring = written_order c.args.back (points c.args.ring.now) in
    omega (arith, (at-start c.args.text.now c.args.at ring c.requires).room)

pub put_points-end-requires : goal.put_points-end-requires
put_points-end-requires c =
    let ring = written_order c.args.back (points c.args.ring.now) in
    points-room c.args.text.now c.args.at ring c.requires

pub bounds-text-end : goal.bounds-text-end
bounds-text-end c =
    let ring = written_order c.args.back (points c.args.ring.now) in
    let d = c.put_points-end.ensures in
    let s = at_bracket c.args.text.now c.args.at ring c.requires d.value d.text_after in
    omega (arith, s.room)

pub overflow_add-result : goal.overflow_add-result
overflow_add-result c =
    let ring = written_order c.args.back (points c.args.ring.now) in
    let d = c.put_points-end.ensures in
    let s = at_bracket c.args.text.now c.args.at ring c.requires d.value d.text_after in
    omega (arith, s.room, left-as-long s)

pub returns : goal.returns
returns c =
    let ring = written_order c.args.back (points c.args.ring.now) in
    let d = c.put_points-end.ensures in
    let s = at-end c.args.text.now c.args.at ring c.requires d.value d.text_after in
    record { value = left-ends s; text_after = left-stored s }

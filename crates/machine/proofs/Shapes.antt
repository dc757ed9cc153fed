-- The shapes of a cell's strokes: quiet, one stroke of four kinds, and the two saddles. What the step of a machine that draws by the five rules is for each. Assumes nothing.
use mathlib.Core.Path.{◌≡◌, refl}
use mathlib.Core.Bool.{Bool, true, false}
use mathlib.Core.List.{List, [], ◌∷◌}
use Prim.Native.Nat.{ℕ}
use Rattle.scope.specs.declared.Side.{Side}
use Rattle.scope.specs.declared.Side.TheVariants.{Left, Right, Top, Bottom}
use Rattle.scope.specs.Cells.{Stroke, ◌⟶◌, number_of, case_table, drawn}
use Rattle.machine.specs.Machine.{Entry, side_word}
use Rattle.machine.proofs.Carrier.{Carrier, stroke_drawn}

-- the sides that finished cells share, and those that they do not
pub data Near : Type 0 where
  at_left at_top : Near

pub data Far : Type 0 where
  at_right at-bottom : Far

abbrev pub near : Near → Side
near at_left = Left
near at_top = Top

abbrev pub far : Far → Side
far at_right = Right
far at-bottom = Bottom

-- the other near side
abbrev pub opposite : Near → Near
opposite at_left = at_top
opposite at_top = at_left

pub data Shape : List Stroke → Type 0 where
  quiet : Shape []
  onward : (s : Near) (e : Far) → Shape (near s ⟶ far e ∷ [])
  backward : (s : Far) (e : Near) → Shape (far s ⟶ near e ∷ [])
  opening-down : Shape (Right ⟶ Bottom ∷ [])
  opening-up : Shape (Bottom ⟶ Right ∷ [])
  meeting-up : Shape (Left ⟶ Top ∷ [])
  meeting-down : Shape (Top ⟶ Left ∷ [])
  saddle-five : Shape (Bottom ⟶ Left ∷ Top ⟶ Right ∷ [])
  saddle-ten : Shape (Left ⟶ Top ∷ Right ⟶ Bottom ∷ [])

pub shape_of : (ll lr ur ul : Bool) → Shape (drawn (number_of ll lr ur ul))
unfolding drawn case_table number_of
shape_of false false false false = quiet
shape_of true false false false = backward at-bottom at_left
shape_of false true false false = opening-down
shape_of true true false false = backward at_right at_left
shape_of false false true false = onward at_top at_right
shape_of true false true false = saddle-five
shape_of false true true false = onward at_top at-bottom
shape_of true true true false = meeting-down
shape_of false false false true = meeting-up
shape_of true false false true = backward at-bottom at_top
shape_of false true false true = saddle-ten
shape_of true true false true = backward at_right at_top
shape_of false false true true = onward at_left at_right
shape_of true false true true = opening-up
shape_of false true true true = onward at_left at-bottom
shape_of true true true true = quiet

-- the slot that the entry has for a near side
abbrev pub slot_of : Entry → Near → ℕ
slot_of entry at_left = entry.left
slot_of entry at_top = entry.top

module _ {dx : ℕ} (C : Carrier dx) (c : ℕ) (entry : Entry) (t : C.State) where
  pub draw-onward : (s : Near) (e : Far) (x y : ℕ) → stroke_drawn C c entry t (near s ⟶ far e) x y ≡ C.appended t x (slot_of entry s) y (side_word dx c (far e))
  unfolding stroke_drawn side_word
  draw-onward at_left at_right x y = refl
  draw-onward at_left at-bottom x y = refl
  draw-onward at_top at_right x y = refl
  draw-onward at_top at-bottom x y = refl

  pub draw-backward : (s : Far) (e : Near) (x y : ℕ) → stroke_drawn C c entry t (far s ⟶ near e) x y ≡ C.prepended t x (slot_of entry e) (side_word dx c (far s))
  unfolding stroke_drawn side_word
  draw-backward at_right at_left x y = refl
  draw-backward at_right at_top x y = refl
  draw-backward at-bottom at_left x y = refl
  draw-backward at-bottom at_top x y = refl

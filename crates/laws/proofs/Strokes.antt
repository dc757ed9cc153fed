-- What the case table says of the sixteen cells, by one computed test over the four samples: strokes begin and end where the samples say, each side once;
-- twice their number is the number of sides whose pair differs, and so on. Assumes nothing.
use mathlib.Core.Path.{◌≡◌, refl, sym, ◌∙◌, ap}
use mathlib.Core.Bool.{Bool, true, false, not, ◌&&◌, ◌||◌, false≢true}
use mathlib.Core.List.{List, [], ◌∷◌}
use Prim.Native.Nat.{◌+◌, ◌*◌}
use lib.Dec.{eqb}
use lib.ListN.{length}
use borrow.Author.Tests.{eqb-true}
use Rattle.scope.specs.declared.Side.{Side}
use Rattle.scope.specs.declared.Side.TheVariants.{Left, Right, Top, Bottom}
use Rattle.scope.specs.Cells.{same_side, Stroke, ◌⟶◌, number_of, case_table, drawn, met, on_finished}
use Rattle.scope.specs.Pairs.{differ}
use Rattle.scope.proofs.Sides.{a-side-is-itself}
use Rattle.laws.proofs.Ends.{and_left, and_right}
use Rattle.laws.proofs.Edges.{ending, beginning}

-- a test at both values, and at all values of four
abbrev both : (Bool → Bool) → Bool
both test = test true && test false

either-one : (test : Bool → Bool) → both test ≡ true → (b : Bool) → test b ≡ true
either-one test h true = and_left (test true) (test false) h
either-one test h false = and_right (test true) (test false) h

pub every-cell : (test : Bool → Bool → Bool → Bool → Bool) → both (λ a. both (λ b. both (λ c. both (λ d. test a b c d)))) ≡ true
    → (a b c d : Bool) → test a b c d ≡ true
every-cell test h a b c d =
    either-one (λ d. test a b c d)
    (either-one (λ c. both (λ d. test a b c d))
    (either-one (λ b. both (λ c. both (λ d. test a b c d)))
    (either-one (λ a. both (λ b. both (λ c. both (λ d. test a b c d)))) h a) b) c) d

pub other-side : (d e : Side) → not (same_side d e) ≡ true → d ≡ e → ⊥
other-side d e h q = false≢true (sym (ap not (ap (same_side d) (sym q) ∙ a-side-is-itself d)) ∙ h)

-- begin and finish: the two ends of a segment, told apart so that each fact is said once of both
pub data Role : Type 0 where
  begin finish : Role

abbrev pub other : Role → Role
other begin = finish
other finish = begin

abbrev pub side_by : Role → Stroke → Side
side_by begin (s ⟶ e) = s
side_by finish (s ⟶ e) = e

abbrev pub on_by : Role → Bool → Bool → Bool → Bool → Side → Bool
on_by begin = beginning
on_by finish = ending

-- strokes begin and end on sides that are free in that role, and a side that one has used no later one uses
abbrev pub leaving : (Role → Side → Bool) → Stroke → Role → Side → Bool
leaving free stroke role d = free role d && not (same_side d (side_by role stroke))

unfoldable pub fitting : (Role → Side → Bool) → List Stroke → Bool
fitting free [] = true
fitting free (stroke ∷ strokes) = free begin (side_by begin stroke) && free finish (side_by finish stroke) && fitting (leaving free stroke) strokes

pub head-fits : (free : Role → Side → Bool) (stroke : Stroke) (strokes : List Stroke) → fitting free (stroke ∷ strokes) ≡ true → (role : Role) → free role (side_by role stroke) ≡ true
unfolding fitting
head-fits free stroke strokes h begin = and_left (free begin (side_by begin stroke)) (free finish (side_by finish stroke)) (and_left (free begin (side_by begin stroke) && free finish (side_by finish stroke)) (fitting (leaving free stroke) strokes) h)
head-fits free stroke strokes h finish = and_right (free begin (side_by begin stroke)) (free finish (side_by finish stroke)) (and_left (free begin (side_by begin stroke) && free finish (side_by finish stroke)) (fitting (leaving free stroke) strokes) h)

pub rest-fits : (free : Role → Side → Bool) (stroke : Stroke) (strokes : List Stroke) → fitting free (stroke ∷ strokes) ≡ true → fitting (leaving free stroke) strokes ≡ true
unfolding fitting
rest-fits free stroke strokes h = and_right (free begin (side_by begin stroke) && free finish (side_by finish stroke)) (fitting (leaving free stroke) strokes) h

module _ (ll lr ur ul : Bool) where
  pub strokes-fit : fitting (λ role. on_by role ll lr ur ul) (drawn (number_of ll lr ur ul)) ≡ true
  unfolding fitting drawn case_table number_of
  strokes-fit = every-cell (λ a b c d. fitting (λ role. on_by role a b c d) (drawn (number_of a b c d))) refl ll lr ur ul

  -- the ends on Left and Top are the pairs there that differ, and all ends are the pairs of the four sides
  pub met-pairs : met (drawn (number_of ll lr ur ul)) ≡ differ ul ll + differ ul ur
  unfolding drawn case_table number_of met on_finished
  met-pairs = eqb-true _ _ (every-cell (λ a b c d. eqb (met (drawn (number_of a b c d))) (differ d a + differ d c)) refl ll lr ur ul)

  pub twice-strokes : 2 * length (drawn (number_of ll lr ur ul)) ≡ differ ul ll + differ ul ur + differ ur lr + differ ll lr
  unfolding drawn case_table number_of
  twice-strokes = eqb-true _ _ (every-cell (λ a b c d. eqb (2 * length (drawn (number_of a b c d))) (differ d a + differ d c + differ c b + differ a b)) refl ll lr ur ul)

-- some stroke has the side in the role
unfoldable pub has : Role → Side → List Stroke → Bool
has role d [] = false
has role d (stroke ∷ strokes) = same_side d (side_by role stroke) || has role d strokes

implied : (a b : Bool) → not a || b ≡ true → a ≡ true → b ≡ true
implied true b h e = h
implied false b h e = absurd (false≢true e)

abbrev presence : Role → Side → Bool → Bool → Bool → Bool → Bool
presence role d ll lr ur ul = not (on_by role ll lr ur ul d) || has role d (drawn (number_of ll lr ur ul))

shown : (role : Role) (d : Side) → both (λ a. both (λ b. both (λ c. both (λ e. presence role d a b c e)))) ≡ true
unfolding has drawn case_table number_of
shown begin Left = refl
shown begin Right = refl
shown begin Top = refl
shown begin Bottom = refl
shown finish Left = refl
shown finish Right = refl
shown finish Top = refl
shown finish Bottom = refl

-- where the samples say so, some stroke begins or ends there
pub present : (role : Role) (d : Side) (ll lr ur ul : Bool) → on_by role ll lr ur ul d ≡ true → has role d (drawn (number_of ll lr ur ul)) ≡ true
present role d ll lr ur ul h =
    implied (on_by role ll lr ur ul d) (has role d (drawn (number_of ll lr ur ul))) (every-cell (presence role d) (shown role d) ll lr ur ul) h

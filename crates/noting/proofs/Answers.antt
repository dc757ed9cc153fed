-- What `area` answers of words that it does not refuse: the area and no refusal. Assumes nothing.
use mathlib.Core.Path.{◌≡◌, ◌∙◌}
use mathlib.Core.Bool.{false}
use mathlib.Core.List.{List}
use Prim.Native.Nat.{ℕ}
use native.Mathlib.Omega.{arith}
use lib.IntN.{ℤ}
use Rattle.error.specs.declared.Refusal.{Refusal}
use Rattle.scope.specs.Area.{points, area, area_refused}
use Rattle.area.specs.Answers.{area_answer}
use Rattle.std.specs.Prelude.{Result, Ok, Err}

module _ (ring : List ℕ) (answer : Result ℤ Refusal) (accepted : area_refused ring ≡ false) (e : answer ≡ area_answer ring) where
  answered : answer ≡ Ok (area (points ring))
  unfolding area_answer
  answered = e ∙ rw accepted

  -- it is the ring's area
  pub area-answered : (found : ℤ) → answer ≡ Ok found → found ≡ area (points ring)
  area-answered found f = let g = answered in cc

  -- it is no refusal
  pub no-refusal : (refusal : Refusal) → answer ≡ Err refusal → ⊥
  no-refusal refusal f = let g = answered in let never : ◌≡◌ {A = ℕ} 0 1 = cc in omega arith

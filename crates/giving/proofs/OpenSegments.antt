-- The segments in open lines, and what each stitching rule does to their number: a rule that draws within the open lines adds one, and a line that closes takes
-- its own away. Assumes nothing.
use mathlib.Core.Path.{◌≡◌, sym, ap}
use mathlib.Core.List.{List, [], ◌∷◌, ◌++◌}
use Prim.Native.Nat.{ℕ, ◌+◌, ◌≤◌, ◌<◌}
use native.Mathlib.Omega.{arith}
use lib.ListN.{length, get_or, set, length-set, length-append}
use lib.Seq.{get_or-set_other}
use Rattle.scope.specs.Cells.{Point}
use Rattle.scope.specs.Stitching as rules
use Rattle.scope.specs.Stitching.{Line, Drawing}
use Rattle.laws.proofs.Total.{total, total-append, total-set, total-without}
use Rattle.laws.proofs.Sizes.{size, held_in}

module _ (d : Drawing) (f : ℕ) (hf : f < length d.lines) (some : 1 ≤ length (get_or d.lines f [])) where
  pub held-appended : (p : Point) → held_in (rules.append d f p).lines ≡ held_in d.lines + 1
  unfolding rules.append held_in size
  held-appended p =
      omega (
        arith,
        total-set size d.lines f (get_or d.lines f [] ++ (p ∷ [])) [] hf,
        length-append (get_or d.lines f []) (p ∷ []),
      )

  pub held-prepended : (p : Point) → held_in (rules.prepend d f p).lines ≡ held_in d.lines + 1
  unfolding rules.prepend held_in size
  held-prepended p = omega (arith, total-set size d.lines f (p ∷ get_or d.lines f []) [] hf)

  pub held-joined : (g : ℕ) → g < length d.lines → (f ≡ g → ⊥) → 1 ≤ length (get_or d.lines g []) → held_in (rules.join d f g).lines ≡ held_in d.lines + 1
  unfolding rules.join held_in size
  held-joined g hg ne some' =
      omega (
        arith,
        total-without size both g (omega (arith, length-set d.lines f (get_or d.lines f [] ++ get_or d.lines g []))),
        ap size (get_or-set_other d.lines f g (get_or d.lines f [] ++ get_or d.lines g []) [] (λ q. ne (sym q))),
        total-set size d.lines f (get_or d.lines f [] ++ get_or d.lines g []) [] hf,
        length-append (get_or d.lines f []) (get_or d.lines g []),
      )
    where
      both : List Line
      both = set d.lines f (get_or d.lines f [] ++ get_or d.lines g [])

pub held-started : (d : Drawing) (p q : Point) → held_in (rules.start d p q).lines ≡ held_in d.lines + 1
unfolding rules.start held_in size total
held-started d p q = omega (arith, total-append size d.lines ((p ∷ q ∷ []) ∷ []))

pub held-closed : (d : Drawing) (f : ℕ) (p : Point) → f < length d.lines → held_in (rules.close d f p).lines + size (get_or d.lines f []) ≡ held_in d.lines
unfolding rules.close held_in size
held-closed d f p hf = total-without size d.lines f hf

-- no fewer after an append
pub held-no-fewer : (d : Drawing) (f : ℕ) (p : Point) → f < length d.lines → held_in d.lines ≤ held_in (rules.append d f p).lines
unfolding rules.append held_in size
held-no-fewer d f p hf = omega (arith, total-set size d.lines f (get_or d.lines f [] ++ (p ∷ [])) [] hf, length-append (get_or d.lines f []) (p ∷ []))

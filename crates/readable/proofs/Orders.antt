-- Orders of packed rings: as many as there are rings, each with its number. The rings by number are one, and so are they sorted as a band is.
-- Assumes nothing.
use mathlib.Core.Path.{◌≡◌, refl, ◌∙◌, ap, subst}
use mathlib.Core.List.{List, [], ◌∷◌, ◌++◌}
use Prim.Native.Nat.{ℕ, zero, suc, ◌<◌}
use native.Mathlib.Nat.{le_of_suc-le-suc, not-suc-le-zero}
use native.Mathlib.Omega.{arith}
use lib.ListN.{length, get_or, length-append}
use lib.Seq.{append_snoc, get_or-append_seam}
use Rattle.scope.specs.Stitching.{Line}
use Rattle.scope.specs.Band.{Numbered, numbered_from, sort_key, band_order}
use Rattle.laws.proofs.Conservation.{Each}
use Rattle.sorting.proofs.TwoPasses.{by_length, by-each, sorted-is-by}

-- what stands past the end of an order
abbrev pub nobody : Numbered
nobody = record { number = 0; ring = [] }

-- a ring of these, with its number
pub record Among (all : List Line) (m : Numbered) : Type 0 where
  pub number-within : m.number < length all
  pub ring-is : get_or all m.number [] ≡ m.ring

pub record OrderOf (all : List Line) (order : List Numbered) : Type 0 where
  pub as_many : length order ≡ length all
  pub all_among : Each (Among all) order

-- what holds of each holds of the one at a place
pub each_at : {X : Type 0} (P : X → Type 0) (xs : List X) (d : X) → Each P xs → (i : ℕ) → i < length xs → P (get_or xs i d)
each_at P [] d e i h = absurd (not-suc-le-zero h)
each_at P (x ∷ xs) d e zero h = e.0
each_at P (x ∷ xs) d e (suc i) h = each_at P xs d e.1 i (le_of_suc-le-suc h)

numbered-length : (k : ℕ) (rings : List Line) → length (numbered_from k rings) ≡ length rings
unfolding numbered_from
numbered-length k [] = refl
numbered-length k (ring ∷ rings) = ap suc (numbered-length (suc k) rings)

-- rings behind others, numbered from their number on
numbered-among : (front rings : List Line) (k : ℕ) → length front ≡ k → Each (Among (front ++ rings)) (numbered_from k rings)
unfolding numbered_from
numbered-among front [] k e = tt
numbered-among front (ring ∷ rings) k e = (
  record {
    number-within = omega (arith, length-append front (ring ∷ rings));
    ring-is = rw (← e) (get_or-append_seam front ring rings []);
  },
  subst (λ all. Each (Among all) (numbered_from (suc k) rings)) (append_snoc front ring rings)
      (numbered-among (front ++ (ring ∷ [])) rings (suc k) (omega (arith, length-append front (ring ∷ [])))),
)

pub by_number : (rings : List Line) → OrderOf rings (numbered_from 0 rings)
by_number rings = record { as_many = numbered-length 0 rings; all_among = numbered-among [] rings 0 refl }

pub by_key : (lower upper : List Line) → OrderOf (lower ++ upper) (band_order lower upper)
unfolding band_order
by_key lower upper =
    rw sorted-is-by (record {
      as_many = by_length (λ m. sort_key m.ring) (numbered_from 0 (lower ++ upper)) ∙ numbered-length 0 (lower ++ upper);
      all_among = by-each (λ m. sort_key m.ring) (Among (lower ++ upper)) (numbered_from 0 (lower ++ upper)) (numbered-among [] (lower ++ upper) 0 refl);
    })

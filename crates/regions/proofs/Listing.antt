-- Lists of what a function gives for the numbers from k on: their length and elements, and the lists that are such lists; sums over a list by place.
-- By induction. Assumes nothing.
use mathlib.Core.Path.{◌≡◌, refl, sym, ◌∙◌, ap, subst}
use mathlib.Core.List.{List, [], ◌∷◌, map}
use Prim.Native.Nat.{ℕ, zero, suc, ◌+◌, ◌<◌, suc-le-suc}
use native.Mathlib.Nat.{le_of_suc-le-suc, not-suc-le-zero, add-zero, zero-add}
use native.Mathlib.Omega.{arith}
use lib.ListN.{length, get_or}
use lib.Seq.{ext_get_or}
use Rattle.scope.specs.Pairs.{sum_from}
use Rattle.laws.proofs.Total.{total}
use Rattle.laws.proofs.Conservation.{Each}

pub past : (k r : ℕ) → suc k + r ≡ k + suc r
past k r = omega arith

module _ {X : Type 0} where
  module _ (f : ℕ → X) where
    -- what f gives for n numbers from k on
    unfoldable pub listed : ℕ → ℕ → List X
    listed k zero = []
    listed k (suc n) = f k ∷ listed (suc k) n

    pub listed-length : (k n : ℕ) → length (listed k n) ≡ n
    unfolding listed
    listed-length k zero = refl
    listed-length k (suc n) = ap suc (listed-length (suc k) n)

    listed-past : (k n r : ℕ) (d : X) → r < n → get_or (listed k n) r d ≡ f (k + r)
    unfolding listed
    listed-past k zero r d h = absurd (not-suc-le-zero h)
    listed-past k (suc n) zero d h = ap f (sym (add-zero k))
    listed-past k (suc n) (suc r) d h = listed-past (suc k) n r d (le_of_suc-le-suc h) ∙ ap f (past k r)

    pub listed_at : (n r : ℕ) (d : X) → r < n → get_or (listed 0 n) r d ≡ f r
    listed_at n r d h = listed-past 0 n r d h ∙ ap f (zero-add r)

    -- a list whose elements f gives
    pub listed-is : (n : ℕ) (xs : List X) (d : X) → length xs ≡ n → ((r : ℕ) → r < n → f r ≡ get_or xs r d) → listed 0 n ≡ xs
    listed-is n xs d long same =
        ext_get_or d (listed 0 n) xs (listed-length 0 n ∙ sym long) (λ r h. at r (subst (λ (m : ℕ). r < m) (listed-length 0 n) h))
      where
        at : (r : ℕ) → r < n → get_or (listed 0 n) r d ≡ get_or xs r d
        at r h = listed_at n r d h ∙ same r h

  -- what holds of every element holds at every place
  pub each_at : (P : X → Type 0) (xs : List X) (d : X) → Each P xs → (r : ℕ) → r < length xs → P (get_or xs r d)
  each_at P [] d each r h = absurd (not-suc-le-zero h)
  each_at P (x ∷ xs) d each zero h = each.0
  each_at P (x ∷ xs) d each (suc r) h = each_at P xs d each.1 r (le_of_suc-le-suc h)

  -- a sum by places is the sum over the list
  sum_past : (w : X → ℕ) (g : ℕ → ℕ) (xs : List X) (k : ℕ) (d : X) → ((r : ℕ) → r < length xs → g (k + r) ≡ w (get_or xs r d)) → sum_from g k (length xs) ≡ total w xs
  unfolding sum_from total
  sum_past w g [] k d same = refl
  sum_past w g (x ∷ xs) k d same =
      omega (arith, ap g (sym (add-zero k)) ∙ same 0 (omega arith), sum_past w g xs (suc k) d (λ r h. ap g (past k r) ∙ same (suc r) (suc-le-suc h)))

  pub sum-by-places : (w : X → ℕ) (g : ℕ → ℕ) (xs : List X) (d : X) → ((r : ℕ) → r < length xs → g r ≡ w (get_or xs r d)) → sum_from g 0 (length xs) ≡ total w xs
  sum-by-places w g xs d same = sum_past w g xs 0 d (λ r h. ap g (zero-add r) ∙ same r h)

-- an element of a mapped list
pub map_at : {X Y : Type 0} (f : X → Y) (xs : List X) (r : ℕ) (d : X) (e : Y) → r < length xs → get_or (map f xs) r e ≡ f (get_or xs r d)
map_at f [] r d e h = absurd (not-suc-le-zero h)
map_at f (x ∷ xs) zero d e h = refl
map_at f (x ∷ xs) (suc r) d e h = map_at f xs r d e (le_of_suc-le-suc h)

-- Chains of links: a list of link numbers, each but the last holding the next. A store at a link outside a chain, or at its last link, leaves the chain as
-- it was. Stated once, over any function for what a link holds. Assumes nothing.
use mathlib.Core.Path.{◌≡◌, refl, sym, ap, ap₂}
use mathlib.Core.List.{List, [], ◌∷◌, ◌++◌, map}
use Prim.Native.Nat.{ℕ, ◌+◌, ◌≤◌}
use native.Mathlib.Omega.{arith}
use lib.Dec.{eqb}
use borrow.Author.Tests.{eq-eqb}
use Rattle.scope.specs.Cells.{when}
use Rattle.laws.proofs.Total.{total}

-- from link a to link z by what each link holds
abbrev pub Linked : (ℕ → ℕ) → ℕ → List ℕ → ℕ → Type 0
Linked next a [] z = ⊥
Linked next a (x ∷ []) z = (x ≡ a) × (x ≡ z)
Linked next a (x ∷ y ∷ l) z = (x ≡ a) × Linked next (next x) (y ∷ l) z

-- how often a link stands in a chain
unfoldable pub uses : ℕ → List ℕ → ℕ
uses k chain = total (λ x. when 1 (eqb k x)) chain

pub uses-nil : (k : ℕ) → uses k [] ≡ 0
unfolding uses total
uses-nil k = refl

pub uses-cons : (k x : ℕ) (l : List ℕ) → uses k (x ∷ l) ≡ when 1 (eqb k x) + uses k l
unfolding uses total
uses-cons k x l = refl

pub uses-append : (k : ℕ) (l m : List ℕ) → uses k (l ++ m) ≡ uses k l + uses k m
uses-append k [] m = omega (arith, uses-nil k)
uses-append k (x ∷ l) m = omega (arith, uses-cons k x (l ++ m), uses-cons k x l, uses-append k l m)

uses-self : (x : ℕ) (l : List ℕ) → 1 ≤ uses x (x ∷ l)
uses-self x l = omega (arith, uses-cons x x l, ap (when 1) (eq-eqb x x refl))

pub uses-first : (next : ℕ → ℕ) (a : ℕ) (l : List ℕ) (z : ℕ) → Linked next a l z → 1 ≤ uses a l
uses-first next a [] z h = absurd h
uses-first next a (x ∷ []) z h = omega (arith, uses-self x [], ap (λ (k : ℕ). uses k (x ∷ [])) h.0)
uses-first next a (x ∷ y ∷ l) z h = omega (arith, uses-self x (y ∷ l), ap (λ (k : ℕ). uses k (x ∷ y ∷ l)) h.0)

pub uses-last : (next : ℕ → ℕ) (a : ℕ) (l : List ℕ) (z : ℕ) → Linked next a l z → 1 ≤ uses z l
uses-last next a [] z h = absurd h
uses-last next a (x ∷ []) z h = omega (arith, uses-self x [], ap (λ (k : ℕ). uses k (x ∷ [])) h.1)
uses-last next a (x ∷ y ∷ l) z h = omega (arith, uses-cons z x (y ∷ l), uses-last next (next x) (y ∷ l) z h.1)

-- a link that a chain uses once, last, is none before it
not_last : (next : ℕ → ℕ) (x b z : ℕ) (l : List ℕ) → Linked next b l z → uses z (x ∷ l) ≤ 1 → x ≡ z → ⊥
not_last next x b z l h once e =
    omega (arith, uses-cons z x l, ap (when 1) (eq-eqb z x (sym e)), uses-last next b l z h)

-- the last link may hold anything
pub linked-but-last : (next next' : ℕ → ℕ) (a : ℕ) (l : List ℕ) (z : ℕ) → Linked next a l z → uses z l ≤ 1
    → ((x : ℕ) → (x ≡ z → ⊥) → 1 ≤ uses x l → next' x ≡ next x) → Linked next' a l z
linked-but-last next next' a [] z h once same = h
linked-but-last next next' a (x ∷ []) z h once same = h
linked-but-last next next' a (x ∷ y ∷ l) z h once same = (
  h.0,
  linked-but-last next next' (next' x) (y ∷ l) z (moved (sym (same x (not_last next x (next x) z (y ∷ l) h.1 once) (uses-self x (y ∷ l)))) h.1)
      (omega (arith, uses-cons z x (y ∷ l)))
      (λ k ne used. same k ne (omega (arith, uses-cons k x (y ∷ l)))),
)
  where
    moved : {b b' : ℕ} → b ≡ b' → Linked next b (y ∷ l) z → Linked next b' (y ∷ l) z
    moved e k = rw (← e) k

-- and none of them may change where no link of the chain is stored to
pub linked-still : (next next' : ℕ → ℕ) (a : ℕ) (l : List ℕ) (z : ℕ) → Linked next a l z → ((x : ℕ) → 1 ≤ uses x l → next' x ≡ next x) → Linked next' a l z
linked-still next next' a [] z h same = h
linked-still next next' a (x ∷ []) z h same = h
linked-still next next' a (x ∷ y ∷ l) z h same =
    (h.0, rw (same x (uses-self x (y ∷ l))) (linked-still next next' (next x) (y ∷ l) z h.1 (λ k used. same k (omega (arith, uses-cons k x (y ∷ l))))))

-- one chain behind another
pub linked-join : (next : ℕ → ℕ) (a : ℕ) (l : List ℕ) (z b : ℕ) (m : List ℕ) (y : ℕ) → Linked next a l z → next z ≡ b → Linked next b m y → Linked next a (l ++ m) y
linked-join next a [] z b m y h e k = absurd h
linked-join next a (x ∷ []) z b [] y h e k = absurd k
linked-join next a (x ∷ []) z b (n ∷ m) y h e k = (h.0, rw (h.1, e) k)
linked-join next a (x ∷ x' ∷ l) z b m y h e k = (h.0, linked-join next (next x) (x' ∷ l) z b m y h.1 e k)

-- what the links of a chain hold, where no link of the chain is stored to
pub map-still : {X : Type 0} (f f' : ℕ → X) (l : List ℕ) → ((x : ℕ) → 1 ≤ uses x l → f' x ≡ f x) → map f' l ≡ map f l
map-still f f' [] same = refl
map-still f f' (x ∷ l) same = ap₂ (λ y ys. y ∷ ys) (same x (uses-self x l)) (map-still f f' l (λ k used. same k (omega (arith, uses-cons k x l))))

-- Two words stored for each line of a list, one at the frontier word of either tip. Where the words of all lines are apart, each holds what was stored there, and
-- words past the frontier stay. Assumes nothing.
use mathlib.Core.Path.{◌≡◌, refl, sym, ◌∙◌, ap}
use mathlib.Core.List.{List, [], ◌∷◌, ◌++◌}
use Prim.Native.Nat.{ℕ, zero, suc, ◌+◌, ◌≤◌, ◌<◌}
use native.Mathlib.Decide.{ℕ_discrete}
use native.Mathlib.Omega.{arith}
use lib.ListN.{length, get_or, set, drop, length-set}
use lib.Seq.{get_or-set_same, get_or-set_other, drop-set-lt}
use Rattle.scope.specs.Stitching.{Line}
use Rattle.laws.proofs.Strokes.{Role, begin, finish}
use Rattle.laws.proofs.LineWords.{word_by, Apt, Spread}

module _ (dx : ℕ) (value : ℕ → Role → ℕ) (ls : List Line) where
  abbrev word : ℕ → Role → ℕ
  word i role = word_by dx role (get_or ls i [])

  -- the first n lines' words
  unfoldable pub stored : List ℕ → ℕ → List ℕ
  stored words zero = words
  stored words (suc n) = set (set (stored words n) (word n begin) (value n begin)) (word n finish) (value n finish)

  pub stored-length : (words : List ℕ) (n : ℕ) → length (stored words n) ≡ length words
  unfolding stored
  stored-length words zero = refl
  stored-length words (suc n) =
      length-set (set (stored words n) (word n begin) (value n begin)) (word n finish) (value n finish)
      ∙ length-set (stored words n) (word n begin) (value n begin)
      ∙ stored-length words n

  -- a word that is none of a line's
  stored-else : (words : List ℕ) (n w : ℕ) → ((role : Role) → w ≡ word n role → ⊥) → get_or (stored words (suc n)) w 0 ≡ get_or (stored words n) w 0
  unfolding stored
  stored-else words n w away =
      get_or-set_other (set (stored words n) (word n begin) (value n begin)) (word n finish) w (value n finish) 0 (away finish)
      ∙ get_or-set_other (stored words n) (word n begin) w (value n begin) 0 (away begin)

  module _ (low : (i : ℕ) → i < length ls → Apt dx (get_or ls i [])) where
    pub stored_past : (words : List ℕ) (n w : ℕ) → n ≤ length ls → dx + 2 ≤ w → get_or (stored words n) w 0 ≡ get_or words w 0
    stored_past words zero w hn hw = unfold stored in refl
    stored_past words (suc n) w hn hw =
        stored-else words n w (λ role e. omega (arith, (low n (omega arith)).low role)) ∙ stored_past words n w (omega arith) hw

    pub stored-drop : (words : List ℕ) (n : ℕ) → n ≤ length ls → drop (dx + 2) (stored words n) ≡ drop (dx + 2) words
    unfolding stored
    stored-drop words zero hn = refl
    stored-drop words (suc n) hn =
        drop-set-lt (dx + 2) (set (stored words n) (word n begin) (value n begin)) (word n finish) (value n finish) (omega (arith, (low n (omega arith)).low finish))
        ∙ drop-set-lt (dx + 2) (stored words n) (word n begin) (value n begin) (omega (arith, (low n (omega arith)).low begin))
        ∙ stored-drop words n (omega arith)

    set_front : (xs ys : List ℕ) (i v : ℕ) → i < length xs → set (xs ++ ys) i v ≡ set xs i v ++ ys
    set_front [] ys i v h = absurd (omega arith)
    set_front (x ∷ xs) ys zero v h = refl
    set_front (x ∷ xs) ys (suc i) v h = ap (λ (l : List ℕ). x ∷ l) (set_front xs ys i v (omega arith))

    -- words behind those that are stored to
    pub stored-front : (words more : List ℕ) (n : ℕ) → n ≤ length ls → dx + 2 ≤ length words → stored (words ++ more) n ≡ stored words n ++ more
    unfolding stored
    stored-front words more zero hn long = refl
    stored-front words more (suc n) hn long =
        ap (λ (l : List ℕ). set (set l (word n begin) (value n begin)) (word n finish) (value n finish)) (stored-front words more n (omega arith) long)
        ∙ ap (λ (l : List ℕ). set l (word n finish) (value n finish)) (set_front (stored words n) more (word n begin) (value n begin) (omega (arith, stored-length words n, (low n (omega arith)).low begin)))
        ∙ set_front (set (stored words n) (word n begin) (value n begin)) more (word n finish) (value n finish)
        (omega (arith, stored-length words n, length-set (stored words n) (word n begin) (value n begin), (low n (omega arith)).low finish))

  -- what is stored at a line's words
  module _ (spread : Spread dx ls) (words : List ℕ) (long : dx + 2 ≤ length words) where
    new-there : (n : ℕ) → n < length ls → (role : Role) → get_or (stored words (suc n)) (word n role) 0 ≡ value n role
    unfolding stored
    new-there n hn begin =
        get_or-set_other (set (stored words n) (word n begin) (value n begin)) (word n finish) (word n begin) (value n finish) 0 (spread.apt n hn).proper
        ∙ get_or-set_same (stored words n) (word n begin) (value n begin) 0 (omega (arith, stored-length words n, (spread.apt n hn).low begin))
    new-there n hn finish =
        get_or-set_same (set (stored words n) (word n begin) (value n begin)) (word n finish) (value n finish) 0
        (omega (arith, stored-length words n, length-set (stored words n) (word n begin) (value n begin), (spread.apt n hn).low finish))

    pub stored_there : (n i : ℕ) → n ≤ length ls → i < n → (role : Role) → get_or (stored words n) (word i role) 0 ≡ value i role
    stored_there zero i hn hi role = absurd (omega arith)
    stored_there (suc n) i hn hi role = by (ℕ_discrete i n) (λ less. stored_there n i (omega arith) less role)
      where
        by : Dec (i ≡ n) → (i < n → get_or (stored words n) (word i role) 0 ≡ value i role) → get_or (stored words (suc n)) (word i role) 0 ≡ value i role
        by (yes e) before =
            ap (λ (j : ℕ). get_or (stored words (suc n)) (word j role) 0) e ∙ new-there n (omega arith) role ∙ ap (λ (j : ℕ). value j role) (sym e)
        by (no ne) before =
            stored-else words n (word i role) (λ role' w. spread.apart i n (omega arith) (omega arith) ne role role' w) ∙ before (omega arith)

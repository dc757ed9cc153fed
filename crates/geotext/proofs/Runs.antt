-- A run of stores, made piece by piece: two runs are one, and what is left of a run, stored from the next place on, leaves what the whole leaves. All of it
-- is over any list. Assumes nothing.
use mathlib.Core.Path.{◌≡◌, sym, ap, ◌∙◌}
use mathlib.Core.List.{List, [], ◌∷◌, ◌++◌}
use Prim.Native.Nat.{ℕ, suc, ◌+◌, ◌≤◌}
use native.Mathlib.Nat.{add-zero}
use native.Mathlib.Omega.{arith}
use lib.ListN.{length, set, length-append}
use lib.Seq.{sets, length-sets}

module _ {A : Type 0} where
  -- two runs of stores are one
  pub stores-follow : (l : List A) (i : ℕ) (vs ws : List A) → sets l i (vs ++ ws) ≡ sets (sets l i vs) (i + length vs) ws
  stores-follow l i [] ws = rw add-zero
  stores-follow l i (v ∷ vs) ws =
      let e : i + suc (length vs) ≡ suc i + length vs = omega arith in
      rw e (stores-follow (set l i v) (suc i) vs ws)

  -- the whole is to be stored from at on in the list at the start; of it the rest is left, to be stored from place on in the list as it is
  pub record Left (start : List A) (at : ℕ) (whole : List A) (list : List A) (place : ℕ) (rest : List A) : Type 0 where
    pub room : place + length rest ≤ length list
    pub ends : place + length rest ≡ at + length whole
    pub leaves : sets start at whole ≡ sets list place rest

  -- all of it is left
  pub left-begin : {start : List A} {at : ℕ} {whole rest : List A} → whole ≡ rest → at + length whole ≤ length start → Left start at whole start at rest
  left-begin {start} {at} e room =
      record { room = rw e at room; ends = ap (λ (l : List A). at + length l) (sym e); leaves = ap (sets start at) e }

  module _ {start : List A} {at : ℕ} {whole list : List A} {place : ℕ} where
    -- the list keeps its length
    pub left-as-long : {rest : List A} → Left start at whole list place rest → length list ≡ length start
    left-as-long {rest} s = sym (length-sets list place rest) ∙ sym (ap length s.leaves) ∙ length-sets start at whole

    module _ (piece after : List A) (s : Left start at whole list place (piece ++ after)) where
      -- there is room for the next piece
      pub left-room : place + length piece ≤ length list
      left-room = omega (arith, s.room, length-append piece after)

      -- the next piece is stored
      pub left-next : {place' : ℕ} {list' : List A} → place' ≡ place + length piece → list' ≡ sets list place piece → Left start at whole list' place' after
      left-next {place'} {list'} e f =
          record {
            room = omega (arith, s.room, length-append piece after, ap length f ∙ length-sets list place piece);
            ends = omega (arith, s.ends, length-append piece after);
            leaves = s.leaves ∙ stores-follow list place piece after ∙ rw (e, f);
          }

    -- nothing is left
    module _ (s : Left start at whole list place []) where
      pub left-ends : place ≡ at + length whole
      left-ends = omega (arith, s.ends)

      pub left-stored : list ≡ sets start at whole
      left-stored = sym s.leaves

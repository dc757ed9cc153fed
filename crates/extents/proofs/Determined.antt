-- Contracts that give every word of a directory by its index, or the first item that is not apart, determine what they speak of: any two results that meet one
-- are equal. A word is that of a record, or stands past them; of two different items the one before would be apart and not apart. Assumes nothing.
use mathlib.Core.Path.{◌≡◌, sym, subst, ◌∙◌}
use mathlib.Core.Bool.{true, false}
use mathlib.Core.List.{List}
use Prim.Native.Nat.{ℕ, ◌+◌, ◌*◌, ◌/◌, ◌%◌, ◌≤◌, ◌<◌}
use native.Mathlib.Decide.{dec_lt, ℕ_discrete}
use native.Mathlib.Omega.{arith}
use lib.ListN.{length, get_or}
use lib.Seq.{ext_get_or}
use Rattle.extents.specs.declared.Extent.{Extent}
use Rattle.extents.specs.declared.Ladder.{Ladder}
use Rattle.extents.specs.Extents.{apart}
use Rattle.extents.specs.Ladders.{item_extent, NextNear}

-- two directories of one length, with n records
module _ (directory : List ℕ) {one two : List ℕ} (n : ℕ) (as-long-one : length one ≡ length directory) (as-long-two : length two ≡ length directory) where
  -- they agree where each word of each record and each word past the records is the same
  pub one-directory : ((r q : ℕ) → r < n → q < 4 → get_or one (4 * r + q) 0 ≡ get_or two (4 * r + q) 0) →
      ((i : ℕ) → 4 * n ≤ i → get_or one i 0 ≡ get_or two i 0) →
      one ≡ two
  one-directory in-records past = ext_get_or 0 one two (as-long-one ∙ sym as-long-two) (λ i _. by i (dec_lt i (4 * n)))
    where
      by : (i : ℕ) → Dec (i < 4 * n) → get_or one i 0 ≡ get_or two i 0
      by i (yes below) =
          let is : 4 * (i / 4) + i % 4 ≡ i = omega arith in
          subst (λ (p : ℕ). get_or one p 0 ≡ get_or two p 0) is (in-records (i / 4) (i % 4) (omega arith) (omega arith))
      by i (no past-them) = past i (omega arith)

  -- they agree where one word of each record is given, and every other word is as it was
  pub one-word-given : (offset : ℕ) (word : ℕ → ℕ) →
      ((r : ℕ) → r < n → get_or one (4 * r + offset) 0 ≡ word r) →
      ((r : ℕ) → r < n → get_or two (4 * r + offset) 0 ≡ word r) →
      ((i : ℕ) → (i % 4 ≡ offset → 4 * n ≤ i) → get_or one i 0 ≡ get_or directory i 0) →
      ((i : ℕ) → (i % 4 ≡ offset → 4 * n ≤ i) → get_or two i 0 ≡ get_or directory i 0) →
      one ≡ two
  one-word-given offset word is_one is-two rest-one rest-two =
      one-directory (λ r q below low. by r q below low (ℕ_discrete q offset)) (λ i past. stays i (λ _. past))
    where
      stays : (i : ℕ) → (i % 4 ≡ offset → 4 * n ≤ i) → get_or one i 0 ≡ get_or two i 0
      stays i other = rest-one i other ∙ sym (rest-two i other)

      by : (r q : ℕ) → r < n → q < 4 → Dec (q ≡ offset) → get_or one (4 * r + q) 0 ≡ get_or two (4 * r + q) 0
      by r q below low (yes is) = rw is (is_one r below ∙ sym (is-two r below))
      by r q below low (no ne) = stays (4 * r + q) (λ is. absurd (ne (omega arith)))

module _ {table : List ℕ} {l : Ladder} {from : ℕ} {query : Extent} where
  none_before : {found other : ℕ} → NextNear table l from query found → NextNear table l from query other → found < other → ⊥
  none_before {found} {other} a b h =
      let is-apart : apart (item_extent table l found) query ≡ true = b.apart-before found a.not-before h in
      let is-near : apart (item_extent table l found) query ≡ false = a.near (omega (arith, b.not-past)) in
      let never : ◌≡◌ {A = ℕ} 0 1 = cc in
      omega arith

  pub one-next-near : {found other : ℕ} → NextNear table l from query found → NextNear table l from query other → found ≡ other
  one-next-near {found} {other} a b = omega (arith, none_before a b, none_before b a)

-- The two walks that store. A ring is written link by link: storing what the links not yet walked give, and then the ring's end, leaves what storing the whole
-- ring leaves. The frontier is filed slot by slot, as the definition has it. Assumes nothing.
use mathlib.Core.Path.{◌≡◌, refl, sym, ap, ◌∙◌}
use mathlib.Core.List.{List, ◌++◌}
use Prim.Native.Nat.{ℕ, zero, suc, ◌+◌, ◌-◌, ◌*◌, ◌≤◌, ◌<◌}
use native.Mathlib.Numerals.{add-one, unary_clauses}
use native.Mathlib.Omega.{arith}
use lib.ListN.{length, set}
use lib.Seq.{sets, length-sets}
use Rattle.machine.specs.Machine.{column_word, first_link, end_point, link_point, link_next}
use Rattle.machine.specs.Walk.{index_words, point_words}
use Rattle.packing.proofs.Laws.{stores-follow, stores-past-the-end}
use Rattle.giving.specs.Giving.{chain_words, ring_out, slots_filed}

-- ---- a ring

two-words : (dx index : ℕ) → length (index_words dx index) ≡ 2
unfolding index_words
two-words dx index = refl

-- the words of an index, and then more
index-first : (dx index : ℕ) (table : List ℕ) (at : ℕ) (rest : List ℕ) →
    sets table at (index_words dx index ++ rest) ≡ sets (sets table at (index_words dx index)) (at + 2) rest
index-first dx index table at rest =
    stores-follow table at (index_words dx index) rest
    ∙ ap (λ (n : ℕ). sets (sets table at (index_words dx index)) (at + n) rest) (two-words dx index)

-- the first of the links that are left, and then the others
one_link : (dx : ℕ) (links after : List ℕ) (k left : ℕ) → 0 < left →
    chain_words dx links k left ++ after ≡ index_words dx (link_point links k) ++ (chain_words dx links (link_next links k) (left - 1) ++ after)
unfolding chain_words point_words index_words
one_link dx links after k zero more = absurd (omega arith)
one_link dx links after k (suc n) more = let fewer : suc n - 1 ≡ n = omega arith in rw fewer

module _ (dx : ℕ) (links : List ℕ) (first size end : ℕ) (start : List ℕ) (at : ℕ) where
  -- the first point again after the end
  abbrev closing : List ℕ
  closing = index_words dx end ++ point_words dx links first

  -- the points of i links are stored, and those of the others are to go behind them, from link k on
  pub record RingLeft (points : List ℕ) (k i : ℕ) : Type 0 where
    pub leaves : sets start at (ring_out dx links first size end) ≡ sets points (at + 2 * i) (chain_words dx links k (size - i) ++ closing)

  pub ring-begins : RingLeft start first 0
  unfolding ring_out
  ring-begins = record { leaves = simp unary_clauses }

  module _ {points : List ℕ} {k i : ℕ} (s : RingLeft points k i) where
    pub ring-room : length points ≡ length start
    ring-room =
        sym (length-sets points (at + 2 * i) (chain_words dx links k (size - i) ++ closing)) ∙ sym (ap length s.leaves)
        ∙ length-sets start at (ring_out dx links first size end)

    -- where the points end nothing more is stored
    pub ring-stops : length points ≤ at + 2 * i → points ≡ sets start at (ring_out dx links first size end)
    ring-stops short = sym (s.leaves ∙ stores-past-the-end points (at + 2 * i) (chain_words dx links k (size - i) ++ closing) short)

    pub ring-next : {points' : List ℕ} {index next : ℕ} →
        i < size →
        index ≡ link_point links k →
        points' ≡ sets points (at + 2 * i) (index_words dx index) →
        next ≡ link_next links k →
        RingLeft points' next (i + 1)
    ring-next {points'} {index} {next} more is-index stored is-next =
        let further : at + 2 * (i + 1) ≡ at + 2 * i + 2 = omega arith in
        let fewer : size - (i + 1) ≡ size - i - 1 = omega arith in
        record {
          leaves = s.leaves ∙ ap (sets points (at + 2 * i)) (one_link dx links closing k (size - i) (omega arith))
              ∙ index-first dx (link_point links k) points (at + 2 * i) (chain_words dx links (link_next links k) (size - i - 1) ++ closing)
              ∙ rw (stored, is-index, is-next, further, fewer);
        }

    pub ring-ends : {points' points'' : List ℕ} {index : ℕ} →
        i ≡ size →
        points' ≡ sets points (at + 2 * size) (index_words dx end) →
        index ≡ link_point links first →
        points'' ≡ sets points' (at + 2 * size + 2) (index_words dx index) →
        points'' ≡ sets start at (ring_out dx links first size end)
    unfolding chain_words point_words
    ring-ends all stored is-index closed =
        let none : size - size ≡ 0 = omega arith in
        sym (rw (all, none) at s.leaves ∙ index-first dx end points (at + 2 * size) (point_words dx links first) ∙ rw (closed, stored, is-index))

-- ---- the frontier

-- one slot more, whose line's two columns are known
pub one-slot-more : (dx : ℕ) (links lines : List ℕ) (n : ℕ) {table table' table'' : List ℕ} {start-column end-column : ℕ} →
    table ≡ slots_filed dx links lines n →
    start-column ≡ column_word dx (link_point links (first_link dx table n)) →
    table' ≡ set table start-column n →
    end-column ≡ column_word dx (end_point dx table n) →
    table'' ≡ set table' end-column n →
    table'' ≡ slots_filed dx links lines (n + 1)
unfolding slots_filed
one-slot-more dx links lines n so_far start_is put end_is put' = rw (add-one n, put', put, end_is, start_is, so_far)

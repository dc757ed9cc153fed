-- One word of each record is stored, of the third or the fourth, as the search goes through the numbers: the rings of the records stay, so what is filed and
-- what a search finds stay too, and once all numbers are passed every record has its word. Assumes nothing.
use mathlib.Core.Path.{◌≡◌, refl, sym, ap, subst, ◌∙◌}
use mathlib.Core.List.{List}
use Prim.Native.Nat.{ℕ, ◌+◌, ◌*◌, ◌%◌, ◌≤◌, ◌<◌}
use native.Mathlib.Omega.{arith}
use native.Mathlib.Decide.{ℕ_discrete}
use lib.ListN.{length, get_or, set, length-set}
use lib.Seq.{get_or-set_same, get_or-set_other}
use Rattle.extents.specs.declared.Ladder.{Ladder}
use Rattle.extents.specs.Records.{Permutes, rank_of, Filed}
use Rattle.owners.specs.declared.Search.{Search}
use Rattle.owners.specs.Searched.{RankIs}
use Rattle.owners.specs.Stored.{Beside, Stored}
use Rattle.owners.specs.Stays.{same-rings, ring-stays, SameRings}
use Rattle.owners.proofs.Ranks.{number_of}

-- the records of the numbers below i have their words at the offset, and every other word of the directory is as it was
pub record StoredTo (offset : ℕ) (word : ℕ → ℕ) (rank : ℕ → ℕ) (n : ℕ) (start directory : List ℕ) (i : ℕ) : Type 0 where
  pub as_long : length directory ≡ length start
  pub word-is : (k : ℕ) → k < i → get_or directory (4 * rank k + offset) 0 ≡ word (rank k)
  pub rest-stays : (p : ℕ) → (p % 4 ≡ offset → 4 * n ≤ p) → get_or directory p 0 ≡ get_or start p 0

module _ (offset : ℕ) (word : ℕ → ℕ) (rank : ℕ → ℕ) (n : ℕ) (start : List ℕ) where
  pub stored-begin : StoredTo offset word rank n start start 0
  stored-begin = record { as_long = refl; word-is = λ k below. absurd (omega arith); rest-stays = λ p other. refl }

  pub stored_next : {directory : List ℕ} {i at value : ℕ} → StoredTo offset word rank n start directory i → offset < 4 → 4 * n ≤ length start →
      at ≡ rank i → at < n → value ≡ word (rank i) → StoredTo offset word rank n start (set directory (4 * at + offset) value) (i + 1)
  stored_next {directory} {i} {at} {value} s low room ranked below f =
      record { as_long = length-set directory place value ∙ s.as_long; word-is = found; rest-stays = rest }
    where
      place : ℕ
      place = 4 * at + offset

      directory' : List ℕ
      directory' = set directory place value

      here : (p : ℕ) → p ≡ place → get_or directory' p 0 ≡ word (rank i)
      here p q = rw q (get_or-set_same directory place value 0 (omega (arith, s.as_long))) ∙ f

      elsewhere : (p : ℕ) → (p ≡ place → ⊥) → get_or directory' p 0 ≡ get_or directory p 0
      elsewhere p ne = get_or-set_other directory place p value 0 ne

      sooner : (k : ℕ) → k < i + 1 → (rank k ≡ rank i → ⊥) → Dec (k ≡ i) → k < i
      sooner k b ne (yes q) = absurd (ne (ap rank q))
      sooner k b ne (no later) = omega arith

      by : (k : ℕ) → k < i + 1 → Dec (rank k ≡ rank i) → get_or directory' (4 * rank k + offset) 0 ≡ word (rank k)
      by k b (yes q) = here (4 * rank k + offset) (omega arith) ∙ ap word (sym q)
      by k b (no ne) = elsewhere (4 * rank k + offset) (λ q. ne (omega arith)) ∙ s.word-is k (sooner k b ne (ℕ_discrete k i))

      found : (k : ℕ) → k < i + 1 → get_or directory' (4 * rank k + offset) 0 ≡ word (rank k)
      found k b = by k b (ℕ_discrete (rank k) (rank i))

      rest : (p : ℕ) → (p % 4 ≡ offset → 4 * n ≤ p) → get_or directory' p 0 ≡ get_or start p 0
      rest p other = elsewhere p (λ q. omega (arith, other (omega arith))) ∙ s.rest-stays p other

  pub stored-end : {directory : List ℕ} {i : ℕ} → StoredTo offset word rank n start directory i → Permutes rank n → n ≤ i →
      Stored offset word n start directory
  stored-end {directory} {i} s permutes all = record { as_long = s.as_long; word-is = found; rest-stays = s.rest-stays }
    where
      found : (r : ℕ) → r < n → get_or directory (4 * r + offset) 0 ≡ word r
      found r below =
          let number = number_of rank n permutes r below in
          subst (λ (r' : ℕ). get_or directory (4 * r' + offset) 0 ≡ word r') number.2 (s.word-is number.0 (omega (arith, number.1)))

pub beside : {offset : ℕ} {word rank : ℕ → ℕ} {n : ℕ} {start directory : List ℕ} {i : ℕ} → StoredTo offset word rank n start directory i →
    Beside offset start directory
beside s = record { as_long = s.as_long; others = λ p other. s.rest-stays p (λ q. absurd (other q)) }

-- while words behind the rings' are stored the table still goes with the directory
pub filed-stays : {offset : ℕ} {points start directory table : List ℕ} {n : ℕ} {rings chunks : Ladder} → 2 ≤ offset → Beside offset start directory →
    Filed points start table n rings chunks → Filed points directory table n rings chunks
filed-stays {offset} {points} {start} {directory} {table} {n} high b f =
    let same : SameRings start directory = same-rings high b in
    record {
      rings-there =
          record {
            records-there = omega (arith, f.rings-there.records-there, b.as_long);
            ring-there = λ r below. rw (same.same_first r, same.same_count r) (f.rings-there.ring-there r below);
          };
      ranks-there = f.ranks-there;
      ranks-permute = f.ranks-permute;
      rings-counted = f.rings-counted;
      rings-raised = f.rings-raised;
      extents-filed = λ i below. rw (ring-stays points same (rank_of table n i)) (f.extents-filed i below);
      points-chunked = f.points-chunked;
    }

-- one record more has what a search by the directory so far finds of its ring
module _ {offset : ℕ} {word : List ℕ → List ℕ → ℕ → ℕ → ℕ} {points start directory table : List ℕ} {n i : ℕ} where
  pub found-next : (search : Search) {at value place : ℕ} → (offset < 4) × (4 * n ≤ length start) →
      ((points start directory : List ℕ) → Beside offset start directory → (n r : ℕ) → word points directory n r ≡ word points start n r) →
      StoredTo offset (word points start n) (rank_of table n) n start directory i →
      (search.points.now ≡ points) × (search.directory.now ≡ directory) × (search.table.now ≡ table) × (search.n ≡ n) →
      RankIs search.table.now search.n i at →
      value ≡ word search.points.now search.directory.now search.n (rank_of search.table.now search.n i) → place ≡ offset →
      StoredTo offset (word points start n) (rank_of table n) n start (set directory (4 * at + place) value) (i + 1)
  found-next search {at} {value} {place} room stays s same ranked found e =
      let ranked' = rw (same.2, same.3) at ranked in
      let found' = rw (same.0, same.1, same.2, same.3) at found in
      rw e
      (stored_next offset (word points start n) (rank_of table n) n start s room.0 room.1 ranked'.is-rank ranked'.below
      (found' ∙ stays points start directory (beside s) n (rank_of table n i)))

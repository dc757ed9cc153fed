-- The two searches as loops over the numbers of the rings that are near enough: each looks at the next of them, those before it are passed over, and where
-- there is none every number is looked at or passed over. Assumes nothing.
use mathlib.Core.Path.{◌≡◌, ap, ◌∙◌}
use mathlib.Core.Bool.{Bool, true, xor}
use Prim.Native.Nat.{ℕ, ◌+◌, ◌<◌}
use native.Mathlib.Omega.{arith}
use Rattle.scope.specs.Limits.{no_owner}
use Rattle.extents.specs.declared.Ladder.{Ladder}
use Rattle.extents.specs.Extents.{extent_of, reach}
use Rattle.extents.specs.Ladders.{NextNear}
use Rattle.extents.specs.Records.{record_ring, rank_of}
use Rattle.owners.specs.declared.Near.{Near}
use Rattle.owners.specs.declared.Search.{Search}
use Rattle.owners.specs.Searched.{takes_other, evenly_taken, may_own, bettered, first_taker, RankIs, Ranked, NearRing}
use Rattle.owners.proofs.Takers.{EvenTo, even-begin, even-over, even-seen, even-end}
use Rattle.owners.proofs.Least.{LeastTo, least-begin, least-over, least-seen, least-end}
use Rattle.owners.proofs.Apart.{passed-is-no-taker, passed-is-no-owner}

-- what a look at two rings goes by is part of what is filed
pub ranked-of : (s : Search) → Ranked s.points.now s.directory.now s.table.now s.n s.filing.chunks
ranked-of s =
    record {
      rings-there = s.filed.rings-there;
      ranks-there = s.filed.ranks-there;
      ranks-permute = s.filed.ranks-permute;
      points-chunked = s.filed.points-chunked;
    }

-- the ring of a number, for which the search is: its record, and where other rings have to reach into
pub record Sought (s : Search) (number at : ℕ) (it : Near) : Type 0 where
  pub ranked : RankIs s.table.now s.n number at
  pub same-table : it.table.now ≡ s.table.now
  pub same-rings : it.rings ≡ s.filing.rings
  pub reached : it.query ≡ reach (extent_of (record_ring s.points.now s.directory.now at))

-- of the numbers before the next, whether an even number take the ring
pub record Counting (s : Search) (number at : ℕ) (even : Bool) (it : Near) : Type 0 where
  pub for-ring : Sought s number at it
  pub evened : EvenTo (λ k. takes_other s.points.now s.directory.now at (rank_of s.table.now s.n k)) it.next even

-- of the numbers before the next, the first polygon that takes the ring
pub record Choosing (s : Search) (number at best : ℕ) (it : Near) : Type 0 where
  pub for-ring : Sought s number at it
  pub least : LeastTo (may_own s.points.now s.directory.now at) (rank_of s.table.now s.n) s.n it.next best

module _ {s : Search} {number at : ℕ} where
  module _ {it : Near} (below : number < s.n) (ranked : RankIs s.table.now s.n number at)
      (begun : NearRing s.table.now s.filing.rings number it.table.now it.rings it.query it.next) where
    sought : Sought s number at it
    sought =
        record {
          ranked = ranked;
          same-table = begun.same-table;
          same-rings = begun.same-rings;
          reached = begun.reached ∙ rw (s.filed.extents-filed number below, ranked.is-rank);
        }

    pub counting-begin : Counting s number at true it
    counting-begin =
        record { for-ring = sought; evened = rw begun.begins (even-begin (λ k. takes_other s.points.now s.directory.now at (rank_of s.table.now s.n k))) }

    pub choosing-begin : Choosing s number at no_owner it
    choosing-begin =
        record { for-ring = sought; least = rw begun.begins (least-begin (may_own s.points.now s.directory.now at) (rank_of s.table.now s.n) s.n) }

  module _ {it : Near} (q : Sought s number at it) where
    -- what is passed over
    near_here : {i : ℕ} → NextNear it.table.now it.rings it.next it.query i → NextNear s.table.now s.filing.rings it.next it.query i
    near_here near = rw (q.same-table, q.same-rings) at near

    pub found-below : {i : ℕ} → i < it.rings.item_count → i < s.n
    found-below h = omega (arith, ap (λ (l : Ladder). l.item_count) q.same-rings, s.filed.rings-counted)

    all-passed : it.rings.item_count ≡ s.n
    all-passed = ap (λ (l : Ladder). l.item_count) q.same-rings ∙ s.filed.rings-counted

    module _ {it' : Near} (same : (it'.table.now ≡ it.table.now) × (it'.rings ≡ it.rings) × (it'.query ≡ it.query)) where
      sought-next : Sought s number at it'
      sought-next =
          record {
            ranked = q.ranked;
            same-table = same.0 ∙ q.same-table;
            same-rings = same.1 ∙ q.same-rings;
            reached = same.2 ∙ q.reached;
          }

  pub counting-next : {even here : Bool} {i : ℕ} {it it' : Near} → Counting s number at even it →
      (it'.table.now ≡ it.table.now) × (it'.rings ≡ it.rings) × (it'.query ≡ it.query) →
      NextNear it.table.now it.rings it.next it.query i → it'.next ≡ i + 1 →
      here ≡ takes_other s.points.now s.directory.now at (rank_of s.table.now s.n i) →
      Counting s number at (xor even here) it'
  counting-next {even} {here} {i} {it} {it'} c same near next e =
      let q = c.for-ring in
      record {
        for-ring = sought-next q same;
        evened =
            rw (e, next)
            (even-seen (λ k. takes_other s.points.now s.directory.now at (rank_of s.table.now s.n k))
            (even-over (λ k. takes_other s.points.now s.directory.now at (rank_of s.table.now s.n k)) i c.evened near.not-before
            (passed-is-no-taker s.filed at (near_here q near) q.reached)));
      }

  pub counting-end : {even : Bool} {it : Near} → Counting s number at even it → NextNear it.table.now it.rings it.next it.query it.rings.item_count →
      even ≡ evenly_taken s.points.now s.directory.now s.n (rank_of s.table.now s.n number)
  counting-end {even} {it} c near =
      let q = c.for-ring in
      rw (← q.ranked.is-rank)
      (even-end s.points.now s.directory.now at (rank_of s.table.now s.n) s.n s.filed.ranks-permute it.rings.item_count even
      (even-over (λ k. takes_other s.points.now s.directory.now at (rank_of s.table.now s.n k)) it.rings.item_count c.evened near.not-before
      (passed-is-no-taker s.filed at (near_here q near) q.reached))
      (all-passed q))

  pub choosing-next : {best best' i : ℕ} {it it' : Near} → Choosing s number at best it →
      (it'.table.now ≡ it.table.now) × (it'.rings ≡ it.rings) × (it'.query ≡ it.query) →
      NextNear it.table.now it.rings it.next it.query i → it'.next ≡ i + 1 →
      RankIs s.table.now s.n i (rank_of s.table.now s.n i) → best' ≡ bettered s.points.now s.directory.now at best (rank_of s.table.now s.n i) →
      Choosing s number at best' it'
  unfolding bettered
  choosing-next {best} {best'} {i} {it} {it'} c same near next ranked e =
      let q = c.for-ring in
      let test = may_own s.points.now s.directory.now at in
      let rank = rank_of s.table.now s.n in
      record {
        for-ring = sought-next q same;
        least =
            rw next
            (least-seen test rank s.n i best best'
            (least-over test rank s.n it.next i best c.least (passed-is-no-owner s.filed at (near_here q near) q.reached))
            ranked.below ranked.fits e);
      }

  pub choosing-end : {best : ℕ} {it : Near} → Choosing s number at best it → NextNear it.table.now it.rings it.next it.query it.rings.item_count →
      best ≡ first_taker s.points.now s.directory.now s.n (rank_of s.table.now s.n number)
  choosing-end {best} {it} c near =
      let q = c.for-ring in
      rw (← q.ranked.is-rank)
      (least-end s.points.now s.directory.now at (rank_of s.table.now s.n) s.n s.filed.ranks-permute it.rings.item_count best
      (least-over (may_own s.points.now s.directory.now at) (rank_of s.table.now s.n) s.n it.next it.rings.item_count best c.least
      (passed-is-no-owner s.filed at (near_here q near) q.reached))
      (all-passed q))

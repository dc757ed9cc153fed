-- A record's share, case by case, and no more than fits. Assumes nothing.
use mathlib.Core.Path.{◌≡◌}
use mathlib.Core.Bool.{Bool, true, false, cond}
use mathlib.Core.List.{List}
use Prim.Native.Nat.{ℕ, ◌+◌, ◌-◌, ◌*◌, ◌≤◌}
use native.Mathlib.Omega.{arith}
use lib.Dec.{eqb}
use lib.ListN.{length, take, drop}
use borrow.Author.Tests.{eq-eqb, ne_eqb}
use Rattle.scope.specs.Limits.{point_limit, no_owner}
use Rattle.scope.specs.Area.{points}
use Rattle.scope.specs.GeoJson.{words_in, ring_text}
use Rattle.laws.proofs.Words.{words-in-length}
use Rattle.ringset.specs.declared.Record.{Record}
use Rattle.ringset.specs.OneRecord.{record_at, shape_refused}
use Rattle.ringset.proofs.Laws.{sound-shape}
use Rattle.geotext.specs.Shares.{ring_bytes, record_share}
use Rattle.geotext.proofs.Lengths.{letters-few, ring-length}

-- the share of record k
abbrev pub share_at : List ℕ → List ℕ → ℕ → ℕ
share_at ps directory k = record_share ps (record_at directory k)

-- the part of the points that a ring has is its words
pub part-words : (ps : List ℕ) (first count : ℕ) → take (2 * first + 2 * count - 2 * first) (drop (2 * first) ps) ≡ words_in ps first count
unfolding words_in
part-words ps first count =
    let many : 2 * first + 2 * count - 2 * first ≡ 2 * count = omega arith in
    rw many

module _ (ps : List ℕ) (r : Record) where
  -- a record's part of the points
  abbrev part : List ℕ
  part = take (2 * r.first + 2 * r.count - 2 * r.first) (drop (2 * r.first) ps)

  pub part-bytes : length (ring_text (points part)) ≡ ring_bytes ps r
  unfolding ring_bytes
  part-bytes = rw (part-words ps r.first r.count)

  pub polygon-share : r.class ≡ 0 → record_share ps r ≡ ring_bytes ps r + 3
  unfolding record_share
  polygon-share e = rw e

  module _ (hole : r.class ≡ 0 → ⊥) where
    pub dropped-share : r.owner ≡ no_owner → record_share ps r ≡ 0
    unfolding record_share
    dropped-share e = rw (ne_eqb r.class 0 hole, eq-eqb r.owner no_owner e)

    pub owned-share : (r.owner ≡ no_owner → ⊥) → record_share ps r ≡ ring_bytes ps r + 1
    unfolding record_share
    owned-share e = rw (ne_eqb r.class 0 hole, ne_eqb r.owner no_owner e)

  module _ (passed : shape_refused ps r ≡ false) where
    -- two words a point
    pub part-long : length part ≡ 2 * r.count
    part-long =
        let set = sound-shape ps r passed in
        rw (part-words ps r.first r.count) (words-in-length ps r.first r.count set.within)

    -- a coordinate has 7 bytes at most
    pub ring-bytes-few : ring_bytes ps r ≤ 18 * point_limit + 1
    unfolding ring_bytes
    ring-bytes-few =
        let set = sound-shape ps r passed in
        let words = words_in ps r.first r.count in
        let long = words-in-length ps r.first r.count set.within in
        omega (arith, ring-length words r.count long (omega (arith, set.four)), letters-few words set.low, long, set.few)

    pub share-few : record_share ps r ≤ 18 * point_limit + 4
    unfolding record_share
    share-few = by (eqb r.class 0) (eqb r.owner no_owner)
      where
        by : (a b : Bool) → cond a (ring_bytes ps r + 3) (cond b 0 (ring_bytes ps r + 1)) ≤ 18 * point_limit + 4
        by true b = omega (arith, ring-bytes-few)
        by false true = omega arith
        by false false = omega (arith, ring-bytes-few)

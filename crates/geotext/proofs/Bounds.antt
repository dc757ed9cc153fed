-- How long the text of a checked set can be, by the number of its points and its rings: 18 bytes a point, 4 a ring and 40 are enough. Assumes nothing.
use mathlib.Core.Path.{◌≡◌}
use mathlib.Core.Bool.{Bool, true, false, cond}
use mathlib.Core.List.{List}
use Prim.Native.Nat.{ℕ, zero, suc, ◌+◌, ◌*◌, ◌≤◌}
use native.Mathlib.Omega.{arith}
use lib.Dec.{eqb}
use lib.ListN.{length}
use Rattle.scope.specs.Limits.{no_owner}
use Rattle.scope.specs.Pairs.{sum_from}
use Rattle.scope.specs.GeoJson.{count_at, words_in, ring_set_refused, geo_json_text}
use Rattle.laws.proofs.Sums.{sum-last}
use Rattle.laws.proofs.Words.{words-in-length}
use Rattle.ringset.specs.declared.Record.{Record}
use Rattle.ringset.specs.OneRecord.{record_at, shape_refused}
use Rattle.ringset.proofs.Laws.{sound, sound-shape}
use Rattle.geotext.specs.Shares.{ring_bytes, record_share}
use Rattle.geotext.proofs.Lengths.{letters-few, ring-length}
use Rattle.geotext.proofs.Shares.{share_at}
use Rattle.geotext.proofs.Texts.{text-length}

-- a coordinate has 7 bytes at most, and a point two of them and 4 bytes more
module _ (ps : List ℕ) (r : Record) (passed : shape_refused ps r ≡ false) where
  ring-short : ring_bytes ps r ≤ 18 * r.count + 1
  unfolding ring_bytes
  ring-short =
      let set = sound-shape ps r passed in
      let words = words_in ps r.first r.count in
      let long = words-in-length ps r.first r.count set.within in
      omega (arith, ring-length words r.count long (omega (arith, set.four)), letters-few words set.low, long)

  share-short : record_share ps r ≤ 18 * r.count + 4
  unfolding record_share
  share-short = by (eqb r.class 0) (eqb r.owner no_owner)
    where
      by : (a b : Bool) → cond a (ring_bytes ps r + 3) (cond b 0 (ring_bytes ps r + 1)) ≤ 18 * r.count + 4
      by true b = omega (arith, ring-short)
      by false true = omega arith
      by false false = omega (arith, ring-short)

module _ (ps directory : List ℕ) (rings : ℕ) (checked : ring_set_refused ps directory rings ≡ false) where
  shares-short : (n : ℕ) → n ≤ rings → sum_from (share_at ps directory) 0 n ≤ 18 * sum_from (count_at directory) 0 n + 4 * n
  unfolding record_at
  shares-short zero h = unfold sum_from in omega arith
  shares-short (suc n) h =
      omega (
        arith,
        sum-last (share_at ps directory) n,
        sum-last (count_at directory) n,
        shares-short n (omega arith),
        share-short ps (record_at directory n) ((sound ps directory rings checked).at n h).shaped,
      )

  pub text-is-short : rings ≤ no_owner → length (geo_json_text ps directory rings) ≤ 18 * sum_from (count_at directory) 0 rings + 4 * rings + 40
  text-is-short few = omega (arith, text-length ps directory rings few (sound ps directory rings checked), shares-short rings (omega arith))

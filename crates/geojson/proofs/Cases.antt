-- The answers case by case: a set that is refused, a text that is short, and a text that is written. Assumes nothing.
use mathlib.Core.Path.{◌≡◌}
use mathlib.Core.Bool.{true, false}
use mathlib.Core.List.{List}
use Prim.Native.Nat.{ℕ, ◌≤◌, ◌<◌}
use lib.ListN.{length}
use borrow.Author.Tests.{lt-ltb, le-ltb}
use Rattle.error.specs.declared.Refusal.TheVariants.{BadRingSet, TextShort}
use Rattle.scope.specs.Tables.{written}
use Rattle.scope.specs.GeoJson.{ring_set_refused, geo_json_text}
use Rattle.geojson.specs.Written.{length_answer, written_answer, text_after}
use Rattle.std.specs.Prelude.{Ok, Err}

module _ (ps directory : List ℕ) (rings : ℕ) where
  pub no_length : ring_set_refused ps directory rings ≡ true → Err BadRingSet ≡ length_answer ps directory rings
  unfolding length_answer
  no_length e = rw e

  pub a-length : ring_set_refused ps directory rings ≡ false → {n : ℕ} → n ≡ length (geo_json_text ps directory rings) → Ok n ≡ length_answer ps directory rings
  unfolding length_answer
  a-length e f = rw (e, f)

  module _ (text : List ℕ) where
    pub set-refused : ring_set_refused ps directory rings ≡ true →
        (Err BadRingSet ≡ written_answer ps directory rings text) × (text ≡ text_after ps directory rings text)
    unfolding written_answer text_after
    set-refused e = (rw e, rw e)

    pub text-short : ring_set_refused ps directory rings ≡ false → length text < length (geo_json_text ps directory rings) →
        (Err TextShort ≡ written_answer ps directory rings text) × (text ≡ text_after ps directory rings text)
    unfolding written_answer text_after
    text-short e h = let short = lt-ltb _ _ h in (rw (e, short), rw (e, short))

    pub text-written : ring_set_refused ps directory rings ≡ false → length (geo_json_text ps directory rings) ≤ length text → {n : ℕ} {after : List ℕ} →
        n ≡ length (geo_json_text ps directory rings) → after ≡ written (geo_json_text ps directory rings) text →
        (Ok n ≡ written_answer ps directory rings text) × (after ≡ text_after ps directory rings text)
    unfolding written_answer text_after
    text-written e h f g = let enough = le-ltb _ _ h in (rw (e, enough, f), rw (e, enough, g))

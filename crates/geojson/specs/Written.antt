-- What the writer and the length answer, and the text at exit. Refusals 9, then 10; a refusal changes nothing, and bytes past the text stay. Assumes nothing.
use Rattle.std.specs.Prelude.{cond, List, ℕ, ltb, length, Result, Ok, Err}
use Rattle.error.specs.declared.Refusal.TheVariants.{BadRingSet, TextShort}
use Rattle.scope.specs.Tables.{written}
use Rattle.scope.specs.GeoJson.{ring_set_refused, geo_json_text}
use Rattle.error.specs.declared.Refusal.{Refusal}

unfoldable pub length_answer : List ℕ → List ℕ → ℕ → Result ℕ Refusal
length_answer ps directory rings = cond (ring_set_refused ps directory rings) (Err BadRingSet) (Ok (length (geo_json_text ps directory rings)))

unfoldable pub written_answer : List ℕ → List ℕ → ℕ → List ℕ → Result ℕ Refusal
written_answer ps directory rings text =
    cond (ring_set_refused ps directory rings) (Err BadRingSet)
    (cond (ltb (length text) (length (geo_json_text ps directory rings))) (Err TextShort) (Ok (length (geo_json_text ps directory rings))))

unfoldable pub text_after : List ℕ → List ℕ → ℕ → List ℕ → List ℕ
text_after ps directory rings text =
    cond (ring_set_refused ps directory rings) text
    (cond (ltb (length text) (length (geo_json_text ps directory rings))) text (written (geo_json_text ps directory rings) text))

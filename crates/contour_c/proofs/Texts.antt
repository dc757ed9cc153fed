-- Any two results of the entries for the check, the length and the writer coincide. Assumes nothing.
use mathlib.Core.Path.{◌≡◌, sym, ◌∙◌, ap}
use mathlib.Core.List.{List}
use Prim.Native.Nat.{ℕ}
use Rattle.error.specs.Number.{refusal_number}
use Rattle.error.specs.declared.Refusal.{Refusal}
use Rattle.scope.specs.GeoJson.{ring_set_refused}
use Rattle.geojson.specs.Written.{length_answer, written_answer, text_after}
use Rattle.contour.proofs.Theorems.{one_answer}
use Rattle.contour_c.specs.Texts.{check_status, text_status, text_length}
use Rattle.std.specs.Prelude.{Result, Ok, Err}

-- two results that meet the contract of contour_check, contour_geojson_length or contour_geojson on the same entry are equal
module _ (ps directory : List ℕ) (rings : ℕ) where
  pub one-check-entry : {p q : ℕ} → p ≡ check_status (ring_set_refused ps directory rings) → q ≡ check_status (ring_set_refused ps directory rings) → p ≡ q
  one-check-entry a b = one_answer a b

  pub one-length-entry : (n : ℕ) {p q pn qn : ℕ} → (p ≡ text_status (length_answer ps directory rings)) × (pn ≡ text_length n (length_answer ps directory rings))
      → (q ≡ text_status (length_answer ps directory rings)) × (qn ≡ text_length n (length_answer ps directory rings)) → (p ≡ q) × (pn ≡ qn)
  one-length-entry n a b = (one_answer a.0 b.0, one_answer a.1 b.1)

  pub one-text-entry : (text : List ℕ) (n : ℕ) {p q : ℕ} {pt qt : List ℕ} {pn qn : ℕ}
      → (p ≡ text_status (written_answer ps directory rings text)) × (pt ≡ text_after ps directory rings text) × (pn ≡ text_length n (written_answer ps directory rings text))
      → (q ≡ text_status (written_answer ps directory rings text)) × (qt ≡ text_after ps directory rings text) × (qn ≡ text_length n (written_answer ps directory rings text))
      → (p ≡ q) × (pt ≡ qt) × (pn ≡ qn)
  one-text-entry text n a b = (one_answer a.0 b.0, one_answer a.1 b.1, one_answer a.2 b.2)

-- Any two directories that noting may leave are equal, and so are any two with the high parts of the sort keys: each word is given by its index. Assumes
-- nothing.
use mathlib.Core.Path.{◌≡◌, sym, ◌∙◌}
use mathlib.Core.List.{List}
use Prim.Native.Nat.{ℕ, zero, suc, ◌+◌, ◌*◌, ◌/◌, ◌<◌}
use native.Mathlib.Nat.{add-zero}
use native.Mathlib.Omega.{arith}
use lib.ListN.{get_or}
use Rattle.scope.specs.Stitching.{Line}
use Rattle.scope.specs.Band.{sort_key}
use Rattle.extents.specs.Records.{record_ring}
use Rattle.extents.proofs.Determined.{one-directory, one-word-given}
use Rattle.noting.specs.Noted.{Noted, HighNoted}

module _ {points directory one two : List ℕ} {n : ℕ} where
  pub one-noted : {note : Line → ℕ} → Noted points directory one n note → Noted points directory two n note → one ≡ two
  one-noted a b = one-directory directory n a.as_long b.as_long words (λ i past. a.rest-stays i past ∙ sym (b.rest-stays i past))
    where
      words : (r q : ℕ) → r < n → q < 4 → get_or one (4 * r + q) 0 ≡ get_or two (4 * r + q) 0
      words r zero below low = rw (add-zero (4 * r)) (a.first-is r below ∙ sym (b.first-is r below))
      words r (suc zero) below low = a.count-is r below ∙ sym (b.count-is r below)
      words r (suc (suc zero)) below low = a.note-is r below ∙ sym (b.note-is r below)
      words r (suc (suc (suc zero))) below low = a.number_is r below ∙ sym (b.number_is r below)
      words r (suc (suc (suc (suc q)))) below low = absurd (omega arith)

  pub one-high-noted : HighNoted points directory one n → HighNoted points directory two n → one ≡ two
  one-high-noted a b =
      one-word-given directory n a.as_long b.as_long 2 (λ r. sort_key (record_ring points directory r) / 4294967296) a.high_is b.high_is a.rest-stays
      b.rest-stays

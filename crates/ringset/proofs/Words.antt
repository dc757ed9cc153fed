-- Whether a ring is closed, by its first two words and its last two, and whether an area differs, by its two words. Assumes nothing.
use mathlib.Core.Path.{◌≡◌, refl, sym, ap}
use mathlib.Core.Bool.{Bool, true, false, not, ◌&&◌, ◌||◌}
use mathlib.Core.List.{List, [], ◌∷◌}
use Prim.Native.Nat.{ℕ, suc, ◌+◌, ◌*◌, ◌-◌, ◌<◌, ◌/◌, ◌%◌, ◌^◌}
use native.Mathlib.Decide.{ℕ_discrete}
use native.Mathlib.Omega.{arith}
use lib.Dec.{eqb}
use lib.ListN.{length, get_or}
use borrow.Author.Tests.{eq-eqb, ne_eqb}
use Rattle.scope.specs.Area.{points}
use Rattle.scope.specs.Cells.{same_point}
use Rattle.scope.specs.GeoJson.{unclosed}
use Rattle.laws.proofs.Words.{last-of}
use Rattle.ringset.specs.declared.Record.{Record}
use Rattle.ringset.specs.OneRecord.{area_differs}

-- two tests do not both hold where one of them fails
not-both : (a b : Bool) → not (a && b) ≡ not a || not b
not-both true b = refl
not-both false b = refl

-- whether the last two words are not the first two is whether the last point is not the first
pub unclosed-by-words : (ws : List ℕ) → 1 < length ws → length ws % 2 ≡ 0 →
    not (eqb (get_or ws (length ws - 2) 0) (get_or ws 0 0)) || not (eqb (get_or ws (length ws - 1) 0) (get_or ws 1 0)) ≡ unclosed (points ws)
unfolding points unclosed same_point
unclosed-by-words [] h p = absurd (omega (arith, h))
unclosed-by-words (x ∷ []) h p = absurd (omega (arith, h))
unclosed-by-words (x ∷ y ∷ ws) h p =
    let two : suc (suc (length ws)) - 2 ≡ length ws = omega arith in
    let one : suc (suc (length ws)) - 1 ≡ suc (length ws) = omega arith in
    rw (two, one, last-of x y ws (omega (arith, p))) (sym (not-both (eqb (get_or (x ∷ y ∷ ws) (length ws) 0) x) _))

-- whether an area is not the number that a record's two words make
pub differs-by-words : (n : ℕ) (r : Record) → r.area_low < 2 ^ 32 → not (eqb n (r.area_low + 2 ^ 32 * r.area_high)) ≡ area_differs n r
unfolding area_differs
differs-by-words n r low = ap not (by (ℕ_discrete n (r.area_low + 2 ^ 32 * r.area_high)) (ℕ_discrete r.area_low (n % 2 ^ 32)))
  where
    by : Dec (n ≡ r.area_low + 2 ^ 32 * r.area_high) → Dec (r.area_low ≡ n % 2 ^ 32) → eqb n (r.area_low + 2 ^ 32 * r.area_high) ≡ eqb r.area_low (n % 2 ^ 32) && eqb r.area_high (n / 2 ^ 32)
    by (yes same) l =
        rw (eq-eqb n (r.area_low + 2 ^ 32 * r.area_high) same, eq-eqb r.area_low (n % 2 ^ 32) (omega arith), eq-eqb r.area_high (n / 2 ^ 32) (omega arith))
    by (no other) (no ne) = rw (ne_eqb n (r.area_low + 2 ^ 32 * r.area_high) other, ne_eqb r.area_low (n % 2 ^ 32) ne)
    by (no other) (yes e) =
        rw (
          ne_eqb n (r.area_low + 2 ^ 32 * r.area_high) other,
          eq-eqb r.area_low (n % 2 ^ 32) e,
          ne_eqb r.area_high (n / 2 ^ 32) (λ f. other (omega (arith, e, f))),
        )
